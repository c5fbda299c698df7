use Rattle.form.proofs.order.sums_wrong.Goals as goal

pub returns : goal.returns
returns c = cc
