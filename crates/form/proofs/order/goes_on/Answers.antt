use Rattle.form.proofs.order.goes_on.Goals as goal

pub returns : goal.returns
returns c = cc
