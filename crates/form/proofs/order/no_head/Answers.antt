use Rattle.form.proofs.order.no_head.Goals as goal

pub returns : goal.returns
returns c = cc
