use Rattle.form.proofs.block_form.not_zero.Goals as goal

pub returns : goal.returns
returns c = cc
