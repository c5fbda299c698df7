use Rattle.form.proofs.block_form.days_out.Goals as goal

pub returns : goal.returns
returns c = cc
