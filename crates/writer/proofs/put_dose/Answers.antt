use Rattle.writer.proofs.Steps.{dose_put_is}
use mathlib.Core.Path.{◌∙◌}
use Rattle.writer.proofs.put_dose.Goals as goal

pub returns : goal.returns
returns c = c.put_bytes.ensures ∙
    dose_put_is c.args.out.now c.args.b c.args.n c.args.dose c.requires.0 c.requires.1 c.record_start.ensures.0 _ c.write_dose.ensures
