use mathlib.Core.Path.{ap, sym, ◌∙◌}
use Rattle.refusal.specs.Refusals.{code_in}
use borrow.Author.Tests.{le-ltb}
use Rattle.register.specs.Paper.{released}
use Rattle.register.proofs.Answering.{code_answered}
use Rattle.screen.proofs.chivetassel_release.Goals.{in-Ok, in_default}
use Rattle.screen.proofs.chivetassel_release.Goals as goal

pub returns-clause-value : goal.returns-clause-value
returns-clause-value c = let code = code_answered released _ _ c.release-answer.ensures.0.answer in
    rw (le-ltb _ _ c.if-out-lt8.false) (c.code_in.ensures ∙ elim c.match-answer.branch [ in-Ok w ↦ ap code_in (w.answer-is ∙ sym w.in-Ok.is) ∙ code | in_default w ↦ rw w.answer-is code ])
