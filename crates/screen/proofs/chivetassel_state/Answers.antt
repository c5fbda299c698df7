use mathlib.Core.Path.{ap, sym, ◌∙◌}
use Rattle.refusal.specs.Refusals.{code_in}
use borrow.Author.Tests.{le-ltb}
use Rattle.register.specs.Paper.{stated}
use Rattle.register.proofs.Answering.{code_answered}
use Rattle.screen.proofs.chivetassel_state.Goals.{in-Ok, in_default}
use Rattle.screen.proofs.chivetassel_state.Goals as goal

pub returns-clause-value : goal.returns-clause-value
returns-clause-value c = let code = code_answered stated _ _ c.state_of-answer.ensures.answer in
    rw (le-ltb _ _ c.if-out-lt16.false) (c.code_in.ensures ∙ elim c.match-answer.branch [ in-Ok w ↦ ap code_in (w.answer-is ∙ sym w.in-Ok.is) ∙ code | in_default w ↦ rw w.answer-is code ])
