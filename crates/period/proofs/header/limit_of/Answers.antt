use Prim.Native.Nat.{◌-◌, ◌+◌}
use mathlib.Core.Path.{◌≡◌, sym, ◌∙◌}
use native.Mathlib.Omega.{arith}
use Rattle.day.specs.Days.{closed_day}
use Rattle.period.proofs.Limit.{by_interval, unlimited, by_length, not_open}
use Rattle.period.proofs.header.limit_of.Goals as goal

pub returns-then-h-ne0 : goal.returns-then-h-ne0
returns-then-h-ne0 c = λ r e. by_interval r e c.if-h-ne0.true

pub returns-then-is_open : goal.returns-then-is_open
returns-then-is_open c = λ r e. unlimited r e c.if-h-ne0.false (sym c.is_open.ensures ∙ c.if-is_open.true)

pub returns-then-last-h : goal.returns-then-last-h
returns-then-last-h c = let h = c.args.h in
    let short : 1 ≡ closed_day h.end - h.first + 1 = omega (arith, c.last_day-last.ensures) in
    λ r e. short ∙ by_length r e c.if-h-ne0.false (sym c.is_open.ensures ∙ c.if-is_open.false)

pub overflow_add-result : goal.overflow_add-result
overflow_add-result c = let closed = sym c.is_open.ensures ∙ c.if-is_open.false in
    let below : c.last_day-last.result ≡ 4294967295 → ⊥ = λ z. not_open c.args.h.end closed (sym c.last_day-last.ensures ∙ z) in
    omega (arith, below)

pub returns : goal.returns
returns c = λ r e. rw c.last_day-last.ensures (by_length r e c.if-h-ne0.false (sym c.is_open.ensures ∙ c.if-is_open.false))
