use Rattle.std.proofs.Common.{◌≡◌, true, false, sym, ◌∙◌, refl, ap, arith}
use Rattle.plan.specs.Periods.{dose_in}
use Rattle.doses.specs.Doses.{applies}
use Rattle.doses.specs.declared.iter.Rest.{Rest}
use Rattle.doses.specs.Code.Left.{applied}
use Rattle.doses.proofs.Left.{join_end, join_next}
use Rattle.doses.proofs.iter.Rest.next.Goals as goal

pub returns-then-is_applied : goal.returns-then-is_applied
returns-then-is_applied c =
    let p = c.args.plan.now in
    let l = c.loop-j in
    let r : Rest = record { block = l.self.block; next = l.j; end = l.self.end; position = l.self.position } in
    let e = ap (λ (x : Rest). x.end) l.invariant.1 in
    let t : applies r.position (dose_in p r.block r.next) ≡ true = cc in
    sym l.invariant.0 ∙ join_next r.end (applied p r) r.next (omega (arith, e, c.loop-j-test.true)) ∙ rw (t, c.dose_in-d.ensures) refl

pub loop-j-preserved : goal.loop-j-preserved
loop-j-preserved c =
    let p = c.args.plan.now in
    let l = c.loop-j in
    let r : Rest = record { block = l.self.block; next = l.j; end = l.self.end; position = l.self.position } in
    let e = ap (λ (x : Rest). x.end) l.invariant.1 in
    let t : applies r.position (dose_in p r.block r.next) ≡ false = cc in
    (rw (join_next r.end (applied p r) r.next (omega (arith, e, c.loop-j-test.true)), t) at l.invariant.0, l.invariant.1)

pub returns : goal.returns
returns c =
    let p = c.args.plan.now in
    let l = c.loop-j in
    let r : Rest = record { block = l.self.block; next = l.j; end = l.self.end; position = l.self.position } in
    let e = ap (λ (x : Rest). x.end) l.invariant.1 in
    (sym l.invariant.0 ∙ join_end r.end (applied p r) r.next (omega (arith, e, c.loop-j-test.false)), join_end r.end (applied p r) r.end (omega arith))
