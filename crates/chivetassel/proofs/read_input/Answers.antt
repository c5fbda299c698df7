-- What a read put behind what was filled before is what the input gave next.
use Rattle.std.proofs.Common.{◌≡◌, ℕ, ◌+◌, ◌≤◌, List, ◌++◌, rules, length, take, sym, ap, ◌∙◌, subst, length-take-le}
use Rattle.std.proofs.lemmas.List.{take-append-le}
use Rattle.std.proofs.Math.Seq.{take-append-add}
use Rattle.std.specs.Io.KnownBytes.{Consumes}
use Rattle.std.proofs.KnownBytes.{Consumes-trans}
use borrow.Rule.Slice.PartMut.{put_mid, post_of}
use Rattle.chivetassel.proofs.read_input.Goals as goal

-- where ys was written over the part from a on, its first n bytes stand behind the first a
take_more : (a k n : ℕ) (xs ys : List ℕ) → a ≤ length xs → n ≤ length ys → take (a + n) (put_mid a k xs ys) ≡ take a xs ++ take n ys
take_more a k n xs ys within fits =
    let behind = ys ++ post_of a k xs in
    ap (λ m. take (m + n) (take a xs ++ behind)) (sym (length-take-le a xs within))
    ∙ take-append-add (take a xs) behind n
    ∙ ap (λ l. take a xs ++ l) (take-append-le n ys (post_of a k xs) fits)

pub loop-done-preserved : goal.loop-done-preserved
loop-done-preserved g c = record {
  same_room = search rules;
  within = search rules;
  consumed =
      subst (Consumes _ _) (sym (take_more _ _ _ _ _ c.loop-done.invariant.within c.in_ok-more.ensures.bound.0))
      (Consumes-trans _ _ _ _ _ c.loop-done.invariant.consumed c.in_ok-more.ensures.bytes.0);
}
