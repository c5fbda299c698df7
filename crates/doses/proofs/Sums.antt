-- What is made of a day's doses, one after the other: a turn of each loop, and the four sums. Assumes nothing.
use Rattle.std.proofs.Common.{◌≡◌, ℕ, ◌+◌, Bool, true, false, List, [], ◌∷◌, ◌++◌, sym, append-nil}
use Rattle.std.specs.List.{FoldsTo}
use Rattle.std.proofs.lemmas.Fn.{FoldsTo-push}
use Rattle.plan.specs.declared.Dose.{Dose}
use Rattle.doses.specs.Doses.{added, added_all}
use Rattle.below.specs.Lists.{pick_below, join_below}
use Rattle.below.proofs.Lists.{pick_more, join_more}

-- what adds each dose adds all of them
pub added_folds : {R : List (List ℕ) → Dose → List (List ℕ) → Type 0} → ((u : List (List ℕ)) (d : Dose) (v : List (List ℕ)) → R u d v → v ≡ added u d) →
    (xs : List Dose) (s t : List (List ℕ)) → FoldsTo R s xs t → t ≡ added_all s xs
unfolding added_all
added_folds r [] s t e = sym e
added_folds r (x ∷ xs) s t e = rw (← r s x e.0 e.1) (added_folds r xs e.0 t e.2)

module _ {S A : Type 0} (R : S → A → S → Type 0) where
  folds_append : (xs ys : List A) (s t u : S) → FoldsTo R s xs t → FoldsTo R t ys u → FoldsTo R s (xs ++ ys) u
  folds_append [] ys s t u e f = rw e f
  folds_append (x ∷ xs) ys s t u e f = (e.0, e.1, folds_append xs ys e.0 t u e.2 f)

  module _ (s t : S) (j : ℕ) (p : ℕ → Bool) (f : ℕ → A) (w : FoldsTo R s (pick_below j p f) t) where
    -- dose j applies, and was taken, or does not
    pub turn_hit : (u : S) → p j ≡ true → R t (f j) u → FoldsTo R s (pick_below (j + 1) p f) u
    turn_hit u h e = rw (pick_more j p f, h) (FoldsTo-push R s (pick_below j p f) t (f j) u w e)

    pub turn_miss : p j ≡ false → FoldsTo R s (pick_below (j + 1) p f) t
    turn_miss h = rw (pick_more j p f, h, append-nil) w

  module _ (s t : S) (b : ℕ) (f : ℕ → List A) (w : FoldsTo R s (join_below b f) t) where
    -- the period at block b has the day, and was taken, or has not
    pub join_hit : (u : S) (xs : List A) → f b ≡ xs → FoldsTo R t xs u → FoldsTo R s (join_below (b + 1) f) u
    join_hit u xs h e = rw (join_more b f, h) (folds_append (join_below b f) xs s t u w e)

    pub join_miss : f b ≡ [] → FoldsTo R s (join_below (b + 1) f) t
    join_miss h = rw (join_more b f, h, append-nil) w
