-- What std's `fold` makes of an iterator that callers see as the list of what is left. Assumes nothing.
use Rattle.std.proofs.Common.{◌≡◌, List, refl}
use Rattle.std.specs.Fn.{Called, Mut}
use Rattle.std.specs.Iterator.{YieldsFirst, FoldsItems}
use Rattle.std.specs.List.{FoldsTo}
use Rattle.std.proofs.lemmas.Fn.{fold_over, FoldsTo-push}
use Rattle.std.proofs.lemmas.Iterator.Consumers.{YieldsList-from_first}

-- R is what a call of the closure says, which no call changes
module _ {A S F : Type 0} (g : Mut F (S × (A × Unit {0})) S) (R : S → A → S → Type 0) (f : F)
    (says : (s : S) (x : A) (t : S) (f' : F) → Called g f (s, (x, tt)) t f' → R s x t × (f' ≡ f)) where
  -- the calls went over the list, from the start to the result
  pub folds : (xs : List A) (start r : S) → FoldsItems (YieldsFirst (λ xs. xs)) g xs f start r → FoldsTo R start xs r
  folds xs start r ran =
      fold_over (YieldsFirst (λ xs. xs)) (λ x. x) g (λ ys t. FoldsTo R start ys t) f
      (λ ys t x u f' j called. let h = says t x u f' called in (FoldsTo-push R start ys t x u j h.0, h.1))
      xs xs start r (YieldsList-from_first (λ x. x) (λ xs. xs) xs refl).runs refl ran
