-- What `fold` over a slice and `array::from_fn` give, where the closure computes h. Assumes nothing.
use Rattle.std.proofs.Common.{◌≡◌, ℕ, zero, suc, ◌+◌, ◌<◌, List, [], ◌∷◌, get_or, ◌∙◌, sym, refl, ap, subst, fold, not-suc-le-zero, arith}
use Rattle.std.proofs.iter.Yields.{fronts, slice_gives}
use Rattle.std.proofs.lemmas.Fn.{fold_over}
use Rattle.std.proofs.lemmas.List.Sums.{fold-append}
use Rattle.std.specs.Array.{IsFromFnResult, IsFromFnResultFrom}
use Rattle.std.specs.Fn.{Called}
use Rattle.std.specs.Iterator.{FoldsItems}
use Rattle.std.specs.declared.slice.Iter.{Iter}
use denote.Param.Members.{Mut}
use denote.Ref.{Bor}

pub fold_slice : {A C F : Type 0} {g : Mut F (C × (Bor A × Unit {0})) C} (h : C → A → C) {f : F} {s : Iter A} {a r : C} →
    ((b : C) (x : Bor A) (c : C) (q : F) → Called g f (b, (x, tt)) c q → (c ≡ h b x.now) × (q ≡ f)) → FoldsItems fronts g s f a r → r ≡ fold h a s.rest.now
fold_slice {A} {C} {F} {g} h {f} {s} {a} {r} computes ran =
    fold_over fronts (λ y. y.now) g (λ xs b. b ≡ fold h a xs) f
    (λ xs b x c q e k. let d = computes b x c q k in (d.0 ∙ ap (λ z. h z x.now) e ∙ sym (fold-append h a xs (x.now ∷ [])), d.1))
    s s.rest.now a r (slice_gives s) refl ran

module _ {B F : Type 0} (g : Mut F (ℕ × Unit {0}) B) (h : ℕ → B) (f : F) (ys : List B) (d : B) where
  made : (n i : ℕ) → ((k : ℕ) (y : B) (q : F) → Called g f (k, tt) y q → (y ≡ h k) × (q ≡ f)) → IsFromFnResultFrom g f ys i n → (k : ℕ) → k < n → get_or ys (i + k) d ≡ h (i + k)
  made zero i computes m k l = absurd (not-suc-le-zero l)
  made (suc n) i computes (q, y, here, called, later) zero l =
      let e : i + 0 ≡ i = omega arith in
      rw e (here.1 d ∙ (computes i y q called).0)
  made (suc n) i computes (q, y, here, called, later) (suc k) l =
      let e : i + suc k ≡ i + 1 + k = omega arith in
      rw e (made n (i + 1) computes (subst (λ p. IsFromFnResultFrom g p ys (i + 1) n) (computes i y q called).1 later) k (omega arith))

  pub from_fn_at : {n : ℕ} → ((k : ℕ) (y : B) (q : F) → Called g f (k, tt) y q → (y ≡ h k) × (q ≡ f)) → IsFromFnResult g f ys n → (k : ℕ) → k < n → get_or ys k d ≡ h k
  from_fn_at {n} computes m k l = let e : 0 + k ≡ k = omega arith in rw e at (made n 0 computes m.each k l)
