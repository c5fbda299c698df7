-- Laws of a list that is a run of lists of one length: its own length, and its part number i. Assumes nothing.
use Prim.Native.Nat.{ℕ, zero, suc, ◌+◌, ◌*◌, ◌≤◌, ◌<◌}
use mathlib.Core.List.{List}
use mathlib.Core.Path.{◌≡◌, sym, ◌∙◌}
use native.Mathlib.Nat.{not-suc-le-zero, le_of_suc-le-suc, suc-mul, zero-mul}
use native.Mathlib.Omega.{arith}
use lib.ListN.{length, get_or, take, drop, length-append, length-drop}
use lib.Seq.{take_at, drop-append-add, length-take-le, get_or-take, get_or-drop, ext_get_or}
use Rattle.below.specs.Lists.{join_over, Every, Every.none, Every.more}
use Rattle.block.specs.Bytes.{byte_at}

module _ {A : Type 0} (f : A → List ℕ) (m : ℕ) where
  -- each element's list has m elements
  abbrev pub Alike : List A → Type 0
  Alike xs = Every (λ x. length (f x) ≡ m) xs

  pub length_run : {xs : List A} → Alike xs → length (join_over f xs) ≡ length xs * m
  unfolding join_over
  length_run none = sym (zero-mul m)
  length_run (more {x = x} {xs = xs} p ps) = length-append (f x) (join_over f xs) ∙ rw (p, length_run ps) (omega (arith, suc-mul (length xs) m))

  pub part_run : {xs : List A} → Alike xs → (d : A) (i : ℕ) → i < length xs → take m (drop (i * m) (join_over f xs)) ≡ f (get_or xs i d)
  unfolding join_over
  part_run none d i l = absurd (not-suc-le-zero l)
  part_run (more {x = x} {xs = xs} p ps) d zero l = rw zero-mul (take_at (f x) (join_over f xs) m p)
  part_run (more {x = x} {xs = xs} p ps) d (suc i) l =
      let e : suc i * m ≡ length (f x) + i * m = omega (arith, suc-mul i m) in
      rw (e, drop-append-add (f x) (join_over f xs) (i * m)) (part_run ps d i (le_of_suc-le-suc l))

-- parts with the same bytes are the same
pub part_same : (s t : List ℕ) (a b n : ℕ) → a + n ≤ length s → b + n ≤ length t → ((k : ℕ) → k < n → byte_at s (a + k) ≡ byte_at t (b + k)) → take n (drop a s) ≡ take n (drop b t)
part_same s t a b n h g e =
    let x : length (take n (drop a s)) ≡ n = length-take-le n (drop a s) (rw length-drop (omega arith)) in
    let y : length (take n (drop b t)) ≡ n = length-take-le n (drop b t) (rw length-drop (omega arith)) in
    ext_get_or 0 (take n (drop a s)) (take n (drop b t)) (x ∙ sym y)
    (λ i l.
    let k : i < n = omega arith in
    rw (get_or-take n (drop a s) i 0 k, get_or-take n (drop b t) i 0 k, get_or-drop a s i 0, get_or-drop b t i 0) (e i k))
