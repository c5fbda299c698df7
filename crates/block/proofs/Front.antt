-- Bytes put one run behind the other. Assumes nothing.
use Rattle.std.proofs.Common.{◌≡◌, ℕ, ◌+◌, ◌≤◌, List, ◌++◌, length, take, drop, sym, ◌∙◌, arith, length-append, length-take-le, take_all, take_at}
use Rattle.block.specs.Bytes.{put}
use Rattle.block.proofs.Put.{put_in, length_put}

-- into s, of n bytes: so far f
pub record Front (n : ℕ) (f s : List ℕ) : Type 0 where
  pub front : take (length f) s ≡ f
  pub whole : length s ≡ n

pub front_more : {n : ℕ} {f s : List ℕ} → Front n f s → (a : ℕ) (bs : List ℕ) → length f ≡ a → a + length bs ≤ n → Front n (f ++ bs) (put s a bs)
front_more {n} {f} {s} o a bs e h =
    let k : a + length bs ≤ length s = omega (arith, o.whole) in
    let m : length (take a s ++ bs) ≡ a + length bs = rw length-append (omega (arith, length-take-le a s (omega arith))) in
    let t : take a s ≡ f = rw (← e) o.front in
    record {
      front = rw (length-append, e, put_in s a bs k, take_at (take a s ++ bs) (drop (a + length bs) s) (a + length bs) m, t);
      whole = length_put s a bs ∙ o.whole;
    }

pub front_all : {n : ℕ} {f s : List ℕ} → Front n f s → length f ≡ n → s ≡ f
front_all {n} {f} {s} o e = sym (take_all (length f) s (omega (arith, o.whole))) ∙ o.front
