-- Bytes put one after the other: at places apart, at one place, and one run behind the other. Assumes nothing.
use Rattle.std.proofs.Common.{◌≡◌, ℕ, ◌+◌, ◌-◌, ◌<◌, ◌≤◌, List, [], ◌++◌, length, take, drop, sym, ap, ◌∙◌, ⊎_elim, append_assoc, append-nil, arith, length-append, take-append-drop, drop_of_length-le, length-take-le, drop-drop, take_at, ext_get_or}
use lib.Seq.{drop-append-add}
use Rattle.below.proofs.Tests.{le_or_lt}
use Rattle.block.specs.Bytes.{byte_at, put}
use Rattle.block.proofs.Put.{put_in, length_put, put_ahead, put_behind, put_here}

-- byte j of what is put into two lists, where these agree in it
put_agree : (s t : List ℕ) (i : ℕ) (bs : List ℕ) (j : ℕ) → i + length bs ≤ length s → length s ≡ length t → byte_at s j ≡ byte_at t j →
    byte_at (put s i bs) j ≡ byte_at (put t i bs) j
put_agree s t i bs j h n e =
    ⊎_elim
    (λ (a : i ≤ j).
    ⊎_elim
    (λ (b : i + length bs ≤ j). put_behind s i bs j b ∙ e ∙ sym (put_behind t i bs j b))
    (λ (b : j < i + length bs).
    let z : j ≡ i + (j - i) = omega arith in
    rw z (put_here s i bs h (j - i) (omega arith) ∙ sym (put_here t i bs (omega arith) (j - i) (omega arith))))
    (le_or_lt (i + length bs) j))
    (λ (a : j < i). put_ahead s i bs j a ∙ e ∙ sym (put_ahead t i bs j a))
    (le_or_lt i j)

module _ (s : List ℕ) where
  -- apart, in either order
  pub put_swap : (a : ℕ) (xs : List ℕ) (b : ℕ) (ys : List ℕ) → a + length xs ≤ b → b + length ys ≤ length s →
      put (put s a xs) b ys ≡ put (put s b ys) a xs
  put_swap a xs b ys h k =
      let n : length (put s a xs) ≡ length s = length_put s a xs in
      let m : length (put s b ys) ≡ length s = length_put s b ys in
      ext_get_or 0 (put (put s a xs) b ys) (put (put s b ys) a xs) (length_put (put s a xs) b ys ∙ n ∙ sym (length_put (put s b ys) a xs ∙ m))
      (λ j l.
      ⊎_elim
      (λ (q : b ≤ j).
      put_agree (put s a xs) s b ys j (omega arith) n (put_behind s a xs j (omega arith)) ∙ sym (put_behind (put s b ys) a xs j (omega arith)))
      (λ (q : j < b).
      put_ahead (put s a xs) b ys j q ∙ put_agree s (put s b ys) a xs j (omega arith) (sym m) (sym (put_ahead s b ys j q)))
      (le_or_lt b j))

  -- the same place again
  pub put_over : (a : ℕ) (xs ys : List ℕ) → length xs ≡ length ys → a + length ys ≤ length s → put (put s a xs) a ys ≡ put s a ys
  put_over a xs ys e h =
      let n : length (put s a xs) ≡ length s = length_put s a xs in
      ext_get_or 0 (put (put s a xs) a ys) (put s a ys) (length_put (put s a xs) a ys ∙ n ∙ sym (length_put s a ys))
      (λ j l.
      ⊎_elim
      (λ (q : a ≤ j).
      ⊎_elim
      (λ (r : a + length ys ≤ j). put_agree (put s a xs) s a ys j (omega arith) n (put_behind s a xs j (omega arith)))
      (λ (r : j < a + length ys).
      let z : j ≡ a + (j - a) = omega arith in
      rw z (put_here (put s a xs) a ys (omega arith) (j - a) (omega arith) ∙ sym (put_here s a ys h (j - a) (omega arith))))
      (le_or_lt (a + length ys) j))
      (λ (q : j < a). put_agree (put s a xs) s a ys j (omega arith) n (put_ahead s a xs j q))
      (le_or_lt a j))

  -- one run behind the other
  pub put_join : (a : ℕ) (xs : List ℕ) (b : ℕ) (ys : List ℕ) → b ≡ a + length xs → b + length ys ≤ length s → put (put s a xs) b ys ≡ put s a (xs ++ ys)
  put_join a xs b ys e h =
      let f = take a s ++ xs in
      let r = drop (a + length xs) s in
      let n : length f ≡ b = rw length-append (omega (arith, length-take-le a s (omega arith))) in
      let m : length (xs ++ ys) ≡ length xs + length ys = length-append xs ys in
      let u : put s a xs ≡ f ++ r = put_in s a xs (omega arith) in
      let k : b + length ys ≤ length (f ++ r) = rw (← u, length_put s a xs) h in
      let d : drop (b + length ys) (f ++ r) ≡ drop (length ys) r = rw (← n) (drop-append-add f r (length ys)) in
      let g : drop (length ys) r ≡ drop (a + (length xs + length ys)) s =
      drop-drop (length ys) (a + length xs) s ∙ ap (λ (i : ℕ). drop i s) (let z : a + length xs + length ys ≡ a + (length xs + length ys) = omega arith in z) in
      rw (u, put_in (f ++ r) b ys k, take_at f r b n, d, g, put_in s a (xs ++ ys) (omega arith), m)
      (ap (λ (t : List ℕ). t ++ drop (a + (length xs + length ys)) s) (append_assoc (take a s) xs ys))

  -- nothing
  pub put_none : (a : ℕ) → a ≤ length s → put s a [] ≡ s
  put_none a h =
      let z : a + 0 ≡ a = omega arith in
      rw (put_in s a [] (omega arith), append-nil, z) (take-append-drop a s)

  -- all
  pub put_all : (xs : List ℕ) → length xs ≡ length s → put s 0 xs ≡ xs
  put_all xs e =
      let z : 0 + length xs ≡ length s = omega arith in
      rw (put_in s 0 xs (omega arith), z, drop_of_length-le s {i = length s} (omega arith)) (append-nil xs)
