-- Words summed by turns come to the sums of the words one by one. Assumes nothing.
use Rattle.std.proofs.Common.{◌≡◌, ℕ, zero, suc, ◌+◌, ◌*◌, ◌%◌, ◌^◌, ◌<◌, List, [], ◌∷◌, ◌++◌, map, fold, take, drop, sym, refl, ap, ◌∙◌, suc-mul, add-one, not-suc-le-zero, arith, get_or, get_or-drop, get_or-take}
use Rattle.std.proofs.lemmas.List.FromFn.{map-range_with_len_more}
use Rattle.std.proofs.lemmas.List.Sums.{fold_push}
use Rattle.std.specs.Int.{w32, from_le_bytes}
use Rattle.std.specs.List.{range_with_len}
use Rattle.std.specs.Simd.{first_chunks}
use Rattle.block.specs.Bytes.{word_at}
use Rattle.block.specs.Sums.{grown, summed, sums_of}
use Rattle.block.specs.Code.Turns.{no_sums, turned, TurnsTo}
use Rattle.block.specs.declared.Sums.{Sums}
use Rattle.block.proofs.Numbers.{number_same, number_part}
use Rattle.block.proofs.Parts.{read_word}
use Rattle.block.proofs.Sealing.{summed_same, summed_more, summed_fits}

one : (t : Sums) (b : List ℕ) (k : ℕ) → summed t b k 1 ≡ grown t (word_at b k)
unfolding summed
one t b k = refl

-- one word more
pub summed_next : (s : Sums) (b : List ℕ) (i n : ℕ) → summed s b i (n + 1) ≡ grown (summed s b i n) (word_at b (i + 4 * n))
summed_next s b i n = summed_more s b i n 1 ∙ one (summed s b i n) b (i + 4 * n)

-- what passes 32 bits may be dropped at once or later
pub drop_left : (a b : ℕ) → (a % 2 ^ 32 + b) % 2 ^ 32 ≡ (a + b) % 2 ^ 32
drop_left a b = omega arith

pub drop_right : (a b : ℕ) → (a + b % 2 ^ 32) % 2 ^ 32 ≡ (a + b) % 2 ^ 32
drop_right a b = omega arith

pub drop_both : (a b : ℕ) → (a % 2 ^ 32 + b % 2 ^ 32) % 2 ^ 32 ≡ (a + b) % 2 ^ 32
drop_both a b = drop_left a (b % 2 ^ 32) ∙ drop_right a b

-- a word behind n others: it may be added to the sums of those by themselves, or to all
grown_turned : (s t : Sums) (n w : ℕ) → grown (turned n s t) w ≡ turned (n + 1) s (grown t w)
unfolding grown
grown_turned s t n w = λ i. record {
  first = first i;
  second = second i;
}
  where
    first : ((s.first + t.first) % 2 ^ 32 + w) % 2 ^ 32 ≡ (s.first + (t.first + w) % 2 ^ 32) % 2 ^ 32
    first = omega arith

    all : (s.second + n * s.first + t.second) + (s.first + t.first + w) ≡ (s.second + (n + 1) * s.first) + (t.second + (t.first + w))
    all = let more : (n + 1) * s.first ≡ n * s.first + s.first = rw (add-one n) (suc-mul n s.first) in omega (arith, more)

    second : ((s.second + n * s.first + t.second) % 2 ^ 32 + ((s.first + t.first) % 2 ^ 32 + w) % 2 ^ 32) % 2 ^ 32
        ≡ (s.second + (n + 1) * s.first + (t.second + (t.first + w) % 2 ^ 32) % 2 ^ 32) % 2 ^ 32
    second =
        rw (drop_left (s.first + t.first) w, drop_both (s.second + n * s.first + t.second) (s.first + t.first + w), all, drop_right t.second (t.first + w))
        (sym (drop_right (s.second + (n + 1) * s.first) (t.second + (t.first + w))))

module _ (s : Sums) (b : List ℕ) (i : ℕ) (small-first : s.first < 2 ^ 32) (small-second : s.second < 2 ^ 32) where
  no_words : summed s b i 0 ≡ turned 0 s (summed no_sums b i 0)
  unfolding summed
  no_words = λ k. record {
    first = first k;
    second = second k;
  }
    where
      first : s.first ≡ (s.first + 0) % 2 ^ 32
      first = omega arith

      second : s.second ≡ (s.second + 0 * s.first + 0) % 2 ^ 32
      second = omega arith

  word_more : (n : ℕ) → summed s b i n ≡ turned n s (summed no_sums b i n) → summed s b i (n + 1) ≡ turned (n + 1) s (summed no_sums b i (n + 1))
  word_more n here =
      rw (summed_next s b i n, summed_next no_sums b i n, here)
      (grown_turned s (summed no_sums b i n) n (word_at b (i + 4 * n)))

  -- n words by themselves, added to s, are n words behind s
  pub words_behind : (n : ℕ) → summed s b i n ≡ turned n s (summed no_sums b i n)
  words_behind zero = no_words
  words_behind (suc n) = rw (← add-one n) (word_more n (words_behind n))

-- m words and then n more, by themselves
pub turn_more : (b : List ℕ) (m n : ℕ) → turned n (summed no_sums b 0 m) (summed no_sums b (0 + 4 * m) n) ≡ summed no_sums b 0 (m + n)
turn_more b m n =
    let fits = summed_fits no_sums b 0 m (omega arith) (omega arith) in
    sym (words_behind (summed no_sums b 0 m) b (0 + 4 * m) fits.0 fits.1 n) ∙ sym (summed_more no_sums b 0 m n)

-- four and two times a number, by doubling, are six times
pub six_times : (x : ℕ) {two four all : ℕ} → two ≡ (x + x) % 2 ^ 32 → four ≡ (two + two) % 2 ^ 32 → all ≡ (four + two) % 2 ^ 32 → all ≡ 6 * x % 2 ^ 32
six_times x {two} {four} {all} a b c =
    let f : four ≡ (x + x + (x + x)) % 2 ^ 32 = b ∙ rw a (drop_both (x + x) (x + x)) in
    let k : x + x + (x + x) + (x + x) ≡ 6 * x = omega arith in
    c ∙ rw (f, a, drop_both (x + x + (x + x)) (x + x), k) refl

-- the words of a list that was cut off
pub summed_behind : (s : Sums) (b : List ℕ) (a i n : ℕ) → summed s (drop a b) i n ≡ summed s b (a + i) n
unfolding summed
summed_behind s b a i zero = refl
summed_behind s b a i (suc n) =
    let w : word_at (drop a b) i ≡ word_at b (a + i) = number_same 4 (drop a b) b i (a + i) (λ k l. let e : a + i + k ≡ a + (i + k) = omega arith in rw e (get_or-drop a b (i + k) 0)) in
    let e : a + (i + 4) ≡ a + i + 4 = omega arith in
    rw (w, ← e) (summed_behind (grown s (word_at b (a + i))) b a (i + 4) n)

-- words that were cut off, one behind another, and added to the sums s
pub fold_words : (s : Sums) (b : List ℕ) (n : ℕ) → fold (λ s w. grown s (from_le_bytes w32 w)) s (first_chunks 4 n b) ≡ summed s b 0 n
unfolding summed
fold_words s b zero = refl
fold_words s b (suc n) =
    let e : from_le_bytes w32 (take 4 b) ≡ word_at b 0 = read_word (take 4 b) ∙ number_part 4 b 0 4 0 (omega arith) in
    ap (λ w. fold (λ s w. grown s (from_le_bytes w32 w)) (grown s w) (first_chunks 4 n (drop 4 b))) e
    ∙ fold_words (grown s (word_at b 0)) (drop 4 b) n ∙ summed_behind (grown s (word_at b 0)) b 4 0 n

-- the running sums after the turns
pub fold_turns : (b : List ℕ) (turns : List Sums) → TurnsTo b turns → fold (turned 6) no_sums turns ≡ sums_of b
unfolding TurnsTo sums_of summed
fold_turns b turns e = rw e (run 21)
  where
    own : ℕ → Sums
    own k = summed no_sums b (k * 24) 6

    run : (n : ℕ) → fold (turned 6) no_sums (map own (range_with_len 0 n)) ≡ summed no_sums b 0 (n * 6)
    run zero = refl
    run (suc n) =
        let at : n * 24 ≡ 0 + 4 * (n * 6) = omega arith in
        let f : suc n * 6 ≡ n * 6 + 6 = omega arith in
        let more : map own (range_with_len 0 (n + 1)) ≡ map own (range_with_len 0 n) ++ (own n ∷ []) = map-range_with_len_more own 0 n n (omega arith) in
        ap (λ m. fold (turned 6) no_sums (map own (range_with_len 0 m))) (sym (add-one n)) ∙ ap (fold (turned 6) no_sums) more
        ∙ fold_push (turned 6) no_sums (map own (range_with_len 0 n)) (own n) ∙ ap (λ t. turned 6 t (own n)) (run n)
        ∙ rw (at, f) (turn_more b (n * 6) 6)

-- a turn, cut off
pub turn_at : (b : List ℕ) (n k : ℕ) → k < n → summed no_sums (get_or (first_chunks 24 n b) k []) 0 6 ≡ summed no_sums b (k * 24) 6
turn_at b zero k l = absurd (not-suc-le-zero l)
turn_at b (suc n) zero l = summed_same no_sums (take 24 b) b 0 6 (λ j q. get_or-take 24 b j 0 (omega arith))
turn_at b (suc n) (suc k) l =
    let e : suc k * 24 ≡ 24 + k * 24 = omega arith in
    rw e (turn_at (drop 24 b) n k (omega arith) ∙ summed_behind no_sums b 24 (k * 24) 6)
