-- Laws of the numbers in a list of bytes, over the width. Assumes nothing.
use Rattle.std.proofs.Common.{◌≡◌, ℕ, zero, suc, ◌+◌, ◌*◌, ◌/◌, ◌%◌, ◌^◌, ◌<◌, ◌≤◌, List, ◌∷◌, length, take, drop, refl, ap, mul_assoc, mul_comm, suc-add, pow-suc, zero-add, add-one, arith, get_or-drop, drop-cons, get_or-take}
use lib.ListN.{get_or-eq_default}
use Rattle.block.specs.Bytes.{byte_at, number_at, bytes_of}

-- s is a list of bytes: what every slice of u8 is
abbrev pub AreBytes : List ℕ → Type 0
AreBytes s = (i : ℕ) → byte_at s i < 256

-- a number is the number of its first v bytes and, 256 ^ v times, that of the w bytes behind
pub number_split : (v w : ℕ) (s : List ℕ) (i : ℕ) → number_at (v + w) s i ≡ number_at v s i + 256 ^ v * number_at w s (i + v)
unfolding number_at
number_split zero w s i =
    let e : i + 0 ≡ i = omega arith in
    rw (zero-add w, e) (omega arith)
number_split (suc v) w s i =
    let e : i + suc v ≡ i + 1 + v = omega arith in
    let p : 256 ^ suc v * number_at w s (i + 1 + v) ≡ 256 * (256 ^ v * number_at w s (i + 1 + v)) =
    rw (pow-suc, mul_comm (256 ^ v) 256, mul_assoc) in
    rw (suc-add, number_split v w s (i + 1), e, p) (omega arith)

-- two places that hold the same bytes hold the same number
pub number_same : (w : ℕ) (s t : List ℕ) (i j : ℕ) → ((k : ℕ) → k < w → byte_at s (i + k) ≡ byte_at t (j + k)) → number_at w s i ≡ number_at w t j
unfolding number_at
number_same zero s t i j h = refl
number_same (suc w) s t i j h =
    let here : byte_at s i ≡ byte_at t j =
    let a : i + 0 ≡ i = omega arith in
    let b : j + 0 ≡ j = omega arith in
    rw (a, b) at (h 0 (omega arith)) in
    let later : number_at w s (i + 1) ≡ number_at w t (j + 1) =
    number_same w s t (i + 1) (j + 1)
    (λ k l.
    let a : i + 1 + k ≡ i + suc k = omega arith in
    let b : j + 1 + k ≡ j + suc k = omega arith in
    rw (a, b) (h (suc k) (omega arith))) in
    rw (here, later)

-- a number in a part of a list
pub number_part : (w : ℕ) (s : List ℕ) (a n i : ℕ) → i + w ≤ n → number_at w (take n (drop a s)) i ≡ number_at w s (a + i)
number_part w s a n i h =
    number_same w (take n (drop a s)) s i (a + i)
    (λ k l.
    let f : i + k < n = omega arith in
    let g : a + i + k ≡ a + (i + k) = omega arith in
    rw (get_or-take n (drop a s) (i + k) 0 f, get_or-drop, g))

-- past the end every number is 0
pub number_past : (w : ℕ) (s : List ℕ) (i : ℕ) → length s ≤ i → number_at w s i ≡ 0
unfolding number_at
number_past zero s i h = refl
number_past (suc w) s i h = omega (arith, get_or-eq_default s 0 h, number_past w s (i + 1) (omega arith))

-- a number of w bytes is below 256 ^ w
pub number_fits : (w : ℕ) (s : List ℕ) (i : ℕ) → AreBytes s → number_at w s i < 256 ^ w
unfolding number_at
number_fits zero s i b = omega arith
number_fits (suc w) s i b = rw pow-suc (omega (arith, b i, number_fits w s (i + 1) b))

pub length_bytes : (w x : ℕ) → length (bytes_of w x) ≡ w
unfolding bytes_of
length_bytes zero x = refl
length_bytes (suc w) x = ap suc (length_bytes w (x / 256))

-- the bytes of a number are read as that number
pub number_bytes : (w x : ℕ) → x < 256 ^ w → number_at w (bytes_of w x) 0 ≡ x
unfolding number_at bytes_of
number_bytes zero x h = omega arith
number_bytes (suc w) x h =
    let small : x < 256 ^ w * 256 = rw pow-suc at h in
    let rest : number_at w (x % 256 ∷ bytes_of w (x / 256)) (0 + 1) ≡ number_at w (bytes_of w (x / 256)) 0 =
    number_same w (x % 256 ∷ bytes_of w (x / 256)) (bytes_of w (x / 256)) (0 + 1) 0
    (λ k l.
    let a : 0 + 1 + k ≡ suc k = omega arith in
    let b : 0 + k ≡ k = omega arith in
    rw (a, b)) in
    omega (arith, rest, number_bytes w (x / 256) (omega arith))

-- and the bytes of the number that stands at i are those that stand there
pub bytes_number : (w : ℕ) (s : List ℕ) (i : ℕ) → AreBytes s → i + w ≤ length s → bytes_of w (number_at w s i) ≡ take w (drop i s)
unfolding number_at bytes_of
bytes_number zero s i b h = refl
bytes_number (suc w) s i b h =
    let n = number_at w s (i + 1) in
    let here : (byte_at s i + 256 * n) % 256 ≡ byte_at s i = omega (arith, b i) in
    let rest : (byte_at s i + 256 * n) / 256 ≡ n = omega (arith, b i) in
    let l : i < length s = omega arith in
    rw (here, rest, bytes_number w s (i + 1) b (omega arith), drop-cons s i 0 l, add-one)

-- the bytes of any number are bytes
pub bytes_bytes : (w x : ℕ) → AreBytes (bytes_of w x)
unfolding bytes_of
bytes_bytes zero x i = omega arith
bytes_bytes (suc w) x zero = omega arith
bytes_bytes (suc w) x (suc i) = bytes_bytes w (x / 256) i
