-- Laws of numbers of bytes, over the width. The high byte first is the low byte first of the list reversed, so each of its laws is
-- the other order's. Assumes nothing.
use mathlib.Core.Path.{◌≡◌, refl, sym, ap, subst, ◌∙◌}
use mathlib.Core.List.{List, [], ◌∷◌, ◌++◌, reverse, reverse-append, reverse-reverse}
use Prim.Native.Nat.{ℕ, zero, suc, ◌+◌, ◌*◌, ◌/◌, ◌%◌, ◌^◌, ◌≤◌, ◌<◌}
use native.Mathlib.Numerals.{add-one}
use native.Mathlib.Nat.{pow-zero, div-one, mul_comm, pow-suc, pow-succ', one-le-pow, mul_assoc, suc-add, zero-add, mod-lt, div-div-eq-div-mul, div-eq_of_lt}
use native.Mathlib.Omega.{arith}
use lib.Arith.{mod-mul}
use lib.ListN.{replicate, length, get_or, take, drop, length-reverse}
use lib.Seq.{paste, take-add, take-nil, take_all, take_at, drop-drop, drop-append-add}
use Rattle.std.specs.Int.{sum_through, byte_worth, bytes_low_first, bytes_high_first, byte_at}
use Rattle.std.specs.Prelude.{slice_index}
use Rattle.octets.specs.Octets.{Bytes, le, le_bytes, le_at, be, be_bytes, be_at}
use Rattle.octets.proofs.Below.{tail_below, take_below, drop_below, reverse_below}
use Rattle.octets.proofs.Parts.{length_part, part_part, paste_whole, part_paste, reverse_replicate}

part_bytes : (n at : ℕ) (s : List ℕ) → Bytes s → Bytes (take n (drop at s))
part_bytes n at s b = take_below n (drop at s) (drop_below at s b)

pub length_le_bytes : (n v : ℕ) → length (le_bytes n v) ≡ n
unfolding le_bytes
length_le_bytes zero v = refl
length_le_bytes (suc n) v = ap suc (length_le_bytes n (v / 256))

pub length_be_bytes : (n v : ℕ) → length (be_bytes n v) ≡ n
unfolding be_bytes
length_be_bytes n v = length-reverse (le_bytes n v) ∙ length_le_bytes n v

pub le_nil : le [] ≡ 0
unfolding le
le_nil = refl

-- the lowest byte, and the others above it
pub le_cons : (b : ℕ) (s : List ℕ) → le (b ∷ s) ≡ le s * 256 + b
unfolding le
le_cons b s = omega arith

-- a number of n bytes is below 256 ^ n
pub le_lt : (s : List ℕ) → Bytes s → le s < 256 ^ length s
unfolding le
le_lt [] b = omega arith
le_lt (x ∷ s) b = rw pow-succ' (omega (arith, le_lt s (tail_below b), b.at 0))

pub le_at_lt : (n o : ℕ) (s : List ℕ) → Bytes s → o + n ≤ length s → le_at n o s < 256 ^ n
unfolding le_at
le_at_lt n o s b h = rw (length_part n o s h) at (le_lt (take n (drop o s)) (part_bytes n o s b))

pub be_at_lt : (n o : ℕ) (s : List ℕ) → Bytes s → o + n ≤ length s → be_at n o s < 256 ^ n
unfolding be_at be
be_at_lt n o s b h =
    rw (length-reverse, length_part n o s h) at (le_lt (reverse (take n (drop o s))) (reverse_below (take n (drop o s)) (part_bytes n o s b)))

-- ---- written and read back

pub le_le_bytes : (n v : ℕ) → v < 256 ^ n → le (le_bytes n v) ≡ v
unfolding le le_bytes
le_le_bytes zero v h = omega (arith, h)
le_le_bytes (suc n) v h =
    let k : v < 256 * 256 ^ n = rw pow-succ' at h in
    omega (arith, le_le_bytes n (v / 256) (omega (arith, k)))

pub be_be_bytes : (n v : ℕ) → v < 256 ^ n → be (be_bytes n v) ≡ v
unfolding be be_bytes
be_be_bytes n v h = rw reverse-reverse (le_le_bytes n v h)

-- ---- read and written back

pub le_bytes_le : (s : List ℕ) → Bytes s → le_bytes (length s) (le s) ≡ s
unfolding le le_bytes
le_bytes_le [] b = refl
le_bytes_le (x ∷ s) b =
    let low : (x + 256 * le s) % 256 ≡ x = omega (arith, b.at 0) in
    let high : (x + 256 * le s) / 256 ≡ le s = omega (arith, b.at 0) in
    rw (low, high, le_bytes_le s (tail_below b))

pub be_bytes_be : (s : List ℕ) → Bytes s → be_bytes (length s) (be s) ≡ s
unfolding be be_bytes
be_bytes_be s b =
    ap reverse (rw length-reverse at (le_bytes_le (reverse s) (reverse_below s b))) ∙ reverse-reverse s

-- ---- run after run

pub le_append : (x y : List ℕ) → le (x ++ y) ≡ le x + 256 ^ length x * le y
unfolding le
le_append [] y = omega arith
le_append (b ∷ x) y =
    let e : 256 ^ suc (length x) * le y ≡ 256 * (256 ^ length x * le y) = rw (pow-succ', mul_assoc) in
    omega (arith, le_append x y, e)

pub be_append : (x y : List ℕ) → be (x ++ y) ≡ be y + 256 ^ length y * be x
unfolding be
be_append x y = rw reverse-append (le_append (reverse y) (reverse x) ∙ rw length-reverse)

pub le_bytes_add : (n m v : ℕ) → le_bytes (n + m) v ≡ le_bytes n v ++ le_bytes m (v / 256 ^ n)
unfolding le_bytes
le_bytes_add zero m v =
    let e : v / 256 ^ 0 ≡ v = omega arith in
    rw (zero-add, e)
le_bytes_add (suc n) m v =
    rw (suc-add, pow-succ', ← div-div-eq-div-mul v 256 (256 ^ n)) (ap (◌∷◌ (v % 256)) (le_bytes_add n m (v / 256)))

-- the lowest n bytes of v are those of v modulo 256 ^ n
pub le_bytes_low : (n v : ℕ) → le_bytes n (v % 256 ^ n) ≡ le_bytes n v
unfolding le_bytes
le_bytes_low zero v = refl
le_bytes_low (suc n) v =
    let e : v % 256 ^ suc n ≡ (v / 256 % 256 ^ n) * 256 + v % 256 = rw pow-suc (mod-mul v (one-le-pow n 256 (omega arith)) (omega arith)) in
    let low : v % 256 ^ suc n % 256 ≡ v % 256 = omega arith in
    let high : v % 256 ^ suc n / 256 ≡ v / 256 % 256 ^ n = omega arith in
    rw (low, high, le_bytes_low n (v / 256))

-- the number of a number's n lowest bytes
pub le_low : (n v : ℕ) → le (le_bytes n v) ≡ v % 256 ^ n
le_low n v = ap le (sym (le_bytes_low n v)) ∙ le_le_bytes n (v % 256 ^ n) (mod-lt v (one-le-pow n 256 (omega arith)))

-- v by its low n bytes and what is above them
pub le_bytes_two : (n m v : ℕ) → le_bytes n (v % 256 ^ n) ++ le_bytes m (v / 256 ^ n) ≡ le_bytes (n + m) v
le_bytes_two n m v = rw le_bytes_low (sym (le_bytes_add n m v))

pub be_bytes_two : (n m v : ℕ) → be_bytes m (v / 256 ^ n) ++ be_bytes n (v % 256 ^ n) ≡ be_bytes (n + m) v
unfolding be_bytes
be_bytes_two n m v = sym (reverse-append (le_bytes n (v % 256 ^ n)) (le_bytes m (v / 256 ^ n))) ∙ ap reverse (le_bytes_two n m v)

pub be_bytes_add : (n m v : ℕ) → be_bytes (n + m) v ≡ be_bytes m (v / 256 ^ n) ++ be_bytes n v
unfolding be_bytes
be_bytes_add n m v = rw le_bytes_add (reverse-append (le_bytes n v) (le_bytes m (v / 256 ^ n)))

-- the first n + m bytes of a list, also where it is shorter
le_take : (n m : ℕ) (s : List ℕ) → le (take (n + m) s) ≡ le (take n s) + 256 ^ n * le (take m (drop n s))
unfolding le
le_take zero m s = rw (zero-add m) (omega arith)
le_take (suc n) m [] = rw (take-nil (suc n + m), take-nil m) (omega arith)
le_take (suc n) m (b ∷ s) =
    let e : 256 ^ suc n * le (take m (drop n s)) ≡ 256 * (256 ^ n * le (take m (drop n s))) = rw (pow-succ', mul_assoc) in
    rw suc-add (omega (arith, le_take n m s, e))

-- a number of n bytes in more than n: zeros above it
le_bytes_zero : (n : ℕ) → le_bytes n 0 ≡ replicate n 0
unfolding le_bytes
le_bytes_zero zero = refl
le_bytes_zero (suc n) = ap (◌∷◌ 0) (le_bytes_zero n)

pub le_bytes_wide : (n m v : ℕ) → v < 256 ^ n → le_bytes (n + m) v ≡ le_bytes n v ++ replicate m 0
le_bytes_wide n m v h = rw (le_bytes_add, div-eq_of_lt h, le_bytes_zero)

pub be_bytes_wide : (n m v : ℕ) → v < 256 ^ n → be_bytes (n + m) v ≡ replicate m 0 ++ be_bytes n v
unfolding be_bytes
be_bytes_wide n m v h = ap reverse (le_bytes_wide n m v h) ∙ rw (reverse-append, reverse_replicate)

-- n + m bytes at a place: the first n, and the m after them
pub le_at_add : (n m o : ℕ) (s : List ℕ) → le_at (n + m) o s ≡ le_at n o s + 256 ^ n * le_at m (o + n) s
unfolding le_at
le_at_add n m o s = rw (le_take, drop-drop)

pub be_at_add : (n m o : ℕ) (s : List ℕ) → o + n + m ≤ length s → be_at (n + m) o s ≡ be_at m (o + n) s + 256 ^ m * be_at n o s
unfolding be_at
be_at_add n m o s h =
    rw (take-add, drop-drop, be_append, length_part m (o + n) s h)

-- the whole of a list
pub le_at_whole : (n : ℕ) (s : List ℕ) → length s ≡ n → le_at n 0 s ≡ le s
unfolding le_at
le_at_whole n s e = ap le (take_all n s (omega arith))

pub le_at_one : (o : ℕ) (s : List ℕ) → le_at 1 o s ≡ get_or s o 0
unfolding le_at le
le_at_one zero [] = refl
le_at_one zero (b ∷ s) = omega arith
le_at_one (suc o) [] = refl
le_at_one (suc o) (b ∷ s) = le_at_one o s

pub be_at_one : (o : ℕ) (s : List ℕ) → be_at 1 o s ≡ get_or s o 0
unfolding be_at be le_at le
be_at_one zero [] = refl
be_at_one zero (b ∷ s) = omega arith
be_at_one (suc o) [] = refl
be_at_one (suc o) (b ∷ s) = be_at_one o s

-- ---- at a place of a list

-- a number written at a place is read there
pub le_at_paste : (n v at : ℕ) (d : List ℕ) → v < 256 ^ n → at + n ≤ length d → le_at n at (paste d at (le_bytes n v) n) ≡ v
unfolding le_at
le_at_paste n v at d hv hd = ap le (part_paste d (le_bytes n v) at n (length_le_bytes n v) hd) ∙ le_le_bytes n v hv

pub be_at_paste : (n v at : ℕ) (d : List ℕ) → v < 256 ^ n → at + n ≤ length d → be_at n at (paste d at (be_bytes n v) n) ≡ v
unfolding be_at
be_at_paste n v at d hv hd = ap be (part_paste d (be_bytes n v) at n (length_be_bytes n v) hd) ∙ be_be_bytes n v hv

-- a number laid over all of a buffer
pub le_bytes_over : (n v : ℕ) (d : List ℕ) → length d ≡ n → paste d 0 (le_bytes n v) n ≡ le_bytes n v
le_bytes_over n v d e = paste_whole d (le_bytes n v) n e ∙ take_all n (le_bytes n v) (omega (arith, length_le_bytes n v))

-- the bytes of the number at a place are those that stand there
pub le_bytes_le_at : (n at : ℕ) (s : List ℕ) → Bytes s → at + n ≤ length s → le_bytes n (le_at n at s) ≡ take n (drop at s)
unfolding le_at
le_bytes_le_at n at s b h =
    subst (λ (k : ℕ). le_bytes k (le (take n (drop at s))) ≡ take n (drop at s)) (length_part n at s h)
    (le_bytes_le (take n (drop at s)) (part_bytes n at s b))

pub be_bytes_be_at : (n at : ℕ) (s : List ℕ) → Bytes s → at + n ≤ length s → be_bytes n (be_at n at s) ≡ take n (drop at s)
unfolding be_at
be_bytes_be_at n at s b h =
    subst (λ (k : ℕ). be_bytes k (be (take n (drop at s))) ≡ take n (drop at s)) (length_part n at s h)
    (be_bytes_be (take n (drop at s)) (part_bytes n at s b))

-- a number in a part is the number at its place in the whole
pub le_at_part : (n o m a : ℕ) (s : List ℕ) → o + n ≤ m → le_at n o (take m (drop a s)) ≡ le_at n (a + o) s
unfolding le_at
le_at_part n o m a s h = ap le (part_part n o m a s h)

pub be_at_part : (n o m a : ℕ) (s : List ℕ) → o + n ≤ m → be_at n o (take m (drop a s)) ≡ be_at n (a + o) s
unfolding be_at
be_at_part n o m a s h = ap be (part_part n o m a s h)

-- a number at the front of a list, and one past its front
pub le_at_here : (n v : ℕ) (s : List ℕ) → v < 256 ^ n → le_at n 0 (le_bytes n v ++ s) ≡ v
unfolding le_at
le_at_here n v s h = ap le (take_at (le_bytes n v) s n (length_le_bytes n v)) ∙ le_le_bytes n v h

pub be_at_here : (n v : ℕ) (s : List ℕ) → v < 256 ^ n → be_at n 0 (be_bytes n v ++ s) ≡ v
unfolding be_at
be_at_here n v s h = ap be (take_at (be_bytes n v) s n (length_be_bytes n v)) ∙ be_be_bytes n v h

pub le_at_past : (n o : ℕ) (x s : List ℕ) → le_at n (length x + o) (x ++ s) ≡ le_at n o s
unfolding le_at
le_at_past n o x s = rw drop-append-add

pub be_at_past : (n o : ℕ) (x s : List ℕ) → be_at n (length x + o) (x ++ s) ≡ be_at n o s
unfolding be_at
be_at_past n o x s = rw drop-append-add

-- ---- as the library has them

byte_is : (i v : ℕ) → byte_at i v ≡ v / 256 ^ i % 256
byte_is zero v = rw (pow-zero, div-one)
byte_is (suc i) v = refl

-- what `to_le_bytes` and `to_be_bytes` write
low_first_from : (n i v : ℕ) → bytes_low_first i n v ≡ le_bytes n (v / 256 ^ i)
unfolding le_bytes
low_first_from zero i v = refl
low_first_from (suc n) i v =
    let up : v / 256 ^ suc i ≡ v / 256 ^ i / 256 = rw pow-suc (sym (div-div-eq-div-mul v (256 ^ i) 256)) in
    rw (byte_is i v, low_first_from n (suc i) v, up)

pub low_first_bytes : (n v : ℕ) → bytes_low_first 0 n v ≡ le_bytes n v
low_first_bytes n v = low_first_from n 0 v ∙ ap (le_bytes n) (rw (pow-zero, div-one))

pub high_first_bytes : (n v : ℕ) → bytes_high_first n v ≡ be_bytes n v
unfolding be_bytes le_bytes
high_first_bytes zero v = refl
high_first_bytes (suc n) v = rw (byte_is n v, high_first_bytes n v) (sym (rw add-one at (be_bytes_add n 1 v)))

-- a byte more, at its worth
le_more : (n o : ℕ) (s : List ℕ) → le_at (suc n) o s ≡ le_at n o s + get_or s (o + n) 0 * 256 ^ n
le_more n o s = rw add-one at (le_at_add n 1 o s) ∙ rw (le_at_one (o + n) s, mul_comm (256 ^ n) (get_or s (o + n) 0))

-- what `from_le_bytes` adds up
pub le_sum : (k : ℕ) (r : List ℕ) → sum_through (λ i. byte_worth i (slice_index r i)) k ≡ le_at (suc k) 0 r
le_sum zero r = sym (le_at_one 0 r)
le_sum (suc k) r = rw (le_sum k r) (sym (rw zero-add at (le_more (suc k) 0 r)))

-- bytes read one by one, 0 past the end
pub le_padded : (n o : ℕ) (r x : List ℕ) → ((i : ℕ) → i < n → get_or r i 0 ≡ get_or x (o + i) 0) → le_at n 0 r ≡ le_at n o x
unfolding le_at le
le_padded zero o r x h = refl
le_padded (suc n) o r x h =
    rw zero-add at (le_more n 0 r) ∙ rw (le_padded n o r x (λ i l. h i (omega arith)), h n (omega arith)) (sym (le_more n o x))
