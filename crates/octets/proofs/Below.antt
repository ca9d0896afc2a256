-- What keeps the elements of a list below a bound: they are those of lists that are below it. Assumes nothing.
use mathlib.Core.List.{List, [], ◌∷◌, ◌++◌, reverse, reverse-cons}
use Prim.Native.Nat.{ℕ, zero, suc, ◌+◌, ◌-◌, ◌/◌, ◌<◌}
use native.Mathlib.Omega.{arith}
use lib.ListN.{length, take, drop, replicate}
use lib.Seq.{get_or-drop, paste}
use Rattle.octets.specs.Octets.{Below, Bytes, le_bytes, be_bytes, zero_from}

module _ {n : ℕ} where
  -- the bound is above 0, since past the end stands a 0
  above : {s : List ℕ} → Below n s → 0 < n
  above {s} b = omega (arith, b.at (length s))

  pub nil_below : 0 < n → Below n []
  nil_below h = record { at = λ i. h }

  pub cons_below : {x : ℕ} {s : List ℕ} → x < n → Below n s → Below n (x ∷ s)
  cons_below h b = record { at = elim [ zero ↦ h | suc i ↦ b.at i ] }

  pub tail_below : {x : ℕ} {s : List ℕ} → Below n (x ∷ s) → Below n s
  tail_below b = record { at = λ i. b.at (suc i) }

  pub append_below : (x y : List ℕ) → Below n x → Below n y → Below n (x ++ y)
  append_below [] y b c = c
  append_below (v ∷ x) y b c = cons_below (b.at 0) (append_below x y (tail_below b) c)

  pub drop_below : (k : ℕ) (s : List ℕ) → Below n s → Below n (drop k s)
  drop_below k s b = record { at = λ i. rw (get_or-drop k s i 0) (b.at (k + i)) }

  pub take_below : (k : ℕ) (s : List ℕ) → Below n s → Below n (take k s)
  take_below zero s b = nil_below (above b)
  take_below (suc k) [] b = b
  take_below (suc k) (x ∷ s) b = cons_below (b.at 0) (take_below k s (tail_below b))

  pub replicate_below : (k x : ℕ) → x < n → Below n (replicate k x)
  replicate_below zero x h = nil_below (omega (arith, h))
  replicate_below (suc k) x h = cons_below h (replicate_below k x h)

  pub reverse_below : (s : List ℕ) → Below n s → Below n (reverse s)
  reverse_below [] b = b
  reverse_below (x ∷ s) b =
      rw reverse-cons (append_below (reverse s) (x ∷ []) (reverse_below s (tail_below b)) (cons_below (b.at 0) (nil_below (above b))))

  pub paste_below : (d : List ℕ) (at : ℕ) (s : List ℕ) (k : ℕ) → Below n d → Below n s → Below n (paste d at s k)
  paste_below d at s k b c =
      append_below (take at d ++ take k s) (drop (at + k) d)
      (append_below (take at d) (take k s) (take_below at d b) (take_below k s c))
      (drop_below (at + k) d b)

-- ---- bytes, and what is written

pub nil_bytes : Bytes []
nil_bytes = nil_below (omega arith)

pub le_bytes_bytes : (n v : ℕ) → Bytes (le_bytes n v)
unfolding le_bytes
le_bytes_bytes zero v = nil_bytes
le_bytes_bytes (suc n) v = cons_below (omega arith) (le_bytes_bytes n (v / 256))

pub be_bytes_bytes : (n v : ℕ) → Bytes (be_bytes n v)
unfolding be_bytes
be_bytes_bytes n v = reverse_below (le_bytes n v) (le_bytes_bytes n v)

pub zero_from_bytes : (at : ℕ) (d : List ℕ) → Bytes d → Bytes (zero_from at d)
unfolding zero_from
zero_from_bytes at d b =
    append_below (take at d) (replicate (length d - at) 0) (take_below at d b) (replicate_below (length d - at) 0 (omega arith))
