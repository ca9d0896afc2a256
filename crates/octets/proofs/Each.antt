-- The bytes of each number of a list, one after the other: `flat_map f`, where f gives a number its bytes. Each number has as many, so
-- number i stands at i times as many, and those up to it are those before it with its own behind them. Assumes nothing.
use mathlib.Core.Path.{◌≡◌, refl, sym, ap, ◌∙◌}
use mathlib.Core.List.{List, [], ◌∷◌, ◌++◌, flat_map, append-nil, append_assoc}
use Prim.Native.Nat.{ℕ, ◌+◌, ◌*◌, ◌≤◌, ◌<◌}
use native.Mathlib.Nat.{mul-suc, mul-zero, mul-le-mul_left}
use native.Mathlib.Numerals.{add-one}
use native.Mathlib.Omega.{arith}
use lib.ListN.{length, get_or, take, length-append}
use lib.Seq.{paste, take-suc, take_all, length-take-le}
use Rattle.octets.specs.Octets.{Bytes}
use Rattle.octets.proofs.Below.{nil_bytes, append_below}
use Rattle.octets.proofs.Parts.{paste_two, paste_whole}

module _ (f : ℕ → List ℕ) where
  pub each_one : (v : ℕ) → flat_map f (v ∷ []) ≡ f v
  unfolding flat_map
  each_one v = append-nil (f v)

  pub each_append : (x y : List ℕ) → flat_map f (x ++ y) ≡ flat_map f x ++ flat_map f y
  unfolding flat_map
  each_append [] y = refl
  each_append (v ∷ x) y = rw (each_append x y) (sym (append_assoc (f v) (flat_map f x) (flat_map f y)))

  -- one number more
  pub each_more : (vs : List ℕ) (i : ℕ) → i < length vs → flat_map f (take (i + 1) vs) ≡ flat_map f (take i vs) ++ f (get_or vs i 0)
  each_more vs i h = rw (add-one, take-suc vs i 0 h, each_append, each_one)

  pub each_bytes : ((v : ℕ) → Bytes (f v)) → (vs : List ℕ) → Bytes (flat_map f vs)
  unfolding flat_map
  each_bytes b [] = nil_bytes
  each_bytes b (v ∷ vs) = append_below (f v) (flat_map f vs) (b v) (each_bytes b vs)

  -- where each number has n bytes
  module _ {n : ℕ} (long : (v : ℕ) → length (f v) ≡ n) where
    pub length_each : (vs : List ℕ) → length (flat_map f vs) ≡ n * length vs
    unfolding flat_map
    length_each [] = sym (mul-zero n)
    length_each (v ∷ vs) = rw (length-append, long v, length_each vs, mul-suc) (omega arith)

    -- a turn of a loop that lays number i after those before it
    pub each_next : (d vs : List ℕ) {e g : List ℕ} (at i place : ℕ) → i < length vs → at + n * length vs ≤ length d → at + n * i ≡ place
        → e ≡ paste d at (flat_map f (take i vs)) (n * i) → g ≡ paste e place (f (get_or vs i 0)) n → g ≡ paste d at (flat_map f (take (i + 1) vs)) (n * (i + 1))
    each_next d vs {e} {g} at i place h room s p q =
        let more : n * (i + 1) ≡ n * i + n = rw (add-one, mul-suc) in
        let within : n * (i + 1) ≤ n * length vs = mul-le-mul_left n (omega arith) in
        let l : length (flat_map f (take i vs)) ≡ n * i = length_each (take i vs) ∙ ap (λ (k : ℕ). n * k) (length-take-le i vs (omega arith)) in
        rw more (paste_two (flat_map f (take i vs)) (f (get_or vs i 0)) (flat_map f (take (i + 1) vs)) (n * i) n at d e g
        l (long (get_or vs i 0)) (sym (each_more vs i h)) (omega arith) p (rw s q))

    -- and what it has laid once i is the last
    pub each_all : (d vs : List ℕ) {e : List ℕ} (at i : ℕ) → i ≡ length vs → e ≡ paste d at (flat_map f (take i vs)) (n * i)
        → e ≡ paste d at (flat_map f vs) (n * length vs)
    each_all d vs at i q p = p ∙ rw (take_all i vs (omega arith), q)

    -- a buffer that they fill is they
    pub each_whole : (d vs : List ℕ) {e : List ℕ} (i : ℕ) → length d ≡ n * length vs → i ≡ length vs → e ≡ paste d 0 (flat_map f (take i vs)) (n * i)
        → e ≡ flat_map f vs
    each_whole d vs i l q p =
        each_all d vs 0 i q p
        ∙ paste_whole d (flat_map f vs) (n * length vs) l
        ∙ take_all (n * length vs) (flat_map f vs) (omega (arith, length_each vs))
