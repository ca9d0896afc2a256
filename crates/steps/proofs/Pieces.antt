-- Two pieces leave and give what one that is both does, from any state: so any cutting gives what the whole stream gives. Assumes nothing.
use mathlib.Core.Path.{◌≡◌, sym, ap, ap₂, ◌∙◌}
use mathlib.Core.List.{List, [], ◌∷◌, ◌++◌, flatten, append-nil, append_assoc}
use Prim.Native.Nat.{ℕ, zero, suc, ◌+◌, ◌-◌, ◌*◌, ◌/◌, ◌≤◌, ◌<◌}
use native.Mathlib.Nat.{zero-add, add-zero, add_assoc, mul-add, mul-zero, sub-zero, zero-sub, suc-sub-suc, mul-div-le, mul-add-div, lt-mul-div-succ, div-eq_of_lt, div-one, one-mul}
use native.Mathlib.Omega.{arith}
use lib.ListN.{length, take, drop, length-append, length-take, length-drop}
use lib.Seq.{take-nil, drop-append-le, drop-drop}
use Rattle.steps.specs.Steps.{Step, before, open_units, open_all, resumed, Sized}
use Rattle.steps.specs.Feeding.{Kept, Fed, gave, begun, onward, took, fed, joined, feeds}
use Rattle.steps.proofs.Made.{before_front, open_front, resumed_sized, length_open}
use Rattle.steps.proofs.Ranges.{before_drop, open_split, open_prefix}

-- the first n of two lists are those of the first and, if it is shorter, some of the second
take_both : (n : ℕ) (x y : List ℕ) → take n (x ++ y) ≡ take n x ++ take (n - length x) y
take_both zero x y = rw zero-sub
take_both (suc n) [] y = rw sub-zero
take_both (suc n) (a ∷ x) y = rw suc-sub-suc (ap (λ (l : List ℕ). a ∷ l) (take_both n x y))

-- ---- a step resumed

resumed_again : (i j : ℕ) (p q : List ℕ) (step : Step) → resumed j q (resumed i p step) ≡ resumed (i + j) q step
resumed_again i j p q step =
    λ t. record {
      width = step.width;
      first = q;
      there = λ m. step.there (sym (add_assoc i j m) t);
      back = λ m. step.back (sym (add_assoc i j m) t);
    }

-- from the start
resumed_none : (step : Step) → resumed 0 step.first step ≡ step
resumed_none step =
    λ t. record { width = step.width; first = step.first; there = λ m. step.there (zero-add m t); back = λ m. step.back (zero-add m t) }

-- ---- pieces

module _ (step : Step) (z : Sized step) (size : ℕ) where
  abbrev u : ℕ
  u = step.width

  module _ (k : Kept) where
    -- n units, and then m of what is left and more
    took_on : (n m : ℕ) (a y : List ℕ) → u * n ≤ length a
        → joined (took step size k n a) (took step size (took step size k n a).kept m (drop (u * n) a ++ y)) ≡ took step size k (n + m) (a ++ y)
    unfolding took
    took_on n m a y h =
        let r : Step = onward step k in
        let q : Step = resumed (k.done + n) (before r n a) step in
        let w : List ℕ = drop (u * n) a ++ y in
        let room : ℕ = size - u * k.done in
        let on : resumed n (before r n (a ++ y)) r ≡ q =
        ap (λ (p : List ℕ). resumed n p r) (before_front r n a y h) ∙ resumed_again k.done n k.last (before r n a) step in
        let left : drop (u * n) (a ++ y) ≡ w = drop-append-le (u * n) a y h in
        let last : before q m w ≡ before r (n + m) (a ++ y) =
        sym (ap₂ (λ (g : Step) (x : List ℕ). before g m x) on left) ∙ before_drop r n m (a ++ y) in
        let rest : drop (u * m) w ≡ drop (u * (n + m)) (a ++ y) =
        ap (drop (u * m)) (sym left) ∙ drop-drop (u * m) (u * n) (a ++ y) ∙ ap (λ (j : ℕ). drop j (a ++ y)) (sym (mul-add u n m)) in
        let both : open_units r (n + m) (a ++ y) ≡ open_units r n a ++ open_units q m w =
        open_split r n m (a ++ y) ∙ ap₂ ◌++◌ (open_front r n a y h) (ap₂ (λ (g : Step) (x : List ℕ). open_units g m x) on left) in
        let less : room - length (open_units r n a) ≡ size - u * (k.done + n) =
        omega (arith, length_open r (resumed_sized step z k.done k.last) a n) in
        let out : take room (open_units r (n + m) (a ++ y)) ≡ take room (open_units r n a) ++ take (size - u * (k.done + n)) (open_units q m w) =
        ap (take room) both ∙ take_both room (open_units r n a) (open_units q m w)
        ∙ ap (λ (j : ℕ). take room (open_units r n a) ++ take j (open_units q m w)) less in
        λ i. gave (add_assoc k.done n m i) (last i) (rest i) (sym out i)

    -- two pieces, and one that is both
    pub fed_fed : (x y : List ℕ) → joined (fed step size k x) (fed step size (fed step size k x).kept y) ≡ fed step size k (x ++ y)
    unfolding fed took
    fed_fed x y =
        let a : List ℕ = k.rest ++ x in
        let n : ℕ = length a / u in
        let w : List ℕ = drop (u * n) a ++ y in
        let less : u * n ≤ length a = mul-div-le (length a) u in
        let same : a ++ y ≡ k.rest ++ (x ++ y) = append_assoc k.rest x y in
        let long : u * n + length w ≡ length (k.rest ++ (x ++ y)) =
        omega (arith, length-append (drop (u * n) a) y, length-drop (u * n) a, length-append a y, ap length same) in
        let count : n + length w / u ≡ length (k.rest ++ (x ++ y)) / u =
        sym (mul-add-div z.some n (length w)) ∙ ap (λ (j : ℕ). j / u) long in
        took_on n (length w / u) a y less ∙ ap₂ (took step size k) count same

    -- no bytes
    fed_nothing : length k.rest < u → fed step size k [] ≡ record { kept = k; out = [] }
    unfolding fed took open_units before
    fed_nothing h =
        rw (append-nil k.rest, div-eq_of_lt h, mul-zero u, add-zero k.done, take-nil (size - u * k.done))

    -- less than a unit is left
    pub rest_short : (x : List ℕ) → length (fed step size k x).kept.rest < u
    unfolding fed took
    rest_short x =
        let a : List ℕ = k.rest ++ x in
        omega (arith, length-drop (u * (length a / u)) a, lt-mul-div-succ (length a) z.some, mul-div-le (length a) u)

    -- room for a piece: its own length, and what was left
    pub fed_room : (x : List ℕ) → length k.rest < u → length (fed step size k x).out ≤ length x + (u - 1)
    unfolding fed took
    fed_room x h =
        let a : List ℕ = k.rest ++ x in
        let n : ℕ = length a / u in
        let out : List ℕ = open_units (onward step k) n a in
        let long : length out ≡ u * n = length_open (onward step k) (resumed_sized step z k.done k.last) a n in
        omega (arith, length-take (size - u * k.done) out, mul-div-le (length a) u, length-append k.rest x)

  -- pieces, and one that is all of them
  pub feeds_all : (k : Kept) (pieces : List (List ℕ)) → length k.rest < u → feeds step size k pieces ≡ fed step size k (flatten pieces)
  unfolding feeds flatten
  feeds_all k [] h = sym (fed_nothing k h)
  feeds_all k (p ∷ ps) h =
      ap (joined (fed step size k p)) (feeds_all (fed step size k p).kept ps (rest_short k p)) ∙ fed_fed k p (flatten ps)

  -- ---- from the start

  -- a stream in one piece
  fed_whole : (x : List ℕ)
      → fed step size (begun step) x ≡ gave (length x / u) (before step (length x / u) x) (drop (u * (length x / u)) x) (take size (open_all step x))
  unfolding fed took begun open_all
  fed_whole x =
      let n : ℕ = length x / u in
      let all : size - u * 0 ≡ size = omega arith in
      λ i. gave (zero-add n i) (before (resumed_none step i) n x) (drop (u * n) x) (take (all i) (open_units (resumed_none step i) n x))

  module _ (pieces : List (List ℕ)) where
    abbrev x : List ℕ
    x = flatten pieces

    fed_all : feeds step size (begun step) pieces
        ≡ gave (length x / u) (before step (length x / u) x) (drop (u * (length x / u)) x) (take size (open_all step x))
    unfolding begun
    fed_all = feeds_all (begun step) pieces z.some ∙ fed_whole x

    -- the state after pieces, whatever the cutting
    pub kept_all : (feeds step size (begun step) pieces).kept
        ≡ record { done = length x / u; last = before step (length x / u) x; rest = drop (u * (length x / u)) x }
    kept_all = ap (λ (f : Fed). f.kept) fed_all

    -- what was handed out
    pub handed_whole : (feeds step size (begun step) pieces).out ≡ take size (open_all step x)
    handed_whole = ap (λ (f : Fed). f.out) fed_all

    -- it is the first of what the stream gives that goes on with later bytes, up to the last whole unit
    pub handed_out : (later : List ℕ) → (feeds step size (begun step) pieces).out ≡ take size (take (u * (length x / u)) (open_all step (x ++ later)))
    handed_out later = handed_whole ∙ ap (take size) (open_prefix step z x later)

    -- every byte, where a unit is one
    pub handed_bytes : (later : List ℕ) → u ≡ 1 → (feeds step size (begun step) pieces).out ≡ take size (take (length x) (open_all step (x ++ later)))
    handed_bytes later e =
        let all : u * (length x / u) ≡ length x = rw (e, div-one, one-mul) in
        handed_out later ∙ ap (λ (n : ℕ). take size (take n (open_all step (x ++ later)))) all
