-- A unit laid right after the units before it: so a loop that lays unit after unit lays the stream. Assumes nothing.
use mathlib.Core.Path.{◌≡◌, sym, ap, ap₂, ◌∙◌}
use mathlib.Core.List.{List}
use Prim.Native.Nat.{ℕ, suc, ◌+◌, ◌*◌, ◌≤◌, ◌<◌}
use native.Mathlib.Omega.{arith}
use lib.ListN.{length, take, drop}
use lib.Seq.{paste, take-take}
use Rattle.octets.proofs.Parts.{paste_on}
use Rattle.steps.specs.Steps.{unit, Step, before, open_units, seal_units, Sized}
use Rattle.steps.proofs.Units.{unit_ends, length_unit}
use Rattle.steps.proofs.Made.{before_next, length_open, length_seal, unit_open, unit_seal}

-- m bytes of unit k of s go to their place
pub lay : (u n k i m at end : ℕ) (s d out next y : List ℕ) → length s ≡ u * n → k < n → u * k ≡ i → m ≤ u → at + i ≡ end → end ≤ length d
    → y ≡ unit u k s → out ≡ paste d at s i → next ≡ paste out end y m → next ≡ paste d at s (i + m)
unfolding unit
lay u n k i m at end s d out next y long hk hi hm he hd ey eo en =
    let ends : u * k + u ≤ u * n = unit_ends u hk in
    let ly : length y ≡ u = ap length ey ∙ length_unit u k s (omega arith) in
    let cut : take m y ≡ take m (drop i s) = ap (take m) ey ∙ take-take m u (drop (u * k) s) hm ∙ rw hi in
    en ∙ ap (λ (l : List ℕ). paste l end y m) eo ∙ paste_on d s y at i m end (omega arith) (omega arith) he hd cut

module _ (step : Step) (z : Sized step) where
  abbrev u : ℕ
  u = step.width

  -- a turn of opening: x is unit k, and p the cipher unit before it
  pub open_turn : (n k i m at end : ℕ) (s d out next y p x : List ℕ) → k < n → u * k ≡ i → m ≤ u → at + i ≡ end → end ≤ length d
      → x ≡ unit u k s → p ≡ before step k s → y ≡ step.back k p x → out ≡ paste d at (open_units step n s) i → next ≡ paste out end y m
      → next ≡ paste d at (open_units step n s) (i + m)
  open_turn n k i m at end s d out next y p x hk hi hm he hd ex ep ey =
      lay u n k i m at end (open_units step n s) d out next y (length_open step z s n) hk hi hm he hd
      (ey ∙ ap₂ (step.back k) ep ex ∙ sym (unit_open step z s k n hk))

  -- what a turn of sealing makes: x is unit k, and p the unit that was sealed last
  pub seal_unit : (n k : ℕ) (s y p x : List ℕ) → k < n → x ≡ unit u k s → p ≡ before step k (seal_units step n s) → y ≡ step.there k p x
      → y ≡ unit u k (seal_units step n s)
  seal_unit n k s y p x hk ex ep ey = ey ∙ ap₂ (step.there k) ep ex ∙ sym (unit_seal step z s k n hk)

  pub seal_turn : (n k i m at end : ℕ) (s d out next y p x : List ℕ) → k < n → u * k ≡ i → m ≤ u → at + i ≡ end → end ≤ length d
      → x ≡ unit u k s → p ≡ before step k (seal_units step n s) → y ≡ step.there k p x → out ≡ paste d at (seal_units step n s) i
      → next ≡ paste out end y m → next ≡ paste d at (seal_units step n s) (i + m)
  seal_turn n k i m at end s d out next y p x hk hi hm he hd ex ep ey =
      lay u n k i m at end (seal_units step n s) d out next y (length_seal step z s n) hk hi hm he hd (seal_unit n k s y p x hk ex ep ey)

  -- and it is the last one for the next turn
  pub seal_last : (n k : ℕ) (s y p x : List ℕ) → k < n → x ≡ unit u k s → p ≡ before step k (seal_units step n s) → y ≡ step.there k p x
      → y ≡ before step (suc k) (seal_units step n s)
  seal_last n k s y p x hk ex ep ey = seal_unit n k s y p x hk ex ep ey ∙ sym (before_next step k (seal_units step n s))
