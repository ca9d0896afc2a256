-- What the rules 13 to 16 say of a stream and of a package: none of them is broken exactly where their numbers fit and there is room.
-- Assumes nothing.
use mathlib.Core.Path.{◌≡◌, sym, ◌∙◌}
use mathlib.Core.Bool.{Bool}
use mathlib.Core.List.{List, [], ◌∷◌}
use mathlib.Core.Logic.{◌↔◌}
use Prim.Native.Nat.{ℕ, ◌-◌, ◌*◌, ◌/◌, ◌≤◌}
use native.Mathlib.Omega.{arith}
use lib.ListN.{length, drop, length-drop}
use Rattle.octets.specs.Octets.{Bytes}
use Rattle.answers.specs.Rules.{first_of, after, room_rules, numbers}
use Rattle.answers.proofs.Laws.{in_turn, then, both_zero, numbers_both, room_numbers, roomy}
use Rattle.lengths.specs.Lengths.{stream_size, package_limit, sealed_size, length_rules, size_rules}
use Rattle.lengths.proofs.Fillings.{rounded_whole, allowed_rounded}
use Rattle.lengths.proofs.Rules.{Fitting, fitting, fitting_holds, fitting_filling, lengths_numbered, length_numbers, limited, size_numbered, size_numbers}
use Rattle.sheet.specs.Frame.{AdmittedStream}
use Rattle.sheet.specs.Sheet.{lengths, stream_rules, package_rules}

-- ---- the rules of opening

pub record Openable (s : List ℕ) (room : ℕ) : Type 0 where
  pub fits : Fitting (length s) (stream_size s)
  pub roomy : stream_size s ≤ room

module _ (s : List ℕ) (room : ℕ) where
  pub stream_numbers : numbers (stream_rules s room) ≡ 13 ∷ 14 ∷ 15 ∷ 16 ∷ []
  unfolding stream_rules
  stream_numbers =
      numbers_both (length_rules (length s) (stream_size s)) (room_rules room (stream_size s)) ∙ rw (length_numbers (length s) (stream_size s), room_numbers room (stream_size s))

  -- the lengths decide, and after them the room
  pub stream_in_turn : first_of (stream_rules s room) ≡ after (first_of (length_rules (length s) (stream_size s))) (first_of (room_rules room (stream_size s)))
  unfolding stream_rules
  stream_in_turn = in_turn (length_rules (length s) (stream_size s)) (room_rules room (stream_size s)) (lengths_numbered _ _)

  to_openable : first_of (stream_rules s room) ≡ 0 → Openable s room
  unfolding stream_rules
  to_openable h =
      let z = both_zero (length_rules (length s) (stream_size s)) (room_rules room (stream_size s)) (lengths_numbered _ _) h in
      record { fits = (fitting (length s) (stream_size s)).0 z.0; roomy = (roomy room (stream_size s)).0 z.1 }

  of_openable : Openable s room → first_of (stream_rules s room) ≡ 0
  unfolding stream_rules
  of_openable k =
      then (length_rules (length s) (stream_size s)) (room_rules room (stream_size s)) (lengths_numbered _ _) ((fitting (length s) (stream_size s)).1 k.fits)
      ∙ (roomy room (stream_size s)).1 k.roomy

  pub openable : (first_of (stream_rules s room) ≡ 0) ↔ Openable s room
  openable = (λ h. to_openable h, λ k. of_openable k)

-- its whole blocks hold the package
pub openable_blocks : (s : List ℕ) (room : ℕ) → Openable s room → stream_size s ≤ 16 * (length (drop 8 s) / 16)
openable_blocks s room k =
    let n : length (drop 8 s) ≡ length s - 8 = length-drop 8 s in
    let r = allowed_rounded (stream_size s) (length s - 8) k.fits.long in
    omega (arith, r.1, rounded_whole r.0 (stream_size s), fitting_holds _ _ k.fits)

-- a stream of bytes that opens is admitted, and an admitted one opens where there is room
module _ (s : List ℕ) (room : ℕ) where
  pub openable_admitted : Bytes s → Openable s room → AdmittedStream lengths s
  unfolding lengths
  openable_admitted b k =
      let e : stream_size s ≤ length s - 8 = fitting_holds _ _ k.fits in
      record {
        bytes = b;
        headed = k.fits.headed;
        limited = k.fits.limited;
        enough = e;
        filled = sym (fitting_filling _ _ e) ∙ k.fits.long;
      }

  pub admitted_openable : AdmittedStream lengths s → stream_size s ≤ room → Openable s room
  unfolding lengths
  admitted_openable a r =
      record {
        fits = record { headed = a.headed; limited = a.limited; long = fitting_filling _ _ a.enough ∙ a.filled };
        roomy = r;
      }

-- ---- the rules of sealing

pub record Sealable (extra : Bool) (size room : ℕ) : Type 0 where
  pub limited : size ≤ package_limit
  pub roomy : sealed_size extra size ≤ room

module _ (extra : Bool) (size room : ℕ) where
  pub package_numbers : numbers (package_rules extra size room) ≡ 14 ∷ 16 ∷ []
  unfolding package_rules
  package_numbers = numbers_both (size_rules size) (room_rules room (sealed_size extra size)) ∙ rw (size_numbers size, room_numbers room (sealed_size extra size))

  to_sealable : first_of (package_rules extra size room) ≡ 0 → Sealable extra size room
  unfolding package_rules
  to_sealable h =
      let z = both_zero (size_rules size) (room_rules room (sealed_size extra size)) (size_numbered _) h in
      record { limited = (limited size).0 z.0; roomy = (roomy room (sealed_size extra size)).0 z.1 }

  of_sealable : Sealable extra size room → first_of (package_rules extra size room) ≡ 0
  unfolding package_rules
  of_sealable k =
      then (size_rules size) (room_rules room (sealed_size extra size)) (size_numbered _) ((limited size).1 k.limited)
      ∙ (roomy room (sealed_size extra size)).1 k.roomy

  pub sealable : (first_of (package_rules extra size room) ≡ 0) ↔ Sealable extra size room
  sealable = (λ h. to_sealable h, λ k. of_sealable k)
