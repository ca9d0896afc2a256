-- A verdict of 0 comes with the key: the step under it undoes itself, so sealing and opening are each other's inverse. Assumes nothing.
use mathlib.Core.Path.{◌≡◌, sym, ap, ◌∙◌}
use mathlib.Core.Logic.{◌⊎◌, inl, inr}
use mathlib.Core.Bool.{Bool, true, false}
use mathlib.Core.List.{List}
use Prim.Native.Nat.{ℕ, ◌%◌, ◌*◌, ◌/◌}
use borrow.Author.Tests.{eq-eqb}
use lib.Dec.{lit<}
use lib.ListN.{length}
use Rattle.std.specs.Prelude.{Ok}
use Rattle.octets.specs.Octets.{Bytes}
use Rattle.aes.specs.Aes as Aes
use Rattle.aes.specs.Aes.{key_length, expanded}
use Rattle.steps.specs.Steps.{Starts, Sized, Reverses, whole}
use Rattle.steps.specs.Chained.{begins}
use Rattle.steps.proofs.Made.{length_open_all, length_seal_all}
use Rattle.steps.proofs.Inverse.{step_reversible}
use Rattle.blocks.specs.Blocks.{step_from, stream_start}
use Rattle.blocks.specs.declared.Mode.{Mode}
use Rattle.blocks.specs.declared.Place.{Place}
use Rattle.descriptor.proofs.Laws as descriptor
use Rattle.password.specs.Lock.{Lock, descriptor_of}
use Rattle.password.specs.Verdict.{Unlocked, judged, unlocked, unlocked_of}
use Rattle.password.specs.declared.Unlocked as Given
use Rattle.password.proofs.Laws as password
use Rattle.lengths.specs.Lengths.{package_limit}
use Rattle.lengths.proofs.Fillings.{allowed_whole}
use Rattle.sheet.specs.Frame.{Sound, OneToOne}
use Rattle.sheet.specs.Scheme.{mode_of}
use Rattle.sheet.specs.Sheet.{lengths, sheet_key, sheet_step, sealing, opening}
use Rattle.sheet.proofs.Frame.{inverse}
use Rattle.sheet.proofs.Scheme.{step_width, step_sized, step_reverses, step_cut, step_tells, mode_started}

module _ (lock : Lock) where
  pub key_bytes_lem : Bytes (sheet_key lock)
  unfolding sheet_key
  key_bytes_lem = password.key_bytes_lem (descriptor_of lock) lock.password

  -- ---- demand 3's instance of the frame

  -- a ciphertext is whole units
  abbrev pub units : (size n : ℕ) → Bool
  units size n = whole (sheet_step lock size).width n

  module _ (size : ℕ) where
    pub sheet_width : (sheet_step lock size).width ≡ 16
    unfolding sheet_step
    sheet_width = step_width (descriptor_of lock) (sheet_key lock) size

    pub sheet_sized : Sized (sheet_step lock size)
    unfolding sheet_step
    sheet_sized = step_sized (descriptor_of lock) (sheet_key lock) size

    pub sheet_reverses : Reverses (sheet_step lock size)
    unfolding sheet_step
    sheet_reverses = step_reverses (descriptor_of lock) (sheet_key lock) size key_bytes_lem

    -- a block is opened without a look at the one before it, or it is linked to it, and then tells it
    pub sheet_cut : (i : ℕ) → Starts (sheet_step lock size) i ⊎ ((lock.scheme ≡ 2) × (begins size i ≡ false))
    unfolding sheet_step
    sheet_cut i =
        elim (step_cut (descriptor_of lock) (sheet_key lock) size i) [
          | inl b ↦ inl b
          | inr b ↦ inr (sym (descriptor.scheme_given lock.info lock.scheme) ∙ b.0, b.1)
        ]

    pub sheet_tells : (i : ℕ) → lock.scheme ≡ 2 → begins size i ≡ false → (p q x : List ℕ) → length p ≡ 16 → length q ≡ 16
        → (sheet_step lock size).back i p x ≡ (sheet_step lock size).back i q x → p ≡ q
    unfolding sheet_step
    sheet_tells i e = step_tells (descriptor_of lock) (sheet_key lock) size i (descriptor.scheme_given lock.info lock.scheme ∙ e)

    pub length_sealed : (s : List ℕ) → length (sealing lock size s) ≡ 16 * (length s / 16)
    unfolding sealing
    length_sealed s = length_seal_all (sheet_step lock size) sheet_sized s ∙ rw sheet_width

    pub length_opened : (s : List ℕ) → length (opening lock size s) ≡ 16 * (length s / 16)
    unfolding opening
    length_opened s = length_open_all (sheet_step lock size) sheet_sized s ∙ rw sheet_width

    fitting : (n : ℕ) → n % 16 ≡ 0 → units size n ≡ true
    unfolding whole
    fitting n h = rw sheet_width (eq-eqb (n % 16) 0 h)

  pub sound : Sound lengths units (sealing lock) (opening lock)
  unfolding lengths package_limit sealing opening
  sound =
      record {
        reversible = λ size. step_reversible (sheet_step lock size) (sheet_reverses size);
        fitting = λ size n h e. fitting size _ (allowed_whole size n e);
        held = lit< tt;
      }

  pub inverted : OneToOne lengths (sealing lock) (opening lock)
  inverted = inverse lengths units (sealing lock) (opening lock) sound

  -- ---- the key as `unlock` gives it

  module _ (u : Given.Unlocked) (e : unlocked_of (Ok u) ≡ unlocked lock) where
    accepted : judged lock ≡ 0
    accepted = password.unlocked_zero lock u e

    key_fits : key_length (length (sheet_key lock)) ≡ true
    unfolding sheet_key
    key_fits = password.key_fits (descriptor_of lock) lock.password (descriptor.well_formed lock.info lock.scheme (password.admitted lock accepted))

    is : Aes.expanded_of u.key ≡ expanded (sheet_key lock)
    unfolding sheet_key
    is = ap (λ (r : Unlocked). r.key) e ∙ password.unlocked_key lock accepted

    -- taken up at its start, a stream's step is the one of the scheme and the key, for every size
    pub step_under : (m : Mode) (p : Place) (size : ℕ) → m ≡ mode_of u.fields size → p ≡ stream_start
        → step_from p m u.key.bytes u.key.rounds ≡ sheet_step lock size
    unfolding sheet_step
    step_under m p size h s =
        let d : u.fields ≡ descriptor_of lock = ap (λ (r : Unlocked). r.fields) e ∙ password.unlocked_fields lock accepted in
        rw (h, d) (mode_started (descriptor_of lock) (sheet_key lock) size key_fits u.key p is s)
