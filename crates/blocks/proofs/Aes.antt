-- AES as a stream's step: under any key of bytes both modes undo themselves, and give sixteen bytes whatever they take; and the one step
-- that the code takes is the mode's. Assumes nothing.
use mathlib.Core.Path.{◌≡◌, refl, ap, ap₂, ◌∙◌}
use mathlib.Core.Bool.{true, false}
use mathlib.Core.List.{List}
use Prim.Native.Nat.{ℕ, ◌≤◌, ◌<◌}
use native.Mathlib.Omega.{arith}
use lib.ListN.{length, take, replicate}
use lib.Seq.{paste, take_all}
use Rattle.octets.specs.Octets.{Bytes}
use Rattle.octets.proofs.Parts.{paste_whole}
use Rattle.fips197.specs.Cipher.{round_key, cipher, inv_cipher}
use Rattle.fips197.specs.Expansion.{rounds_for}
use Rattle.fips197.proofs.States.{length_add_round_key, add_round_key_bytes, unadd, told_by_sum}
use Rattle.fips197.proofs.Undo.{length_cipher, length_inv_cipher}
use Rattle.aes.specs.Aes.{key_length, encryption, decryption, expanded, expanded_of}
use Rattle.aes.specs.declared.Expanded.{Expanded}
use Rattle.aes.specs.declared.round_keys.RoundKeys.{RoundKeys}
use Rattle.aes.proofs.Keys.{fits, expanded_fit, cipher_expanded, inv_cipher_expanded, decryption_encryption, encryption_decryption, length_encryption, length_decryption, encryption_bytes, decryption_bytes}
use Rattle.steps.specs.Steps.{Step, Starts, Sized, Reverses}
use Rattle.steps.specs.Ecb.{ecb, Blocks}
use Rattle.steps.specs.Chained.{begins, link, chained, Sum}
use Rattle.steps.proofs.Made.{resumed_none, resumed_sized}
use Rattle.steps.proofs.Ecb.{ecb_starts, ecb_sized, ecb_reverses}
use Rattle.steps.proofs.Chained.{chained_starts, chained_tells, chained_sized, chained_reverses}
use Rattle.segments.specs.Start.{start_of}
use Rattle.segments.proofs.Vectors.{start_bytes}
use Rattle.blocks.specs.Blocks.{ecb_under, chained_under, xored, with_link, mode_step, step_by, step_from, stream_start}
use Rattle.blocks.specs.declared.Mode.{Mode}
use Rattle.blocks.specs.declared.Mode.TheVariants.{Ecb, Chained}
use Rattle.blocks.specs.declared.Place.{Place}

-- ---- a mode's step

xor_sum : Sum xored
xor_sum = record { long = length_add_round_key; bytes = add_round_key_bytes; undo = unadd }

length_linked : (m : Mode) (i : ℕ) (p x : List ℕ) → length (with_link m i p x) ≡ length x
unfolding with_link
length_linked Ecb i p x = refl
length_linked (Chained salt size) i p x = length_add_round_key x (link (start_of salt) size i p)

module _ (f g : List ℕ → List ℕ) where
  -- it is ECB, or chaining in segments
  pub mode_ecb : mode_step Ecb f g ≡ ecb f g
  unfolding mode_step with_link ecb
  mode_ecb = refl

  pub mode_chained : (salt : List ℕ) (size : ℕ) → mode_step (Chained salt size) f g ≡ chained f g xored (start_of salt) size
  unfolding mode_step with_link chained
  mode_chained salt size = refl

  mode_sized : (m : Mode) → ((x : List ℕ) → length (f x) ≡ 16) → ((x : List ℕ) → length (g x) ≡ 16) → Sized (mode_step m f g)
  unfolding mode_step
  mode_sized m a b =
      record {
        some = omega arith;
        there = λ i p x. a (with_link m i p x);
        back = λ i p x. length_linked m i p (g x) ∙ b x;
      }

-- the step that the code takes: blocks of sixteen bytes, before the first of which stand zeros
module _ (m : Mode) (w : List ℕ) (rounds : ℕ) where
  pub by_width : (step_by m w rounds).width ≡ 16
  unfolding step_by mode_step
  by_width = refl

  pub by_first : (step_by m w rounds).first ≡ replicate 16 0
  unfolding step_by mode_step
  by_first = refl

  pub by_sized : Sized (step_by m w rounds)
  unfolding step_by
  by_sized =
      mode_sized (cipher (round_key w) rounds) (inv_cipher (round_key w) rounds) m (length_cipher (round_key w) rounds) (length_inv_cipher (round_key w) rounds)

  -- from any place on too
  pub from_sized : (p : Place) → Sized (step_from p m w rounds)
  from_sized p = resumed_sized (step_by m w rounds) by_sized p.number p.before

  -- and taken up at the start it is the same
  pub from_start : step_from stream_start m w rounds ≡ step_by m w rounds
  unfolding step_by mode_step
  from_start = resumed_none (step_by m w rounds)

-- ---- under a key

module _ (k : List ℕ) where
  pub under_width : (ecb_under k).width ≡ 16
  unfolding ecb_under ecb
  under_width = refl

  -- each block is opened without a look at the one before it
  pub under_starts : (i : ℕ) → Starts (ecb_under k) i
  unfolding ecb_under
  under_starts = ecb_starts (encryption k) (decryption k)

  pub under_sized : Sized (ecb_under k)
  unfolding ecb_under
  under_sized = ecb_sized (encryption k) (decryption k) (length_encryption k) (length_decryption k)

  module _ (salt : List ℕ) (size : ℕ) where
    pub chained_width : (chained_under k salt size).width ≡ 16
    unfolding chained_under chained
    chained_width = refl

    -- a block is opened without a look at the one before it where a segment begins with it
    pub chained_under_starts : (i : ℕ) → begins size i ≡ true → Starts (chained_under k salt size) i
    unfolding chained_under
    chained_under_starts = chained_starts (encryption k) (decryption k) xored (start_of salt) size

    -- and elsewhere tells it
    pub chained_under_tells : (i : ℕ) → begins size i ≡ false → (p q x : List ℕ) → length p ≡ 16 → length q ≡ 16
        → (chained_under k salt size).back i p x ≡ (chained_under k salt size).back i q x → p ≡ q
    unfolding chained_under
    chained_under_tells = chained_tells (encryption k) (decryption k) xored (start_of salt) size told_by_sum (length_decryption k)

    pub chained_under_sized : Sized (chained_under k salt size)
    unfolding chained_under
    chained_under_sized =
        chained_sized (encryption k) (decryption k) xored (start_of salt) size xor_sum (length_encryption k) (length_decryption k)

  module _ (b : Bytes k) where
    encrypts : Blocks (encryption k) (decryption k)
    encrypts =
        record {
          long = length_encryption k;
          bytes = λ x w. encryption_bytes k x b w.bytes;
          undo = decryption_encryption k;
        }

    decrypts : Blocks (decryption k) (encryption k)
    decrypts =
        record {
          long = length_decryption k;
          bytes = λ x w. decryption_bytes k x b w.bytes;
          undo = encryption_decryption k;
        }

    pub under_reverses : Reverses (ecb_under k)
    unfolding ecb_under
    under_reverses = ecb_reverses (encryption k) (decryption k) encrypts decrypts

    pub chained_under_reverses : (salt : List ℕ) (size : ℕ) → Reverses (chained_under k salt size)
    unfolding chained_under
    chained_under_reverses salt size =
        chained_reverses (encryption k) (decryption k) xored (start_of salt) size xor_sum encrypts decrypts (start_bytes salt)

  -- ---- under the expanded key

  module _ (t : key_length (length k) ≡ true) where
    -- the rounds are some, and have keys in 240 bytes
    pub expanded_rounds : (0 < (expanded k).rounds) × ((expanded k).rounds ≤ 14)
    unfolding rounds_for
    expanded_rounds =
        let e = ap (λ (x : Expanded). x.rounds) (expanded_fit k t) in
        let h = (fits k t).most in
        (omega arith, omega arith)

    module _ (m : Mode) where
      by_expanded : step_by m (expanded k).bytes (expanded k).rounds ≡ mode_step m (encryption k) (decryption k)
      unfolding step_by
      by_expanded = ap₂ (mode_step m) (λ i b. cipher_expanded k b t i) (λ i b. inv_cipher_expanded k b t i)

      -- a stream taken up at its start
      started : (e : RoundKeys) (p : Place) → expanded_of e ≡ expanded k → p ≡ stream_start → step_from p m e.bytes e.rounds ≡ mode_step m (encryption k) (decryption k)
      started e p q s =
          ap (λ (x : Place). step_from x m e.bytes e.rounds) s
          ∙ from_start m e.bytes e.rounds
          ∙ ap (λ (x : Expanded). step_by m x.bytes x.rounds) q
          ∙ by_expanded

    module _ (e : RoundKeys) (p : Place) (q : expanded_of e ≡ expanded k) (s : p ≡ stream_start) where
      pub ecb_started : step_from p Ecb e.bytes e.rounds ≡ ecb_under k
      unfolding ecb_under
      ecb_started = started Ecb e p q s ∙ mode_ecb (encryption k) (decryption k)

      pub chained_started : (salt : List ℕ) (size : ℕ) → step_from p (Chained salt size) e.bytes e.rounds ≡ chained_under k salt size
      unfolding chained_under
      chained_started salt size = started (Chained salt size) e p q s ∙ mode_chained (encryption k) (decryption k) salt size

-- what either way lays under a step, over the whole of a buffer
pub laid_under : (way : Step → List ℕ → List ℕ) (code step : Step) (n : ℕ) (d s x : List ℕ) → code ≡ step → length d ≡ n
    → length (way step s) ≡ n → x ≡ paste d 0 (way code s) n → x ≡ way step s
laid_under way code step n d s x e ld long laid =
    laid ∙ paste_whole d (way code s) n ld ∙ ap (λ (z : Step). take n (way z s)) e ∙ take_all n (way step s) (omega arith)
