-- Each buffer is filled part by part, and what it holds in the end is the list of the definitions. Assumes nothing.
use mathlib.Core.Path.{◌≡◌, refl, ap, ◌∙◌}
use mathlib.Core.Bool.{true}
use mathlib.Core.List.{List, [], ◌∷◌, ◌++◌, flat_map, append-nil, append_assoc}
use Prim.Native.Nat.{ℕ, ◌+◌, ◌-◌}
use native.Mathlib.Omega.{arith}
use lib.ListN.{length, take, drop, replicate, length-drop}
use lib.Seq.{paste, take_at, take-take, length-take-le}
use Rattle.octets.specs.Octets.{le_bytes, zero_from}
use Rattle.octets.proofs.Numbers.{length_le_bytes}
use Rattle.octets.proofs.Filled.{none, more, more_le, whole, zeroed}
use Rattle.octets.proofs.Each.{length_each}
use Rattle.answers.specs.Rules.{first_of}
use Rattle.answers.specs.Ended.{left, reply}
use Rattle.sha1_digest.specs.Sha1.{sha1}
use Rattle.sha1_digest.proofs.Laws.{length_sha1}
use Rattle.aes.specs.Aes as Aes
use Rattle.aes.specs.Aes.{key_length, expanded}
use Rattle.aes.specs.declared.round_keys.RoundKeys.{RoundKeys}
use Rattle.steps.specs.Steps.{seal_all}
use Rattle.steps.proofs.Made.{length_seal_all}
use Rattle.blocks.specs.Blocks.{ecb_under, step_from, stream_start}
use Rattle.blocks.specs.declared.Mode.TheVariants.{Ecb}
use Rattle.blocks.specs.declared.Place.{Place}
use Rattle.blocks.proofs.Aes.{under_width, under_sized, ecb_started, laid_under}
use Rattle.descriptor.specs.Info.{alg_id_of}
use Rattle.descriptor.specs.LaidOut as LaidOut
use Rattle.password.specs.Verifier.{verifier_sealing, verifier_plain, verifier_field, hash_field}
use Rattle.writer.specs.Written as Written
use Rattle.writer.proofs.Laws.{new_key, writable, write_done}

-- ---- the numbers before the name

-- the version, and the ten numbers after it
pub front_laid : (bits n alg : ℕ) (k name salt v filling rest b₁ b₂ b₃ : List ℕ) → length name ≡ n → alg ≡ alg_id_of bits
    → rest ≡ flat_map (le_bytes 4) (0x24 ∷ (32 + n) ∷ 0x24 ∷ 0 ∷ alg ∷ 0x8004 ∷ bits ∷ 24 ∷ 0 ∷ 0 ∷ [])
    → b₁ ≡ paste (replicate 44 0) 0 (le_bytes 2 3) 2 → b₂ ≡ paste b₁ 2 (le_bytes 2 2) 2 → b₃ ≡ paste b₂ 4 rest 40
    → b₃ ≡ LaidOut.front (Written.new_fields bits k name salt v filling)
unfolding LaidOut.front Written.new_fields
front_laid bits n alg k name salt v filling rest b₁ b₂ b₃ l a r e₁ e₂ e₃ =
    let versions = more_le 2 2 40 2 b₂ (more_le 0 2 42 3 b₁ (none (replicate 44 0) 44 refl) e₁) e₂ in
    whole (more 4 40 0 rest b₃ versions (ap length r ∙ length_each (le_bytes 4) (length_le_bytes 4) _) e₃) ∙ rw (r, a, l)

-- ---- EncryptionVerifier

pub plain_laid : (digest v filling b₁ b₂ b₃ : List ℕ) → digest ≡ sha1 v → length v ≡ 16 → length filling ≡ 12 → b₁ ≡ paste (replicate 48 0) 0 v 16
    → b₂ ≡ paste b₁ 16 digest 20 → b₃ ≡ paste b₂ 36 filling 12 → b₃ ≡ verifier_plain v filling
unfolding verifier_plain
plain_laid digest v filling b₁ b₂ b₃ d lv lf e₁ e₂ e₃ =
    let first = more 0 16 32 v b₁ (none (replicate 48 0) 48 refl) lv e₁ in
    let hash = more 16 20 12 (sha1 v) b₂ first (length_sha1 v) (rw d at e₂) in
    whole (more 36 12 0 filling b₃ hash lf e₃) ∙ append_assoc v (sha1 v) filling

-- 48 bytes encrypted into as many
pub sealed_laid : (key : RoundKeys) (p : Place) (k s rest x : List ℕ) → key_length (length k) ≡ true → Aes.expanded_of key ≡ expanded k
    → p ≡ stream_start → length s ≡ 48 → x ≡ paste (replicate 48 0) 0 (seal_all (step_from p Ecb key.bytes key.rounds) (take 48 (s ++ rest))) 48
    → x ≡ verifier_sealing k s
unfolding verifier_sealing
sealed_laid key p k s rest x t q h l e =
    laid_under seal_all (step_from p Ecb key.bytes key.rounds) (ecb_under k) 48 (replicate 48 0) s x
    (ecb_started k t key p q h) refl (length_seal_all (ecb_under k) (under_sized k) s ∙ rw (under_width k, l))
    (rw (take_at s rest 48 l) at e)

-- a part of the fields
part_laid : (s x y : List ℕ) (at n : ℕ) → y ≡ paste x at s n → y ≡ paste x at (take n s) n
part_laid s x y at n e = e ∙ rw (take-take n n s (omega arith))

module _ (k : List ℕ) (bits : ℕ) (name salt v filling : List ℕ) (ls : length salt ≡ 16) where
  pub verifier_laid : (fields b₁ b₂ b₃ b₄ b₅ : List ℕ) → length fields ≡ 48 → fields ≡ verifier_sealing k (verifier_plain v filling)
      → b₁ ≡ paste (replicate 72 0) 0 (le_bytes 4 16) 4 → b₂ ≡ paste b₁ 4 salt 16 → b₃ ≡ paste b₂ 20 fields 16 → b₄ ≡ paste b₃ 36 (le_bytes 4 20) 4
      → b₅ ≡ paste b₄ 40 (drop 16 fields) 32 → b₅ ≡ LaidOut.verifier (Written.new_fields bits k name salt v filling)
  unfolding LaidOut.verifier Written.new_fields verifier_field hash_field
  verifier_laid fields b₁ b₂ b₃ b₄ b₅ l q e₁ e₂ e₃ e₄ e₅ =
      let salts = more 4 16 52 salt b₂ (more_le 0 4 68 16 b₁ (none (replicate 72 0) 72 refl) e₁) ls e₂ in
      let verifier = more 20 16 36 (take 16 fields) b₃ salts (length-take-le 16 fields (omega arith)) (part_laid fields b₂ b₃ 20 16 e₃) in
      let rest : length (drop 16 fields) ≡ 32 = simp length-drop (omega arith) in
      whole (more 40 32 0 (drop 16 fields) b₅ (more_le 36 4 32 20 b₄ verifier e₄) rest e₅) ∙ rw q

-- ---- the output

module _ (bits : ℕ) (password name salt v filling out : List ℕ) (z : first_of (Written.write_rules bits password (length name) (length out)) ≡ 0) where
  abbrev fields : LaidOut.Fields
  fields = Written.new_fields bits (new_key bits salt password) name salt v filling

  pub written_laid : (front locked o₁ o₂ o₃ end : List ℕ) (size : ℕ) → front ≡ LaidOut.front fields → length front ≡ 44
      → locked ≡ LaidOut.verifier fields → length locked ≡ 72 → o₁ ≡ paste out 0 front 44 → o₂ ≡ paste o₁ 44 name (length name)
      → o₃ ≡ paste o₂ (44 + length name) locked 72 → size ≡ 116 + length name → end ≡ zero_from (116 + length name) o₃
      → left (reply 0 size) end ≡ Written.written bits password name salt v filling out
  unfolding Written.info_of LaidOut.laid_out Written.new_fields
  written_laid front locked o₁ o₂ o₃ end size f lf l ll e₁ e₂ e₃ d z₃ =
      let n : ℕ = length name in
      let m : ℕ = length out - (116 + n) in
      let room : length out ≡ 44 + (n + (72 + m)) = omega (arith, ((writable bits password n (length out)).0 z).roomy) in
      let long : 116 + n ≡ 44 + n + 72 = omega arith in
      let named = more 44 n (72 + m) name o₂ (more 0 44 (n + (72 + m)) front o₁ (none out (44 + (n + (72 + m))) room) lf e₁) refl e₂ in
      let all : zero_from (116 + n) o₃ ≡ front ++ name ++ locked ++ replicate m 0 =
      ap (λ (k : ℕ). zero_from k o₃) long ∙ zeroed (more (44 + n) 72 m locked o₃ named ll e₃) in
      rw (d, z₃, all, f, l, write_done bits password name salt v filling out z, append-nil)
