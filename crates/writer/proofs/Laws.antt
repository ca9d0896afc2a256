-- What the writer accepts, and the two ways out. Assumes nothing.
use mathlib.Core.Path.{◌≡◌, refl, ap, ◌∙◌}
use mathlib.Core.Logic.{◌↔◌}
use mathlib.Core.Bool.{true, not}
use mathlib.Core.List.{List, [], ◌∷◌, ◌++◌}
use Prim.Native.Nat.{ℕ, ◌+◌, ◌-◌, ◌/◌, ◌%◌, ◌≤◌}
use native.Mathlib.Omega.{arith}
use borrow.Author.Tests.{le-ltb, ltb-false, eqb-true, eq-eqb, not-false}
use lib.Dec.{T}
use lib.ListN.{length, replicate}
use Rattle.std.specs.Prelude.{Err}
use Rattle.answers.specs.Refusals.{number, reply_of}
use Rattle.answers.specs.declared.Refusal.{Refusal}
use Rattle.answers.specs.Rules.{first_of, room_rules, numbered, numbers, OneOf}
use Rattle.answers.specs.Ended.{Left, left, reply}
use Rattle.answers.proofs.Laws.{none_broken, then, both_zero, numbers_both, by_numbers, room_numbers, roomy}
use Rattle.answers.proofs.Rows.{◌and◌}
use Rattle.answers.proofs.Endings.{ended_answer, ended_done}
use Rattle.answers.proofs.Refusals.{refused}
use Rattle.aes.specs.Aes.{key_length}
use Rattle.aes.proofs.Keys.{key_lengths}
use Rattle.descriptor.proofs.Algorithms.{key_row, key_known, in_bytes}
use Rattle.derivation.specs.Key.{key_bytes}
use Rattle.derivation.proofs.Laws.{length_key_bytes}
use Rattle.password.specs.Verdict.{text_rules}
use Rattle.password.proofs.Laws.{text_numbers, text_short}
use Rattle.writer.specs.Written.{name_limit, info_size, field_rules, write_rules, info_of, written}

-- ---- what is accepted

pub record Writable (bits : ℕ) (password : List ℕ) (name room : ℕ) : Type 0 where
  pub short : name ≤ 4064
  pub even : name % 2 ≡ 0
  pub key : OneOf (128 ∷ 192 ∷ 256 ∷ []) bits
  pub typed : length password ≤ 255
  pub roomy : 116 + name ≤ room

module _ (bits name : ℕ) where
  field_numbered : T (numbered (field_rules bits name))
  unfolding field_rules
  field_numbered = tt

  field_numbers : numbers (field_rules bits name) ≡ 3 ∷ 5 ∷ 8 ∷ []
  unfolding field_rules
  field_numbers = refl

  -- the rules on what is laid out
  pub to_fields : first_of (field_rules bits name) ≡ 0 → (name ≤ 4064) × (name % 2 ≡ 0) × OneOf (128 ∷ 192 ∷ 256 ∷ []) bits
  unfolding field_rules name_limit
  to_fields h =
      let k = (none_broken (field_rules bits name) tt).0 h in
      (ltb-false _ _ k.0, eqb-true _ _ (not-false _ k.1.0), key_known bits k.1.1.0)

  of_fields : name ≤ 4064 → name % 2 ≡ 0 → OneOf (128 ∷ 192 ∷ 256 ∷ []) bits → first_of (field_rules bits name) ≡ 0
  unfolding field_rules name_limit
  of_fields s e k = (none_broken (field_rules bits name) tt).1 (le-ltb _ _ s and ap not (eq-eqb _ _ e) and (key_row bits k).named and tt)

module _ (bits : ℕ) (password : List ℕ) (name room : ℕ) where
  early_numbers_lem : numbers (field_rules bits name ++ text_rules password) ≡ 3 ∷ 5 ∷ 8 ∷ 11 ∷ []
  early_numbers_lem = simp (numbers_both, field_numbers, text_numbers)

  early_numbered : T (numbered (field_rules bits name ++ text_rules password))
  early_numbered = by_numbers (field_rules bits name ++ text_rules password) _ early_numbers_lem tt

  pub write_numbers_lem : numbers (write_rules bits password name room) ≡ 3 ∷ 5 ∷ 8 ∷ 11 ∷ 16 ∷ []
  unfolding write_rules
  write_numbers_lem =
      numbers_both (field_rules bits name ++ text_rules password) (room_rules room (info_size name)) ∙ rw (early_numbers_lem, room_numbers room (info_size name))

  pub write_numbered : T (numbered (write_rules bits password name room))
  write_numbered = by_numbers (write_rules bits password name room) _ write_numbers_lem tt

  to_writable : first_of (write_rules bits password name room) ≡ 0 → Writable bits password name room
  unfolding write_rules info_size
  to_writable h =
      let z = both_zero (field_rules bits name ++ text_rules password) (room_rules room (info_size name)) early_numbered h in
      let y = both_zero (field_rules bits name) (text_rules password) (field_numbered bits name) z.0 in
      let f = to_fields bits name y.0 in
      record { short = f.0; even = f.1; key = f.2; typed = (text_short password).0 y.1; roomy = (roomy room (info_size name)).0 z.1 }

  of_writable : Writable bits password name room → first_of (write_rules bits password name room) ≡ 0
  unfolding write_rules info_size
  of_writable w =
      then (field_rules bits name ++ text_rules password) (room_rules room (info_size name)) early_numbered
      (then (field_rules bits name) (text_rules password) (field_numbered bits name) (of_fields bits name w.short w.even w.key)
      ∙ (text_short password).1 w.typed)
      ∙ (roomy room (info_size name)).1 w.roomy

  pub writable : (first_of (write_rules bits password name room) ≡ 0) ↔ Writable bits password name room
  writable = (λ h. to_writable h, λ w. of_writable w)

-- ---- the key

-- the key of the salt and the password
abbrev pub new_key : (bits : ℕ) (salt password : List ℕ) → List ℕ
new_key bits salt password = key_bytes (bits / 8) salt password

pub key_fits : (bits : ℕ) (salt password : List ℕ) → OneOf (128 ∷ 192 ∷ 256 ∷ []) bits → key_length (length (new_key bits salt password)) ≡ true
key_fits bits salt password k =
    rw (length_key_bytes (bits / 8) salt password (omega (arith, (key_row bits k).few))) (key_lengths (bits / 8) (in_bytes bits k))

-- ---- the ways out

module _ (bits : ℕ) (password name salt verifier filling out : List ℕ) where
  abbrev answer : ℕ
  answer = first_of (write_rules bits password (length name) (length out))

  abbrev given : Left
  given = written bits password name salt verifier filling out

  pub write_answer : given.reply.answer ≡ answer
  unfolding written
  write_answer = ended_answer _ _ _ _

  pub write_refused : (r : Refusal) → number r ≡ answer → left (reply_of (Err r)) out ≡ given
  unfolding written
  write_refused r e = refused r answer e (info_size (length name)) (info_of bits password name salt verifier filling) out

  pub write_done : answer ≡ 0
      → given ≡ left (reply 0 (116 + length name)) (info_of bits password name salt verifier filling ++ replicate (length out - (116 + length name)) 0)
  unfolding written info_size
  write_done = ended_done answer (info_size (length name)) (info_of bits password name salt verifier filling) out
