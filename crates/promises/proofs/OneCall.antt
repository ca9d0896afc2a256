-- What is promised of one call fixes it: whoever keeps the demands on a call gave and left what the definition says. So an entry from
-- whose contract they follow has, of every call, the contract that it has now, and none that says less lets them through. Assumes nothing.
use mathlib.Core.Path.{◌≡◌, refl, sym, ap, ap₂, ◌∙◌}
use mathlib.Core.Logic.{inl, inr}
use mathlib.Core.Bool.{Bool}
use mathlib.Core.List.{List, ◌∷◌}
use Prim.Native.Nat.{ℕ, zero, suc}
use native.Mathlib.Omega.{arith}
use lib.ListN.{length}
use lib.Seq.{slice}
use Rattle.answers.specs.Rules.{Rule, AllHold, OneOf}
use Rattle.answers.specs.Ended.{Left, left, reply}
use Rattle.answers.specs.Ended.{Reply}
use Rattle.sha1_digest.specs.Sha1.{sha1, hash_rules, hashed}
use Rattle.sha1_digest.specs.Sha1.{Hashed}
use Rattle.aes.specs.Aes.{encryption, decryption, encrypted, decrypted}
use Rattle.aes.specs.Aes as Aes
use Rattle.descriptor.specs.Info.{parse_rules, described, parsed}
use Rattle.descriptor.specs.Info.{Parsed}
use Rattle.password.specs.Verdict.{judged, verdict_rules}
use Rattle.password.specs.Lock.{Lock}
use Rattle.sheet.specs.Sheet.{open_rules, seal_rules, package_of, filled_with, sealing_of, opened, sealed}
use Rattle.stretch.specs.Stretch.{stretch_rules, stretched}
use Rattle.rescue.specs.Rescue.{Rescue, rescue, rescue_rules, remains, none, rescued}
use Rattle.rescue.specs.declared.Counts.{Counts}
use Rattle.crossing.specs.Crossing.{told, sixteen, twelve, bit_count, chosen, descriptor_bytes}
use Rattle.crossing.proofs.Lossless.{length_sixteen, length_twelve}
use Rattle.capi.specs.Capi as Capi
use Rattle.capi.proofs.Told.{verdict_told, open_told, stretch_told, seal_told, write_told, three_again, three_numbers_lem}
use Rattle.files.specs.Files.{File, file_lock, rules, files_opened}
use Rattle.promises.specs.Words.{Answers}
use Rattle.promises.specs.Demand1.{Concludes, parse_numbers, open_numbers, seal_numbers}
use Rattle.promises.specs.Stretch.{stretch_numbers}
use Rattle.promises.specs.Rescue.{rescue_numbers}
use Rattle.promises.specs.NewInfo.{Input, Typed, rules_for, info_for, write_numbers}
use Rattle.promises.proofs.NewInfo.{writes}
use Rattle.promises.proofs.Fixed.{one_answer, one_left, one_rescue}
use Rattle.promises.specs.EveryCall.{hash_numbers, block_numbers, file_numbers}
use Rattle.promises.specs.Calls.{Hashing, Enciphering, Parsing, Judging, Opening, Stretching, Rescuing, Sealing, Writing, FilesOpening, Value, HashOut, BlockOut, DescriptorOut, VerdictOut, input}
use Rattle.promises.proofs.Calls.{hashing, encrypting, decrypting, parsing, judging, opening, stretching, rescuing, sealing, writing, opening_files}
use Rattle.promises.proofs.Outside.{hash_out, encrypt_out, decrypt_out, descriptor_out, rescue_out}

-- two calls that end with one answer give the same if they do where it is 0
one_given : {A : Type 0} (numbers : List ℕ) (always : A) (n m s t : ℕ) (x y : A) → Concludes numbers always n s x → Concludes numbers always m t y
    → n ≡ m → (n ≡ 0 → x ≡ y) → x ≡ y
one_given numbers always zero m s t x y c d e f = f refl
one_given numbers always (suc n) m s t x y c d e f = (c.refused (λ w. omega arith)).same ∙ sym (d.refused (λ w. omega (arith, e))).same

-- an answer that is 0 or 8, by where it is 0
one_of_two : (n m : ℕ) → OneOf (0 ∷ block_numbers) n → OneOf (0 ∷ block_numbers) m → (n ≡ 0 → m ≡ 0) → (m ≡ 0 → n ≡ 0) → n ≡ m
one_of_two n m (inl e) b f g = e ∙ sym (f e)
one_of_two n m (inr (inl e)) (inl h) f g = g h ∙ sym h
one_of_two n m (inr (inl e)) (inr (inl h)) f g = e ∙ sym h
one_of_two n m (inr (inl e)) (inr (inr h)) f g = absurd h
one_of_two n m (inr (inr e)) b f g = absurd e

-- ---- of the entries

-- two that answer by one list of rules, with no size, and give the same where no rule is broken
one_ruled : {A : Type 0} (rs : List Rule) (numbers : List ℕ) (always value : A) (n m : ℕ) (x y : A) → Answers rs n → Answers rs m
    → Concludes numbers always n 0 x → Concludes numbers always m 0 y → (AllHold rs → x ≡ value) → (AllHold rs → y ≡ value) → (n ≡ m) × (x ≡ y)
one_ruled rs numbers always value n m x y a b c d f g =
    let e : n ≡ m = one_answer rs n m a b in
    (e, one_given numbers always n m 0 0 x y c d e (λ z. let h = a.none.0 z in f h ∙ sym (g h)))

pub one_hashing : (message : List ℕ) (h : Hashed) → Hashing message h → h ≡ hashed message
one_hashing m h k =
    let d = hashing m in
    let e = one_ruled (hash_rules m) _ _ (sha1 m) _ _ _ _ k.answers d.answers k.ends d.ends k.published d.published in
    λ i. record { answer = e.0 i; bytes = e.1 i }

-- of a block, by either direction: the key's length decides the answer
one_enciphering : (cipher : (key block : List ℕ) → List ℕ) (key block : List ℕ) (r s : Aes.BlockReply) → Enciphering cipher key block r → Enciphering cipher key block s → r ≡ s
one_enciphering cipher key block r s k d =
    let a : r.answer ≡ s.answer = one_of_two r.answer s.answer k.ends.answer d.ends.answer (λ z. d.accepts.1 (k.accepts.0 z)) (λ z. k.accepts.1 (d.accepts.0 z)) in
    let b : r.block ≡ s.block = one_given _ _ _ _ 0 0 _ _ k.ends d.ends a (λ z. k.published z ∙ sym (d.published (sym a ∙ z))) in
    λ i. record { answer = a i; block = b i }

module _ (key block : List ℕ) (r : Aes.BlockReply) where
  pub one_encrypting : Enciphering encryption key block r → r ≡ encrypted key block
  one_encrypting k = one_enciphering encryption key block r _ k (encrypting key block)

  pub one_decrypting : Enciphering decryption key block r → r ≡ decrypted key block
  one_decrypting k = one_enciphering decryption key block r _ k (decrypting key block)

pub one_parsing : (info : List ℕ) (scheme : ℕ) (p : Parsed) → Parsing info scheme p → p ≡ parsed info scheme
one_parsing info scheme p k =
    let d = parsing info scheme in
    let e = one_ruled (parse_rules info scheme) _ _ (described info scheme) _ _ _ _ k.answers d.answers k.ends d.ends k.published d.published in
    λ i. record { answer = e.0 i; fields = e.1 i }

pub one_judging : (lock : Lock) (n : ℕ) → Judging lock n → n ≡ judged lock
one_judging lock n k = one_answer (verdict_rules lock) _ _ k.answers (judging lock).answers

pub one_opening : (lock : Lock) (stream out : List ℕ) (l : Left) → Opening lock stream out l → l ≡ opened lock stream out
one_opening lock s out l k =
    let d = opening lock s out in
    one_left open_numbers (package_of lock s) out _ _ k.call d.call (one_answer (open_rules lock s (length out)) _ _ k.answers d.answers)

pub one_stretching : (lock : Lock) (stream : List ℕ) (from to : ℕ) (out : List ℕ) (l : Left) → Stretching lock stream from to out l
    → l ≡ stretched lock stream from to out
one_stretching lock s from to out l k =
    let d = stretching lock s from to out in
    one_left stretch_numbers (slice from to (package_of lock s)) out _ _ k.call d.call
    (one_answer (stretch_rules lock s from to (length out)) _ _ k.answers d.answers)

-- with the same counts on a refusal
one_rescuing_with : (lock : Lock) (stream out : List ℕ) (unset : Counts) (x y : Rescue) → Rescuing lock stream out unset x → Rescuing lock stream out unset y → x ≡ y
one_rescuing_with lock s out unset x y k d =
    one_rescue lock s out unset x y
    (one_left rescue_numbers (remains lock s) out _ _ k.call d.call (one_answer (rescue_rules lock s (length out)) _ _ k.answers d.answers))
    k.uncounted d.uncounted k.accounts d.accounts

pub one_rescuing : (lock : Lock) (stream out : List ℕ) (r : Rescue) → Rescuing lock stream out none r → r ≡ rescued lock stream out
one_rescuing lock s out r k = one_rescuing_with lock s out none r _ k (rescuing lock s out)

pub one_sealing : (lock : Lock) («package» filling : List ℕ) (extra : Bool) (out : List ℕ) → length filling ≡ 16 → (l : Left)
    → Sealing lock «package» filling extra out l → l ≡ sealed lock «package» filling extra out
one_sealing lock «package» filling extra out g l k =
    let d = sealing lock «package» filling extra out g in
    one_left seal_numbers (sealing_of lock (filled_with «package» filling extra)) out _ _ k.call d.call
    (one_answer (seal_rules lock extra (length «package») (length out)) _ _ k.answers d.answers)

pub one_writing : (i : Input) (out : List ℕ) → Typed i → (l : Left) → Writing i out l → l ≡ writes i out
one_writing i out t l k =
    let d = writing i out t in
    one_left write_numbers (info_for i) out _ _ k.call d.call (one_answer (rules_for i (length out)) _ _ k.answers d.answers)

pub one_files : (info password stream : File) (out : List ℕ) (l : Left) → FilesOpening info password stream out l → l ≡ files_opened info password stream out
one_files info password s out l k =
    let d = opening_files info password s out in
    one_left file_numbers (package_of (file_lock info password) s.bytes) out _ _ k.call d.call
    (one_answer (rules info password s (length out)) _ _ k.answers d.answers)

-- ---- the same from C

-- a number is known by the reply that it tells
one_told : (w v : ℕ) → told w ≡ told v → w ≡ v
unfolding told
one_told w v e = omega (arith, ap (λ (r : Reply). r.answer) e, ap (λ (r : Reply). r.size) e)

one_outcome : (w : ℕ) (now : List ℕ) (o : Capi.Outcome) → left (told w) now ≡ Capi.read_back o → Capi.outcome w now ≡ o
one_outcome w now o e =
    let n : w ≡ o.word = one_told w o.word (ap (λ (l : Left). l.reply) e) in
    λ i. Capi.outcome (n i) (ap (λ (l : Left). l.out) e i)

one_value : (numbers value out : List ℕ) (x y : Left) → Value numbers value out x → Value numbers value out y → x.reply.answer ≡ y.reply.answer → x ≡ y
one_value numbers value out x y c d e =
    let o : x.out ≡ y.out = one_given _ _ _ _ _ _ _ _ c.ends d.ends e (λ z. c.accepted z ∙ sym (d.accepted (sym e ∙ z))) in
    λ i. left (reply (e i) ((c.sizeless ∙ sym d.sizeless) i)) (o i)

-- three numbers are known by the counts that they tell
one_three : (a b : List ℕ) → length a ≡ 3 → length b ≡ 3 → Capi.counts_in a ≡ Capi.counts_in b → a ≡ b
one_three a b h g e =
    let c = ap Capi.three_numbers e in
    three_again a h ∙ c ∙ sym (three_again b g)

-- a block's, by either direction
one_block : (cipher : (key block : List ℕ) → List ℕ) (key block out : List ℕ) (x y : Left) → BlockOut cipher key block out x → BlockOut cipher key block out y → x ≡ y
one_block cipher key block out x y k d =
    one_value block_numbers (cipher key block) out x y k.value d.value
    (one_of_two _ _ k.value.ends.answer d.value.ends.answer (λ z. d.accepts.1 (k.accepts.0 z)) (λ z. k.accepts.1 (d.accepts.0 z)))

module _ (w : ℕ) (now : List ℕ) where
  pub c_hashing : (message out : List ℕ) → HashOut message out (left (told w) now) → Capi.outcome w now ≡ Capi.hash_outcome message out
  c_hashing m out k =
      let d = hash_out m out in
      one_outcome w now _ (one_value hash_numbers (sha1 m) out _ _ k.value d.value (one_answer (hash_rules m) _ _ k.answers d.answers))

  module _ (key : List ℕ) (low high : ℕ) (out : List ℕ) where
    pub c_encrypting : BlockOut encryption key (sixteen low high) out (left (told w) now) → Capi.outcome w now ≡ Capi.encrypt_outcome key low high out
    c_encrypting k = one_outcome w now _ (one_block encryption key _ out _ _ k (encrypt_out key low high out))

    pub c_decrypting : BlockOut decryption key (sixteen low high) out (left (told w) now) → Capi.outcome w now ≡ Capi.decrypt_outcome key low high out
    c_decrypting k = one_outcome w now _ (one_block decryption key _ out _ _ k (decrypt_out key low high out))

  pub c_parsing : (info : List ℕ) (scheme : ℕ) (out : List ℕ) → DescriptorOut info scheme out (left (told w) now) → Capi.outcome w now ≡ Capi.parse_outcome info scheme out
  c_parsing info scheme out k =
      let d = descriptor_out info scheme out in
      one_outcome w now _
      (one_value parse_numbers (descriptor_bytes (described info scheme)) out _ _ k.value d.value
      (one_answer (parse_rules info scheme) _ _ k.answers d.answers))

  pub c_judging : (lock : Lock) → VerdictOut lock (told w) → w ≡ Capi.verdict_word lock
  c_judging lock k =
      let n = one_judging lock _ k.judged in
      let r : told w ≡ reply (judged lock) 0 = λ i. reply (n i) (k.sizeless i) in
      one_told w _ (r ∙ sym (verdict_told lock))

  pub c_opening : (lock : Lock) (stream out : List ℕ) → Opening lock stream out (left (told w) now)
      → Capi.outcome w now ≡ Capi.open_outcome lock stream out
  c_opening lock s out k = one_outcome w now _ (one_opening lock s out _ k ∙ sym (open_told lock s out))

  pub c_stretching : (lock : Lock) (stream : List ℕ) (from to : ℕ) (out : List ℕ) → Stretching lock stream from to out (left (told w) now)
      → Capi.outcome w now ≡ Capi.stretch_outcome lock stream from to out
  c_stretching lock s from to out k = one_outcome w now _ (one_stretching lock s from to out _ k ∙ sym (stretch_told lock s from to out))

  pub c_rescuing : (lock : Lock) (stream out counts after : List ℕ) → length counts ≡ 3 → length after ≡ 3
      → Rescuing lock stream out (Capi.counts_in counts) (rescue (left (told w) now) (Capi.counts_in after))
      → Capi.beside (Capi.outcome w now) after ≡ Capi.rescue_outcome lock stream out counts
  c_rescuing lock s out counts after h g k =
      let b : Capi.Beside = Capi.rescue_outcome lock s out counts in
      let e : rescue (left (told w) now) (Capi.counts_in after) ≡ Capi.read_rescue b =
      one_rescuing_with lock s out (Capi.counts_in counts) _ _ k (rescue_out lock s out counts) in
      ap₂ Capi.beside (one_outcome w now b.outcome (ap (λ (r : Rescue). r.left) e))
      (one_three after b.counts g (three_numbers_lem lock s out counts h) (ap (λ (r : Rescue). r.counts) e))

  pub c_sealing : (lock : Lock) («package» : List ℕ) (low high extra : ℕ) (out : List ℕ)
      → Sealing lock «package» (sixteen low high) (chosen extra) out (left (told w) now)
      → Capi.outcome w now ≡ Capi.seal_outcome lock «package» low high extra out
  c_sealing lock «package» low high extra out k =
      one_outcome w now _ (one_sealing lock «package» _ _ out (length_sixteen low high) _ k ∙ sym (seal_told lock «package» low high extra out))

  pub c_writing : (bits : ℕ) (password name : List ℕ) (sl sh vl vh fl fh : ℕ) (out : List ℕ)
      → Writing (input (bit_count bits).0 password name (sixteen sl sh) (sixteen vl vh) (twelve fl fh)) out (left (told w) now)
      → Capi.outcome w now ≡ Capi.write_outcome bits password name sl sh vl vh fl fh out
  unfolding writes
  c_writing bits password name sl sh vl vh fl fh out k =
      one_outcome w now _
      (one_writing _ out (record { salt = length_sixteen _ _; verifier = length_sixteen _ _; filling = length_twelve _ _ }) _ k
      ∙ sym (write_told bits password name sl sh vl vh fl fh out))
