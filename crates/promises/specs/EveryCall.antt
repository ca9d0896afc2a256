-- Demand 1 of every public call, by one statement, `Concludes`: the answer is 0 or of the call's own list, and a refusal has size 0 and gives
-- or leaves what 01 says ("The numbered replies"): an all-zero descriptor, hash or block, or the output as it was. Assumes nothing.
use Rattle.std.specs.Prelude.{Bool, List, [], ◌∷◌, ℕ, replicate}
use Rattle.answers.specs.Ended.{Left}
use Rattle.sha1_digest.specs.Sha1.{hashed}
use Rattle.sha1_digest.specs.Sha1.{Hashed}
use Rattle.aes.specs.Aes.{encrypted, decrypted}
use Rattle.aes.specs.Aes.{BlockReply}
use Rattle.descriptor.specs.Info.{parsed}
use Rattle.password.specs.Verdict.{judged}
use Rattle.password.specs.Lock.{Lock}
use Rattle.sheet.specs.Sheet.{opened, sealed}
use Rattle.stretch.specs.Stretch.{stretched}
use Rattle.rescue.specs.Rescue.{none, rescued}
use Rattle.writer.specs.Written.{written}
use Rattle.crossing.specs.Crossing.{told}
use Rattle.capi.specs.Capi as Capi
use Rattle.files.specs.Files.{File, files_opened}
use Rattle.promises.specs.Demand1.{Concludes, OnOutput, Parse, Verdict, parse_numbers, verdict_numbers, open_numbers, seal_numbers}
use Rattle.promises.specs.NewInfo.{write_numbers}
use Rattle.promises.specs.Stretch.{stretch_numbers}
use Rattle.promises.specs.Rescue.{rescue_numbers}

-- ---- the numbers of the other calls

abbrev pub hash_numbers : List ℕ
hash_numbers = 18 ∷ []

abbrev pub block_numbers : List ℕ
block_numbers = 8 ∷ []

abbrev pub file_numbers : List ℕ
file_numbers = 17 ∷ open_numbers

-- ---- how each kind of call ends

-- a hash or a block, which has no size: a refused one is all zeros
abbrev pub Hash : Hashed → Type 0
Hash h = Concludes hash_numbers (replicate 20 0) h.answer 0 h.bytes

abbrev pub Block : BlockReply → Type 0
Block r = Concludes block_numbers (replicate 16 0) r.answer 0 r.block

-- a rescue: refused, it leaves besides the counts as `unset` says
abbrev pub RescueEnds : {A : Type 0} (out : List ℕ) (unset : A) → Left → A → Type 0
RescueEnds {A = A} out unset l counts = Concludes {A = List ℕ × A} rescue_numbers (out, unset) l.reply.answer l.reply.size (l.out, counts)

-- a call on an output from C, where the answer and the size are those that the number tells
abbrev pub FromC : (numbers out : List ℕ) → Capi.Outcome → Type 0
FromC numbers out o = OnOutput numbers out (Capi.read_back o)

-- ---- the statement

pub record EveryCall : Type 0 where
  pub hashing : (message : List ℕ) → Hash (hashed message)
  pub encrypting : (key block : List ℕ) → Block (encrypted key block)
  pub decrypting : (key block : List ℕ) → Block (decrypted key block)
  pub parsing : (info : List ℕ) (scheme : ℕ) → Parse (parsed info scheme)
  pub judging : (lock : Lock) → Verdict (judged lock)
  pub opening : (lock : Lock) (stream out : List ℕ) → OnOutput open_numbers out (opened lock stream out)
  pub stretching : (lock : Lock) (stream : List ℕ) (from to : ℕ) (out : List ℕ) → OnOutput stretch_numbers out (stretched lock stream from to out)
  pub rescuing : (lock : Lock) (stream out : List ℕ) → let r = rescued lock stream out in RescueEnds out none r.left r.counts
  pub sealing : (lock : Lock) («package» filling : List ℕ) (extra : Bool) (out : List ℕ) → OnOutput seal_numbers out (sealed lock «package» filling extra out)
  pub writing : (bits : ℕ) (password name salt verifier filling out : List ℕ)
      → OnOutput write_numbers out (written bits password name salt verifier filling out)
  pub files : (info password stream : File) (out : List ℕ) → OnOutput file_numbers out (files_opened info password stream out)
  pub c_sha1 : (message out : List ℕ) → FromC hash_numbers out (Capi.hash_outcome message out)
  pub c_aes_encrypt : (key : List ℕ) (low high : ℕ) (out : List ℕ) → FromC block_numbers out (Capi.encrypt_outcome key low high out)
  pub c_aes_decrypt : (key : List ℕ) (low high : ℕ) (out : List ℕ) → FromC block_numbers out (Capi.decrypt_outcome key low high out)
  pub c_parse : (info : List ℕ) (scheme : ℕ) (out : List ℕ) → FromC parse_numbers out (Capi.parse_outcome info scheme out)
  pub c_verdict : (lock : Lock) → let r = told (Capi.verdict_word lock) in Concludes {A = Unit} verdict_numbers tt r.answer r.size tt
  pub c_open : (lock : Lock) (stream out : List ℕ) → FromC open_numbers out (Capi.open_outcome lock stream out)
  pub c_stretch : (lock : Lock) (stream : List ℕ) (from to : ℕ) (out : List ℕ) → FromC stretch_numbers out (Capi.stretch_outcome lock stream from to out)
  pub c_rescue : (lock : Lock) (stream out counts : List ℕ) → let b = Capi.rescue_outcome lock stream out counts in
      RescueEnds out counts (Capi.read_back b.outcome) b.counts
  pub c_seal : (lock : Lock) («package» : List ℕ) (low high extra : ℕ) (out : List ℕ)
      → FromC seal_numbers out (Capi.seal_outcome lock «package» low high extra out)
  pub c_write_info : (bits : ℕ) (password name : List ℕ) (salt_low salt_high verifier_low verifier_high filling_low filling_high : ℕ) (out : List ℕ)
      → FromC write_numbers out (Capi.write_outcome bits password name salt_low salt_high verifier_low verifier_high filling_low filling_high out)
