-- What each public entry gives, for every input (FIPS 197 section 5 for keys of 16, 24 and 32 bytes; 01, reply 8, for the others).
-- Assumes nothing.
use Rattle.std.specs.Prelude.{Result, Ok, Err, Bool, cond, ◌||◌, List, ◌++◌, ℕ, ◌+◌, ◌-◌, ◌*◌, ◌/◌, eqb, length, replicate}
use Rattle.fips197.specs.Cipher.{round_key, cipher, inv_cipher}
use Rattle.fips197.specs.Expansion.{rounds_for, schedule}
use Rattle.answers.specs.Refusals.{number}
use Rattle.answers.specs.declared.Refusal.{Refusal}
use Rattle.aes.specs.declared.Expanded.{Expanded}
use Rattle.aes.specs.declared.round_keys.RoundKeys.{RoundKeys}

-- the lengths of a key in bytes (3.1), and the numbers of rounds that go with them (5)
unfoldable pub key_length : ℕ → Bool
key_length n = eqb n 16 || eqb n 24 || eqb n 32

unfoldable pub round_count : ℕ → Bool
round_count n = eqb n 10 || eqb n 12 || eqb n 14

-- a key's number of words (5)
unfoldable pub words_of : List ℕ → ℕ
words_of k = length k / 4

-- a block under the key k (5.1), and the block that it came from (5.3)
unfoldable pub encryption : List ℕ → List ℕ → List ℕ
encryption k s = cipher (round_key (schedule (words_of k) k)) (rounds_for (words_of k)) s

unfoldable pub decryption : List ℕ → List ℕ → List ℕ
decryption k s = inv_cipher (round_key (schedule (words_of k) k)) (rounds_for (words_of k)) s

-- what a block operation replies: 0 beside the block, or a refusal's number beside zeros
pub record BlockReply : Type 0 where
  pub answer : ℕ
  pub block : List ℕ

abbrev pub block_reply : Result (List ℕ) Refusal → BlockReply
block_reply (Ok block) = record { answer = 0; block = block }
block_reply (Err r) = record { answer = number r; block = replicate 16 0 }

-- reply 0 with a block, and reply 8 with zeros
unfoldable pub done_block : List ℕ → BlockReply
done_block s = record { answer = 0; block = s }

unfoldable pub refused_block : BlockReply
refused_block = record { answer = 8; block = replicate 16 0 }

-- `encrypt` and `decrypt`
unfoldable pub encrypted : List ℕ → List ℕ → BlockReply
encrypted k s = cond (key_length (length k)) (done_block (encryption k s)) refused_block

unfoldable pub decrypted : List ℕ → List ℕ → BlockReply
decrypted k s = cond (key_length (length k)) (done_block (decryption k s)) refused_block

-- `expand`: the expanded key filled up with zeros to 240 bytes, and its number of rounds; all zero for another key
unfoldable pub expanded : List ℕ → Expanded
expanded k =
    cond (key_length (length k))
    (record {
      bytes = schedule (words_of k) k ++ replicate (240 - 16 * (rounds_for (words_of k) + 1)) 0;
      rounds = rounds_for (words_of k);
    })
    (record { bytes = replicate 240 0; rounds = 0 })

-- `encrypt_block` and `decrypt_block`: under an expanded key, whatever bytes it holds
unfoldable pub encrypted_by : Expanded → List ℕ → BlockReply
encrypted_by e s = cond (round_count e.rounds) (done_block (cipher (round_key e.bytes) e.rounds s)) refused_block

unfoldable pub decrypted_by : Expanded → List ℕ → BlockReply
decrypted_by e s = cond (round_count e.rounds) (done_block (inv_cipher (round_key e.bytes) e.rounds s)) refused_block

-- round keys as the expanded key that they are
abbrev pub expanded_of : RoundKeys → Expanded
expanded_of k = record { bytes = k.bytes; rounds = k.rounds }
