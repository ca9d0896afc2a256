-- The verifier and its hash, as 48 bytes under one operation (004 2.3.4.8 and 2.3.4.9, 000 section 6): sealed into EncryptedVerifier and
-- EncryptedVerifierHash, and opened to be compared. Any reversible operation will do. Assumes nothing.
use Rattle.std.specs.Prelude.{Bool, List, ◌++◌, ℕ, take, drop}
use Rattle.octets.specs.Octets.{same}
use Rattle.sha1_digest.specs.Sha1.{sha1}
use Rattle.steps.specs.Steps.{open_all, seal_all}
use Rattle.blocks.specs.Blocks.{ecb_under}

-- the operation under a key, both ways: AES-ECB
unfoldable pub verifier_sealing : (key : List ℕ) → List ℕ → List ℕ
verifier_sealing key = seal_all (ecb_under key)

unfoldable pub verifier_opening : (key : List ℕ) → List ℕ → List ℕ
verifier_opening key = open_all (ecb_under key)

-- what is sealed: the verifier, its SHA-1, and twelve bytes that fill the last block
unfoldable pub verifier_plain : (verifier filling : List ℕ) → List ℕ
verifier_plain verifier filling = verifier ++ (sha1 verifier ++ filling)

-- the two fields of it: EncryptedVerifier is the first sixteen bytes, EncryptedVerifierHash the others
unfoldable pub verifier_field : (op : List ℕ → List ℕ) (verifier filling : List ℕ) → List ℕ
verifier_field op verifier filling = take 16 (op (verifier_plain verifier filling))

unfoldable pub hash_field : (op : List ℕ → List ℕ) (verifier filling : List ℕ) → List ℕ
hash_field op verifier filling = drop 16 (op (verifier_plain verifier filling))

-- whether two fields match: opened, the hash of the first sixteen bytes is the twenty after them; the other twelve are ignored
unfoldable pub matches : (op : List ℕ → List ℕ) (verifier hash : List ℕ) → Bool
matches op verifier hash = let plain : List ℕ = op (verifier ++ hash) in same (sha1 (take 16 plain)) (take 20 (drop 16 plain))
