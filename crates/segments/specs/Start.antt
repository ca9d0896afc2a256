-- Where a segment of a chained package starts from (003, "IV derivation (per segment)"; 001, "Standard (CryptoAPI): `EncryptedPackage`
-- decryption"; 002 section 8 has two of them). Assumes nothing.
use Rattle.std.specs.Prelude.{List, ◌++◌, ℕ, take}
use Rattle.octets.specs.Octets.{le_bytes}
use Rattle.sha1_digest.specs.Sha1.{sha1}

-- the starting vector of a segment: the salt and its number in four bytes, low first, hashed, and the first sixteen bytes of that
unfoldable pub start_of : (salt : List ℕ) (number : ℕ) → List ℕ
start_of salt number = take 16 (sha1 (salt ++ le_bytes 4 number))
