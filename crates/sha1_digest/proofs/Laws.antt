-- What every hash is, and what `hashed` gives within the limit: the facts that crates above cite. Assumes nothing.
use mathlib.Core.Path.{◌≡◌}
use mathlib.Core.List.{List}
use Prim.Native.Nat.{ℕ, ◌≤◌}
use borrow.Author.Tests.{le-ltb}
use lib.ListN.{length}
use Rattle.octets.specs.Octets.{Bytes, be_bytes}
use Rattle.octets.proofs.Below.{be_bytes_bytes}
use Rattle.octets.proofs.Numbers.{length_be_bytes}
use Rattle.octets.proofs.Each.{length_each, each_bytes}
use Rattle.answers.specs.Rules.{first_of}
use Rattle.sha1_rounds.specs.declared.State.{State}
use Rattle.sha1_digest.specs.Sha1 as fips

pub length_output : (s : State) → length (fips.output s) ≡ 20
unfolding fips.output
length_output s = length_each (be_bytes 4) (length_be_bytes 4) _

pub output_bytes : (s : State) → Bytes (fips.output s)
unfolding fips.output
output_bytes s = each_bytes (be_bytes 4) (be_bytes_bytes 4) _

pub length_sha1 : (m : List ℕ) → length (fips.sha1 m) ≡ 20
unfolding fips.sha1
length_sha1 m = length_output _

pub sha1_bytes : (m : List ℕ) → Bytes (fips.sha1 m)
unfolding fips.sha1
sha1_bytes m = output_bytes _

-- within the limit nothing is refused
pub hashed_within : (m : List ℕ) → length m ≤ 65536 → fips.hashed m ≡ record { answer = 0; bytes = fips.sha1 m }
unfolding fips.hashed fips.hash_rules first_of
hashed_within m h = simp (le-ltb _ _ h)
