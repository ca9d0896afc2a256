-- A key is bytes, as many as are asked for. Assumes nothing.
use mathlib.Core.Path.{◌≡◌}
use mathlib.Core.List.{List}
use Prim.Native.Nat.{ℕ, ◌≤◌}
use native.Mathlib.Omega.{arith}
use lib.ListN.{length, length-append}
use lib.Seq.{length-take-le}
use Rattle.octets.specs.Octets.{Bytes}
use Rattle.octets.proofs.Below.{append_below, take_below}
use Rattle.sha1_digest.proofs.Laws.{length_sha1, sha1_bytes}
use Rattle.derivation.specs.Key as Key

pub length_material : (salt p : List ℕ) → length (Key.material salt p) ≡ 40
unfolding Key.material Key.derived
length_material salt p = simp (length-append, length_sha1)

pub material_bytes : (salt p : List ℕ) → Bytes (Key.material salt p)
unfolding Key.material Key.derived
material_bytes salt p = append_below _ _ (sha1_bytes _) (sha1_bytes _)

pub key_bytes_bytes : (n : ℕ) (salt p : List ℕ) → Bytes (Key.key_bytes n salt p)
unfolding Key.key_bytes
key_bytes_bytes n salt p = take_below n (Key.material salt p) (material_bytes salt p)

pub length_key_bytes : (n : ℕ) (salt p : List ℕ) → n ≤ 40 → length (Key.key_bytes n salt p) ≡ n
unfolding Key.key_bytes
length_key_bytes n salt p h = length-take-le n (Key.material salt p) (omega (arith, length_material salt p))
