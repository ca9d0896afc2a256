-- A starting vector is sixteen bytes, of the hash of what the code lays. Assumes nothing.
use mathlib.Core.Path.{◌≡◌, refl}
use mathlib.Core.List.{List, ◌++◌}
use Prim.Native.Nat.{ℕ}
use native.Mathlib.Omega.{arith}
use lib.ListN.{length, replicate}
use lib.Seq.{paste, length-take-le}
use Rattle.octets.specs.Octets.{Bytes, le_bytes}
use Rattle.octets.proofs.Below.{take_below}
use Rattle.octets.proofs.Filled.{none, more, more_le, whole}
use Rattle.sha1_digest.specs.Sha1.{sha1}
use Rattle.sha1_digest.proofs.Laws.{length_sha1, sha1_bytes}
use Rattle.segments.specs.Start.{start_of}

module _ (salt : List ℕ) (number : ℕ) where
  pub length_start : length (start_of salt number) ≡ 16
  unfolding start_of
  length_start = length-take-le 16 (sha1 (salt ++ le_bytes 4 number)) (omega (arith, length_sha1 (salt ++ le_bytes 4 number)))

  pub start_bytes : Bytes (start_of salt number)
  unfolding start_of
  start_bytes = take_below 16 (sha1 (salt ++ le_bytes 4 number)) (sha1_bytes (salt ++ le_bytes 4 number))

  -- the message, laid in twenty bytes
  pub message_laid : (x y : List ℕ) → length salt ≡ 16 → x ≡ paste (replicate 20 0) 0 salt 16 → y ≡ paste x 16 (le_bytes 4 number) 4
      → y ≡ salt ++ le_bytes 4 number
  message_laid x y h e f = whole (more_le 16 4 0 number y (more 0 16 4 salt x (none (replicate 20 0) 20 refl) h e) f)
