use mathlib.Core.Path.{◌≡◌}
use Prim.Native.Nat.{◌-◌, ◌<◌, ◌≤◌}
use Rattle.fips197.specs.Cipher as Cipher
use Rattle.aes_stream.proofs.encryption.Encryption.between.Given as goal

abbrev pub invariant-loop-n : goal.invariant-loop-n
invariant-loop-n l = (l.s ≡ Cipher.rounds (Cipher.round_key l.self.w.now) (l.n - 1) l.initial.s) × (0 < l.n) × (l.n ≤ l.self.rounds)

abbrev pub decreases-loop-n : goal.decreases-loop-n
decreases-loop-n l = l.self.rounds - l.n
