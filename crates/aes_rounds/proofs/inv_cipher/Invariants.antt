use mathlib.Core.Path.{◌≡◌}
use Prim.Native.Nat.{◌-◌}
use Rattle.fips197.specs.Cipher as Cipher
use Rattle.aes_rounds.proofs.inv_cipher.Given as goal

abbrev pub invariant-loop-n : goal.invariant-loop-n
invariant-loop-n l =
    Cipher.inv_rounds (Cipher.round_key l.w) (l.n - 1) l.s ≡ Cipher.inv_rounds (Cipher.round_key l.w) (l.rounds - 1) l.initial.s
