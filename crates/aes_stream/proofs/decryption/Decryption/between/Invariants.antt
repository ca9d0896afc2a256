use mathlib.Core.Path.{◌≡◌}
use Prim.Native.Nat.{◌-◌, ◌<◌}
use Rattle.fips197.specs.Cipher as Cipher
use Rattle.aes_stream.proofs.decryption.Decryption.between.Given as goal

abbrev pub invariant-loop-n : goal.invariant-loop-n
invariant-loop-n l =
    let key = Cipher.round_key l.self.w.now in
    (l.n < l.self.rounds) × (Cipher.inv_rounds key l.n l.s ≡ Cipher.inv_rounds key (l.self.rounds - 1) l.initial.s)

abbrev pub decreases-loop-n : goal.decreases-loop-n
decreases-loop-n l = l.n
