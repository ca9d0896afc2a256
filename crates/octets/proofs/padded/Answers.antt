use native.Mathlib.Omega.{arith}
use Rattle.octets.proofs.Numbers.{le_padded}
use Rattle.octets.proofs.padded.Goals as goal

pub returns : goal.returns
returns g c = le_padded _ _ _ _ (λ k h. c.loop-i.invariant.1 k (omega (arith, h)))
