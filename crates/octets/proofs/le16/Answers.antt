use native.Mathlib.Omega.{arith}
use Rattle.octets.proofs.Numbers.{le_sum}
use Rattle.octets.proofs.le16.Goals as goal

pub returns : goal.returns
returns c = omega (arith, c.from_le_bytes.ensures, le_sum 1 c.padded.result, c.padded.ensures)
