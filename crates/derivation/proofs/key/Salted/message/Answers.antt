-- The salt, then one unit more a turn.
use mathlib.Core.Path.{◌≡◌, refl, ◌∙◌}
use native.Mathlib.Omega.{arith}
use borrow.Author.Rules.{rules}
use lib.ListN.{length, replicate}
use Rattle.octets.specs.Octets.{le_bytes}
use Rattle.octets.proofs.Numbers.{length_le_bytes}
use Rattle.octets.proofs.Each.{each_next}
use Rattle.derivation.proofs.Message.{message_law}
use Rattle.derivation.proofs.key.Salted.message.Goals as goal

pub loop-i-preserved : goal.loop-i-preserved
loop-i-preserved c = (
  c.put_le16.auto.d ∙ c.loop-i.invariant.0,
  each_next (le_bytes 2) (length_le_bytes 2) c.copy.new.d c.args.self.now.password.now 16 c.loop-i.i _ (omega arith) (omega (arith, c.copy.auto.d)) refl c.loop-i.invariant.1 c.put_le16.ensures,
)

pub returns : goal.returns
returns c =
    let salt : length c.args.self.now.salt ≡ 16 = search rules in
    message_law c.args.self.now.salt c.args.self.now.password.now (replicate 526 0) c.copy.new.d c.loop-i.b c.loop-i.i salt (omega arith) (omega arith)
    c.copy.ensures c.loop-i.invariant.1
