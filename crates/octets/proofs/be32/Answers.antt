use mathlib.Core.Path.{◌≡◌, ◌∙◌}
use Prim.Native.Nat.{ℕ, ◌+◌, ◌<◌}
use native.Mathlib.Omega.{arith}
use lib.ListN.{get_or}
use lib.Seq.{get_or-take, get_or-drop}
use Rattle.octets.proofs.Numbers.{be_at_add, be_at_one}
use Rattle.octets.proofs.be32.Goals as goal
use Rattle.octets.proofs.be32.Goals.{After-part}

-- the four bytes are those of the slice
byte_at : (c : After-part) (i j : ℕ) → i < 4 → c.args.at + i ≡ j → get_or c.part.result i 0 ≡ get_or c.args.s.now j 0
byte_at c i j h e = rw (c.part.ensures, ← e) (get_or-take 4 _ i 0 h ∙ get_or-drop c.args.at c.args.s.now i 0)

pub returns : goal.returns
returns c =
    let o = c.args.at in
    let s = c.args.s.now in
    let at = byte_at (goal.at.returns c).After-part in
    omega (
      arith,
      c.from_be_bytes.ensures,
      be_at_add 3 1 o s (omega arith),
      be_at_add 2 1 o s (omega arith),
      be_at_add 1 1 o s (omega arith),
      be_at_one o s,
      be_at_one (o + 1) s,
      be_at_one (o + 2) s,
      be_at_one (o + 3) s,
      at 0 o (omega arith) (omega arith),
      at 1 (o + 1) (omega arith) (omega arith),
      at 2 (o + 2) (omega arith) (omega arith),
      at 3 (o + 3) (omega arith) (omega arith),
    )
