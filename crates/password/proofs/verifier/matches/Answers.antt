-- The fields are opened as one, and the hash of the first of them is compared with the rest.
use mathlib.Core.Path.{◌≡◌, sym}
use native.Mathlib.Omega.{arith}
use borrow.Author.Rules.{rules}
use lib.ListN.{length, take}
use lib.Seq.{length-take-le}
use Rattle.password.specs.Verifier as Verifier
use Rattle.password.proofs.verifier.matches.Goals as goal
use Rattle.password.proofs.verifier.matches.Goals.{After-plain-1}

sixteen : (c : After-plain-1) → 16 ≡ length (take 16 c.opened-plain.result)
sixteen c =
    let l : length c.opened-plain.result ≡ 48 = search rules in
    sym (length-take-le 16 c.opened-plain.result (omega arith))

pub returns : goal.returns
unfolding Verifier.matches
returns c = λ k t e. simp (c.agree.ensures, c.output-digest.ensures, c.hash.ensures, c.opened-plain.ensures k t e, c.fields.ensures)

pub slice_bounds-hash-end : goal.slice_bounds-hash-end
slice_bounds-hash-end c = sixteen (goal.at.slice_bounds-hash-end c).After-plain-1

pub hash-requires : goal.hash-requires
hash-requires c = omega (arith, sixteen (goal.at.hash-requires c).After-plain-1)
