-- Every number that crosses is small: an answer is one of its rules' numbers, and the rules of a parse bound a descriptor's fields. Assumes
-- nothing.
use mathlib.Core.List.{List, [], ◌∷◌}
use Prim.Native.Nat.{ℕ, ◌/◌, ◌<◌}
use native.Mathlib.Omega.{arith}
use Rattle.answers.specs.Rules.{Rule, first_of, numbers}
use Rattle.answers.proofs.Laws.{sum, one_within, answer_within}
use Rattle.descriptor.specs.Info as Info
use Rattle.descriptor.proofs.Algorithms.{suite_known}
use Rattle.descriptor.proofs.Laws.{Parses, alg_known, parses_both, well_formed}
use Rattle.crossing.specs.Crossing.{Crosses}

-- an answer by rules with small numbers
pub small : (rs : List Rule) → sum (numbers rs) < 65536 → first_of rs < 65536
small rs h = omega (arith, answer_within rs)

-- the fields of a descriptor
pub described_fits : (info : List ℕ) (scheme : ℕ) → Parses info scheme → Crosses (Info.described info scheme)
unfolding Info.described
described_fits info scheme h =
    let s = well_formed info scheme h in
    record {
      major = omega (arith, one_within (2 ∷ 3 ∷ 4 ∷ []) (Info.major info) s.major);
      minor = omega (arith, s.minor);
      alg = omega (arith, (suite_known (Info.alg_id info) (alg_known info (parses_both info scheme h).0)).low);
      key = omega (arith, one_within (16 ∷ 24 ∷ 32 ∷ []) (Info.key_size info / 8) s.key);
      place = omega (arith, s.place);
      name = omega (arith, s.name_fits);
      salt = s.salt;
      verifier = s.verifier;
      hash = s.hash;
      scheme = omega (arith, one_within (1 ∷ 2 ∷ []) scheme s.scheme);
    }
