-- Our entries keep demand 1: each answers by its list of rules, and what an accepted call writes is as long as its size. Assumes nothing.
use mathlib.Core.Path.{◌≡◌, refl, sym, ◌∙◌}
use mathlib.Core.Bool.{Bool}
use mathlib.Core.List.{List}
use Prim.Native.Nat.{ℕ, ◌≤◌}
use lib.ListN.{length}
use Rattle.answers.specs.Rules.{first_of}
use Rattle.answers.proofs.Laws.{listed_in}
use Rattle.descriptor.specs.Info.{parse_rules, parsed}
use Rattle.descriptor.proofs.Laws.{parse_numbers_lem, parsed_answer, refused_fields}
use Rattle.password.specs.Verdict.{judged, verdict_rules}
use Rattle.password.specs.Lock.{Lock}
use Rattle.password.proofs.Laws.{verdict_numbers_lem}
use Rattle.lengths.specs.Lengths.{stream_size, sealed_size}
use Rattle.sheet.specs.Sheet.{open_rules, seal_rules, package_of, filled_with, sealing_of, opened, sealed}
use Rattle.sheet.proofs.Laws.{open_numbers_lem, open_answer, open_zero, seal_numbers_lem, seal_answer, seal_zero, length_package, length_sealing, length_filling}
use Rattle.promises.specs.Demand1.{Parse, Call, Demand1, parse_numbers, verdict_numbers, open_numbers, seal_numbers}
use Rattle.promises.proofs.Ended.{ended_call}

parse : (info : List ℕ) (scheme : ℕ) → Parse (parsed info scheme)
parse info scheme =
    record {
      answer = rw (parsed_answer info scheme) (listed_in (parse_rules info scheme) parse_numbers (parse_numbers_lem info scheme));
      refused = λ h. record { none = refl; same = refused_fields info scheme (λ z. h (parsed_answer info scheme ∙ z)) };
    }

module _ (lock : Lock) where
  -- what opens is as long as StreamSize says, and has room
  pub open_fits : (s out : List ℕ) → first_of (open_rules lock s (length out)) ≡ 0
      → (stream_size s ≡ length (package_of lock s)) × (stream_size s ≤ length out)
  open_fits s out z =
      let k = (open_zero lock s out (open_answer lock s out ∙ z)).1 in
      (sym (length_package lock s (length out) k), k.roomy)

  open_call : (stream out : List ℕ) → Call open_numbers (package_of lock stream) out (opened lock stream out)
  unfolding opened
  open_call s out =
      ended_call open_numbers (first_of (open_rules lock s (length out))) (stream_size s) (package_of lock s) out
      (listed_in (open_rules lock s (length out)) open_numbers (open_numbers_lem lock s out)) (open_fits s out)

  seal_call : («package» filling : List ℕ) (extra : Bool) (out : List ℕ) → length filling ≡ 16
      → Call seal_numbers (sealing_of lock (filled_with «package» filling extra)) out (sealed lock «package» filling extra out)
  unfolding sealed filled_with
  seal_call «package» filling extra out g =
      ended_call seal_numbers (first_of (seal_rules lock extra (length «package») (length out))) (sealed_size extra (length «package»))
      (sealing_of lock (filled_with «package» filling extra)) out (listed_in (seal_rules lock extra (length «package») (length out)) seal_numbers (seal_numbers_lem lock «package» filling extra out)) fits
    where
      fits : first_of (seal_rules lock extra (length «package») (length out)) ≡ 0
          → (sealed_size extra (length «package») ≡ length (sealing_of lock (filled_with «package» filling extra))) × (sealed_size extra (length «package») ≤ length out)
      fits z =
          let k = (seal_zero lock «package» filling extra out (seal_answer lock «package» filling extra out ∙ z)).1 in
          (sym (length_sealing lock (filled_with «package» filling extra) extra (length_filling «package» filling extra g)), k.roomy)

pub demand_1 : Demand1 parsed judged opened sealed
unfolding judged
demand_1 =
    record {
      parsing = parse;
      judging = λ lock. record { answer = listed_in (verdict_rules lock) verdict_numbers (verdict_numbers_lem lock); refused = λ h. record { none = refl; same = refl } };
      opening = λ lock s out. open_call lock s out;
      sealing = λ lock «package» filling extra out g. seal_call lock «package» filling extra out g;
    }
