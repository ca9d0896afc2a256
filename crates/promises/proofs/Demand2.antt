-- Our entries keep demand 2: their definitions are what it says, read through the laws of the rules. Assumes nothing.
use mathlib.Core.Path.{◌≡◌, ap}
use mathlib.Core.Bool.{Bool}
use mathlib.Core.List.{List}
use Prim.Native.Nat.{ℕ}
use borrow.Author.Tests.{le-ltb, ltb-false, not-false}
use lib.ListN.{length}
use Rattle.octets.proofs.Equal.{same_self, same_true}
use Rattle.answers.specs.Rules.{AllHold}
use Rattle.answers.specs.Ended.{ended}
use Rattle.answers.proofs.Laws.{none_broken, both_hold}
use Rattle.blocks.specs.Blocks.{ecb_under, chained_under}
use Rattle.descriptor.specs.Info.{info_rules, scheme_rules, parse_rules, described, parsed}
use Rattle.descriptor.proofs.Laws.{scheme_numbered, scheme_known, parse_numbered, parsed_answer, parsed_fields}
use Rattle.password.specs.Verifier.{verifier_opening, matches}
use Rattle.password.specs.Verdict.{key_of, early_rules, text_rules, verifier_rules, verdict_rules, judged}
use Rattle.password.specs.Lock.{Lock, descriptor_of}
use Rattle.password.proofs.Laws.{verdict_numbered}
use Rattle.lengths.specs.Lengths.{stream_size, rounded, sealed_size}
use Rattle.sheet.specs.Frame.{stream_of, pair_of}
use Rattle.sheet.specs.Scheme.{step_of}
use Rattle.sheet.specs.Sheet.{open_rules, seal_rules, sheet_key, sheet_step, sealing, opening, package_of, filled_with, sealing_of, opened, sealed}
use Rattle.sheet.proofs.Laws.{open_numbered, open_answer, seal_numbered, seal_answer}
use Rattle.promises.specs.Demand2.{Accepts, published_package, published_stream, Demand2}
use Rattle.promises.proofs.Ended.{by_rules}

module _ (lock : Lock) where
  to_verdict : judged lock ≡ 0 → Accepts lock
  unfolding judged verdict_rules early_rules parse_rules text_rules verifier_rules key_of described matches verifier_opening ecb_under
  to_verdict h =
      let all : AllHold (verdict_rules lock) = (none_broken (verdict_rules lock) (verdict_numbered lock)).0 h in
      let k = (both_hold (early_rules lock) (verifier_rules (descriptor_of lock) lock.password)).0 all in
      let e = (both_hold (parse_rules lock.info lock.scheme) (text_rules lock.password)).0 k.0 in
      let p = (both_hold (info_rules lock.info) (scheme_rules lock.scheme)).0 e.0 in
      let s = (scheme_known lock.scheme).0 ((none_broken (scheme_rules lock.scheme) (scheme_numbered lock.scheme)).1 p.1) in
      (p.0, s, ltb-false _ _ e.1.0, same_true _ _ (not-false _ k.1.0))

  of_verdict : Accepts lock → judged lock ≡ 0
  unfolding judged verdict_rules early_rules parse_rules text_rules verifier_rules key_of described matches verifier_opening ecb_under
  of_verdict h =
      let s = (none_broken (scheme_rules lock.scheme) (scheme_numbered lock.scheme)).0 ((scheme_known lock.scheme).1 h.1) in
      let p = (both_hold (info_rules lock.info) (scheme_rules lock.scheme)).1 (h.0, s) in
      let e = (both_hold (parse_rules lock.info lock.scheme) (text_rules lock.password)).1 (p, (le-ltb _ _ h.2, tt)) in
      (none_broken (verdict_rules lock) (verdict_numbered lock)
      ).1 ((both_hold (early_rules lock) (verifier_rules (descriptor_of lock) lock.password)).1 (e, (rw (h.3, same_self), tt)))

  open_gives : (stream out : List ℕ) → AllHold (open_rules lock stream (length out))
      → opened lock stream out ≡ published_package lock stream out
  unfolding opened ended package_of pair_of stream_size opening sheet_step step_of ecb_under chained_under sheet_key key_of described
  open_gives s out h =
      ap (λ (n : ℕ). ended n (stream_size s) (package_of lock s) out)
      ((none_broken (open_rules lock s (length out)) (open_numbered lock s out)).1 h)

  seal_gives : («package» filling : List ℕ) (extra : Bool) (out : List ℕ) → AllHold (seal_rules lock extra (length «package») (length out))
      → sealed lock «package» filling extra out ≡ published_stream lock «package» filling extra out
  unfolding sealed ended sealed_size rounded sealing_of stream_of filled_with sealing sheet_step step_of ecb_under chained_under sheet_key key_of described
  seal_gives «package» filling extra out h =
      ap (λ (n : ℕ). ended n (sealed_size extra (length «package»)) (sealing_of lock (filled_with «package» filling extra)) out)
      ((none_broken (seal_rules lock extra (length «package») (length out)) (seal_numbered lock «package» filling extra out)).1 h)

pub demand_2 : Demand2 parsed judged opened sealed
unfolding judged
demand_2 =
    record {
      parse_answer = λ info scheme. rw (parsed_answer info scheme) (by_rules (parse_rules info scheme) (parse_numbered info scheme));
      verdict_answer = λ lock. by_rules (verdict_rules lock) (verdict_numbered lock);
      open_answer = λ lock s out.
          rw (open_answer lock s out) (by_rules (open_rules lock s (length out)) (open_numbered lock s out));
      seal_answer = λ lock «package» filling extra out g.
          rw (seal_answer lock «package» filling extra out)
          (by_rules (seal_rules lock extra (length «package») (length out)) (seal_numbered lock «package» filling extra out));
      descriptor = λ info scheme h. parsed_fields info scheme ((none_broken (parse_rules info scheme) (parse_numbered info scheme)).1 h);
      verdict = λ lock. (λ h. to_verdict lock h, λ h. of_verdict lock h);
      opening = λ lock s out h. open_gives lock s out h;
      sealing = λ lock «package» filling extra out g h. seal_gives lock «package» filling extra out h;
    }
