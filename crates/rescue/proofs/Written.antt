-- What a call that is not refused leaves: what there is of the package, and zeros from where it ends. Assumes nothing.
use mathlib.Core.Path.{◌≡◌, sym, ap, ap₂, ◌∙◌}
use mathlib.Core.List.{List, ◌++◌}
use Prim.Native.Nat.{ℕ, ◌-◌, ◌≤◌}
use native.Mathlib.Nat.{zero-add}
use native.Mathlib.Omega.{arith}
use lib.ListN.{length, take, drop, replicate, length-drop}
use lib.Seq.{paste, take_all}
use Rattle.octets.specs.Octets.{zero_from}
use Rattle.answers.specs.Rules.{first_of}
use Rattle.answers.specs.Ended.{left, reply}
use Rattle.answers.proofs.Endings.{laid}
use Rattle.steps.specs.Steps.{Step, open_all}
use Rattle.password.specs.Lock.{Lock}
use Rattle.lengths.specs.Lengths.{stream_size}
use Rattle.sheet.specs.Sheet.{sheet_step, package_of}
use Rattle.rescue.specs.Rescue.{rescue_rules, rescue, rescued}
use Rattle.rescue.specs.declared.Counts.{Counts}
use Rattle.rescue.proofs.Laws.{counts_of, rescue_done, rescue_holds}
use Rattle.rescue.proofs.Parts.{counts_there, there_most, there_held, there_opened, all_zeros}

module _ (lock : Lock) (s out : List ℕ) where
  abbrev there : List ℕ
  there = package_of lock s

  pub rescue_written : (step : Step) (mid end : List ℕ) (n : ℕ) (c : Counts) → first_of (rescue_rules lock s (length out)) ≡ 0 → n ≡ stream_size s
      → c ≡ counts_of lock s out → step ≡ sheet_step lock (stream_size s)
      → mid ≡ paste out 0 (open_all step (take (length s - 8) (drop 8 s))) c.recovered
      → end ≡ zero_from c.recovered mid → rescue (left (reply 0 n) end) c ≡ rescued lock s out
  rescue_written step mid end n c k z ec e pm d =
      let x : List ℕ = open_all (sheet_step lock (stream_size s)) (drop 8 s) in
      let all : take (length s - 8) (drop 8 s) ≡ drop 8 s = take_all (length s - 8) (drop 8 s) (simp length-drop (omega arith)) in
      let m : c.recovered ≡ length there = counts_there lock s out c ec in
      let room = (rescue_holds lock s out k).1.roomy in
      let held : c.recovered ≤ length x = omega (arith, m, there_held lock s) in
      let w : end ≡ there ++ replicate (length out - length there) 0 =
      laid out x mid end 0 c.recovered c.recovered (zero-add _) (omega (arith, m, there_most lock s)) held
      (pm ∙ ap (λ (y : List ℕ). paste out 0 y c.recovered) (ap₂ open_all e all)) d
      ∙ rw m (ap (λ (y : List ℕ). y ++ replicate (length out - length there) 0) (sym (there_opened lock s))) in
      rw (z, ec) (ap (λ (y : List ℕ). rescue (left (reply 0 (stream_size s)) y) (counts_of lock s out)) (w ∙ sym (all_zeros lock s out room)))
      ∙ sym (rescue_done lock s out k)
