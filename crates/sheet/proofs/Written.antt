-- What a call that is not refused writes: the content laid in the output, and zeros from where it ends. Assumes nothing.
use mathlib.Core.Path.{◌≡◌, refl, sym, ap, ap₂, ◌∙◌}
use mathlib.Core.Bool.{Bool}
use mathlib.Core.List.{List, ◌++◌}
use Prim.Native.Nat.{ℕ, ◌+◌, ◌-◌, ◌≤◌}
use native.Mathlib.Nat.{zero-add}
use native.Mathlib.Omega.{arith}
use lib.ListN.{length, take, drop, replicate, length-drop}
use lib.Seq.{paste, length-paste, take_all, take-append-add}
use Rattle.octets.specs.Octets.{le_bytes, zero_from}
use Rattle.octets.proofs.Numbers.{length_le_bytes}
use Rattle.octets.proofs.Parts.{part_paste}
use Rattle.answers.specs.Rules.{first_of}
use Rattle.answers.specs.Ended.{left, reply}
use Rattle.answers.proofs.Endings.{laid}
use Rattle.steps.specs.Steps.{Step, open_all, seal_all}
use Rattle.password.specs.Lock.{Lock}
use Rattle.lengths.specs.Lengths.{stream_size, filling_for, rounded, sealed_size}
use Rattle.sheet.specs.Frame.{Pair, pair_of, stream_of}
use Rattle.sheet.specs.Sheet.{sheet_step, sealing, opening, package_of, sealing_of, filled_with, open_rules, seal_rules, opened, sealed}
use Rattle.sheet.proofs.Lengths.{openable, sealable}
use Rattle.sheet.proofs.Laws.{open_done, open_holds, seal_done, seal_holds, package_held, length_ciphertext, length_filling}

-- the package rounded up is filled with the first of the filling bytes
rounded_plain : («package» filling : List ℕ) (extra : Bool)
    → let q = filled_with «package» filling extra in take (rounded extra (length «package»)) («package» ++ filling) ≡ q.«package» ++ q.filling
unfolding rounded filled_with
rounded_plain «package» filling extra = take-append-add «package» filling (filling_for extra (length «package»))

module _ (lock : Lock) (step : Step) where
  -- opening: the package
  pub open_written : (s out mid end : List ℕ) (n : ℕ) → first_of (open_rules lock s (length out)) ≡ 0 → n ≡ stream_size s
      → step ≡ sheet_step lock (stream_size s) → mid ≡ paste out 0 (open_all step (take (length s - 8) (drop 8 s))) n
      → end ≡ zero_from n mid → left (reply 0 n) end ≡ opened lock s out
  unfolding package_of pair_of opening
  open_written s out mid end n k z e pm d =
      let o = open_holds lock s out k in
      let x : List ℕ = open_all (sheet_step lock (stream_size s)) (drop 8 s) in
      let all : take (length s - 8) (drop 8 s) ≡ drop 8 s = take_all (length s - 8) (drop 8 s) (simp length-drop (omega arith)) in
      let held : stream_size s ≤ length x = package_held lock s (length out) o.1 in
      let w : end ≡ take n x ++ replicate (length out - n) 0 =
      laid out x mid end 0 n n (zero-add n) (omega (arith, o.1.roomy)) (omega (arith, held))
      (pm ∙ ap (λ (y : List ℕ). paste out 0 y n) (ap₂ open_all e all)) d in
      rw (w, z) (sym (open_done lock s out o.0 ((openable s (length out)).1 o.1)))

  -- sealing: eight bytes of size, and the ciphertext
  pub seal_written : («package» filling : List ℕ) (extra : Bool) (out first mid end : List ℕ) (n : ℕ)
      → first_of (seal_rules lock extra (length «package») (length out)) ≡ 0 → length filling ≡ 16
      → n ≡ rounded extra (length «package») → step ≡ sheet_step lock (length «package»)
      → first ≡ paste out 0 (le_bytes 8 (length «package»)) 8
      → mid ≡ paste first 8 (seal_all step (take n («package» ++ filling))) n → end ≡ zero_from (8 + n) mid
      → left (reply 0 (8 + n)) end ≡ sealed lock «package» filling extra out
  unfolding sealed_size sealing_of stream_of filled_with sealing
  seal_written «package» filling extra out first mid end n k g z e pf pm d =
      let o = seal_holds lock «package» filling extra out k in
      let q : Pair = filled_with «package» filling extra in
      let y : List ℕ = seal_all (sheet_step lock (length «package»)) (q.«package» ++ q.filling) in
      let long : length y ≡ n = length_ciphertext lock q extra (length_filling «package» filling extra g) ∙ sym z in
      let size : length (le_bytes 8 (length «package»)) ≡ 8 = length_le_bytes 8 (length «package») in
      let room : 8 + n ≤ length out = omega (arith, o.1.roomy) in
      let kept : length first ≡ length out = ap length pf ∙ length-paste out 0 (le_bytes 8 (length «package»)) 8 (omega arith) (omega arith) in
      let head : take 8 first ≡ le_bytes 8 (length «package») = ap (take 8) pf ∙ part_paste out (le_bytes 8 (length «package»)) 0 8 size (omega arith) in
      let it : seal_all step (take n («package» ++ filling)) ≡ y =
      ap₂ seal_all e (ap (λ (m : ℕ). take m («package» ++ filling)) z ∙ rounded_plain «package» filling extra) in
      let w : end ≡ le_bytes 8 (length «package») ++ y ++ replicate (length out - (8 + n)) 0 =
      laid first y mid end 8 n (8 + n) refl (omega arith) (omega arith) (pm ∙ ap (λ (l : List ℕ). paste first 8 l n) it) d
      ∙ rw (head, take_all n y (omega arith), kept) in
      rw (w, z) (sym (seal_done lock «package» filling extra out o.0 ((sealable extra (length «package») (length out)).1 o.1)))
