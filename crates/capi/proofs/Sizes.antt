-- A size is at most that of the longest stream, or of the longest EncryptionInfo, so a word holds it. Assumes nothing.
use mathlib.Core.Path.{◌≡◌, ap}
use mathlib.Core.Bool.{Bool}
use mathlib.Core.List.{List}
use Prim.Native.Nat.{ℕ, ◌^◌, ◌≤◌, ◌<◌}
use native.Mathlib.Omega.{arith}
use lib.ListN.{length}
use Rattle.std.specs.Prelude.{Ok}
use Rattle.answers.specs.Ended as Ended
use Rattle.answers.specs.Ended.{Reply}
use Rattle.answers.proofs.Endings.{ended_size}
use Rattle.password.specs.Lock.{Lock}
use Rattle.lengths.specs.Lengths as Lengths
use Rattle.lengths.proofs.Fillings.{filling_most}
use Rattle.sheet.specs.Sheet as Sheet
use Rattle.sheet.proofs.Laws.{open_holds, seal_holds}
use Rattle.stretch.specs.Stretch as Stretch
use Rattle.stretch.proofs.Laws.{stretch_holds}
use Rattle.rescue.specs.Rescue as Rescue
use Rattle.rescue.specs.declared.Rescued.{Rescued}
use Rattle.rescue.proofs.Laws.{rescue_holds}
use Rattle.writer.specs.Written as Written
use Rattle.writer.proofs.Laws.{writable}

-- the longest stream is that of the largest package with an extra block
sealed_most : (extra : Bool) (size : ℕ) → size ≤ Lengths.package_limit → Lengths.sealed_size extra size ≤ 268435480
unfolding Lengths.sealed_size Lengths.rounded Lengths.package_limit
sealed_most extra size h = omega (arith, filling_most extra size)

module _ (lock : Lock) where
  open_size : (stream out : List ℕ) → (Sheet.opened lock stream out).reply.size ≤ Lengths.package_limit
  unfolding Sheet.opened
  open_size stream out =
      ended_size _ _ _ out Lengths.package_limit (λ h. (open_holds lock stream out h).1.fits.limited)

  stretch_size : (stream : List ℕ) (from to : ℕ) (out : List ℕ) → (Stretch.stretched lock stream from to out).reply.size ≤ Lengths.package_limit
  unfolding Stretch.stretched
  stretch_size stream from to out =
      ended_size _ _ _ out Lengths.package_limit (λ h. let k = (stretch_holds lock stream from to out h).1 in omega (arith, k.within, k.fits.limited))

  rescue_size : (stream out : List ℕ) → (Rescue.rescued lock stream out).left.reply.size ≤ Lengths.package_limit
  unfolding Rescue.rescued
  rescue_size stream out = ended_size _ _ _ out Lengths.package_limit (λ h. (rescue_holds lock stream out h).1.limited)

  seal_size : («package» filling : List ℕ) (extra : Bool) (out : List ℕ) → (Sheet.sealed lock «package» filling extra out).reply.size ≤ 268435480
  unfolding Sheet.sealed
  seal_size «package» filling extra out =
      ended_size _ _ _ out 268435480
      (λ h. sealed_most extra (length «package») (seal_holds lock «package» filling extra out h).1.limited)

  -- so a word holds the size of a reply
  module _ (r : Reply) (old out : List ℕ) where
    pub open_held : (stream : List ℕ) → Ended.left r out ≡ Sheet.opened lock stream old → r.size < 2 ^ 48
    unfolding Lengths.package_limit
    open_held stream e = omega (arith, ap (λ (l : Ended.Left). l.reply.size) e, open_size stream old)

    pub stretch_held : (stream : List ℕ) (from to : ℕ) → Ended.left r out ≡ Stretch.stretched lock stream from to old → r.size < 2 ^ 48
    unfolding Lengths.package_limit
    stretch_held stream from to e = omega (arith, ap (λ (l : Ended.Left). l.reply.size) e, stretch_size stream from to old)

    pub seal_held : («package» filling : List ℕ) (extra : Bool) → Ended.left r out ≡ Sheet.sealed lock «package» filling extra old → r.size < 2 ^ 48
    seal_held «package» filling extra e = omega (arith, ap (λ (l : Ended.Left). l.reply.size) e, seal_size «package» filling extra old)

  pub rescue_held : (r : Rescued) (old out stream : List ℕ) → Rescue.rescued_of (Ok r) out ≡ Rescue.rescued lock stream old → r.size < 2 ^ 48
  unfolding Lengths.package_limit
  rescue_held r old out stream e = omega (arith, ap (λ (x : Rescue.Rescue). x.left.reply.size) e, rescue_size stream old)

-- a new EncryptionInfo is as long as the longest that is admitted, at most
pub write_held : (bits : ℕ) (password name salt verifier filling : List ℕ) (r : Reply) (old out : List ℕ)
    → Ended.left r out ≡ Written.written bits password name salt verifier filling old → r.size < 2 ^ 48
unfolding Written.written Written.info_size
write_held bits password name salt verifier filling r old out e =
    let n = ended_size _ (Written.info_size (length name)) (Written.info_of bits password name salt verifier filling) old 4180
    (λ h. omega (arith, ((writable bits password (length name) (length old)).0 h).short)) in
    omega (arith, ap (λ (l : Ended.Left). l.reply.size) e, n)
