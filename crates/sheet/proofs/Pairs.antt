-- Under an accepted password each lawful pair seals into a stream that opens to its package, and each stream that opens is the
-- sealing of its own pair and of no other: the frame's inverse, said of the calls. Assumes nothing.
use mathlib.Core.Path.{◌≡◌, ap, ◌∙◌}
use mathlib.Core.Bool.{Bool}
use mathlib.Core.List.{List}
use Prim.Native.Nat.{ℕ, ◌≤◌}
use native.Mathlib.Omega.{arith}
use lib.ListN.{length, take}
use Rattle.octets.specs.Octets.{Bytes}
use Rattle.answers.specs.Ended.{gives}
use Rattle.password.specs.Lock.{Lock}
use Rattle.password.specs.Verdict.{judged}
use Rattle.lengths.specs.Lengths.{stream_size, filling_for, sealed_size}
use Rattle.sheet.specs.Frame.{Pair, Lawful, AdmittedStream, pair_of}
use Rattle.sheet.specs.Sheet.{lengths, sealing, opening, package_of, sealing_of, opened, sealed}
use Rattle.sheet.proofs.Frame.{size_stream_of, one_pair}
use Rattle.sheet.proofs.Lengths.{openable, openable_admitted, admitted_openable, sealable}
use Rattle.sheet.proofs.Laws.{open_done, open_zero, seal_done, length_sealing, filled_begins}
use Rattle.sheet.proofs.Keyed.{units, sound, inverted}

module _ (lock : Lock) (v : judged lock ≡ 0) where
  module _ (p : Pair) (w : Lawful lengths p) where
    pub stream_admitted : AdmittedStream lengths (sealing_of lock p)
    unfolding sealing_of
    stream_admitted = (inverted lock).admitted p w

    pub stream_size_lem : stream_size (sealing_of lock p) ≡ length p.«package»
    unfolding sealing_of
    stream_size_lem = size_stream_of lengths (units lock) (sealing lock) (opening lock) (sound lock) p w

    pub stream_package : package_of lock (sealing_of lock p) ≡ p.«package»
    unfolding package_of sealing_of
    stream_package = ap (λ (q : Pair). q.«package») ((inverted lock).pair_again p w)

    -- a pair seals, given room, with any bytes that begin with its filling and the choice that makes it so long
    pub pair_seals : (filling : List ℕ) (extra : Bool) (out : List ℕ) → length p.filling ≡ filling_for extra (length p.«package»)
        → take (length p.filling) filling ≡ p.filling → length (sealing_of lock p) ≤ length out
        → sealed lock p.«package» filling extra out ≡ gives (sealing_of lock p) out
    unfolding lengths
    pair_seals filling extra out f b h =
        let n : length (sealing_of lock p) ≡ sealed_size extra (length p.«package») = length_sealing lock p extra f in
        let k = (sealable extra (length p.«package») (length out)).1 (record { limited = w.limited; roomy = omega arith }) in
        seal_done lock p.«package» filling extra out v k ∙ rw (filled_begins p filling extra f b, n)

    -- and its stream opens, given room, to its package
    pub stream_opens : (out : List ℕ) → length p.«package» ≤ length out → opened lock (sealing_of lock p) out ≡ gives p.«package» out
    stream_opens out h =
        let s : List ℕ = sealing_of lock p in
        let z : stream_size s ≡ length p.«package» = stream_size_lem in
        open_done lock s out v ((openable s (length out)).1 (admitted_openable s (length out) stream_admitted (omega arith)))
        ∙ rw (z, stream_package)

  -- two pairs never seal alike
  pub sealed_once : (p q : Pair) → Lawful lengths p → Lawful lengths q → sealing_of lock p ≡ sealing_of lock q → p ≡ q
  unfolding sealing_of
  sealed_once = one_pair lengths (sealing lock) (opening lock) (inverted lock)

  -- a stream of bytes that opens is the sealing of a lawful pair, whose package is what comes out
  module _ (s out : List ℕ) (b : Bytes s) (h : (opened lock s out).reply.answer ≡ 0) where
    opens_admitted : AdmittedStream lengths s
    opens_admitted = openable_admitted s (length out) b (open_zero lock s out h).1

    pub opened_lawful : Lawful lengths (pair_of (opening lock) s)
    opened_lawful = (inverted lock).lawful s opens_admitted

    pub opened_again : sealing_of lock (pair_of (opening lock) s) ≡ s
    unfolding sealing_of
    opened_again = (inverted lock).stream_again s opens_admitted
