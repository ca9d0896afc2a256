-- A sealer and an opener that copy without encrypting keep demand 3: an operation that does nothing is reversible. What stops them is
-- demand 2, which says by which operation: they would keep it only if the published scheme left every single block as it is. Assumes
-- nothing.
use mathlib.Core.Path.{◌≡◌, refl, sym, ap, ◌∙◌}
use mathlib.Core.Bool.{Bool}
use mathlib.Core.List.{List}
use Prim.Native.Nat.{ℕ, ◌+◌, ◌-◌, ◌≤◌}
use native.Mathlib.Omega.{arith}
use borrow.Author.Tests.{eq-eqb}
use lib.Dec.{lit<}
use lib.ListN.{length, take, drop, replicate, length-drop}
use lib.Seq.{take_at, take_all, length-take-le}
use Rattle.octets.specs.Octets.{Bytes}
use Rattle.answers.specs.Rules.{first_of}
use Rattle.answers.specs.Ended.{Left, ended, gives}
use Rattle.answers.proofs.Endings.{ended_answer}
use Rattle.steps.specs.Stream.{Undone}
use Rattle.steps.specs.Steps.{whole}
use Rattle.password.specs.Verdict.{judged}
use Rattle.password.specs.Lock.{Lock}
use Rattle.lengths.specs.Lengths.{stream_size, package_limit, rounded, sealed_size}
use Rattle.lengths.proofs.Fillings.{allowed_whole}
use Rattle.lengths.proofs.Rules.{fitting_holds}
use Rattle.sheet.specs.Frame.{Pair, Operation, Lawful, AdmittedStream, Sound, OneToOne, stream_of, pair_of}
use Rattle.sheet.specs.Sheet.{lengths, open_rules, package_rules, seal_rules, filled_with}
use Rattle.sheet.proofs.Frame.{inverse, one_pair, length_stream_of, size_stream_of, length_package}
use Rattle.sheet.proofs.Lengths.{Openable, openable, openable_admitted, admitted_openable, Sealable, sealable}
use Rattle.sheet.proofs.Laws.{open_answer, open_done, open_zero, seal_answer, seal_done, seal_zero, filled_begins}
use Rattle.promises.specs.Words.{Parser, Judge, Opener, Sealer, Accepted}
use Rattle.promises.specs.Demand2.{Demand2}
use Rattle.promises.specs.Demand3.{Begins, Demand3}
use Rattle.promises.proofs.Inverts.{Own, Inverts, exact}
use Rattle.promises.proofs.Wrong.{OpensBy, opened_block, other_opening}

same : Operation
same size s = s

-- they answer as ours, and frame as ours
pub copies_out : Opener
copies_out lock s out = ended (first_of (open_rules lock s (length out))) (stream_size s) (pair_of same s).«package» out

pub copies_in : Sealer
copies_in lock «package» filling extra out =
    ended (first_of (seal_rules lock extra (length «package») (length out))) (sealed_size extra (length «package»))
    (stream_of same (filled_with «package» filling extra)) out

undone : (size : ℕ) → Undone (whole 16) (same size) (same size)
unfolding same
undone size = record { long = λ s f. refl; bytes = λ s f. f.bytes; undo = λ s f. refl }

-- a ciphertext is whole blocks, whatever the size
abbrev blocks : (size n : ℕ) → Bool
blocks size n = whole 16 n

sound : Sound lengths blocks same same
unfolding lengths package_limit whole
sound =
    record {
      reversible = λ size. record { forth = undone size; home = undone size };
      fitting = λ size n h e. eq-eqb _ _ (allowed_whole size n e);
      held = lit< tt;
    }

inverted : OneToOne lengths same same
inverted = inverse lengths blocks same same sound

long : (p : Pair) → Lawful lengths p → length (stream_of same p) ≡ 8 + (length p.«package» + length p.filling)
long p w = length_stream_of lengths blocks same same sound p w

size_is : (p : Pair) (filling : List ℕ) (extra : Bool) → Lawful lengths p → Begins p filling extra → sealed_size extra (length p.«package») ≡ length (stream_of same p)
unfolding sealed_size rounded
size_is p filling extra w g = rw (long p w, g.chosen)

module _ (lock : Lock) where
  -- an accepted copy is a call that ours accepts
  open_taken : (s out : List ℕ) → Accepted (copies_out lock s out) → Openable s (length out)
  unfolding copies_out
  open_taken s out h =
      (open_zero lock s out (open_answer lock s out ∙ sym (ended_answer _ (stream_size s) (pair_of same s).«package» out) ∙ h)).1

  seal_taken : («package» filling : List ℕ) (extra : Bool) (out : List ℕ) → Accepted (copies_in lock «package» filling extra out)
      → Sealable extra (length «package») (length out)
  unfolding copies_in
  seal_taken «package» filling extra out h =
      let a = ended_answer _ (sealed_size extra (length «package»)) (stream_of same (filled_with «package» filling extra)) out in
      (seal_zero lock «package» filling extra out (seal_answer lock «package» filling extra out ∙ sym a ∙ h)).1

  room : (p : Pair) → Lawful lengths p → (filling : List ℕ) (extra : Bool) (out : List ℕ) → Begins p filling extra
      → Accepted (copies_in lock p.«package» filling extra out) → length (stream_of same p) ≤ length out
  room p w filling extra out g h = rw (← size_is p filling extra w g) (seal_taken p.«package» filling extra out h).roomy

  own : (s out : List ℕ) → Bytes s → Accepted (copies_out lock s out) → Own (stream_of same) s out (pair_of same s)
  own s out b h =
      let k = open_taken s out h in
      let a : AdmittedStream lengths s = openable_admitted s (length out) b k in
      record {
        lawful = inverted.lawful s a;
        again = inverted.stream_again s a;
        room = rw (length_package lengths blocks same same sound s a) k.roomy;
      }

  module _ (v : judged lock ≡ 0) where
    seals_to : (p : Pair) → Lawful lengths p → (filling : List ℕ) (extra : Bool) (out : List ℕ) → Begins p filling extra
        → length (stream_of same p) ≤ length out → copies_in lock p.«package» filling extra out ≡ gives (stream_of same p) out
    unfolding copies_in lengths ended
    seals_to p w filling extra out g h =
        let size = size_is p filling extra w g in
        let k : Sealable extra (length p.«package») (length out) = record { limited = w.limited; roomy = rw size h } in
        let done = seal_done lock p.«package» filling extra out v ((sealable extra (length p.«package») (length out)).1 k) in
        let z : first_of (seal_rules lock extra (length p.«package») (length out)) ≡ 0 =
        sym (seal_answer lock p.«package» filling extra out) ∙ ap (λ (l : Left). l.reply.answer) done in
        rw (z, filled_begins p filling extra g.chosen g.begins, size)

    opens_to : (p : Pair) → Lawful lengths p → (out : List ℕ) → length p.«package» ≤ length out
        → copies_out lock (stream_of same p) out ≡ gives p.«package» out
    unfolding copies_out ended
    opens_to p w out h =
        let s : List ℕ = stream_of same p in
        let n : stream_size s ≡ length p.«package» = size_stream_of lengths blocks same same sound p w in
        let k : Openable s (length out) = admitted_openable s (length out) (inverted.admitted p w) (rw n h) in
        let z : first_of (open_rules lock s (length out)) ≡ 0 =
        sym (open_answer lock s out)
        ∙ ap (λ (l : Left). l.reply.answer) (open_done lock s out v ((openable s (length out)).1 k)) in
        rw (z, n, inverted.pair_again p w)

    inverts : Inverts copies_out copies_in lock
    unfolding copies_in filled_with seal_rules package_rules sealed_size rounded
    inverts =
        record {
          stream = stream_of same;
          own = pair_of same;
          long = long;
          once = one_pair lengths same same inverted;
          seals_to = seals_to;
          opens_to = opens_to;
          sealed_room = room;
          opened_own = own;
          alike = λ «package» filling other extra out e. rw e;
          by_length = λ «package» filling extra other out e. rw e;
        }

pub copies_keep_3 : Demand3 judged copies_out copies_in
copies_keep_3 = record { under = λ lock v. exact copies_out copies_in lock (inverts lock v) }

-- on the calls that are to be accepted the copy writes what stands in the stream
copy_opens : OpensBy copies_out (λ lock ciphertext. ciphertext)
unfolding copies_out ended pair_of same
copy_opens lock s out a =
    let k : Openable s (length out) = (open_zero lock s out a).1 in
    let z : first_of (open_rules lock s (length out)) ≡ 0 = sym (open_answer lock s out) ∙ a in
    let n : length (drop 8 s) ≡ length s - 8 = length-drop 8 s in
    let r : length (take (stream_size s) (drop 8 s)) ≡ stream_size s = length-take-le (stream_size s) (drop 8 s) (omega (arith, fitting_holds _ _ k.fits)) in
    rw z (take_at (take (stream_size s) (drop 8 s)) (replicate (length out - stream_size s) 0) (stream_size s) r)

-- so they keep demand 2 only where the published scheme leaves every single block as it is, under every accepted lock
pub copies_keep_2_only : (parses : Parser) (judges : Judge) (seals : Sealer) → Demand2 parses judges copies_out seals
    → (lock : Lock) (c : List ℕ) → judged lock ≡ 0 → length c ≡ 16 → opened_block lock c ≡ c
copies_keep_2_only parses judges seals two lock c v n =
    sym (other_opening parses judges copies_out seals two (λ lock ciphertext. ciphertext) copy_opens lock c v n)
    ∙ take_all 16 c (omega arith)
