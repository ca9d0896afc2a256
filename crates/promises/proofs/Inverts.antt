-- Demand 3 under one descriptor and password, from what any opener and sealer have to show for it: a stream for each pair, a pair for
-- each stream, and that the calls go by them. Assumes nothing.
use mathlib.Core.Path.{◌≡◌, refl, sym, ap, ◌∙◌}
use mathlib.Core.Bool.{Bool}
use mathlib.Core.List.{List}
use Prim.Native.Nat.{ℕ, ◌+◌, ◌≤◌}
use lib.ListN.{length, take}
use Rattle.octets.specs.Octets.{Bytes}
use Rattle.answers.specs.Ended.{gives}
use Rattle.password.specs.Lock.{Lock}
use Rattle.lengths.specs.Lengths.{filling_for}
use Rattle.lengths.proofs.Fillings.{untaken}
use Rattle.sheet.specs.Frame.{Pair, Lawful}
use Rattle.sheet.specs.Sheet.{lengths}
use Rattle.promises.specs.Words.{Opener, Sealer, Accepted, written_part}
use Rattle.promises.specs.Demand3.{Begins, Seals, Sealed, RoundTrip, Only, Exact}
use Rattle.promises.proofs.Ended.{wrote}

-- what a stream that opens tells
pub record Own (stream : Pair → List ℕ) (s out : List ℕ) (p : Pair) : Type 0 where
  pub lawful : Lawful lengths p
  pub again : stream p ≡ s
  pub room : length p.«package» ≤ length out

pub record Inverts (opens : Opener) (seals : Sealer) (lock : Lock) : Type 0 where
  pub stream : Pair → List ℕ
  pub own : List ℕ → Pair
  pub long : (p : Pair) → Lawful lengths p → length (stream p) ≡ 8 + (length p.«package» + length p.filling)
  pub once : (p q : Pair) → Lawful lengths p → Lawful lengths q → stream p ≡ stream q → p ≡ q
  pub seals_to : (p : Pair) → Lawful lengths p → (filling : List ℕ) (extra : Bool) (out : List ℕ) → Begins p filling extra → length (stream p) ≤ length out
      → seals lock p.«package» filling extra out ≡ gives (stream p) out
  pub opens_to : (p : Pair) → Lawful lengths p → (out : List ℕ) → length p.«package» ≤ length out
      → opens lock (stream p) out ≡ gives p.«package» out
  pub sealed_room : (p : Pair) → Lawful lengths p → (filling : List ℕ) (extra : Bool) (out : List ℕ) → Begins p filling extra
      → Accepted (seals lock p.«package» filling extra out) → length (stream p) ≤ length out
  pub opened_own : (s out : List ℕ) → Bytes s → Accepted (opens lock s out) → Own stream s out (own s)
  pub alike : («package» filling other : List ℕ) (extra : Bool) (out : List ℕ)
      → take (filling_for extra (length «package»)) filling ≡ take (filling_for extra (length «package»)) other
      → seals lock «package» filling extra out ≡ seals lock «package» other extra out
  pub by_length : («package» filling : List ℕ) (extra other : Bool) (out : List ℕ) → filling_for extra (length «package») ≡ filling_for other (length «package»)
      → seals lock «package» filling extra out ≡ seals lock «package» filling other out

module _ (opens : Opener) (seals : Sealer) (lock : Lock) (v : Inverts opens seals lock) where
  module _ (p : Pair) (w : Lawful lengths p) where
    into : (s : List ℕ) → v.stream p ≡ s → Seals seals lock p s
    into s e = record { always = λ filling extra out g h. v.seals_to p w filling extra out g (rw e h) ∙ ap (λ (x : List ℕ). gives x out) e }

    round : RoundTrip opens seals lock p
    round =
        record {
          stream = v.stream p;
          long = v.long p w;
          sealing = into (v.stream p) refl;
          opening = record { always = λ out h. v.opens_to p w out h };
        }

    -- an accepted call wrote the pair's stream
    sealed_is : (s : List ℕ) → Sealed seals lock p s → v.stream p ≡ s
    sealed_is s c =
        let r = v.sealed_room p w c.filling c.extra c.out c.begins c.accepted in
        let e = v.seals_to p w c.filling c.extra c.out c.begins r in
        sym (wrote (v.stream p) c.out) ∙ sym (ap written_part e) ∙ c.wrote

  -- an accepted opening wrote the package of the stream's own pair
  module _ (s out : List ℕ) (b : Bytes s) (h : Accepted (opens lock s out)) where
    mine : Own v.stream s out (v.own s)
    mine = v.opened_own s out b h

    came_out : (v.own s).«package» ≡ written_part (opens lock s out)
    came_out =
        let e : opens lock s out ≡ gives (v.own s).«package» out =
        ap (λ (x : List ℕ). opens lock x out) (sym mine.again) ∙ v.opens_to (v.own s) mine.lawful out mine.room in
        sym (ap written_part e ∙ wrote (v.own s).«package» out)

    only : Only seals lock s (written_part (opens lock s out))
    only =
        record {
          it = v.own s;
          lawful = mine.lawful;
          came_out = came_out;
          sealing = into (v.own s) mine.lawful s mine.again;
          one = λ q x c. v.once q (v.own s) x mine.lawful (sealed_is q x s c ∙ sym mine.again);
        }

  pub exact : Exact opens seals lock
  exact =
      record {
        a = λ p w. round p w;
        b = λ p q w x s c d. v.once p q w x (sealed_is p w s c ∙ sym (sealed_is q x s d));
        c = λ s out b h. only s out b h;
        d = λ «package» filling other extra out g f e. v.alike «package» filling other extra out e;
        e = λ «package» filling extra other out g n. v.by_length «package» filling extra other out (untaken extra (length «package») n ∙ sym (untaken other (length «package») n));
      }
