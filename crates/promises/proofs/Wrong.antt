-- The openers that the auditor will offer (01, "What the auditor will try"), and the demand that stops each. An opener is taken by what
-- it does on the calls that are to be accepted, whatever it does on others; such calls exist for every size. Assumes nothing.
use mathlib.Core.Path.{◌≡◌, refl, sym, ap, ◌∙◌}
use mathlib.Core.Logic.{inl, inr}
use mathlib.Core.Bool.{Bool, false, cond}
use mathlib.Core.List.{List, [], ◌∷◌, ◌++◌, append-nil}
use Prim.Native.Nat.{ℕ, ◌-◌, ◌≤◌}
use native.Mathlib.Omega.{arith}
use lib.Dec.{eqb, lit≤, lit<}
use lib.ListN.{length, take, drop, get_or, replicate, length-append, length-replicate}
use lib.Seq.{take_at, drop_at, take_all}
use Rattle.octets.specs.Octets.{le_at, le_bytes}
use Rattle.octets.proofs.Numbers.{length_le_bytes}
use Rattle.answers.specs.Ended.{Left, gives}
use Rattle.answers.proofs.Laws.{either}
use Rattle.fips197.proofs.States.{length_add_round_key}
use Rattle.aes.specs.Aes.{encryption, decryption}
use Rattle.aes.proofs.Keys.{length_encryption, length_decryption}
use Rattle.steps.specs.Steps.{open_all, seal_all}
use Rattle.steps.proofs.Ecb.{open_one, seal_one}
use Rattle.steps.proofs.Chained.{chained_open_one, chained_seal_one}
use Rattle.segments.specs.Start.{start_of}
use Rattle.blocks.specs.Blocks.{xored}
use Rattle.descriptor.specs.Info.{salt_of}
use Rattle.password.specs.Verdict.{judged}
use Rattle.password.specs.Lock.{Lock, lock_of}
use Rattle.lengths.specs.Lengths.{stream_size, package_limit, least, filling_for, rounded, length_allowed, sealed_size}
use Rattle.lengths.proofs.StreamSize.{size_told}
use Rattle.sheet.specs.Sheet.{package_of, opened, sealed}
use Rattle.sheet.proofs.Lengths.{Openable, openable, Sealable, sealable}
use Rattle.sheet.proofs.Laws.{open_done, seal_done}
use Rattle.promises.specs.Words.{Parser, Judge, Opener, Sealer, Accepted, written_part, published_key}
use Rattle.promises.specs.Demand1.{Demand1}
use Rattle.promises.specs.Demand2.{published_step, Demand2}
use Rattle.promises.specs.Demand3.{RoundTrip, Demand3}
use Rattle.promises.specs.Possible.{Locks, Fills}
use Rattle.promises.proofs.Ended.{wrote}
use Rattle.promises.proofs.Demand2.{demand_2}
use Rattle.promises.proofs.Demand3.{demand_3}
use Rattle.promises.proofs.Possible.{possible}

abbrev answer_of : Left → ℕ
answer_of l = l.reply.answer

-- ---- a call to be accepted, for every size of a package

-- a lock with an empty password, which it accepts
some : Locks judged 128 [] 1
some = possible.locks 128 (inl refl) [] (lit≤ tt) 1 (inl refl)

abbrev mine : Lock
mine = lock_of some.info [] 1

module _ (size : ℕ) (h : size ≤ 268435456) where
  filled : Fills false size
  filled = possible.fills false size h

  «package» : List ℕ
  «package» = filled.it.«package»

  -- its package is of that size
  sized : length «package» ≡ size
  unfolding «package»
  sized = filled.sized

  round : RoundTrip opened sealed mine filled.it
  round = (demand_3.under mine some.verdict).a filled.it filled.lawful

  -- and comes out, given room
  comes : (out : List ℕ) → size ≤ length out → opened mine round.stream out ≡ gives «package» out
  unfolding «package»
  comes out r = round.opening.always out (rw sized r)

  taken : (out : List ℕ) → size ≤ length out → Accepted (opened mine round.stream out)
  taken out r = ap answer_of (comes out r)

-- ---- one block

module _ (c : List ℕ) (n : length c ≡ 16) where
  -- the stream whose ciphertext it is
  single : List ℕ
  single = le_bytes 8 16 ++ c

  single_size : stream_size single ≡ 16
  unfolding single
  single_size = size_told 16 c (lit< tt)

  single_rest : drop 8 single ≡ c
  unfolding single
  single_rest = drop_at (le_bytes 8 16) c 8 (length_le_bytes 8 16)

  single_long : length single ≡ 24
  unfolding single
  single_long = simp (length-append, length_le_bytes, n)

  single_taken : (lock : Lock) → judged lock ≡ 0 → Accepted (opened lock single (replicate 16 0))
  unfolding package_limit length_allowed rounded filling_for least
  single_taken lock v =
      let k : Openable single 16 =
      record {
        fits = record { headed = rw single_long (lit≤ tt); limited = rw single_size (lit≤ tt); long = rw (single_long, single_size) };
        roomy = rw single_size (lit≤ tt);
      } in
      ap answer_of (open_done lock single (replicate 16 0) v ((openable single 16).1 k))

  -- the package that it is
  block_taken : (lock : Lock) → judged lock ≡ 0 → Accepted (sealed lock c (replicate 16 0) false (replicate 24 0))
  unfolding package_limit sealed_size rounded filling_for least
  block_taken lock v =
      let k : Sealable false (length c) 24 = record { limited = rw n (lit≤ tt); roomy = rw n (lit≤ tt) } in
      ap answer_of (seal_done lock c (replicate 16 0) false (replicate 24 0) v ((sealable false (length c) 24).1 k))

-- what the published scheme makes of it: AES under the published key, and where it chains, the vector of segment 0
abbrev pub opened_block : (lock : Lock) (c : List ℕ) → List ℕ
opened_block lock c =
    let plain : List ℕ = decryption (published_key lock) c in
    cond (eqb lock.scheme 2) (xored plain (start_of (salt_of lock.info) 0)) plain

abbrev pub sealed_block : (lock : Lock) (b : List ℕ) → List ℕ
sealed_block lock b = encryption (published_key lock) (cond (eqb lock.scheme 2) (xored b (start_of (salt_of lock.info) 0)) b)

module _ (lock : Lock) (s : List ℕ) (n : length s ≡ 16) where
  abbrev f : List ℕ → List ℕ
  f = encryption (published_key lock)

  abbrev g : List ℕ → List ℕ
  g = decryption (published_key lock)

  published_opened : open_all (published_step lock 16) s ≡ opened_block lock s
  published_opened =
      elim (either (eqb lock.scheme 2)) [
        | inl e ↦ rw e (chained_open_one f g xored (start_of (salt_of lock.info)) 16 s n)
        | inr e ↦ rw e (open_one f g s n)
      ]

  published_sealed : seal_all (published_step lock 16) s ≡ sealed_block lock s
  published_sealed =
      elim (either (eqb lock.scheme 2)) [
        | inl e ↦ rw e (chained_seal_one f g xored (start_of (salt_of lock.info)) 16 s n)
        | inr e ↦ rw e (seal_one f g s n)
      ]

  length_opened_block : length (opened_block lock s) ≡ 16
  length_opened_block =
      elim (either (eqb lock.scheme 2)) [
        | inl e ↦ rw e (length_add_round_key (g s) (start_of (salt_of lock.info) 0) ∙ length_decryption (published_key lock) s)
        | inr e ↦ rw e (length_decryption (published_key lock) s)
      ]

-- ---- the openers

-- it is so on every call that is to be accepted
abbrev pub OnAccepted : ((lock : Lock) (stream out : List ℕ) → Type 0) → Type 0
OnAccepted Q = (lock : Lock) (stream out : List ℕ) → Accepted (opened lock stream out) → Q lock stream out

-- it opens by this operation in place of decryption
abbrev pub OpensBy : Opener → ((lock : Lock) (ciphertext : List ℕ) → List ℕ) → Type 0
OpensBy opens back =
    OnAccepted (λ lock stream out. written_part (opens lock stream out) ≡ take (stream_size stream) (back lock (drop 8 stream)))

-- it seals by this operation in place of encryption
abbrev pub SealsBy : Sealer → ((lock : Lock) (plain : List ℕ) → List ℕ) → Type 0
SealsBy seals there =
    (lock : Lock) («package» filling : List ℕ) (extra : Bool) (out : List ℕ) → length filling ≡ 16 → Accepted (sealed lock «package» filling extra out)
    → written_part (seals lock «package» filling extra out)
    ≡ le_bytes 8 (length «package») ++ there lock («package» ++ take (filling_for extra (length «package»)) filling)

-- what is left of an output does not depend on what it held
untold : (l : List ℕ) → ((x : ℕ) → l ≡ x ∷ []) → ⊥
untold l kept = let n : ◌≡◌ {A = ℕ} 0 1 = ap (λ (x : List ℕ). get_or x 0 0) (sym (kept 0) ∙ kept 1) in omega arith

module _ (parses : Parser) (judges : Judge) (opens : Opener) (seals : Sealer) where
  -- what the opener leaves of a package of that size
  left_of : (size : ℕ) (h : size ≤ 268435456) (out : List ℕ) → Left
  left_of size h out = opens mine (round size h).stream out

  -- ---- stopped by demand 2

  module _ (two : Demand2 parses judges opens seals) where
    -- it fixes all that an accepted call leaves
    pub accepted_fixed : OnAccepted (λ lock stream out. opens lock stream out ≡ opened lock stream out)
    accepted_fixed lock s out a =
        let h = (demand_2.open_answer lock s out).none.0 a in
        two.opening lock s out h ∙ sym (demand_2.opening lock s out h)

    fixed : (size : ℕ) (h : size ≤ 268435456) (out : List ℕ) → size ≤ length out → left_of size h out ≡ gives («package» size h) out
    unfolding left_of
    fixed size h out r = accepted_fixed mine (round size h).stream out (taken size h out r) ∙ comes size h out r

    -- one that always says 12
    pub always_12 : OnAccepted (λ lock stream out. (opens lock stream out).reply.answer ≡ 12) → ⊥
    unfolding left_of
    always_12 w =
        let e : answer_of (left_of 0 (lit≤ tt) []) ≡ 0 = ap answer_of (fixed 0 (lit≤ tt) [] (lit≤ tt)) in
        omega (arith, w mine (round 0 (lit≤ tt)).stream [] (taken 0 (lit≤ tt) [] (lit≤ tt)))

    -- one that always gives the same package
    pub same_package : (k : List ℕ) → OnAccepted (λ lock stream out. written_part (opens lock stream out) ≡ k) → ⊥
    unfolding left_of
    same_package k w = omega (arith, long 0 (lit≤ tt), long 1 (lit≤ tt))
      where
        long : (size : ℕ) → size ≤ 268435456 → length k ≡ size
        long size h =
            let out : List ℕ = replicate size 0 in
            let r : size ≤ length out = rw (length-replicate {A = ℕ} size 0) (omega arith) in
            let k-is : written_part (left_of size h out) ≡ k = w mine (round size h).stream out (taken size h out r) in
            ap length (sym k-is ∙ ap written_part (fixed size h out r) ∙ wrote («package» size h) out) ∙ sized size h

    -- one that tells another size than StreamSize, were it on a single call
    pub invents_size : (lock : Lock) (stream out : List ℕ) → Accepted (opened lock stream out)
        → ((opens lock stream out).reply.size ≡ stream_size stream → ⊥) → ⊥
    unfolding stream_size
    invents_size lock s out a w =
        w (ap (λ (l : Left). l.reply.size) (two.opening lock s out ((demand_2.open_answer lock s out).none.0 a)))

    -- one that writes nothing
    pub writes_nothing : OnAccepted (λ lock stream out. (opens lock stream out).out ≡ out) → ⊥
    unfolding left_of
    writes_nothing w = untold _ kept
      where
        kept : (x : ℕ) → (gives («package» 0 (lit≤ tt)) (0 ∷ [])).out ≡ x ∷ []
        kept x =
            ap (λ (l : Left). l.out) (sym (fixed 0 (lit≤ tt) (x ∷ []) (lit≤ tt)))
            ∙ w mine (round 0 (lit≤ tt)).stream (x ∷ []) (taken 0 (lit≤ tt) (x ∷ []) (lit≤ tt))

    -- one with another operation in place of decryption (one AES round, AES under the key of one hash step, a plain copy) passes only
    -- where, on every single block, that operation is what the published scheme makes of it
    pub other_opening : (back : (lock : Lock) (ciphertext : List ℕ) → List ℕ) → OpensBy opens back
        → (lock : Lock) (c : List ℕ) → judged lock ≡ 0 → length c ≡ 16
        → take 16 (back lock c) ≡ opened_block lock c
    unfolding stream_size
    other_opening back w lock c v n =
        let s : List ℕ = single c n in
        let out : List ℕ = replicate 16 0 in
        let a : Accepted (opened lock s out) = single_taken c n lock v in
        let size : le_at 8 0 s ≡ 16 = single_size c n in
        let plain : List ℕ = opened_block lock c in
        let whole : length plain ≡ 16 = length_opened_block lock c n in
        let theirs : written_part (opens lock s out) ≡ take 16 (back lock c) = w lock s out a ∙ rw (size, single_rest c n) in
        let ours : written_part (opens lock s out) ≡ plain =
        ap written_part (two.opening lock s out ((demand_2.open_answer lock s out).none.0 a))
        ∙ rw (size, single_rest c n, published_opened lock c n, take_all 16 plain (omega arith)) (take_at plain [] 16 whole) in
        sym theirs ∙ ours

    -- and so for a sealer, with encryption
    pub other_sealing : (there : (lock : Lock) (plain : List ℕ) → List ℕ) → SealsBy seals there
        → (lock : Lock) (b : List ℕ) → judged lock ≡ 0 → length b ≡ 16
        → there lock b ≡ sealed_block lock b
    unfolding least filling_for
    other_sealing there w lock b v n =
        let filling : List ℕ = replicate 16 0 in
        let out : List ℕ = replicate 24 0 in
        let a : Accepted (sealed lock b filling false out) = block_taken b n lock v in
        let cipher : List ℕ = sealed_block lock b in
        let whole : length (le_bytes 8 16 ++ cipher) ≡ 24 = simp (length-append, length_le_bytes, length_encryption) in
        let theirs : written_part (seals lock b filling false out) ≡ le_bytes 8 16 ++ there lock b =
        w lock b filling false out refl a ∙ rw (n, append-nil) in
        let ours : written_part (seals lock b filling false out) ≡ le_bytes 8 16 ++ cipher =
        ap written_part (two.sealing lock b filling false out refl ((demand_2.seal_answer lock b filling false out refl).none.0 a))
        ∙ rw (n, append-nil b, published_sealed lock b n) (take_at (le_bytes 8 16 ++ cipher) [] 24 whole) in
        sym (drop_at (le_bytes 8 16) (there lock b) 8 (length_le_bytes 8 16))
        ∙ ap (drop 8) (sym theirs ∙ ours)
        ∙ drop_at (le_bytes 8 16) cipher 8 (length_le_bytes 8 16)

  -- ---- stopped by demand 1

  -- one that answers 0 and writes nothing, whatever size it tells
  pub answers_and_writes_nothing : Demand1 parses judges opens seals
      → OnAccepted (λ lock stream out. Accepted (opens lock stream out) × ((opens lock stream out).out ≡ out)) → ⊥
  answers_and_writes_nothing one w = untold _ kept
    where
      s : List ℕ
      s = (round 0 (lit≤ tt)).stream

      content : List ℕ
      content = package_of mine s

      kept : (x : ℕ) → content ++ replicate (1 - length content) 0 ≡ x ∷ []
      kept x =
          let k = w mine s (x ∷ []) (taken 0 (lit≤ tt) (x ∷ []) (lit≤ tt)) in
          let c = (one.opening mine s (x ∷ [])).accepted k.0 in
          ap (λ (n : ℕ). content ++ replicate (1 - n) 0) (sym c.size) ∙ sym c.bytes ∙ k.1

-- ---- stopped by demand 3

module _ (opens : Opener) (seals : Sealer) (three : Demand3 judged opens seals) where
  -- for every size there is a stream that opens to a package of that size
  again : (size : ℕ) (h : size ≤ 268435456) → RoundTrip opens seals mine (filled size h).it
  again size h = (three.under mine some.verdict).a (filled size h).it (filled size h).lawful

  opens_to : (size : ℕ) (h : size ≤ 268435456)
      → opens mine (again size h).stream (replicate size 0) ≡ gives («package» size h) (replicate size 0)
  unfolding «package»
  opens_to size h =
      (again size h).opening.always (replicate size 0) (omega (arith, sized size h, length-replicate {A = ℕ} size 0))

  -- one that always says 12
  pub always_12_opens_none : ((lock : Lock) (stream out : List ℕ) → (opens lock stream out).reply.answer ≡ 12) → ⊥
  always_12_opens_none w =
      let e : (opens mine (again 0 (lit≤ tt)).stream []).reply.answer ≡ 0 = ap answer_of (opens_to 0 (lit≤ tt)) in
      omega (arith, w mine (again 0 (lit≤ tt)).stream [])

  -- one that always gives the same package
  pub same_package_opens_one : (k : List ℕ)
      → ((lock : Lock) (stream out : List ℕ) → Accepted (opens lock stream out) → written_part (opens lock stream out) ≡ k) → ⊥
  same_package_opens_one k w = omega (arith, long 0 (lit≤ tt), long 1 (lit≤ tt))
    where
      long : (size : ℕ) → size ≤ 268435456 → length k ≡ size
      long size h =
          let out : List ℕ = replicate size 0 in
          let k-is : written_part (opens mine (again size h).stream out) ≡ k =
          w mine (again size h).stream out (ap answer_of (opens_to size h)) in
          ap length (sym k-is ∙ ap written_part (opens_to size h) ∙ wrote («package» size h) out) ∙ sized size h
