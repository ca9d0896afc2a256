-- Our writer keeps its promise: what it writes is laid out by the fields that the parser reads, and AES undoes itself on the verifier. That
-- sheets open under it is demand 3's. Assumes nothing.
use mathlib.Core.Path.{◌≡◌, sym, ap, subst⁻¹, ◌∙◌}
use mathlib.Core.List.{List}
use Prim.Native.Nat.{ℕ, ◌+◌}
use lib.ListN.{length}
use lib.Seq.{take_at}
use Rattle.answers.specs.Rules.{first_of}
use Rattle.answers.specs.Ended.{Left}
use Rattle.answers.proofs.Laws.{listed_in}
use Rattle.blocks.specs.Blocks.{ecb_under}
use Rattle.descriptor.specs.Info.{parsed}
use Rattle.descriptor.specs.declared.Descriptor.{Descriptor}
use Rattle.descriptor.proofs.Laws.{Parses, both_parse, parsed_answer, parsed_fields}
use Rattle.password.specs.Verifier.{verifier_sealing, verifier_plain, verifier_field, hash_field}
use Rattle.password.specs.Lock.{lock_of}
use Rattle.password.specs.Verdict.{judged}
use Rattle.sheet.specs.Sheet.{opened, sealed}
use Rattle.writer.specs.Written.{info_size}
use Rattle.writer.specs.Written as Written
use Rattle.writer.proofs.Laws.{writable, write_numbered, write_numbers_lem, write_answer, write_done}
use Rattle.writer.proofs.Back.{Given, new_descriptor, info_admitted, info_described, info_name, info_accepted, length_info}
use Rattle.promises.specs.Words.{Scheme, Accepted, written_part}
use Rattle.promises.specs.Demand1.{Call}
use Rattle.promises.specs.NewInfo.{Input, Typed, Writer, Within, rules_for, info_for, write_numbers, GivesBack, NewInfo}
use Rattle.promises.proofs.Ended.{ended_call, by_rules}
use Rattle.promises.proofs.Demand3.{demand_3}

-- `write_info`
unfoldable pub writes : Writer
writes i out = Written.written i.bits i.password i.name i.salt i.verifier i.filling out

module _ (i : Input) (out : List ℕ) (t : Typed i) where
  answered : (writes i out).reply.answer ≡ first_of (rules_for i (length out))
  unfolding writes
  answered = write_answer i.bits i.password i.name i.salt i.verifier i.filling out

  given : first_of (rules_for i (length out)) ≡ 0 → Given i.bits i.password i.name i.salt i.verifier i.filling
  given z =
      record {
        salt_long = t.salt;
        verifier_long = t.verifier;
        filling_long = t.filling;
        room = length out;
        fits = (writable i.bits i.password (length i.name) (length out)).0 z;
      }

  long : first_of (rules_for i (length out)) ≡ 0 → length (info_for i) ≡ 116 + length i.name
  long z = length_info i.bits i.password i.name i.salt i.verifier i.filling (given z)

  call : Call write_numbers (info_for i) out (writes i out)
  unfolding writes Written.written info_size given
  call =
      ended_call write_numbers (first_of (rules_for i (length out))) (info_size (length i.name)) (info_for i) out (listed_in (rules_for i (length out)) write_numbers (write_numbers_lem i.bits i.password (length i.name) (length out)))
      (λ z. (sym (long z), (given z).fits.roomy))

  to_within : Accepted (writes i out) → Within i (length out)
  to_within a =
      let w = (writable i.bits i.password (length i.name) (length out)).0 (sym answered ∙ a) in
      record { name = w.short; even = w.even; bits = w.key; password = w.typed; fits = w.roomy }

  of_within : Within i (length out) → Accepted (writes i out)
  of_within w =
      answered
      ∙ (writable i.bits i.password (length i.name) (length out)
      ).1 (record { short = w.name; even = w.even; key = w.bits; typed = w.password; roomy = w.fits })

  module _ (a : Accepted (writes i out)) where
    zero_is : first_of (rules_for i (length out)) ≡ 0
    zero_is = sym answered ∙ a

    -- what the call wrote is the stream
    wrote : written_part (writes i out) ≡ info_for i
    unfolding writes
    wrote =
        ap (λ (l : Left). written_part l) (write_done i.bits i.password i.name i.salt i.verifier i.filling out zero_is)
        ∙ take_at (info_for i) _ (116 + length i.name) (long zero_is)

    size : (writes i out).reply.size ≡ 116 + length i.name
    size = (call.accepted a).size ∙ long zero_is

    module _ (scheme : ℕ) (k : Scheme scheme) where
      parses : Parses (info_for i) scheme
      parses = both_parse (info_for i) scheme (info_admitted _ _ _ _ _ _ (given zero_is)) k

      fields : (parsed (info_for i) scheme).fields ≡ new_descriptor i.bits i.password i.name i.salt i.verifier i.filling scheme
      fields = parsed_fields (info_for i) scheme parses ∙ info_described _ _ _ _ _ _ (given zero_is) scheme

      back : GivesBack parsed judged i (info_for i) scheme
      unfolding verifier_field hash_field verifier_sealing verifier_plain ecb_under
      back =
          let g = given zero_is in
          record {
            answer = parsed_answer (info_for i) scheme ∙ parses;
            major = ap (λ (d : Descriptor). d.major) fields;
            minor = ap (λ (d : Descriptor). d.minor) fields;
            alg = ap (λ (d : Descriptor). d.alg_id) fields;
            key = ap (λ (d : Descriptor). d.key_size.0) fields;
            place = ap (λ (d : Descriptor). d.name_place) fields;
            name = ap (λ (d : Descriptor). d.name_length) fields;
            salt = ap (λ (d : Descriptor). d.salt) fields;
            verifier = ap (λ (d : Descriptor). d.encrypted_verifier) fields;
            hash = ap (λ (d : Descriptor). d.encrypted_verifier_hash) fields;
            scheme_is = ap (λ (d : Descriptor). d.scheme) fields;
            named = info_name _ _ _ _ _ _ g;
            verdict = info_accepted _ _ _ _ _ _ g scheme k;
          }

      written_back : GivesBack parsed judged i (written_part (writes i out)) scheme
      written_back = subst⁻¹ (λ (info : List ℕ). GivesBack parsed judged i info scheme) wrote back

pub new_info : NewInfo writes parsed judged opened sealed
new_info =
    record {
      accepts = λ i out t. (λ a. to_within i out t a, λ w. of_within i out t w);
      answers = λ i out t. rw (answered i out t) (by_rules (rules_for i (length out)) (write_numbered _ _ _ (length out)));
      call = call;
      size = size;
      back = written_back;
      opening = λ i out t a scheme k p w.
          (demand_3.under (lock_of (written_part (writes i out)) i.password scheme) (written_back i out t a scheme k).verdict).a p w;
    }
