-- Instances of what the promises take for granted. Nothing is computed on a package: its length is a law. Assumes nothing.
use mathlib.Core.Path.{◌≡◌, refl, ap, ◌∙◌}
use mathlib.Core.Logic.{inl, inr}
use mathlib.Core.Bool.{Bool, true, false}
use mathlib.Core.List.{List, [], ◌∷◌, ◌++◌, flat_map}
use Prim.Native.Nat.{ℕ, ◌-◌, ◌%◌, ◌^◌, ◌≤◌, ◌<◌}
use native.Mathlib.Omega.{arith}
use lib.Dec.{lit<, lit≤}
use lib.ListN.{length, replicate, length-append, length-replicate}
use lib.Seq.{take_at, take_all}
use Rattle.octets.specs.Octets.{Bytes, le, le_at, le_bytes}
use Rattle.octets.proofs.Below.{nil_bytes, replicate_below, le_bytes_bytes}
use Rattle.octets.proofs.Numbers.{length_le_bytes, le_le_bytes}
use Rattle.answers.specs.Rules.{OneOf, first_of}
use Rattle.answers.proofs.Rows.{◌and◌}
use Rattle.descriptor.specs.Info.{parsed}
use Rattle.descriptor.specs.LaidOut.{laid_out, front, verifier}
use Rattle.descriptor.specs.Info as Info
use Rattle.password.specs.Verdict.{judged}
use Rattle.lengths.specs.Lengths.{stream_size, package_limit}
use Rattle.lengths.proofs.Fillings.{filling_most}
use Rattle.sheet.specs.Frame.{Pair, Lawful}
use Rattle.sheet.specs.Sheet.{lengths, filled_with}
use Rattle.sheet.proofs.Laws.{filled_lawful, length_filling, filling_chosen}
use Rattle.writer.specs.Written.{info_of}
use Rattle.writer.proofs.Back.{Given, info_bytes, info_bits, info_accepted}
use Rattle.promises.specs.Words.{Scheme}
use Rattle.promises.specs.ExtraBlock.{Takes}
use Rattle.promises.specs.Cases.{table}
use Rattle.promises.specs.Possible.{Locks, Fills, Begun, Long, Told, Instances, Possible}

-- ---- accepted passwords

-- the writer makes an EncryptionInfo for each: here with no name, and zeros for salt, verifier and filling
locks : (bits : ℕ) → OneOf (128 ∷ 192 ∷ 256 ∷ []) bits → (password : List ℕ) → length password ≤ 255
    → (scheme : ℕ) → Scheme scheme → Locks judged bits password scheme
locks bits k password l scheme o =
    record {
      info = info_of bits password [] (replicate 16 0) (replicate 16 0) (replicate 12 0);
      bytes = info_bytes bits password [] _ _ _ filling nil_bytes (zeros 16) (zeros 16) (zeros 12);
      size = info_bits bits password [] _ _ _ filling;
      verdict = info_accepted bits password [] _ _ _ filling scheme o;
    }
  where
    zeros : (n : ℕ) → Bytes (replicate n 0)
    zeros n = replicate_below n 0 (omega arith)

    filling : Given bits password [] (replicate 16 0) (replicate 16 0) (replicate 12 0)
    filling =
        record {
          salt_long = refl;
          verifier_long = refl;
          filling_long = refl;
          room = 116;
          fits = record { short = omega arith; even = refl; key = k; typed = l; roomy = omega arith };
        }

-- ---- packages and streams

long : (n : ℕ) → Long n
long n = record { it = replicate n 0; bytes = replicate_below n 0 (omega arith); long = length-replicate n 0 }

told : (size : ℕ) → size < 256 ^ 8 → Told size
unfolding stream_size le_at
told size h =
    record {
      it = le_bytes 8 size;
      bytes = le_bytes_bytes 8 size;
      headed = rw length_le_bytes (lit≤ tt);
      told = ap le (take_all 8 (le_bytes 8 size) (rw length_le_bytes (lit≤ tt))) ∙ le_le_bytes 8 size h;
    }

fills : (extra : Bool) (size : ℕ) → size ≤ 268435456 → Fills extra size
unfolding package_limit filled_with
fills extra size h = filled (long size) (long 16)
  where
    filled : Long size → Long 16 → Fills extra size
    filled «package» filling =
        let n = length_filling «package».it filling.it extra filling.long in
        record {
          it = filled_with «package».it filling.it extra;
          lawful = filled_lawful «package».it filling.it extra filling.long «package».bytes filling.bytes (omega (arith, «package».long));
          sized = «package».long;
          filling = filling.it;
          begins = record { sixteen = filling.long; chosen = n; begins = rw n };
        }

-- a filling, with zeros to sixteen bytes
begun : (p : Pair) → Lawful lengths p → Begun p
begun p w =
    let k = filling_chosen p w in
    let zeros : List ℕ = replicate (16 - length p.filling) 0 in
    let few : length p.filling ≤ 16 = omega (arith, k.1, filling_most k.0 (length p.«package»)) in
    record {
      filling = p.filling ++ zeros;
      extra = k.0;
      begins = record {
        sixteen = simp (length-append, length-replicate) (omega arith);
        chosen = k.1;
        begins = take_at p.filling zeros (length p.filling) refl;
      };
    }

extra : (size : ℕ) → 0 < size → size % 4096 ≡ 0 → size ≤ 268435456 → («package» : Long size) × (filling : Long 16) × Takes «package».it filling.it
extra size p m l = (long size, long 16, taking (long size) (long 16))
  where
    taking : («package» : Long size) (filling : Long 16) → Takes «package».it filling.it
    taking «package» filling =
        record {
          package_bytes = «package».bytes;
          filling_bytes = filling.bytes;
          sixteen = filling.long;
          some = rw «package».long p;
          multiple = rw «package».long m;
          limited = rw «package».long l;
        }

-- ---- rows

-- an EncryptionInfo of version 3.2 with these fields, so many bytes after its header's numbers, and a hash field of so many
sample : (header extra alg bits name n : ℕ) → List ℕ
sample header extra alg bits name n =
    laid_out (record {
      major = 3;
      minor = 2;
      flags = 0;
      header_size = header;
      header_flags = 0;
      size_extra = extra;
      alg_id = alg;
      alg_id_hash = 0x8004;
      key_size = bits;
      provider_type = 0;
      reserved1 = 0;
      reserved2 = 0;
      name = replicate name 0;
      opaque = [];
      salt_size = 16;
      salt = replicate 16 0;
      encrypted_verifier = replicate 16 0;
      verifier_hash_size = 20;
      encrypted_verifier_hash = replicate n 0;
    })

-- what nothing objects to under either scheme
either_way : (info : List ℕ) → (parsed info 1).answer ≡ 0 → (parsed info 2).answer ≡ 0 → (scheme : ℕ) → Scheme scheme → (parsed info scheme).answer ≡ 0
either_way info a b scheme (inl e) = rw e a
either_way info a b scheme (inr (inl e)) = rw e b
either_way info a b scheme (inr (inr e)) = absurd e

rows : Instances parsed table
unfolding sample laid_out front verifier flat_map le_bytes le_at le parsed first_of Info.parse_rules Info.scheme_rules Info.bad_scheme Info.info_rules Info.numbers_of Info.major Info.minor Info.header_size Info.size_extra Info.alg_id
    Info.alg_id_hash Info.key_size Info.salt_size Info.verifier_hash_size Info.bad_version Info.bad_header_size Info.bad_name Info.algorithms Info.look_up Info.suite_of
rows =
    (λ extra. (fills extra 0 (lit≤ tt), long 8))  -- P1
    and (λ extra. (fills extra 1 (lit≤ tt), long 24))  -- P2
    and (λ extra. (fills extra 15 (lit≤ tt), long 24))  -- P3
    and (λ extra. (fills extra 16 (lit≤ tt), long 24))  -- P4
    and (λ extra. (fills extra 17 (lit≤ tt), long 40))  -- P5
    and (fills false 4096 (lit≤ tt), long 4104)  -- P6
    and (fills true 4096 (lit≤ tt), long 4120)
    and (fills false 268435456 (lit≤ tt), long 268435464)  -- P7
    and (fills true 268435456 (lit≤ tt), long 268435480)
    and (long 268435457, told 268435457 (lit< tt))
    and (sample 32 0 0x660e 128 0 32, refl and refl and tt, refl and refl and tt)  -- P8
    and (sample 32 0 0x660e 128 0 31, refl and refl and tt, refl and refl and refl and tt)
    and (sample 32 0 0x660e 128 0 33, refl and refl and tt, refl and refl and refl and tt)
    and (sample 31 0 0x660e 128 0 31, refl and tt, refl and refl and tt)  -- P9
    and (sample 4097 0 0x660e 128 0 32, refl and tt, refl and refl and tt)
    and (sample 140 0 0x660e 128 108 32, refl and refl and refl and tt, refl and refl and tt, either_way (sample 140 0 0x660e 128 108 32) refl refl)  -- P10
    and (sample 140 108 0x660e 128 108 32, refl and refl and refl and tt, refl and refl and tt, either_way (sample 140 108 0x660e 128 108 32) refl refl)
    and (sample 140 107 0x660e 128 108 32, refl and refl and refl and tt, refl and refl and refl and refl and tt)  -- P11
    and (sample 140 109 0x660e 128 108 32, refl and refl and refl and tt, refl and refl and refl and refl and tt)
    and (sample 32 0 0x660f 128 0 32, refl and refl and tt, refl and refl and refl and refl and refl and refl and refl and tt)  -- P12
    and tt

pub possible : Possible parsed judged
possible = record { locks = locks; fills = fills; begun = begun; extra = extra; rows = rows }
