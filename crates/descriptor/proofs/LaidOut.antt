-- A stream that is laid out from its fields gives each of them back, wherever HeaderSize tells where EncryptionVerifier begins and no
-- number is too large for its place. Assumes nothing.
use mathlib.Core.Path.{◌≡◌, refl, ap, ◌∙◌}
use mathlib.Core.Bool.{false, not}
use mathlib.Core.Logic.{inl, inr}
use mathlib.Core.List.{List, [], ◌∷◌, ◌++◌, flat_map, append_assoc}
use Prim.Native.Nat.{ℕ, ◌+◌, ◌-◌, ◌%◌, ◌^◌, ◌≤◌, ◌<◌}
use native.Mathlib.Omega.{arith}
use borrow.Author.Tests.{eq-eqb, le-ltb}
use lib.ListN.{length, take, drop, length-append}
use lib.Seq.{take_at, drop_at, drop-append-add, take_all}
use Rattle.octets.specs.Octets.{Bytes, le_at, le, le_bytes}
use Rattle.octets.proofs.Below.{append_below, le_bytes_bytes}
use Rattle.octets.proofs.Numbers.{length_le_bytes, le_le_bytes, le_at_here}
use Rattle.octets.proofs.Each.{each_bytes}
use Rattle.answers.specs.Rules.{OneOf}
use Rattle.answers.proofs.Laws.{none_broken}
use Rattle.answers.proofs.Rows.{◌and◌}
use Rattle.descriptor.specs.Info as stream
use Rattle.descriptor.specs.LaidOut.{Fields, front, verifier, laid_out, says}
use Rattle.descriptor.proofs.Laws.{Admitted, info_numbered}

-- the fields are as long as they have to be, and HeaderSize and SizeExtra tell how long the name and the opaque bytes are
pub record Measured (f : Fields) : Type 0 where
  pub header : f.header_size ≡ 32 + (length f.name + length f.opaque)
  pub extra : f.size_extra ≡ length f.opaque
  pub salt : length f.salt ≡ 16
  pub verifier : length f.encrypted_verifier ≡ 16
  pub hash : length f.encrypted_verifier_hash ≡ 32

-- the numbers that are looked at have room
pub record Held (f : Fields) : Type 0 where
  pub major : f.major < 256 ^ 2
  pub minor : f.minor < 256 ^ 2
  pub header : f.header_size < 256 ^ 4
  pub extra : f.size_extra < 256 ^ 4
  pub alg : f.alg_id < 256 ^ 4
  pub hash : f.alg_id_hash < 256 ^ 4
  pub key : f.key_size < 256 ^ 4
  pub salt : f.salt_size < 256 ^ 4
  pub verifier : f.verifier_hash_size < 256 ^ 4

-- and break none of the rules 2, 3 and 5 to 10
pub record Good (f : Fields) : Type 0 where
  pub minor : f.minor ≡ 2
  pub major : OneOf (2 ∷ 3 ∷ 4 ∷ []) f.major
  pub header : f.header_size ≤ 4096
  pub even : length f.name % 2 ≡ 0
  pub alg : (stream.suite_of f.alg_id).answer ≡ 0
  pub hash : f.alg_id_hash ≡ 0x8004
  pub key : f.key_size ≡ (stream.suite_of f.alg_id).bits.0
  pub salt : f.salt_size ≡ 16
  pub verifier : f.verifier_hash_size ≡ 20

version_good : (major : ℕ) → OneOf (2 ∷ 3 ∷ 4 ∷ []) major → stream.bad_version major 2 ≡ false
unfolding stream.bad_version
version_good major (inl e) = rw e
version_good major (inr (inl e)) = rw e
version_good major (inr (inr (inl e))) = rw e
version_good major (inr (inr (inr e))) = absurd e

-- a part of a list, past its first
past : (x s : List ℕ) (n m : ℕ) → length x ≡ n → drop (n + m) (x ++ s) ≡ drop m s
past x s n m e = rw (← e) (drop-append-add x s m)

-- ---- the stream

module _ (f : Fields) where
  abbrev s : List ℕ
  s = laid_out f

  length_front : length (front f) ≡ 44
  unfolding front flat_map le_bytes
  length_front = refl

  pub laid_bytes : Bytes f.name → Bytes f.opaque → Bytes f.salt → Bytes f.encrypted_verifier → Bytes f.encrypted_verifier_hash → Bytes s
  unfolding laid_out front verifier
  laid_bytes n o b v h =
      let versions = append_below _ _ (le_bytes_bytes 2 f.major) (le_bytes_bytes 2 f.minor) in
      let header = append_below _ _ (append_below _ _ (append_below _ _ versions (each_bytes (le_bytes 4) (le_bytes_bytes 4) _)) n) o in
      let salts = append_below _ _ (append_below _ _ (le_bytes_bytes 4 f.salt_size) b) v in
      append_below _ _ header (append_below _ _ (append_below _ _ salts (le_bytes_bytes 4 f.verifier_hash_size)) h)

  -- ---- the numbers before the name stand at fixed places

  pub record Reads : Type 0 where
    pub major : stream.major s ≡ f.major
    pub minor : stream.minor s ≡ f.minor
    pub header : stream.header_size s ≡ f.header_size
    pub extra : stream.size_extra s ≡ f.size_extra
    pub alg : stream.alg_id s ≡ f.alg_id
    pub hash : stream.alg_id_hash s ≡ f.alg_id_hash
    pub key : stream.key_size s ≡ f.key_size

  pub reads : Held f → Reads
  unfolding laid_out front flat_map le_at le_bytes stream.major stream.minor stream.header_size stream.size_extra stream.alg_id stream.alg_id_hash stream.key_size
  reads h =
      record {
        major = le_le_bytes 2 f.major h.major;
        minor = le_le_bytes 2 f.minor h.minor;
        header = le_le_bytes 4 f.header_size h.header;
        extra = le_le_bytes 4 f.size_extra h.extra;
        alg = le_le_bytes 4 f.alg_id h.alg;
        hash = le_le_bytes 4 f.alg_id_hash h.hash;
        key = le_le_bytes 4 f.key_size h.key;
      }

  pub laid_name : take (length f.name) (drop 44 s) ≡ f.name
  unfolding laid_out
  laid_name =
      let e : laid_out f ≡ front f ++ (f.name ++ (f.opaque ++ verifier f)) = simp append_assoc in
      ap (λ (l : List ℕ). take (length f.name) (drop 44 l)) e
      ∙ ap (take (length f.name)) (drop_at (front f) (f.name ++ (f.opaque ++ verifier f)) 44 length_front)
      ∙ take_at f.name (f.opaque ++ verifier f) (length f.name) refl

  -- ---- what follows the name and the opaque bytes

  module _ (z : Measured f) where
    before : List ℕ
    before = front f ++ f.name ++ f.opaque

    length_before : length before ≡ 12 + f.header_size
    unfolding before
    length_before = simp (length-append, length_front) (omega (arith, z.header))

    hashes : List ℕ
    hashes = le_bytes 4 f.verifier_hash_size ++ f.encrypted_verifier_hash

    rest : List ℕ
    rest = f.encrypted_verifier ++ hashes

    parts : verifier f ≡ le_bytes 4 f.salt_size ++ (f.salt ++ rest)
    unfolding verifier rest hashes
    parts = simp append_assoc

    at_4 : (m : ℕ) → drop (4 + m) (verifier f) ≡ drop m (f.salt ++ rest)
    at_4 m = ap (drop (4 + m)) parts ∙ past (le_bytes 4 f.salt_size) (f.salt ++ rest) 4 m (length_le_bytes 4 f.salt_size)

    at_20 : (m : ℕ) → drop (20 + m) (verifier f) ≡ drop m rest
    at_20 m =
        let e : 20 + m ≡ 4 + (16 + m) = omega arith in
        ap (λ (n : ℕ). drop n (verifier f)) e ∙ at_4 (16 + m) ∙ past f.salt rest 16 m z.salt

    at_36 : (m : ℕ) → drop (36 + m) (verifier f) ≡ drop m hashes
    unfolding rest
    at_36 m =
        let e : 36 + m ≡ 20 + (16 + m) = omega arith in
        ap (λ (n : ℕ). drop n (verifier f)) e ∙ at_20 (16 + m) ∙ past f.encrypted_verifier hashes 16 m z.verifier

    pub length_laid : length s ≡ f.header_size + 84
    unfolding laid_out verifier
    length_laid = simp (length-append, length_front, length_le_bytes, z.salt, z.verifier, z.hash) (omega (arith, z.header))

    name_long : f.header_size - 32 - f.size_extra ≡ length f.name
    name_long = omega (arith, z.header, z.extra)

    name_good : Good f → stream.bad_name f.header_size f.size_extra ≡ false
    unfolding stream.bad_name
    name_good g = rw (le-ltb f.header_size (32 + f.size_extra) (omega (arith, z.header, z.extra)), name_long, g.even)

    module _ (h : Held f) where
      behind : (k : ℕ) → drop (12 + k + stream.header_size s) s ≡ drop k (verifier f)
      unfolding laid_out before
      behind k =
          let e : 12 + k + stream.header_size s ≡ length before + k = omega (arith, (reads h).header, length_before) in
          ap (λ (n : ℕ). drop n s) e ∙ drop-append-add before (verifier f) k

      salt_size_is : stream.salt_size s ≡ f.salt_size
      unfolding stream.salt_size le_at
      salt_size_is = ap (λ (l : List ℕ). le (take 4 l)) (behind 0 ∙ parts) ∙ le_at_here 4 f.salt_size (f.salt ++ rest) h.salt

      salt_is : stream.salt_of s ≡ f.salt
      unfolding stream.salt_of
      salt_is = ap (take 16) (behind 4 ∙ at_4 0) ∙ take_at f.salt rest 16 z.salt

      verifier_is : stream.encrypted_verifier s ≡ f.encrypted_verifier
      unfolding stream.encrypted_verifier rest
      verifier_is = ap (take 16) (behind 20 ∙ at_20 0) ∙ take_at f.encrypted_verifier hashes 16 z.verifier

      hash_size_is : stream.verifier_hash_size s ≡ f.verifier_hash_size
      unfolding stream.verifier_hash_size le_at hashes
      hash_size_is = ap (λ (l : List ℕ). le (take 4 l)) (behind 36 ∙ at_36 0) ∙ le_at_here 4 f.verifier_hash_size f.encrypted_verifier_hash h.verifier

      hash_is : stream.encrypted_verifier_hash s ≡ f.encrypted_verifier_hash
      unfolding stream.encrypted_verifier_hash hashes
      hash_is =
          ap (take 32)
          (behind 40 ∙ at_36 4 ∙ drop_at (le_bytes 4 f.verifier_hash_size) f.encrypted_verifier_hash 4 (length_le_bytes 4 f.verifier_hash_size))
          ∙ take_all 32 f.encrypted_verifier_hash (omega (arith, z.hash))

      -- ---- so the parse gives them

      pub laid_described : (scheme : ℕ) → stream.described s scheme ≡ says f scheme
      unfolding stream.described
      laid_described scheme =
          rw ((reads h).major, (reads h).minor, (reads h).alg, (reads h).key, (reads h).header, (reads h).extra, salt_is, verifier_is, hash_is, name_long)

      pub laid_admitted : Good f → Admitted s
      unfolding stream.info_rules stream.numbers_of stream.bad_header_size
      laid_admitted g =
          (none_broken (stream.info_rules s) (info_numbered s)).1
          (le-ltb (length s) 12 (omega (arith, length_laid))
          and rw ((reads h).major, (reads h).minor, g.minor) (version_good f.major g.major)
          and (rw ((reads h).header, le-ltb f.header_size 32 (omega (arith, z.header)), le-ltb 4096 f.header_size g.header))
          and rw (reads h).header (ap not (eq-eqb _ _ length_laid))
          and rw ((reads h).header, (reads h).extra) (name_good g)
          and rw (reads h).alg (ap not (eq-eqb _ _ g.alg))
          and rw (reads h).hash (ap not (eq-eqb _ _ g.hash))
          and rw ((reads h).key, (reads h).alg) (ap not (eq-eqb _ _ g.key))
          and rw salt_size_is (ap not (eq-eqb _ _ g.salt))
          and rw hash_size_is (ap not (eq-eqb _ _ g.verifier))
          and tt)
