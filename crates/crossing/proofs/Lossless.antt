-- Nothing is lost where values cross: a word tells its answer and its size again, any sixteen bytes are those of two numbers, and each field
-- of a descriptor can be read from its 88 bytes. Assumes nothing.
use mathlib.Core.Path.{◌≡◌, refl, sym, ap, ◌∙◌}
use mathlib.Core.List.{List, ◌++◌, append_assoc}
use Prim.Native.Nat.{ℕ, ◌+◌, ◌*◌, ◌/◌, ◌%◌, ◌^◌, ◌<◌}
use native.Mathlib.Omega.{arith}
use borrow.Author.Tests.{le-ltb}
use lib.ListN.{length, take, drop, take-append-drop, length-append, length-drop}
use lib.Seq.{take_at, drop_at, take_all, length-take-le}
use Rattle.octets.specs.Octets.{Bytes, le, le_bytes, le_at}
use Rattle.octets.proofs.Numbers.{length_le_bytes, le_le_bytes, le_bytes_le_at}
use Rattle.answers.specs.Ended.{reply}
use Rattle.descriptor.specs.declared.Descriptor.{Descriptor}
use Rattle.crossing.specs.Crossing as Crossing

-- ---- the word

pub word_told : (answer size : ℕ) → answer < 65536 → Crossing.told (Crossing.reply_word answer size) ≡ reply answer size
unfolding Crossing.told Crossing.reply_word
word_told answer size h =
    let a : (answer + 65536 * size) % 65536 ≡ answer = omega arith in
    let s : (answer + 65536 * size) / 65536 ≡ size = omega arith in
    λ i. reply (a i) (s i)

-- a key's length in bits, if it is one
pub bits_cross : (bits : ℕ) → bits < 256 ^ 4 → (Crossing.bit_count bits).0 ≡ bits
unfolding Crossing.bit_count
bits_cross bits h = rw (le-ltb 4294967295 bits (omega arith))

-- ---- sixteen bytes, and twelve

pub length_sixteen : (low high : ℕ) → length (Crossing.sixteen low high) ≡ 16
unfolding Crossing.sixteen
length_sixteen low high = simp (length-append, length_le_bytes)

pub length_twelve : (low high : ℕ) → length (Crossing.twelve low high) ≡ 12
unfolding Crossing.twelve
length_twelve low high = length-take-le 12 (Crossing.sixteen low high) (omega (arith, length_sixteen low high))

pub sixteen_all : (b : List ℕ) → Bytes b → length b ≡ 16 → Crossing.sixteen (le_at 8 0 b) (le_at 8 8 b) ≡ b
unfolding Crossing.sixteen
sixteen_all b k n =
    let low = le_bytes_le_at 8 0 b k (omega arith) in
    let high = le_bytes_le_at 8 8 b k (omega arith) in
    let end : take 8 (drop 8 b) ≡ drop 8 b = take_all 8 (drop 8 b) (simp length-drop (omega arith)) in
    rw (low, high, end) (take-append-drop 8 b)

twelve_is : (low high : ℕ) → Crossing.twelve low high ≡ le_bytes 8 low ++ le_bytes 4 high
unfolding Crossing.twelve Crossing.sixteen le_bytes
twelve_is low high = refl

pub twelve_all : (b : List ℕ) → Bytes b → length b ≡ 12 → Crossing.twelve (le_at 8 0 b) (le_at 4 8 b) ≡ b
twelve_all b k n =
    let low = le_bytes_le_at 8 0 b k (omega arith) in
    let high = le_bytes_le_at 4 8 b k (omega arith) in
    let end : take 4 (drop 8 b) ≡ drop 8 b = take_all 4 (drop 8 b) (simp length-drop (omega arith)) in
    rw (twelve_is, low, high, end) (take-append-drop 8 b)

-- ---- the descriptor

-- the fields of d stand at their places in b
pub record Shows (b : List ℕ) (d : Descriptor) : Type 0 where
  pub major : le_at 2 0 b ≡ d.major
  pub minor : le_at 2 2 b ≡ d.minor
  pub alg : le_at 4 4 b ≡ d.alg_id
  pub key : le_at 4 8 b ≡ d.key_size.0
  pub place : le_at 4 12 b ≡ d.name_place
  pub name : le_at 4 16 b ≡ d.name_length
  pub salt : take 16 (drop 20 b) ≡ d.salt
  pub verifier : take 16 (drop 36 b) ≡ d.encrypted_verifier
  pub hash : take 32 (drop 52 b) ≡ d.encrypted_verifier_hash
  pub scheme : le_at 4 84 b ≡ d.scheme

pub bytes_show : (d : Descriptor) → Crossing.Crosses d → Shows (Crossing.descriptor_bytes d) d
unfolding Crossing.descriptor_bytes Crossing.number_bytes le_bytes le_at
bytes_show d f =
    let scheme = le_bytes 4 d.scheme in
    let last = d.encrypted_verifier_hash ++ scheme in
    let parts : d.salt ++ d.encrypted_verifier ++ d.encrypted_verifier_hash ++ scheme ≡ d.salt ++ (d.encrypted_verifier ++ last) = simp append_assoc in
    let past = ap (drop 16) parts ∙ drop_at d.salt (d.encrypted_verifier ++ last) 16 f.salt in
    let both : length (d.salt ++ d.encrypted_verifier) ≡ 32 = simp (length-append, f.salt, f.verifier) in
    let all : length (d.salt ++ d.encrypted_verifier ++ d.encrypted_verifier_hash) ≡ 64 = simp (length-append, f.salt, f.verifier, f.hash) in
    let behind = append_assoc (d.salt ++ d.encrypted_verifier) d.encrypted_verifier_hash scheme in
    record {
      major = le_le_bytes 2 d.major f.major;
      minor = le_le_bytes 2 d.minor f.minor;
      alg = le_le_bytes 4 d.alg_id f.alg;
      key = le_le_bytes 4 d.key_size.0 f.key;
      place = le_le_bytes 4 d.name_place f.place;
      name = le_le_bytes 4 d.name_length f.name;
      salt = ap (take 16) parts ∙ take_at d.salt (d.encrypted_verifier ++ last) 16 f.salt;
      verifier = ap (take 16) past ∙ take_at d.encrypted_verifier last 16 f.verifier;
      hash = ap (λ (l : List ℕ). take 32 (drop 32 l)) behind ∙ ap (take 32) (drop_at (d.salt ++ d.encrypted_verifier) last 32 both) ∙ take_at d.encrypted_verifier_hash scheme 32 f.hash;
      scheme = ap (λ (l : List ℕ). le (take 4 l)) (drop_at (d.salt ++ d.encrypted_verifier ++ d.encrypted_verifier_hash) scheme 64 all) ∙ le_le_bytes 4 d.scheme f.scheme;
    }

-- so the bytes are those of one descriptor
pub shown_once : (b : List ℕ) (d e : Descriptor) → Shows b d → Shows b e → d ≡ e
shown_once b d e s t = λ i. record {
  major = (sym s.major ∙ t.major) i;
  minor = (sym s.minor ∙ t.minor) i;
  alg_id = (sym s.alg ∙ t.alg) i;
  key_size = record { 0 = (sym s.key ∙ t.key) i };
  name_place = (sym s.place ∙ t.place) i;
  name_length = (sym s.name ∙ t.name) i;
  salt = (sym s.salt ∙ t.salt) i;
  encrypted_verifier = (sym s.verifier ∙ t.verifier) i;
  encrypted_verifier_hash = (sym s.hash ∙ t.hash) i;
  scheme = (sym s.scheme ∙ t.scheme) i;
}
