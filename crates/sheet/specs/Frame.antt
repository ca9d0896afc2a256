-- The frame of the EncryptedPackage stream (004 2.3.4.4): StreamSize, then an operation on the package and its filling. It is said
-- over any operation on streams and any rule on lengths, so that neither a cipher nor a filling is part of it. The operation may depend
-- on the package's size: chained in segments, as many bytes of ciphertext are one segment after one size and two after another (001,
-- 003). Assumes nothing.
use Rattle.std.specs.Prelude.{◌≡◌, Bool, true, List, ◌++◌, ℕ, ◌+◌, ◌-◌, ◌^◌, ◌≤◌, ◌<◌, length, take, drop}
use Rattle.octets.specs.Octets.{Bytes, le_bytes}
use Rattle.steps.specs.Stream.{Reversible}
use Rattle.lengths.specs.Lengths.{stream_size}

-- a package, and the filling after it
pub record Pair : Type 0 where
  pub «package» : List ℕ
  pub filling : List ℕ

abbrev pub pair : List ℕ → List ℕ → Pair
pair «package» filling = record { «package» = «package»; filling = filling }

-- an operation on streams for each size of a package
abbrev pub Operation : Type 0
Operation = (size : ℕ) → List ℕ → List ℕ

-- the stream of a pair
unfoldable pub stream_of : Operation → Pair → List ℕ
stream_of there p = le_bytes 8 (length p.«package») ++ there (length p.«package») (p.«package» ++ p.filling)

-- the pair of a stream: only StreamSize says where the package ends
unfoldable pub pair_of : Operation → List ℕ → Pair
pair_of back s = let plain : List ℕ = back (stream_size s) (drop 8 s) in pair (take (stream_size s) plain) (drop (stream_size s) plain)

-- the size that a package may have, and whether a package of `size` bytes may have n bytes of filling
pub record Lengths : Type 0 where
  pub limit : ℕ
  pub allowed : (size n : ℕ) → Bool

-- a package within the limit, with an allowed filling
pub record Lawful (l : Lengths) (p : Pair) : Type 0 where
  pub package_bytes : Bytes p.«package»
  pub filling_bytes : Bytes p.filling
  pub limited : length p.«package» ≤ l.limit
  pub filled : l.allowed (length p.«package») (length p.filling) ≡ true

-- a stream with a StreamSize within the limit, which leaves an allowed filling
pub record AdmittedStream (l : Lengths) (s : List ℕ) : Type 0 where
  pub bytes : Bytes s
  pub headed : 8 ≤ length s
  pub limited : stream_size s ≤ l.limit
  pub enough : stream_size s ≤ length s - 8
  pub filled : l.allowed (stream_size s) (length s - 8 - stream_size s) ≡ true

-- at each size the operation is reversible and takes the package with every allowed filling, and eight bytes hold every size
pub record Sound (l : Lengths) (fits : ℕ → ℕ → Bool) (there back : Operation) : Type 0 where
  pub reversible : (size : ℕ) → Reversible (fits size) (there size) (back size)
  pub fitting : (size n : ℕ) → size ≤ l.limit → l.allowed size n ≡ true → fits size (size + n) ≡ true
  pub held : l.limit < 256 ^ 8

-- lawful pairs and admitted streams are in one-to-one correspondence
pub record OneToOne (l : Lengths) (there back : Operation) : Type 0 where
  pub admitted : (p : Pair) → Lawful l p → AdmittedStream l (stream_of there p)
  pub lawful : (s : List ℕ) → AdmittedStream l s → Lawful l (pair_of back s)
  pub pair_again : (p : Pair) → Lawful l p → pair_of back (stream_of there p) ≡ p
  pub stream_again : (s : List ℕ) → AdmittedStream l s → stream_of there (pair_of back s) ≡ s
