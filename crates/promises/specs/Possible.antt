-- None of the promises holds for want of an instance: what each of them takes for granted can be had. Assumes nothing.
use Rattle.std.specs.Prelude.{◌≡◌, Bool, List, [], ◌∷◌, ℕ, ◌%◌, ◌≤◌, ◌<◌, length}
use Rattle.octets.specs.Octets.{Bytes}
use Rattle.answers.specs.Rules.{OneOf}
use Rattle.descriptor.specs.Info.{key_size}
use Rattle.password.specs.Lock.{lock_of}
use Rattle.lengths.specs.Lengths.{stream_size}
use Rattle.sheet.specs.Frame.{Pair, Lawful}
use Rattle.sheet.specs.Sheet.{lengths}
use Rattle.promises.specs.Words.{Parser, Judge, Scheme}
use Rattle.promises.specs.Demand3.{Begins}
use Rattle.promises.specs.ExtraBlock.{Takes}
use Rattle.promises.specs.Cases.{Case, seals, chooses, refuses, answers, passes, names, table, Agrees, Before}

-- an EncryptionInfo whose key has so many bits, and which accepts the password under the scheme
pub record Locks (judges : Judge) (bits : ℕ) (password : List ℕ) (scheme : ℕ) : Type 0 where
  pub info : List ℕ
  pub bytes : Bytes info
  pub size : key_size info ≡ bits
  pub verdict : judges (lock_of info password scheme) ≡ 0

-- a lawful pair whose package has so many bytes, and a value that begins with its filling, with this choice
pub record Fills (extra : Bool) (size : ℕ) : Type 0 where
  pub it : Pair
  pub lawful : Lawful lengths it
  pub sized : length it.«package» ≡ size
  pub filling : List ℕ
  pub begins : Begins it filling extra

-- a value and a choice that begin with a pair's filling
pub record Begun (p : Pair) : Type 0 where
  pub filling : List ℕ
  pub extra : Bool
  pub begins : Begins p filling extra

-- a list of so many bytes
pub record Long (n : ℕ) : Type 0 where
  pub it : List ℕ
  pub bytes : Bytes it
  pub long : length it ≡ n

-- a stream of eight bytes or more, whose StreamSize is this
pub record Told (size : ℕ) : Type 0 where
  pub it : List ℕ
  pub bytes : Bytes it
  pub headed : 8 ≤ length it
  pub told : stream_size it ≡ size

module _ (parses : Parser) where
  -- what a row of the table takes for granted, beside an accepted password; where it speaks of a name, nothing objects, under any scheme
  abbrev pub Instance : Case → Type 0
  Instance (seals size stream filling) = (extra : Bool) → Fills extra size × Long stream
  Instance (chooses extra size stream filling) = Fills extra size × Long stream
  Instance (refuses size answer) = Long size × Told size
  Instance (answers facts answer) = (info : List ℕ) × Agrees info facts × Before answer info
  Instance (passes facts low high) = (info : List ℕ) × Agrees info facts × Before low info
  Instance (names facts count) = (info : List ℕ) × Agrees info facts × Before 3 info × ((scheme : ℕ) → Scheme scheme → (parses info scheme).answer ≡ 0)

  abbrev pub Instances : List Case → Type 0
  Instances [] = Unit
  Instances (c ∷ cs) = Instance c × Instances cs

pub record Possible (parses : Parser) (judges : Judge) : Type 0 where
  -- for each key size and each scheme, every password of at most 255 units is accepted by some EncryptionInfo
  pub locks : (bits : ℕ) → OneOf (128 ∷ 192 ∷ 256 ∷ []) bits → (password : List ℕ) → length password ≤ 255
      → (scheme : ℕ) → Scheme scheme → Locks judges bits password scheme
  -- every size within the limit is that of some pair, with each choice
  pub fills : (extra : Bool) (size : ℕ) → size ≤ 268435456 → Fills extra size
  -- every lawful pair can be asked for
  pub begun : (p : Pair) → Lawful lengths p → Begun p
  -- every multiple of 4,096 above 0 and within the limit is the size of a package that takes an extra block
  pub extra : (size : ℕ) → 0 < size → size % 4096 ≡ 0 → size ≤ 268435456
      → («package» : Long size) × (filling : Long 16) × Takes «package».it filling.it
  -- every row of the table P1 to P12 has an instance
  pub rows : Instances parses table
