-- The program's three files: rule 17, which stands before every other, and what the files open to (01, "The numbered replies" and
-- "The program reads the files .."). Assumes nothing.
use Rattle.std.specs.Borrow.{Bor}
use Rattle.std.specs.Prelude.{Option, Some, None, Bool, true, false, not, List, [], ◌∷◌, ◌++◌, ℕ, ◌+◌, ◌*◌, ◌%◌, ltb, eqb, length}
use Rattle.answers.specs.Rules.{Rule, rule, first_of}
use Rattle.answers.specs.Ended.{Left, ended}
use Rattle.password.specs.Lock.{Lock, lock_of}
use Rattle.lengths.specs.Lengths.{stream_size}
use Rattle.sheet.specs.Sheet.{open_rules, package_of}

-- a file as it was found: whether it could be read, and the bytes that were read (of a file above the limit enough to tell so)
pub record File : Type 0 where
  pub there : Bool
  pub bytes : List ℕ

abbrev pub file : Bool → List ℕ → File
file there bytes = record { there = there; bytes = bytes }

-- the same as it is lent: none where it could not be read, and then its bytes do not count
abbrev pub found : Option (Bor (List ℕ)) → File
found (Some bytes) = file true bytes.now
found None = file false []

-- ---- what rule 17 tests

-- the most bytes of a file
unfoldable pub files_limit : ℕ
files_limit = 65536

unfoldable pub missing : File → Bool
missing f = not f.there

unfoldable pub long : File → Bool
long f = ltb files_limit (length f.bytes)

unfoldable pub odd : File → Bool
odd f = not (eqb (length f.bytes % 2) 0)

-- a file is missing or too long, or the password file has an odd length
unfoldable pub file_rules : (info password stream : File) → List Rule
file_rules info password stream =
    rule 17 (missing info)
    ∷ rule 17 (missing password)
    ∷ rule 17 (missing stream)
    ∷ rule 17 (long info)
    ∷ rule 17 (long password)
    ∷ rule 17 (long stream)
    ∷ rule 17 (odd password)
    ∷ []

-- ---- what the files open to

-- the units of the password file: two bytes each, low byte first
unfoldable pub units : List ℕ → List ℕ
units [] = []
units (low ∷ []) = []
units (low ∷ high ∷ s) = (low + 256 * high) ∷ units s

-- what they unlock: the program's scheme is 1
abbrev pub file_lock : (info password : File) → Lock
file_lock info password = lock_of info.bytes (units password.bytes) 1

-- rule 17, then the rules of opening
unfoldable pub rules : (info password stream : File) (room : ℕ) → List Rule
rules info password stream room =
    file_rules info password stream
    ++ open_rules (file_lock info password) stream.bytes room

-- `open`
unfoldable pub files_opened : (info password stream : File) (out : List ℕ) → Left
files_opened info password stream out =
    ended
    (first_of (rules info password stream (length out)))
    (stream_size stream.bytes)
    (package_of (file_lock info password) stream.bytes)
    out
