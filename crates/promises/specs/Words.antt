-- The words that the promises are written in. An entry is a function from all that comes in to all that is left, so a promise can be
-- made by ours, `parsed`, `judged`, `opened`, `stretched`, `rescued` and `sealed`, or asked of any other. Assumes nothing.
use Rattle.std.specs.Prelude.{◌≡◌, ◌↔◌, Bool, List, [], ◌∷◌, ℕ, ◌/◌, ◌<◌, take}
use Rattle.answers.specs.Rules.{Rule, OneOf, AllHold, First}
use Rattle.answers.specs.Ended.{Left}
use Rattle.descriptor.specs.Info.{key_size, salt_of}
use Rattle.descriptor.specs.Info.{Parsed}
use Rattle.derivation.specs.Key.{key_bytes}
use Rattle.password.specs.Lock.{Lock}
use Rattle.rescue.specs.Rescue.{Rescue}

-- ---- the entries

-- EncryptionInfo and a scheme give an answer and the fields of a descriptor
abbrev pub Parser : Type 0
Parser = (info : List ℕ) (scheme : ℕ) → Parsed

-- what unlocks a sheet, EncryptionInfo, a password and a scheme, gives an answer
abbrev pub Judge : Type 0
Judge = Lock → ℕ

-- it, a package stream and the output as it was give an answer, a size and the output as it is left
abbrev pub Opener : Type 0
Opener = (lock : Lock) (stream out : List ℕ) → Left

-- the same for the bytes of the package from one place up to, not including, another (request 2026-05)
abbrev pub Stretcher : Type 0
Stretcher = (lock : Lock) (stream : List ℕ) (from to : ℕ) (out : List ℕ) → Left

-- the same for a stream that is cut or overlong, with what is counted (request 2026-13)
abbrev pub Rescuer : Type 0
Rescuer = (lock : Lock) (stream out : List ℕ) → Rescue

-- the same from a package, sixteen bytes given to fill its last block, and the choice of an extra one
abbrev pub Sealer : Type 0
Sealer = (lock : Lock) («package» filling : List ℕ) (extra : Bool) (out : List ℕ) → Left

-- the schemes: each block by itself, and chained (request 2026-04)
abbrev pub Scheme : ℕ → Type 0
Scheme scheme = OneOf (1 ∷ 2 ∷ []) scheme

-- ---- what is said of them

-- the call is answered 0
abbrev pub Accepted : Left → Type 0
Accepted l = l.reply.answer ≡ 0

-- what an accepted call wrote: as many bytes of the output as its size says
abbrev pub written_part : Left → List ℕ
written_part l = take l.reply.size l.out

-- n is the answer by the rules: 0 exactly where none is broken, and m above 0 exactly where the first one broken is numbered m
pub record Answers (rules : List Rule) (n : ℕ) : Type 0 where
  pub none : (n ≡ 0) ↔ AllHold rules
  pub first : (m : ℕ) → 0 < m → (n ≡ m) ↔ First m rules

-- the key of the published derivation: from the salt and the password, as many bytes as KeySize counts bits for
abbrev pub published_key : (lock : Lock) → List ℕ
published_key lock = key_bytes (key_size lock.info / 8) (salt_of lock.info) lock.password
