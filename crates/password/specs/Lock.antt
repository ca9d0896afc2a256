-- What unlocks a sheet (01, "What the product does"): EncryptionInfo, a password as 16-bit units, and the scheme, which the file does not
-- name (request 2026-04). Assumes nothing.
use Rattle.std.specs.Prelude.{List, ℕ}
use Rattle.descriptor.specs.Info.{described}
use Rattle.descriptor.specs.declared.Descriptor.{Descriptor}
use Rattle.password.specs.declared.Lock as Lent

pub record Lock : Type 0 where
  pub info : List ℕ
  pub password : List ℕ
  pub scheme : ℕ

abbrev pub lock_of : (info password : List ℕ) (scheme : ℕ) → Lock
lock_of info password scheme = record { info = info; password = password; scheme = scheme }

-- the same as it is lent
abbrev pub asked : Lent.Lock → Lock
asked lock = lock_of lock.info.now lock.password.now lock.scheme

-- the descriptor that its parse gives where no rule is broken
abbrev pub descriptor_of : Lock → Descriptor
descriptor_of lock = described lock.info lock.scheme
