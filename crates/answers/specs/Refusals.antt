-- The numbers of the refusals (01, "The numbered replies"), and what a call answers that gives a value or a refusal. Assumes nothing.
use Rattle.std.specs.Prelude.{ℕ, Result, Ok, Err}
use Rattle.answers.specs.Ended.{Reply, reply}
use Rattle.answers.specs.declared.Refusal.{Refusal}
use Rattle.answers.specs.declared.Refusal.TheVariants.{InfoShort, Version, HeaderSize, InfoLength, NameLength, AlgId, AlgIdHash, KeySize, SaltSize, VerifierHashSize, PasswordLong, PasswordWrong, StreamShort, StreamSize, StreamLength, Room, Files, MessageLong, Scheme, Range}

abbrev pub number : Refusal → ℕ
number InfoShort = 1
number Version = 2
number HeaderSize = 3
number InfoLength = 4
number NameLength = 5
number AlgId = 6
number AlgIdHash = 7
number KeySize = 8
number SaltSize = 9
number VerifierHashSize = 10
number PasswordLong = 11
number PasswordWrong = 12
number StreamShort = 13
number StreamSize = 14
number StreamLength = 15
number Room = 16
number Files = 17
number MessageLong = 18
number Scheme = 19
number Range = 20

-- 0 beside a value, else the refusal's number
abbrev pub answer_of : {A : Type 0} → Result A Refusal → ℕ
answer_of (Ok a) = 0
answer_of (Err r) = number r

-- the reply of a call that gives the number of bytes it has written: size 0 on a refusal
abbrev pub reply_of : Result ℕ Refusal → Reply
reply_of (Ok size) = reply 0 size
reply_of (Err r) = reply (number r) 0
