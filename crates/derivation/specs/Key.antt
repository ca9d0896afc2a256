-- From password to key (01, "From password to key"; 004 2.3.4.7, 000 sections 4 and 5). Assumes nothing.
use mathlib.Core.List.{List, ◌++◌, map, flat_map}
use Rattle.std.specs.Prelude.{ℕ, zero, suc, ◌-◌, length, take, replicate}
use Rattle.std.specs.Int.Bits.{bit_xor}
use Rattle.octets.specs.Octets.{le_bytes}
use Rattle.sha1_digest.specs.Sha1.{sha1}

-- two bytes a unit, low byte first, no mark and no terminator (000 4.1)
abbrev pub unit_bytes : List ℕ → List ℕ
unit_bytes units = flat_map (le_bytes 2) units

-- one turn: the counter in four bytes, low first, before the hash so far (000 4.2)
unfoldable pub turn : ℕ → List ℕ → List ℕ
turn i h = sha1 (le_bytes 4 i ++ h)

-- the first n turns, counted from 0
unfoldable pub turns : ℕ → List ℕ → List ℕ
turns zero h = h
turns (suc n) h = turn n (turns n h)

-- how many turns there are (004 2.3.4.7)
unfoldable pub spins : ℕ
spins = 50000

-- H: the hash of salt and password, and fifty thousand turns
unfoldable pub password_hash : List ℕ → List ℕ → List ℕ
password_hash salt password = turns spins (sha1 (salt ++ unit_bytes password))

-- B: H and a block number in four bytes (000 5.1)
unfoldable pub block_hash : (number : ℕ) → List ℕ → List ℕ
block_hash number h = sha1 (h ++ le_bytes 4 number)

-- 64 bytes of c, with b xored into the first of them (000 5.2.2)
unfoldable pub masked : ℕ → List ℕ → List ℕ
masked c b = map (bit_xor c) b ++ replicate (64 - length b) c

-- X then Y
unfoldable pub derived : List ℕ → List ℕ
derived b = sha1 (masked 0x36 b) ++ sha1 (masked 0x5c b)

-- X then Y for a password, whose block number is 0
unfoldable pub material : List ℕ → List ℕ → List ℕ
material salt password = derived (block_hash 0 (password_hash salt password))

-- the key of n bytes: the first of X then Y
unfoldable pub key_bytes : ℕ → List ℕ → List ℕ → List ℕ
key_bytes n salt password = take n (material salt password)
