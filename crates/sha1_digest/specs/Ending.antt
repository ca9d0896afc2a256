-- The blocks of a padded message that are not whole blocks of the message itself (FIPS 180-4 5.1.1). Assumes nothing.
use Rattle.std.specs.Prelude.{◌≡◌, List, ℕ, ◌+◌, ◌-◌, ◌*◌, ◌/◌, length, take, drop}
use Rattle.sha1_digest.specs.Sha1.{pad}

-- how many they are, for a message of n bytes
abbrev pub ending_blocks : ℕ → ℕ
ending_blocks n = (n + 72) / 64 - n / 64

-- t begins with those of m
pub record Ends (m t : List ℕ) : Type 0 where
  pub long : length t ≡ 128
  pub begins : take (64 * ending_blocks (length m)) t ≡ drop (64 * (length m / 64)) (pad m)
