-- AES as the step of a stream: each block of sixteen bytes by itself (000 section 7: ECB mode), or chained in segments (001, 003: CBC).
-- Assumes nothing.
use Rattle.std.specs.Prelude.{List, ℕ, replicate}
use Rattle.fips197.specs.Cipher.{round_key, add_round_key, cipher, inv_cipher}
use Rattle.aes.specs.Aes.{encryption, decryption}
use Rattle.steps.specs.Steps.{Step, resumed}
use Rattle.steps.specs.Ecb.{ecb}
use Rattle.steps.specs.Chained.{link, chained}
use Rattle.segments.specs.Start.{start_of}
use Rattle.blocks.specs.declared.Mode.{Mode}
use Rattle.blocks.specs.declared.Mode.TheVariants.{Ecb, Chained}
use Rattle.blocks.specs.declared.Place.{Place}

-- ---- under a key

-- each block by itself
unfoldable pub ecb_under : (key : List ℕ) → Step
ecb_under key = ecb (encryption key) (decryption key)

-- exclusive or, byte by byte: what is done with a round key (FIPS 197 5.1.4) and, chaining, with the block before
abbrev pub xored : List ℕ → List ℕ → List ℕ
xored = add_round_key

-- the blocks of a package of that size, chained in segments that start from vectors of the salt
unfoldable pub chained_under : (key salt : List ℕ) (size : ℕ) → Step
chained_under key salt size = chained (encryption key) (decryption key) xored (start_of salt) size

-- ---- by the code: one step for both, with the choice in a mode

-- block i, x, after the cipher block p: with what it is chained to xored in, or as it is
unfoldable pub with_link : Mode → (i : ℕ) (p x : List ℕ) → List ℕ
with_link Ecb i p x = x
with_link (Chained salt size) i p x = xored x (link (start_of salt) size i p)

-- the bytes of the package whose segments are chained; none counts where each block stands by itself
abbrev pub size_of : Mode → ℕ
size_of Ecb = 0
size_of (Chained salt size) = size

-- f there and g back, on the blocks so linked
unfoldable pub mode_step : Mode → (f g : List ℕ → List ℕ) → Step
mode_step m f g =
    record { width = 16; first = replicate 16 0; there = λ i p x. f (with_link m i p x); back = λ i p x. with_link m i p (g x) }

-- under the round keys of an expanded key, for so many rounds
unfoldable pub step_by : Mode → (w : List ℕ) (rounds : ℕ) → Step
step_by m w rounds = mode_step m (cipher (round_key w) rounds) (inv_cipher (round_key w) rounds)

-- the same for a stream that is taken up at a place
abbrev pub step_from : Place → Mode → (w : List ℕ) (rounds : ℕ) → Step
step_from place m w rounds = resumed place.number place.before (step_by m w rounds)

-- where a stream starts: at block 0, before which stand zeros
abbrev pub stream_start : Place
stream_start = record { number = 0; before = replicate 16 0 }
