-- How the blocks of a package are encrypted: a line for each scheme (request 2026-04; 01, "What the product does"). What opens, seals or
-- cuts a sheet speaks of this step alone. Assumes nothing.
use Rattle.std.specs.Prelude.{cond, List, ℕ, eqb}
use Rattle.steps.specs.Steps.{Step}
use Rattle.blocks.specs.Blocks.{ecb_under, chained_under}
use Rattle.blocks.specs.declared.Mode.{Mode}
use Rattle.blocks.specs.declared.Mode.TheVariants.{Ecb, Chained}
use Rattle.descriptor.specs.declared.Descriptor.{Descriptor}

-- the step of a package of that size, under a descriptor and the key
unfoldable pub step_of : Descriptor → (key : List ℕ) (size : ℕ) → Step
step_of d key size =
    cond (eqb d.scheme 2) (chained_under key d.salt size)  -- 2: AES-CBC in segments (001, 003)
    (ecb_under key)  -- 1: AES-ECB (000 section 7)

-- the same as the code takes it
unfoldable pub mode_of : Descriptor → (size : ℕ) → Mode
mode_of d size = cond (eqb d.scheme 2) (Chained d.salt size) Ecb
