-- The package and its filling, as a ciphertext opens to them from its start: the code lays parts of it. Assumes nothing.
use Rattle.std.specs.Prelude.{List, ℕ}
use Rattle.steps.specs.Steps.{open_all}
use Rattle.blocks.specs.Blocks.{step_by}
use Rattle.stretch.specs.declared.ciphertext.Ciphertext.{Ciphertext}

abbrev pub plain : Ciphertext → List ℕ
plain c = open_all (step_by c.mode c.key.bytes c.key.rounds) c.blocks.now
