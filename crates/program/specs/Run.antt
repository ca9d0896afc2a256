-- What can be said of a run: no contract says which bytes the system handed over, so these say what holds whichever they were. Assumes
-- nothing.
use Rattle.std.specs.Prelude.{◌≡◌, ◌⊎◌, List, ℕ}
use Rattle.answers.specs.Ended.{Reply, left, reply}
use Rattle.files.specs.Files.{File, files_opened}

-- the reply, and the output from what it was to what it is, are those of some three files
pub record OpensFiles (r : Reply) (was is : List ℕ) : Type 0 where
  pub info : File
  pub password : File
  pub stream : File
  pub left_by : left r is ≡ files_opened info password stream was

-- a reply once the sheet is to be written: the same; or 17 with size 0 in the place of an answer 0, where it could not be
abbrev pub Settled : Reply → Reply → Type 0
Settled r s = (s ≡ r) ⊎ ((r.answer ≡ 0) × (s ≡ reply 17 0))
