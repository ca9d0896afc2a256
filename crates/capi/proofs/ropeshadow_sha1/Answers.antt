use mathlib.Core.Path.{◌∙◌}
use Rattle.capi.proofs.Ended.{hash_written}
use Rattle.capi.proofs.ropeshadow_sha1.Goals as goal

pub returns : goal.returns
returns c = c.written.ensures ∙ hash_written _ _ _ c.digest.ensures
