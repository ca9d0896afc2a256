-- The verdict's answer, beside no size.
use mathlib.Core.Path.{ap, ◌∙◌}
use Prim.Native.Nat.{ℕ}
use Rattle.crossing.specs.Crossing.{reply_word}
use Rattle.capi.specs.Capi as Capi
use Rattle.capi.proofs.ropeshadow_verdict.Goals as goal

pub returns : goal.returns
unfolding Capi.verdict_word
returns c = c.word.ensures ∙ ap (λ (n : ℕ). reply_word n 0) (c.number.ensures ∙ c.verdict.ensures)
