-- The shares of MixColumns, at the places of the substitution table.
use mathlib.Core.Path.{subst, subst⁻¹}
use Rattle.octets.specs.Octets.{Bytes}
use Rattle.fips197.specs.Tables.{look}
use Rattle.fips197.proofs.Entries.{sbox_bytes}
use Rattle.aes_stream.specs.Words.{Rows}
use Rattle.aes_stream.proofs.words.lay_forward.Goals as goal

pub returns : goal.returns
returns c =
    let p = c.requires in
    subst (λ t. Rows 2 3 1 1 (look t) c.substituted.new.words) p
    (c.substituted.ensures 2 3 1 1 (subst⁻¹ Bytes p sbox_bytes) c.shares-mix.ensures)
