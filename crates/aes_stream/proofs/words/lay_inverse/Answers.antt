-- The shares of InvMixColumns, at the places of the inverse table.
use mathlib.Core.Path.{subst, subst⁻¹}
use Rattle.octets.specs.Octets.{Bytes}
use Rattle.fips197.specs.Tables.{look}
use Rattle.fips197.proofs.Entries.{inv_sbox_bytes}
use Rattle.aes_stream.specs.Words.{Rows}
use Rattle.aes_stream.proofs.words.lay_inverse.Goals as goal

pub returns : goal.returns
returns c =
    let p = c.requires in
    subst (λ t. Rows 14 11 13 9 (look t) c.substituted.new.words) p.0 (c.substituted.ensures 14 11 13 9 (subst⁻¹ Bytes p.0 inv_sbox_bytes) p.1)
