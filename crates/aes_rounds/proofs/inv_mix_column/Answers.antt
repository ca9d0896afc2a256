-- The column's word, as its four bytes.
use mathlib.Core.Path.{◌∙◌}
use mathlib.Core.List.{[], ◌∷◌}
use native.Mathlib.Omega.{arith}
use Rattle.fips197.specs.Cipher.{inv_mix_columns}
use Rattle.fips197.proofs.Columns.{length_inv_mix_columns}
use Rattle.fips197.proofs.Shares.{looked_up}
use Rattle.products.proofs.Numbers.{bytes_four}
use Rattle.aes_rounds.proofs.inv_mix_column.Goals as goal

pub returns : goal.returns
unfolding inv_mix_columns
returns c =
    let a = c.args in
    let column = a.a ∷ a.b ∷ a.c ∷ a.d ∷ [] in
    let mixed = looked_up 14 11 13 9 (λ x. x) a.shares.now a.a a.b a.c a.d (omega arith) (omega arith) (omega arith) (omega arith) c.requires in
    c.to_le_bytes.ensures ∙ bytes_four (inv_mix_columns column) _ (length_inv_mix_columns column) mixed.1 (c.column.ensures ∙ mixed.0)
