-- The key's word and the column's, summed, as its four bytes.
use mathlib.Core.Path.{sym, ap₂, ◌∙◌}
use mathlib.Core.List.{[], ◌∷◌, map}
use native.Mathlib.Omega.{arith}
use lib.ListN.{take, drop}
use Rattle.octets.specs.Octets.{le, le_at}
use Rattle.octets.proofs.Parts.{length_part}
use Rattle.fips197.specs.Field.{xor}
use Rattle.fips197.specs.Cipher.{row, columns, add_round_key}
use Rattle.fips197.proofs.Sums.{comm}
use Rattle.fips197.proofs.States.{length_add_round_key, add_round_key_bytes}
use Rattle.fips197.proofs.Columns.{length_columns}
use Rattle.fips197.proofs.Words.{sum_le}
use Rattle.fips197.proofs.Shares.{looked_up}
use Rattle.products.proofs.Numbers.{bytes_four}
use Rattle.aes_stream.proofs.Tables.{first_laid}
use Rattle.aes_stream.proofs.rounds.column.Goals as goal

pub returns : goal.returns
unfolding xor le_at
returns c =
    λ p q s t sub h.
    let a = c.args in
    let bytes = map sub (a.a ∷ a.b ∷ a.c ∷ a.d ∷ []) in
    let mixed = columns (row p q s t) bytes in
    let size = length_columns (row p q s t) bytes in
    let key = take 4 (drop a.at a.w.now) in
    let long = length_part 4 a.at a.w.now (omega arith) in
    let four = c.four.ensures in
    let sum = looked_up p q s t sub (take 256 a.words.now) a.a a.b a.c a.d (omega arith) (omega arith) (omega arith) (omega arith)
    (first_laid p q s t sub a.words.now h) in
    c.to_le_bytes.ensures
    ∙ bytes_four (add_round_key mixed key) _ (length_add_round_key mixed key ∙ size) (add_round_key_bytes mixed key sum.1 four.1)
    (ap₂ xor four.0 (c.summed.ensures p q s t sub h ∙ sum.0) ∙ comm (le key) (le mixed) ∙ sum_le mixed key (size ∙ sym long) sum.1 four.1)
