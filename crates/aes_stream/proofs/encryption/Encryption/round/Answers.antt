-- Shifting the rows and substituting may change places.
use mathlib.Core.Path.{ap, ◌∙◌}
use mathlib.Core.List.{map}
use borrow.Author.Rules.{rules}
use Rattle.fips197.specs.Tables.{look, sbox}
use Rattle.fips197.specs.Cipher as Cipher
use Rattle.fips197.proofs.Equivalent.{by_round}
use Rattle.aes_stream.proofs.encryption.Encryption.round.Goals as goal

pub returns : goal.returns
returns c =
    let a = c.args in
    let key = Cipher.round_key a.self.now.w.now in
    c.round.ensures 2 3 1 1 (look sbox) a.self.now.tables.1
    ∙ ap (λ u. Cipher.add_round_key (Cipher.columns (Cipher.row 2 3 1 1) (map (look sbox) u)) (key a.n)) c.shift_rows.ensures
    ∙ by_round key a.n a.s (search rules)
