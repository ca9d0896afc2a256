-- With its key mixed, a round may mix before it adds the key (FIPS 197 5.3.5).
use mathlib.Core.Path.{ap₂, ◌∙◌}
use mathlib.Core.List.{List, map}
use Prim.Native.Nat.{ℕ}
use native.Mathlib.Omega.{arith}
use Rattle.fips197.specs.Tables.{look, inv_sbox}
use Rattle.fips197.specs.Cipher as Cipher
use Rattle.fips197.proofs.Equivalent.{by_inv_round}
use Rattle.aes_stream.proofs.decryption.Decryption.round.Goals as goal

pub returns : goal.returns
returns c =
    let a = c.args in
    let d = a.self.now in
    let long = d.keys.0 in
    c.round.ensures 14 11 13 9 (look inv_sbox) d.tables.1
    ∙ ap₂ (λ (u k : List ℕ). Cipher.add_round_key (Cipher.columns (Cipher.row 14 11 13 9) (map (look inv_sbox) u)) (Cipher.round_key k a.n))
    c.inv_shift_rows.ensures d.keys.1
    ∙ by_inv_round d.w.now a.n a.s (omega arith)
