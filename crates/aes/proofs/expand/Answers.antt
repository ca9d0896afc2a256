-- The three lengths go to the one expansion over the number of words.
use mathlib.Core.Path.{refl, sym}
use lib.ListN.{length}
use Rattle.fips197.specs.Tables.{sbox}
use Rattle.aes.specs.Aes.{key_length, words_of}
use Rattle.fips197.specs.Expansion.{rounds_for}
use Rattle.aes.proofs.Keys.{Suits, fits, listed, unlisted, expanded_fit, expanded_other}
use Rattle.aes.proofs.expand.Goals as goal

pub invariant_of-expand : goal.invariant_of-expand
unfolding key_length words_of sbox
invariant_of-expand c =
    let k = c.args.key.now in
    let h : Suits k = fits k (listed (length k) 16 24 32 c.in-16.is) in
    record { sbox = refl; words = (h.few, h.most) }

pub expand-bytes-requires : goal.expand-bytes-requires
unfolding key_length words_of
expand-bytes-requires c =
    let k = c.args.key.now in
    let h : Suits k = fits k (listed (length k) 16 24 32 c.in-16.is) in
    h.whole

pub returns-in-16 : goal.returns-in-16
unfolding key_length words_of rounds_for
returns-in-16 c =
    let k = c.args.key.now in
    rw c.expand-bytes.ensures (sym (expanded_fit k (listed (length k) 16 24 32 c.in-16.is)))

pub returns-in_default : goal.returns-in_default
unfolding key_length
returns-in_default c =
    let k = c.args.key.now in
    sym (expanded_other k (unlisted (length k) 16 24 32 c.in_default.in_default-own.rest.1))
