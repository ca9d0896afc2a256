-- The three cases of the document, by the place of word i among its nk.
use mathlib.Core.Path.{◌≡◌}
use lib.ListN.{length}
use Rattle.fips197.specs.Field.{xor}
use Rattle.fips197.proofs.Schedule.{constant_place, turned_first, turned_half, turned_other, turned_short}
use borrow.Author.Rules.{rules}
use Rattle.aes.proofs.expansion.KeySchedule.turned.Goals as goal

pub round_constant-requires : goal.round_constant-requires
round_constant-requires c =
    let a = c.args in
    let p = c.requires in
    constant_place a.self.now.nk a.i a.self.now.words.0 p.0 p.1

pub returns-then-place-eq0 : goal.returns-then-place-eq0
unfolding xor
returns-then-place-eq0 c =
    let size : length c.args.t ≡ 4 = search rules in
    turned_first c.args.self.now.nk c.args.i c.args.t c.args.self.now.table.now c.sub_bytes-u.result c.round_constant.result
    c.if-place-eq0.true size c.args.self.now.sbox c.sub_bytes-u.ensures c.round_constant.ensures

pub returns-then-place-eq4 : goal.returns-then-place-eq4
returns-then-place-eq4 c =
    turned_half c.args.self.now.nk c.args.i c.args.t c.args.self.now.table.now c.sub_bytes.result
    c.if-place-eq0.false c.if-self-gt6.true c.if-place-eq4.true c.args.self.now.sbox c.sub_bytes.ensures

pub returns-else-place-eq4 : goal.returns-else-place-eq4
returns-else-place-eq4 c =
    let a = c.args in
    turned_other a.self.now.nk a.i a.t c.if-place-eq0.false c.if-place-eq4.false

pub returns-else-self-gt6 : goal.returns-else-self-gt6
returns-else-self-gt6 c =
    let a = c.args in
    turned_short a.self.now.nk a.i a.t c.if-place-eq0.false c.if-self-gt6.false
