-- The two ways out of `written`: a refusal by the first broken rule, and the three parts laid one after the other.
use mathlib.Core.Path.{◌≡◌, refl, sym, ap, subst⁻¹, ◌∙◌}
use Prim.Native.Nat.{◌≤◌, ◌<◌}
use native.Mathlib.Omega.{arith}
use borrow.Author.Rules.{rules}
use lib.ListN.{length}
use Rattle.std.proofs.lemmas.Result.{err_from_is_err_and}
use Rattle.aes.specs.Aes.{expanded}
use Rattle.aes.specs.declared.Expanded.{Expanded}
use Rattle.blocks.proofs.Aes.{expanded_rounds}
use Rattle.descriptor.specs.declared.ByteCount.{ByteCount}
use Rattle.descriptor.proofs.Algorithms.{key_row}
use Rattle.derivation.specs.Key.{key_bytes}
use Rattle.writer.specs.Written.{name_limit}
use Rattle.writer.proofs.Laws.{Writable, writable, write_refused, new_key, key_fits}
use Rattle.writer.proofs.Laid.{written_laid}
use Rattle.writer.proofs.write_info.Goals as goal
use Rattle.writer.proofs.write_info.Goals.{In_ok-alg_id, After-expanded_key}

pub returns-in_err-alg_id : goal.returns-in_err-alg_id
returns-in_err-alg_id c =
    let a = c.args in
    let p = err_from_is_err_and c.from_residual.result c.from_residual.ensures.1 in
    rw (p.1, p.2) (write_refused a.bits.0 a.password.now a.name.now a.salt a.verifier a.filling a.out.now _ c.in_err-alg_id.ensures.rules)

-- no rule is broken
fit : (c : In_ok-alg_id) → let a = c.args in Writable a.bits.0 a.password.now (length a.name.now) (length a.out.now)
fit c = (writable _ _ _ _).0 (sym c.in_ok-alg_id.ensures.rules)

pub front-front-requires : goal.front-front-requires
unfolding name_limit
front-front-requires c = (c.in_ok-alg_id.ensures.alg_id, (fit (goal.at.front-front-requires c).In_ok-alg_id).short)

pub invariant_of-salted : goal.invariant_of-salted
invariant_of-salted c = record { short = (fit (goal.at.invariant_of-salted c).In_ok-alg_id).typed }

pub expanded_key-requires : goal.expanded_key-requires
expanded_key-requires c =
    let f = fit (goal.at.expanded_key-requires c).In_ok-alg_id in
    rw c.into.ensures (omega (arith, (key_row _ f.key).few))

-- the expanded key is that of the salt and the password
key : (c : After-expanded_key) → let a = c.args in c.expanded_key.result ≡ expanded (new_key a.bits.0 a.salt a.password.now)
key c =
    let a = c.args in
    c.expanded_key.ensures ∙ ap (λ (k : ByteCount). expanded (key_bytes k.0 a.salt a.password.now)) c.into.ensures

pub round_keys-key-requires : goal.round_keys-key-requires
round_keys-key-requires c =
    let a = c.args in
    let w = goal.at.round_keys-key-requires c in
    let k = new_key a.bits.0 a.salt a.password.now in
    subst⁻¹ (λ (x : Expanded). (0 < x.rounds) × (x.rounds ≤ 14)) (key w.After-expanded_key)
    (expanded_rounds k (key_fits a.bits.0 a.salt a.password.now (fit w.In_ok-alg_id).key))

pub copy-requires : goal.copy-requires
copy-requires c =
    let n : length c.front-front.result ≡ 44 = search rules in
    (omega arith, omega (arith, (fit (goal.at.copy-requires c).In_ok-alg_id).roomy))

pub put_name-requires : goal.put_name-requires
put_name-requires c = omega (arith, (fit (goal.at.put_name-requires c).In_ok-alg_id).roomy, c.copy.auto.d)

pub copy-requires-2 : goal.copy-requires-2
copy-requires-2 c =
    let n : length c.locked-locked.result ≡ 72 = search rules in
    (omega arith, omega (arith, (fit (goal.at.copy-requires-2 c).In_ok-alg_id).roomy, c.put_name.auto.out, c.copy.auto.d))

pub returns : goal.returns
returns c =
    let a = c.args in
    let w = goal.at.returns c in
    let f = fit w.In_ok-alg_id in
    let k = new_key a.bits.0 a.salt a.password.now in
    let lf : length c.front-front.result ≡ 44 = search rules in
    let ll : length c.locked-locked.result ≡ 72 = search rules in
    written_laid a.bits.0 _ _ a.salt a.verifier a.filling _ (sym c.in_ok-alg_id.ensures.rules) _ _ _ _ _ _ _
    (c.front-front.ensures k a.name.now a.salt a.verifier a.filling refl) lf
    (c.locked-locked.ensures a.bits.0 k a.name.now (key_fits a.bits.0 a.salt a.password.now f.key) (c.round_keys-key.ensures ∙ key w.After-expanded_key)) ll
    c.copy.ensures c.put_name.ensures c.copy-2.ensures c.done.ensures.0 c.done.ensures.1
