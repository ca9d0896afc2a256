-- Round key after round key, each mixed and laid after those before: all of them, mixed. Assumes nothing.
use mathlib.Core.Path.{◌≡◌, refl, sym, ap, ◌∙◌}
use mathlib.Core.List.{List}
use Prim.Native.Nat.{ℕ, ◌+◌, ◌*◌, ◌<◌}
use native.Mathlib.Omega.{arith}
use lib.ListN.{length, take, drop, replicate}
use lib.Seq.{paste, paste-zero, take_all}
use Rattle.octets.proofs.Parts.{paste_on, paste_whole}
use Rattle.fips197.specs.Cipher.{inv_mix_columns, round_key}
use Rattle.fips197.proofs.Columns.{length_inv_mix_columns}
use Rattle.fips197.proofs.Equivalent.{round_key_is, length_round_key, mixed_key}

-- the first n keys are laid
abbrev pub Done : List ℕ → ℕ → List ℕ → Type 0
Done w n m = m ≡ paste (replicate 240 0) 0 (inv_mix_columns w) (16 * n)

pub done_none : (w : List ℕ) → Done w 0 (replicate 240 0)
done_none w = paste-zero (replicate 240 0) 0 (inv_mix_columns w)

module _ (w : List ℕ) (long : length w ≡ 240) where
  pub done_more : (n : ℕ) (m next k : List ℕ) → n < 15 → Done w n m → k ≡ inv_mix_columns (round_key w n) → next ≡ paste m (16 * n) k 16 → Done w (n + 1) next
  done_more n m next k h done ek en =
      let whole : length (inv_mix_columns w) ≡ 240 = length_inv_mix_columns w ∙ long in
      let size : length k ≡ 16 = ap length ek ∙ length_inv_mix_columns (round_key w n) ∙ length_round_key w n (omega arith) in
      let here : take 16 k ≡ take 16 (drop (16 * n) (inv_mix_columns w)) =
      take_all 16 k (omega arith) ∙ ek ∙ sym (mixed_key w n (omega arith)) ∙ round_key_is (inv_mix_columns w) n in
      let on : 16 * n + 16 ≡ 16 * (n + 1) = omega arith in
      en ∙ ap (λ (l : List ℕ). paste l (16 * n) k 16) done
      ∙ paste_on (replicate 240 0) (inv_mix_columns w) k 0 (16 * n) 16 (16 * n) (omega arith) (omega arith) (omega arith) (omega arith) here
      ∙ ap (paste (replicate 240 0) 0 (inv_mix_columns w)) on

  pub done_all : (n : ℕ) (m : List ℕ) → n ≡ 15 → Done w n m → m ≡ inv_mix_columns w
  done_all n m e done =
      let whole : length (inv_mix_columns w) ≡ 240 = length_inv_mix_columns w ∙ long in
      done ∙ ap (λ (i : ℕ). paste (replicate 240 0) 0 (inv_mix_columns w) (16 * i)) e
      ∙ paste_whole (replicate 240 0) (inv_mix_columns w) 240 refl ∙ take_all 240 (inv_mix_columns w) (omega arith)
