-- Shares at the places of the bytes that a table substitutes, once for each row: the words of a cipher; and what is looked up in them.
-- Assumes nothing.
use mathlib.Core.Path.{◌≡◌, sym, ap, ◌∙◌}
use mathlib.Core.List.{List}
use Prim.Native.Nat.{ℕ, ◌+◌, ◌*◌, ◌/◌, ◌%◌, ◌<◌}
use native.Mathlib.Nat.{zero-add}
use native.Mathlib.Omega.{arith}
use lib.Dec.{lit<}
use lib.ListN.{length, get_or, take}
use lib.Seq.{get_or-take, length-take-le}
use Rattle.octets.specs.Octets.{Bytes}
use Rattle.fips197.specs.Tables.{look}
use Rattle.fips197.specs.Products.{moved_word, Laid}
use Rattle.fips197.proofs.Entries.{look_in}
use Rattle.fips197.proofs.Words.{unmoved}
use Rattle.fips197.proofs.Shares.{share_word}
use Rattle.aes_stream.specs.Words.{Rows}

-- at i, in the table of row i / 256: the share at the byte that stands at i % 256, moved
abbrev pub at : List ℕ → List ℕ → ℕ → ℕ
at table shares i = moved_word (i / 256) (get_or shares (get_or table (i % 256) 0) 0)

pub by_table : (p q r t : ℕ) (table shares words : List ℕ) → length table ≡ 256 → length words ≡ 1024
    → ((i : ℕ) → i < 1024 → get_or words i 0 ≡ at table shares i) → Bytes table → Laid p q r t (λ x. x) shares → Rows p q r t (look table) words
by_table p q r t table shares words long size each b h =
    let here : (x : ℕ) → x < 256 → look table x ≡ get_or table x 0 = λ x l. look_in table x (omega (arith, l)) in
    record {
      long = size;
      byte = λ x l. rw (here x l) (b.at x);
      at = λ k x hk l.
          let row : (256 * k + x) / 256 ≡ k = omega (arith, l) in
          let place : (256 * k + x) % 256 ≡ x = omega (arith, l) in
          each (256 * k + x) (omega (arith, hk, l)) ∙ rw (row, place, h.at (get_or table x 0) (b.at x), here x l);
    }

module _ (p q r t : ℕ) (sub : ℕ → ℕ) (words : List ℕ) (h : Rows p q r t sub words) where
  pub first_row : (x : ℕ) → x < 256 → get_or words (256 * 0 + x) 0 ≡ get_or (take 256 words) x 0
  first_row x l = rw zero-add (sym (get_or-take 256 words x 0 l))

  -- in the first table the words are not moved
  pub first_laid : Laid p q r t sub (take 256 words)
  first_laid =
      record {
        long = length-take-le 256 words (omega (arith, h.long));
        byte = h.byte;
        at = λ x l. sym (first_row x l) ∙ h.at 0 x (lit< tt) l ∙ unmoved _ (share_word p q r t (sub x) (h.byte x l));
      }

  -- and in row k's they are the first one's, moved
  pub by_row : (k x : ℕ) → k < 4 → x < 256 → get_or words (256 * k + x) 0 ≡ moved_word k (get_or (take 256 words) x 0)
  by_row k x hk l = h.at k x hk l ∙ ap (moved_word k) (sym (first_laid.at x l))
