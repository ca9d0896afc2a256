-- The key expansion, over the number nk of key words (FIPS 197 5.2). Word i of a list stands at its places 4 i to 4 i + 3.
-- Assumes nothing.
use Rattle.std.specs.Prelude.{cond, ◌&&◌, List, [], ◌∷◌, ◌++◌, ℕ, zero, suc, ◌+◌, ◌-◌, ◌*◌, ◌/◌, ◌%◌, ltb, eqb, take, drop}
use Rattle.fips197.specs.Tables.{round_constant}
use Rattle.fips197.specs.Cipher.{sub_bytes, add_round_key}

-- word i
unfoldable pub key_word : List ℕ → ℕ → List ℕ
key_word w i = take 4 (drop (4 * i) w)

-- a word's first byte put last (5.2, RotWord)
unfoldable pub rot_word : List ℕ → List ℕ
rot_word t = drop 1 t ++ take 1 t

-- what is added to the word nk places back to make word i, from the word t before it (5.2): at each nk-th word t rotated,
-- substituted and with its round constant; for a key of more than six words also t substituted, halfway; otherwise t
unfoldable pub turned : ℕ → ℕ → List ℕ → List ℕ
turned nk i t =
    cond (eqb (i % nk) 0) (add_round_key (sub_bytes (rot_word t)) (round_constant (i / nk) ∷ []))
    (cond (ltb 6 nk && eqb (i % nk) 4) (sub_bytes t) t)

-- word i, from the words before it (5.2)
unfoldable pub next : ℕ → ℕ → List ℕ → List ℕ
next nk i w = add_round_key (key_word w (i - nk)) (turned nk i (key_word w (i - 1)))

-- the words w, and word i after them
unfoldable pub longer_key : ℕ → ℕ → List ℕ → List ℕ
longer_key nk i w = w ++ next nk i w

-- the key, and n words more (5.2)
unfoldable pub extended : ℕ → List ℕ → ℕ → List ℕ
extended nk k zero = k
extended nk k (suc n) = longer_key nk (nk + n) (extended nk k n)

-- the number of rounds for nk key words: 10, 12 or 14 for 4, 6 or 8 (5, table 3)
unfoldable pub rounds_for : ℕ → ℕ
rounds_for nk = nk + 6

-- the expanded key: four words for each round and four before the first (5.2)
unfoldable pub schedule : ℕ → List ℕ → List ℕ
schedule nk k = extended nk k (4 * (rounds_for nk + 1) - nk)
