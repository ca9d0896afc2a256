-- Which bytes of a ciphertext count for some bytes of what is opened (request 2026-05), over units of any width: those of the units that
-- they meet, and of the unit before the first of these, where that one is linked to it. Assumes nothing.
use Rattle.std.specs.Prelude.{◌≡◌, ◌⊎◌, List, ℕ, suc, ◌+◌, ◌*◌, ◌/◌, ◌<◌, get_or}

-- bytes `from` up to, not including, `to` meet unit k of u bytes; where there are none they meet none
abbrev pub Meets : (u from to k : ℕ) → Type 0
Meets u from to k = (from < to) × (u * k < to) × (from < u * k + u)

-- unit k stands before the first that they meet
abbrev pub Leads : (u from to k : ℕ) → Type 0
Leads u from to k = (from < to) × (suc k ≡ from / u)

-- byte j of the ciphertext counts for them, where some units are linked to the one before
abbrev pub Needed : (u : ℕ) (linked : ℕ → Type 0) (from to j : ℕ) → Type 0
Needed u linked from to j = Meets u from to (j / u) ⊎ (Leads u from to (j / u) × linked (from / u))

-- two streams agree in the bytes at these places
abbrev pub AgreeAt : (places : ℕ → Type 0) (s t : List ℕ) → Type 0
AgreeAt places s t = (j : ℕ) → places j → get_or s j 0 ≡ get_or t j 0
