-- Claims about the elements of a list are pairs within pairs; their proofs are written one after the other. Assumes nothing.

-- the first's proof, and those of the rest
infixr 60 ◌and◌
abbrev pub ◌and◌ : {A B : Type 0} → A → B → A × B
a and b = (a, b)
