-- The cases P1 to P12 of 01 ("The package stream"), as one list, and what each row claims of a parser, a judge, an opener and a sealer,
-- under every scheme. Assumes nothing.
use Rattle.std.specs.Prelude.{◌≡◌, Bool, true, false, List, [], ◌∷◌, ◌++◌, ℕ, ◌-◌, ◌≤◌, length, take, replicate}
use Rattle.octets.specs.Octets.{le_bytes}
use Rattle.answers.specs.Rules.{AllHold}
use Rattle.answers.specs.Ended.{left, reply}
use Rattle.steps.specs.Steps.{seal_all}
use Rattle.descriptor.specs.Info.{info_rules, header_size, size_extra, alg_id, key_size}
use Rattle.password.specs.Lock.{Lock}
use Rattle.lengths.specs.Lengths.{stream_size}
use Rattle.promises.specs.Words.{Parser, Judge, Opener, Sealer}
use Rattle.promises.specs.Demand2.{published_step}

-- ---- the table

-- a field of EncryptionInfo, or its length, and the number that it has
pub record Fact : Type 0 where
  pub field : List ℕ → ℕ
  pub value : ℕ

infixl 90 ◌is◌
abbrev pub ◌is◌ : (List ℕ → ℕ) → ℕ → Fact
f is v = record { field = f; value = v }

-- a row
pub data Case : Type 0 where
  -- a package of `size` bytes, whatever is chosen, seals into a stream of so many, and uses so many bytes of filling
  seals : (size stream count : ℕ) → Case
  -- the same with this choice of an extra block
  chooses : (extra : Bool) (size stream count : ℕ) → Case
  -- a package of `size` bytes gets this answer, in sealing and in opening
  refuses : (size answer : ℕ) → Case
  -- EncryptionInfo with these facts gets this answer
  answers : List Fact → (answer : ℕ) → Case
  -- EncryptionInfo with these facts gets none of the answers from `low` to `high`
  passes : List Fact → (low high : ℕ) → Case
  -- EncryptionInfo with these facts gets none of the answers 3 to 5, and its name has so many bytes where nothing else objects
  names : List Fact → (count : ℕ) → Case

abbrev pub table : List Case
table =
    seals 0 8 0  -- P1
    ∷ seals 1 24 15  -- P2
    ∷ seals 15 24 1  -- P3
    ∷ seals 16 24 0  -- P4
    ∷ seals 17 40 15  -- P5
    ∷ chooses false 4096 4104 0  -- P6
    ∷ chooses true 4096 4120 16
    ∷ chooses false 268435456 268435464 0  -- P7
    ∷ chooses true 268435456 268435480 16
    ∷ refuses 268435457 14
    ∷ passes (header_size is 32 ∷ length is 116 ∷ []) 3 4  -- P8
    ∷ answers (header_size is 32 ∷ length is 115 ∷ []) 4
    ∷ answers (header_size is 32 ∷ length is 117 ∷ []) 4
    ∷ answers (header_size is 31 ∷ []) 3  -- P9
    ∷ answers (header_size is 4097 ∷ []) 3
    ∷ names (header_size is 140 ∷ length is 224 ∷ size_extra is 0 ∷ []) 108  -- P10
    ∷ names (header_size is 140 ∷ length is 224 ∷ size_extra is 108 ∷ []) 0
    ∷ answers (header_size is 140 ∷ length is 224 ∷ size_extra is 107 ∷ []) 5  -- P11
    ∷ answers (header_size is 140 ∷ length is 224 ∷ size_extra is 109 ∷ []) 5
    ∷ answers (alg_id is 0x660f ∷ key_size is 128 ∷ []) 8  -- P12
    ∷ []

-- ---- what a row claims

-- EncryptionInfo is as the facts say
abbrev pub Agrees : List ℕ → List Fact → Type 0
Agrees info [] = Unit
Agrees info (f ∷ fs) = (f.field info ≡ f.value) × Agrees info fs

-- EncryptionInfo breaks no rule before no. n
abbrev pub Before : ℕ → List ℕ → Type 0
Before n info = AllHold (take (n - 1) (info_rules info))

-- n is none of the numbers from low to high
abbrev pub Outside : (low high n : ℕ) → Type 0
Outside low high n = low ≤ n → n ≤ high → ⊥

module _ (parses : Parser) (judges : Judge) (opens : Opener) (sealer : Sealer) where
  -- with this choice a package of `size` bytes seals into a stream of so many, and uses so many bytes of filling
  abbrev pub Into : (extra : Bool) (size stream count : ℕ) → Type 0
  Into extra size stream count =
      (lock : Lock) («package» filling out : List ℕ) → judges lock ≡ 0 → length «package» ≡ size → length filling ≡ 16 → stream ≤ length out
      → let content : List ℕ = le_bytes 8 size ++ seal_all (published_step lock size) («package» ++ take count filling) in
      sealer lock «package» filling extra out ≡ left (reply 0 stream) (content ++ replicate (length out - stream) 0)

  abbrev pub Claim : Case → Type 0
  Claim (seals size stream count) = (extra : Bool) → Into extra size stream count
  Claim (chooses extra size stream count) = Into extra size stream count
  Claim (refuses size answer) =
      (lock : Lock) → judges lock ≡ 0
      → ((«package» filling : List ℕ) (extra : Bool) (out : List ℕ) → length «package» ≡ size → length filling ≡ 16
      → sealer lock «package» filling extra out ≡ left (reply answer 0) out)
      × ((stream out : List ℕ) → 8 ≤ length stream → stream_size stream ≡ size → opens lock stream out ≡ left (reply answer 0) out)
  Claim (answers facts answer) = (info : List ℕ) (scheme : ℕ) → Agrees info facts → Before answer info → (parses info scheme).answer ≡ answer
  Claim (passes facts low high) = (info : List ℕ) (scheme : ℕ) → Agrees info facts → Before low info → Outside low high (parses info scheme).answer
  Claim (names facts count) =
      (info : List ℕ) (scheme : ℕ) → Agrees info facts → Before 3 info
      → Outside 3 5 (parses info scheme).answer × ((parses info scheme).answer ≡ 0 → (parses info scheme).fields.name_length ≡ count)

  -- every row's claim
  abbrev pub Every : List Case → Type 0
  Every [] = Unit
  Every (c ∷ cs) = Claim c × Every cs
