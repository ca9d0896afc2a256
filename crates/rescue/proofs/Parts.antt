-- What there is of a package: how long it is, that a longer part of one stream gives no less of it and agrees with the shorter, that what
-- stands past the longest length does not count and what stands before it can be completed, and that all of it is there where the stream
-- opens. Assumes nothing.
use mathlib.Core.Path.{◌≡◌, sym, ap, ap₂, ◌∙◌}
use mathlib.Core.Logic.{inl, inr}
use mathlib.Core.List.{List, ◌++◌, append-nil, append_assoc}
use Prim.Native.Nat.{ℕ, ◌+◌, ◌-◌, ◌*◌, ◌/◌, ◌≤◌, ◌<◌, min}
use native.Mathlib.Nat.{sub_self}
use native.Mathlib.Omega.{arith}
use borrow.Author.Tests.{ltb-true, ltb-false}
use lib.Dec.{ltb}
use lib.ListN.{length, take, drop, replicate, length-append, length-take, length-drop, length-replicate, replicate-append-replicate, take-append-drop}
use lib.Seq.{take_all, take-take, take-append-le, drop-append-le, length-take-le}
use Rattle.octets.proofs.Parts.{part_front}
use Rattle.answers.specs.Rules.{first_of}
use Rattle.answers.specs.Ended.{Left}
use Rattle.answers.proofs.Laws.{either}
use Rattle.steps.specs.Steps.{Step, unit, open_all}
use Rattle.steps.proofs.Units.{unit_cut, length_unit}
use Rattle.steps.proofs.Made.{length_open_all}
use Rattle.steps.proofs.Ranges as ranges
use Rattle.password.specs.Lock.{Lock}
use Rattle.lengths.specs.Lengths.{stream_size, package_limit}
use Rattle.lengths.proofs.StreamSize.{size_front}
use Rattle.sheet.specs.Sheet.{sheet_step, open_rules, package_of, opened}
use Rattle.sheet.proofs.Lengths.{Openable, openable}
use Rattle.sheet.proofs.Keyed.{sheet_width, sheet_sized}
use Rattle.sheet.proofs.Laws.{open_holds, open_done, package_front, length_package}
use Rattle.rescue.specs.Rescue.{rescue_rules, recoverable, longest, counted, Rescue, rescue, remains, rescued}
use Rattle.rescue.specs.declared.Counts.{Counts}
use Rattle.rescue.proofs.Recovered.{recovered_most, unit_whole, recovered_kept, longest_allowed, longest_most, longest_holds, longest_whole}
use Rattle.rescue.proofs.Laws.{Rescuable, counts_of, rescue_done, rescue_kept, rescue_holds}

-- how many bytes of a stream are not past the longest length
abbrev pub within : (s : List ℕ) → ℕ
within s = length s - (length s - 8 - longest (stream_size s))

module _ (lock : Lock) where
  abbrev step : (s : List ℕ) → Step
  step s = sheet_step lock (stream_size s)

  -- ---- how long

  -- what is opened: the whole units of the ciphertext
  length_plain : (s : List ℕ) → length (open_all (step s) (drop 8 s)) ≡ (step s).width * ((length s - 8) / (step s).width)
  length_plain s = length_open_all (step s) (sheet_sized lock (stream_size s)) (drop 8 s) ∙ rw length-drop

  -- of which at most StreamSize bytes are there
  pub length_there : (s : List ℕ) → length (package_of lock s) ≡ recoverable (step s).width (length s - 8) (stream_size s)
  unfolding recoverable
  length_there s =
      ap length (package_front lock s) ∙ length-take (stream_size s) (open_all (step s) (drop 8 s))
      ∙ ap (min (stream_size s)) (length_plain s)

  pub there_most : (s : List ℕ) → length (package_of lock s) ≤ stream_size s
  there_most s = omega (arith, length_there s, (recovered_most (step s).width (length s - 8) (stream_size s)).0)

  pub there_held : (s : List ℕ) → length (package_of lock s) ≤ length (open_all (step s) (drop 8 s))
  there_held s = omega (arith, length_there s, length_plain s, (recovered_most (step s).width (length s - 8) (stream_size s)).1)

  -- they are its front
  pub there_opened : (s : List ℕ) → package_of lock s ≡ take (length (package_of lock s)) (open_all (step s) (drop 8 s))
  there_opened s =
      let there : List ℕ = package_of lock s in
      sym (take_all (length there) there (omega arith)) ∙ ap (take (length there)) (package_front lock s)
      ∙ take-take (length there) (stream_size s) (open_all (step s) (drop 8 s)) (there_most s)

  -- with zeros for the rest it is as long as StreamSize says
  pub length_remains : (s : List ℕ) → length (remains lock s) ≡ stream_size s
  unfolding remains
  length_remains s =
      let there : List ℕ = package_of lock s in
      length-append there (replicate (stream_size s - length there) 0) ∙ rw length-replicate (omega (arith, there_most s))

  -- where it ends before the whole units do, all of it is there
  short_there : (s : List ℕ) (n : ℕ) → length (package_of lock s) < n → n ≤ (step s).width * ((length s - 8) / (step s).width)
      → length (package_of lock s) ≡ stream_size s
  unfolding recoverable
  short_there s n l h = omega (arith, length_there s, l, h)

  -- and then nothing is zeroed
  remains_whole : (s : List ℕ) → length (package_of lock s) ≡ stream_size s → remains lock s ≡ package_of lock s
  unfolding remains
  remains_whole s e = rw (e, sub_self) (append-nil (package_of lock s))

  -- a unit that is there whole: opened, and cut at StreamSize
  pub unit_there : (s : List ℕ) (i : ℕ) → let u = (step s).width in u * i + u ≤ length s - 8
      → unit u i (remains lock s) ≡ take (stream_size s - u * i) (unit u i (open_all (step s) (drop 8 s)))
  unfolding remains unit
  unit_there s i h =
      let u : ℕ = (step s).width in
      let size : ℕ = stream_size s in
      let there : List ℕ = package_of lock s in
      let plain : List ℕ = open_all (step s) (drop 8 s) in
      let held : u * i + u ≤ u * ((length s - 8) / u) = unit_whole u (length s - 8) i (sheet_sized lock size).some h in
      let cut : (n : ℕ) → unit u i (take n plain) ≡ take (n - u * i) (unit u i plain) = λ n. unit_cut u i n plain in
      elim (either (ltb (length there) (u * i + u))) [
        | inl e ↦
            let all : length there ≡ size = short_there s (u * i + u) (ltb-true (length there) (u * i + u) e) held in
            ap (unit u i) (remains_whole s all ∙ package_front lock s) ∙ cut size
        | inr e ↦
            let l : u * i + u ≤ length there = ltb-false (length there) (u * i + u) e in
            let long : length (unit u i plain) ≡ u = length_unit u i plain (omega (arith, l, there_held s)) in
            sym (part_front u (u * i) there (replicate (size - length there) 0) l) ∙ ap (unit u i) (there_opened s) ∙ cut (length there)
            ∙ take_all (length there - u * i) (unit u i plain) (omega arith) ∙ sym (take_all (size - u * i) (unit u i plain) (omega (arith, there_most s)))
      ]

  -- ---- what a call leaves

  -- zeros for the rest of the package, and zeros after it
  pub all_zeros : (s out : List ℕ) → stream_size s ≤ length out
      → remains lock s ++ replicate (length out - stream_size s) 0 ≡ package_of lock s ++ replicate (length out - length (package_of lock s)) 0
  unfolding remains
  all_zeros s out h =
      let there : List ℕ = package_of lock s in
      let rest : ℕ = stream_size s - length there in
      let past : ℕ = length out - stream_size s in
      let n : rest + past ≡ length out - length there = omega (arith, there_most s) in
      append_assoc there (replicate rest 0) (replicate past 0) ∙ ap (◌++◌ there) (replicate-append-replicate rest past 0 ∙ ap (λ (m : ℕ). replicate m 0) n)

  -- as many bytes are there as are counted
  pub counts_there : (s out : List ℕ) (c : Counts) → c ≡ counts_of lock s out → c.recovered ≡ length (package_of lock s)
  unfolding counted
  counts_there s out c e = ap (λ (x : Counts). x.recovered) e ∙ sym (length_there s)

  module _ (s out : List ℕ) (z : first_of (rescue_rules lock s (length out)) ≡ 0) where
    pub out_left : (rescued lock s out).left.out ≡ package_of lock s ++ replicate (length out - length (package_of lock s)) 0
    out_left = ap (λ (r : Rescue). r.left.out) (rescue_done lock s out z) ∙ all_zeros s out (rescue_holds lock s out z).1.roomy

    pub counts_told : (rescued lock s out).counts ≡ counts_of lock s out
    counts_told = ap (λ (r : Rescue). r.counts) (rescue_done lock s out z)

    pub recovered_there : (rescued lock s out).counts.recovered ≡ length (package_of lock s)
    recovered_there = counts_there s out (rescued lock s out).counts counts_told

  -- ---- a longer part of one stream

  module _ (s rest : List ℕ) (h : 8 ≤ length s) where
    pub same_size : stream_size (s ++ rest) ≡ stream_size s
    same_size = size_front (s ++ rest) s (take-append-le 8 s rest h)

    -- what the shorter gives is the front of what the longer gives
    pub there_front : package_of lock s ≡ take (length (package_of lock s)) (package_of lock (s ++ rest))
    there_front =
        let size : ℕ = stream_size s in
        let there : List ℕ = package_of lock s in
        let n : length there ≡ recoverable (step s).width (length s - 8) size = length_there s in
        let most = recovered_most (step s).width (length s - 8) size in
        there_opened s
        ∙ ranges.rescued (step s) (sheet_sized lock size) (drop 8 s) rest (length there) size (there_most s) (rw (length-drop 8 s) (omega (arith, n, most.1)))
        ∙ ap (take (length there))
        (ap (λ (x : List ℕ). take size (open_all (step s) x)) (sym (drop-append-le 8 s rest h))
        ∙ ap (λ (m : ℕ). take m (open_all (sheet_step lock m) (drop 8 (s ++ rest)))) (sym same_size)
        ∙ sym (package_front lock (s ++ rest)))

  -- ---- surplus aside

  module _ (s : List ℕ) (h : 8 ≤ length s) where
    pub length_within : length (take (within s) s) ≡ 8 + min (length s - 8) (longest (stream_size s))
    length_within = length-take-le (within s) s (omega arith) ∙ omega (arith, h)

    pub size_within : stream_size (take (within s) s) ≡ stream_size s
    size_within = size_front (take (within s) s) s (take-take 8 (within s) s (omega (arith, h)))

    pub there_within : package_of lock (take (within s) s) ≡ package_of lock s
    there_within =
        let k : List ℕ = take (within s) s in
        let size : ℕ = stream_size s in
        let w = sheet_width lock size in
        let all : k ++ drop (within s) s ≡ s = take-append-drop (within s) s in
        let same : length (package_of lock k) ≡ length (package_of lock s) =
        length_there k
        ∙ ap₂ (λ (m n : ℕ). recoverable (sheet_step lock m).width n m) size_within (ap (λ (n : ℕ). n - 8) length_within ∙ omega arith)
        ∙ recovered_kept (step s).width (length s - 8) (longest size) size (rw w (omega arith)) (rw w (longest_whole size)) (longest_holds size)
        ∙ sym (length_there s) in
        there_front k (drop (within s) s) (omega (arith, length_within))
        ∙ ap₂ (λ (n : ℕ) (x : List ℕ). take n (package_of lock x)) same all
        ∙ take_all (length (package_of lock s)) (package_of lock s) (omega arith)

    -- so far it can be completed, with whatever is missing of the longest length
    pub completed : (rest : List ℕ) (room : ℕ) → length rest ≡ longest (stream_size s) - (length s - 8) → stream_size s ≤ package_limit → stream_size s ≤ room
        → Openable (take (within s) s ++ rest) room
    completed rest room n l r =
        let size : ℕ = stream_size s in
        let t : List ℕ = take (within s) s ++ rest in
        let same : stream_size t ≡ size = same_size (take (within s) s) rest (omega (arith, length_within)) ∙ size_within in
        let long : length t ≡ 8 + longest size = length-append (take (within s) s) rest ∙ omega (arith, length_within, n) in
        let after : length t - 8 ≡ longest size = omega arith in
        record {
          fits = record { headed = omega arith; limited = rw same l; long = rw (same, after) (longest_allowed size) };
          roomy = rw same r;
        }

  -- ---- a stream that opens

  module _ (s out : List ℕ) (z : first_of (open_rules lock s (length out)) ≡ 0) where
    whole : Openable s (length out)
    whole = (open_holds lock s out z).1

    all_there : length (package_of lock s) ≡ stream_size s
    all_there = length_package lock s (length out) whole

    all_counts : counts_of lock s out ≡ record { recovered = stream_size s; zeroed = 0; surplus = 0 }
    unfolding counted
    all_counts =
        let r : recoverable (step s).width (length s - 8) (stream_size s) ≡ stream_size s = sym (length_there s) ∙ all_there in
        let m : length s - 8 ≤ longest (stream_size s) = longest_most (stream_size s) (length s - 8) whole.fits.long in
        let n : length s - 8 - longest (stream_size s) ≡ 0 = omega arith in
        rw (r, n, sub_self)

    pub rescue_opened : rescued lock s out ≡ rescue (opened lock s out) (record { recovered = stream_size s; zeroed = 0; surplus = 0 })
    rescue_opened =
        let o = open_holds lock s out z in
        let k : Rescuable s (length out) = record { headed = whole.fits.headed; limited = whole.fits.limited; roomy = whole.roomy } in
        rescue_done lock s out (rescue_kept lock s out o.0 k)
        ∙ rw (remains_whole s all_there, all_counts) (ap (λ (l : Left). rescue l (record { recovered = stream_size s; zeroed = 0; surplus = 0 })) (sym (open_done lock s out o.0 ((openable s (length out)).1 whole))))
