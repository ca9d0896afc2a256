-- Eight bytes give the size again, the operation is undone on what follows them, and the size cuts its result where the pair was
-- joined. Assumes nothing.
use mathlib.Core.Path.{◌≡◌, refl, sym, ap, ap₂, ◌∙◌}
use mathlib.Core.Bool.{Bool}
use mathlib.Core.List.{List, ◌++◌}
use Prim.Native.Nat.{ℕ, ◌+◌, ◌-◌}
use native.Mathlib.Omega.{arith}
use lib.ListN.{length, drop, length-append, length-drop, take-append-drop}
use lib.Seq.{take_at, drop_at, length-take-le}
use Rattle.octets.specs.Octets.{Bytes, le_bytes}
use Rattle.octets.proofs.Below.{append_below, take_below, drop_below, le_bytes_bytes}
use Rattle.octets.proofs.Numbers.{length_le_bytes}
use Rattle.steps.specs.Stream.{Fit}
use Rattle.lengths.specs.Lengths.{stream_size}
use Rattle.lengths.proofs.StreamSize.{size_told, told_again}
use Rattle.sheet.specs.Frame.{Pair, Operation, Lengths, stream_of, pair_of, Lawful, AdmittedStream, Sound, OneToOne}

module _ (l : Lengths) (fits : ℕ → ℕ → Bool) (there back : Operation) (o : Sound l fits there back) where
  -- ---- from a pair to its stream

  module _ (p : Pair) (w : Lawful l p) where
    abbrev size : ℕ
    size = length p.«package»

    joined : Fit (fits size) (p.«package» ++ p.filling)
    joined =
        record {
          long = rw length-append (o.fitting (length p.«package») (length p.filling) w.limited w.filled);
          bytes = append_below p.«package» p.filling w.package_bytes w.filling_bytes;
        }

    pub length_stream_of : length (stream_of there p) ≡ 8 + (length p.«package» + length p.filling)
    unfolding stream_of
    length_stream_of = simp (length-append, length_le_bytes, (o.reversible size).forth.long (p.«package» ++ p.filling) joined)

    pub size_stream_of : stream_size (stream_of there p) ≡ length p.«package»
    unfolding stream_of
    size_stream_of = size_told (length p.«package») (there size (p.«package» ++ p.filling)) (omega (arith, w.limited, o.held))

    stream_bytes : Bytes (stream_of there p)
    unfolding stream_of
    stream_bytes =
        append_below (le_bytes 8 (length p.«package»)) (there size (p.«package» ++ p.filling)) (le_bytes_bytes 8 (length p.«package»))
        ((o.reversible size).forth.bytes (p.«package» ++ p.filling) joined)

    admitted : AdmittedStream l (stream_of there p)
    admitted =
        let n : length (stream_of there p) ≡ 8 + (length p.«package» + length p.filling) = length_stream_of in
        let z : stream_size (stream_of there p) ≡ length p.«package» = size_stream_of in
        let f : 8 + (length p.«package» + length p.filling) - 8 - length p.«package» ≡ length p.filling = omega arith in
        record {
          bytes = stream_bytes;
          headed = omega arith;
          limited = omega (arith, w.limited);
          enough = omega arith;
          filled = rw (z, n, f) w.filled;
        }

    undone : back size (drop 8 (stream_of there p)) ≡ p.«package» ++ p.filling
    unfolding stream_of
    undone =
        ap (back size) (drop_at (le_bytes 8 (length p.«package»)) (there size (p.«package» ++ p.filling)) 8 (length_le_bytes 8 (length p.«package»)))
        ∙ (o.reversible size).forth.undo (p.«package» ++ p.filling) joined

    pair_again : pair_of back (stream_of there p) ≡ p
    unfolding pair_of
    pair_again =
        rw (size_stream_of, undone, take_at p.«package» p.filling (length p.«package») refl, drop_at p.«package» p.filling (length p.«package») refl)

  -- ---- from a stream to its pair

  module _ (s : List ℕ) (a : AdmittedStream l s) where
    abbrev plain : List ℕ
    plain = back (stream_size s) (drop 8 s)

    ciphertext : Fit (fits (stream_size s)) (drop 8 s)
    ciphertext =
        let h : stream_size s + (length s - 8 - stream_size s) ≡ length s - 8 = omega (arith, a.enough) in
        let f = o.fitting (stream_size s) (length s - 8 - stream_size s) a.limited a.filled in
        record { long = simp length-drop (rw h at f); bytes = drop_below 8 s a.bytes }

    plain_long : length plain ≡ length s - 8
    plain_long = (o.reversible (stream_size s)).home.long (drop 8 s) ciphertext ∙ length-drop 8 s

    pub length_package : length (pair_of back s).«package» ≡ stream_size s
    unfolding pair_of
    length_package = length-take-le (stream_size s) plain (omega (arith, plain_long, a.enough))

    length_filling : length (pair_of back s).filling ≡ length s - 8 - stream_size s
    unfolding pair_of
    length_filling = simp length-drop (omega (arith, plain_long))

    plain_bytes : Bytes plain
    plain_bytes = (o.reversible (stream_size s)).home.bytes (drop 8 s) ciphertext

    lawful : Lawful l (pair_of back s)
    unfolding pair_of
    lawful =
        record {
          package_bytes = take_below (stream_size s) plain plain_bytes;
          filling_bytes = drop_below (stream_size s) plain plain_bytes;
          limited = omega (arith, length_package, a.limited);
          filled = rw (length_package, length_filling) a.filled;
        }

    split : (pair_of back s).«package» ++ (pair_of back s).filling ≡ plain
    unfolding pair_of
    split = take-append-drop (stream_size s) plain

    stream_again : stream_of there (pair_of back s) ≡ s
    unfolding stream_of
    stream_again =
        ap₂ ◌++◌ (ap (le_bytes 8) length_package ∙ told_again s a.bytes a.headed)
        (ap₂ there length_package split ∙ (o.reversible (stream_size s)).home.undo (drop 8 s) ciphertext)
        ∙ take-append-drop 8 s

  pub inverse : OneToOne l there back
  inverse = record { admitted = λ p w. admitted p w; lawful = λ s a. lawful s a; pair_again = λ p w. pair_again p w; stream_again = λ s a. stream_again s a }

-- two lawful pairs with one stream are one pair
pub one_pair : (l : Lengths) (there back : Operation) → OneToOne l there back → (p q : Pair) → Lawful l p → Lawful l q
    → stream_of there p ≡ stream_of there q → p ≡ q
one_pair l there back v p q w x e = sym (v.pair_again p w) ∙ ap (pair_of back) e ∙ v.pair_again q x
