-- Whoever keeps demand 3 keeps the promise of the extra block: the two fillings are two lawful pairs of one package. Assumes nothing.
use mathlib.Core.Path.{◌≡◌, refl, sym, ap, ◌∙◌}
use mathlib.Core.Bool.{Bool, true, false}
use mathlib.Core.List.{List, []}
use Prim.Native.Nat.{ℕ}
use native.Mathlib.Omega.{arith}
use lib.ListN.{length}
use lib.Seq.{take_all}
use Rattle.octets.specs.Octets.{Bytes}
use Rattle.octets.proofs.Below.{nil_bytes}
use Rattle.password.specs.Lock.{Lock}
use Rattle.lengths.specs.Lengths.{package_limit, least, filling_for}
use Rattle.lengths.proofs.Fillings.{without, taken, takes, filling_allowed}
use Rattle.sheet.specs.Frame.{pair, Lawful}
use Rattle.sheet.specs.Sheet.{lengths}
use Rattle.promises.specs.Words.{Judge, Opener, Sealer}
use Rattle.promises.specs.Demand3.{RoundTrip, Exact, Demand3}
use Rattle.promises.specs.ExtraBlock.{Takes, Both, ExtraBlock}

module _ («package» filling : List ℕ) (t : Takes «package» filling) where
  none : 0 ≡ filling_for false (length «package»)
  unfolding least
  none = sym (without (length «package») ∙ omega (arith, t.multiple))

  all : length filling ≡ filling_for true (length «package»)
  all = t.sixteen ∙ sym (taken (length «package») ((takes (length «package»)).1 (t.some, t.multiple)))

  lawful : (extra : Bool) (fill : List ℕ) → Bytes fill → length fill ≡ filling_for extra (length «package») → Lawful lengths (pair «package» fill)
  unfolding lengths package_limit
  lawful extra fill b f =
      record { package_bytes = t.package_bytes; filling_bytes = b; limited = t.limited; filled = filling_allowed extra (length «package») (length fill) f }

  both : (opens : Opener) (seals : Sealer) (lock : Lock) → Exact opens seals lock → Both opens seals lock «package» filling
  both opens seals lock three =
      let x : RoundTrip opens seals lock (pair «package» []) = three.a (pair «package» []) (lawful false [] nil_bytes none) in
      let y : RoundTrip opens seals lock (pair «package» filling) = three.a (pair «package» filling) (lawful true filling t.filling_bytes all) in
      record {
        asks_without = record { sixteen = t.sixteen; chosen = none; begins = refl };
        asks_with = record { sixteen = t.sixteen; chosen = all; begins = take_all (length filling) filling (omega arith) };
        without = x;
        with = y;
        two = λ e. omega (arith, ap length e, x.long, y.long, t.sixteen);
      }

pub extra_block : (judges : Judge) (opens : Opener) (seals : Sealer) → Demand3 judges opens seals → ExtraBlock judges opens seals
extra_block judges opens seals three =
    record { under = λ lock «package» filling v t. both «package» filling t opens seals lock (three.under lock v) }
