-- Our entries keep demand 3: under an accepted password sealing and opening undo each other between lawful pairs and the streams that
-- open, and only the needed bytes of a value count. Assumes nothing.
use mathlib.Core.Path.{◌≡◌}
use mathlib.Core.Bool.{Bool}
use mathlib.Core.List.{List}
use Prim.Native.Nat.{ℕ, ◌+◌, ◌≤◌}
use lib.ListN.{length}
use Rattle.octets.specs.Octets.{Bytes}
use Rattle.password.specs.Verdict.{judged}
use Rattle.password.specs.Lock.{Lock}
use Rattle.lengths.specs.Lengths.{rounded, sealed_size}
use Rattle.sheet.specs.Frame.{Pair, Lawful, pair_of}
use Rattle.sheet.specs.Sheet.{lengths, opening, package_of, sealing_of, opened, sealed}
use Rattle.sheet.proofs.Laws.{open_zero, seal_zero, seal_alike, seal_by_length, length_package, length_sealing, filling_chosen}
use Rattle.sheet.proofs.Pairs.{pair_seals, stream_opens, sealed_once, opened_lawful, opened_again}
use Rattle.promises.specs.Words.{Accepted}
use Rattle.promises.specs.Demand3.{Begins, Demand3}
use Rattle.promises.proofs.Inverts.{Own, Inverts, exact}

module _ (lock : Lock) where
  long : (p : Pair) → Lawful lengths p → length (sealing_of lock p) ≡ 8 + (length p.«package» + length p.filling)
  unfolding sealed_size rounded
  long p w = let k = filling_chosen p w in rw k.1 (length_sealing lock p k.0 k.1)

  room : (p : Pair) (filling : List ℕ) (extra : Bool) (out : List ℕ) → Begins p filling extra → Accepted (sealed lock p.«package» filling extra out)
      → length (sealing_of lock p) ≤ length out
  room p filling extra out g h =
      rw (length_sealing lock p extra g.chosen) (seal_zero lock p.«package» filling extra out h).1.roomy

  own : (s out : List ℕ) → judged lock ≡ 0 → Bytes s → Accepted (opened lock s out)
      → Own (sealing_of lock) s out (pair_of (opening lock) s)
  unfolding package_of
  own s out v b h =
      let k = (open_zero lock s out h).1 in
      record {
        lawful = opened_lawful lock v s out b h;
        again = opened_again lock v s out b h;
        room = rw (length_package lock s (length out) k) k.roomy;
      }

  inverts : judged lock ≡ 0 → Inverts opened sealed lock
  inverts v =
      record {
        stream = sealing_of lock;
        own = pair_of (opening lock);
        long = long;
        once = sealed_once lock v;
        seals_to = λ p w filling extra out g h. pair_seals lock v p w filling extra out g.chosen g.begins h;
        opens_to = stream_opens lock v;
        sealed_room = λ p w filling extra out g h. room p filling extra out g h;
        opened_own = λ s out b h. own s out v b h;
        alike = λ «package» filling other extra out e. seal_alike lock «package» filling extra out other e;
        by_length = λ «package» filling extra other out e. seal_by_length lock «package» filling extra out other e;
      }

pub demand_3 : Demand3 judged opened sealed
demand_3 = record { under = λ lock v. exact opened sealed lock (inverts lock v) }
