-- A call's answer is 0 or another number, and `ended` says what each leaves. Assumes nothing.
use mathlib.Core.Path.{◌≡◌, refl, sym, ap, ◌∙◌}
use mathlib.Core.List.{List, ◌++◌}
use Prim.Native.Nat.{ℕ, zero, suc, ◌+◌, ◌-◌, ◌≤◌}
use native.Mathlib.Omega.{arith}
use lib.ListN.{length, take, replicate}
use lib.Seq.{paste, take-paste, length-paste}
use Rattle.octets.specs.Octets.{zero_from}
use Rattle.answers.specs.Ended.{Left, Reply, left, reply, ended}

pub ended_answer : (n size : ℕ) (content out : List ℕ) → (ended n size content out).reply.answer ≡ n
unfolding ended
ended_answer zero size content out = refl
ended_answer (suc n) size content out = refl

pub ended_refused : (n size : ℕ) (content out : List ℕ) → (n ≡ 0 → ⊥) → ended n size content out ≡ left (reply n 0) out
unfolding ended
ended_refused zero size content out h = absurd (h refl)
ended_refused (suc n) size content out h = refl

pub ended_done : (n size : ℕ) (content out : List ℕ) → n ≡ 0 → ended n size content out ≡ left (reply 0 size) (content ++ replicate (length out - size) 0)
unfolding ended
ended_done n size content out h = rw h

-- no reply's size is above what bounds the sizes of acceptances
pub ended_size : (n size : ℕ) (content out : List ℕ) (most : ℕ) → (n ≡ 0 → size ≤ most) → (ended n size content out).reply.size ≤ most
unfolding ended
ended_size zero size content out most h = h refl
ended_size (suc n) size content out most h = omega arith

-- ---- what the code's own ending leaves

-- a list laid at a place, and zeros from where it ends
pub laid : (d x e r : List ℕ) (at n end : ℕ) → at + n ≡ end → end ≤ length d → n ≤ length x → e ≡ paste d at x n → r ≡ zero_from end e
    → r ≡ take at d ++ take n x ++ replicate (length d - end) 0
unfolding zero_from
laid d x e r at n end hn hd hx pe pr =
    let front : at ≤ length d = omega arith in
    let all : at + n ≤ length d = omega arith in
    pr ∙ ap (zero_from end) pe ∙ rw (← hn, take-paste d at x n front hx, length-paste d at x n all hx)
