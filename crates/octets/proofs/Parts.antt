-- Parts of lists, taken out and laid in. Assumes nothing.
use mathlib.Core.Path.{◌≡◌, refl, sym, ap, ◌∙◌}
use mathlib.Core.List.{List, [], ◌∷◌, ◌++◌, reverse, append-nil, append_assoc, reverse-cons}
use Prim.Native.Nat.{ℕ, zero, suc, ◌+◌, ◌-◌, ◌≤◌, ◌<◌}
use native.Mathlib.Nat.{add_assoc, zero-add, suc-add, sub-zero, zero-sub, suc-sub-suc}
use native.Mathlib.Numerals.{add-one}
use native.Mathlib.Omega.{arith}
use lib.ListN.{length, get_or, take, drop, set, replicate, length-append, length-drop, drop_of_length-le, take-append-drop, replicate-append-replicate}
use lib.Seq.{paste, paste-suc, take_all, take-nil, drop-nil, take-take, take-add, take_at, drop_at, drop-drop, take-paste, drop-paste, drop-append-add, take-append-le, drop-append-le, length-take-le}

module _ {A : Type 0} where
  -- what lies past o in the first o + n is the part at o
  pub drop_take : (o n : ℕ) (s : List A) → drop o (take (o + n) s) ≡ take n (drop o s)
  drop_take zero n s = rw zero-add
  drop_take (suc o) n [] = rw (take-nil (suc o + n), drop-nil (suc o), take-nil n)
  drop_take (suc o) n (x ∷ s) = rw suc-add (drop_take o n s)

  pub length_part : (n o : ℕ) (s : List A) → o + n ≤ length s → length (take n (drop o s)) ≡ n
  length_part n o s h = length-take-le n (drop o s) (simp length-drop (omega arith))

  -- a part of a part
  pub part_part : (n o m a : ℕ) (s : List A) → o + n ≤ m → take n (drop o (take m (drop a s))) ≡ take n (drop (a + o) s)
  part_part n o m a s h =
      let e : o + (m - o) ≡ m = omega arith in
      let f : drop o (take m (drop a s)) ≡ take (m - o) (drop o (drop a s)) = rw e at (drop_take o (m - o) (drop a s)) in
      rw (f, take-take n (m - o) (drop o (drop a s)) (omega arith), drop-drop)

  -- a part that ends before what stands behind
  pub part_front : (n o : ℕ) (s t : List A) → o + n ≤ length s → take n (drop o s) ≡ take n (drop o (s ++ t))
  part_front n o s t h =
      rw (drop-append-le o s t (omega arith), take-append-le n (drop o s) t (simp length-drop (omega arith)))

  pub drop_replicate : (o n : ℕ) (x : A) → drop o (replicate n x) ≡ replicate (n - o) x
  drop_replicate zero n x = rw sub-zero
  drop_replicate (suc o) zero x = rw zero-sub
  drop_replicate (suc o) (suc n) x = rw suc-sub-suc (drop_replicate o n x)

  pub reverse_replicate : (n : ℕ) (x : A) → reverse (replicate n x) ≡ replicate n x
  reverse_replicate zero x = refl
  reverse_replicate (suc n) x = reverse-cons x (replicate n x) ∙ rw (reverse_replicate n x, replicate-append-replicate n 1 x, add-one)

  -- a turn of a loop that lays s at `at`
  pub paste_more : (d s out : List A) (at i : ℕ) (v z : A) → at + i < length d → i < length s → out ≡ paste d at s i → v ≡ get_or s i z
      → set out (at + i) v ≡ paste d at s (i + 1)
  paste_more d s out at i v z hd hs e q = rw (e, q, add-one) (paste-suc d at s i z hd hs)

  -- two parts laid one after the other are one
  pub paste_paste : (d x y : List A) (at n m : ℕ) → length x ≡ n → length y ≡ m → at + n ≤ length d
      → paste (paste d at x n) (at + n) y m ≡ paste d at (x ++ y) (n + m)
  paste_paste d x y at n m hx hy hd =
      let xs : take n x ≡ x = take_all n x (omega arith) in
      let ys : take m y ≡ y = take_all m y (omega arith) in
      let all : take (n + m) (x ++ y) ≡ x ++ y = take_all (n + m) (x ++ y) (rw length-append (omega arith)) in
      let past : drop (at + n + m) (paste d at x n) ≡ drop (at + (n + m)) d =
      sym (drop-drop m (at + n) (paste d at x n)) ∙ ap (drop m) (drop-paste d at x n (omega arith) (omega arith)) ∙ rw (drop-drop, add_assoc) in
      rw (take-paste d at x n (omega arith) (omega arith), past, xs, ys, all) (simp append_assoc)

  -- what comes next of a list, laid where its first part ends
  pub paste_on : (d x y : List A) (at n m end : ℕ) → n ≤ length x → m ≤ length y → at + n ≡ end → end ≤ length d → take m y ≡ take m (drop n x)
      → paste (paste d at x n) end y m ≡ paste d at x (n + m)
  paste_on d x y at n m end hx hy hn hd e =
      let p = paste_paste d (take n x) (take m y) at n m (length-take-le n x hx) (length-take-le m y hy) (omega arith) in
      let q = rw (take-take n n x (omega arith), take-take m m y (omega arith)) at p in
      rw (← hn) (q ∙ rw (e, ← take-add n m x, take-take (n + m) (n + m) x (omega arith)))

  -- the same as `paste_paste`, step by step
  pub paste_two : (x y z : List A) (n m at : ℕ) (d e f : List A) → length x ≡ n → length y ≡ m → x ++ y ≡ z → at + (n + m) ≤ length d
      → e ≡ paste d at x n → f ≡ paste e (at + n) y m → f ≡ paste d at z (n + m)
  paste_two x y z n m at d e f hx hy q h p r =
      r ∙ ap (λ (l : List A). paste l (at + n) y m) p ∙ paste_paste d x y at n m hx hy (omega arith)
      ∙ ap (λ (l : List A). paste d at l (n + m)) q

  -- a whole list laid right after another
  pub paste_next : (p s d : List A) (at n : ℕ) → length p ≡ at → length s ≡ n → paste (p ++ d) at s n ≡ (p ++ s) ++ drop n d
  paste_next p s d at n hp hs =
      rw (take_at p d at hp, take_all n s (omega arith), ← hp, drop-append-add)

  -- a list laid up to the end of another, or past it
  pub paste_end : (d s : List A) (at n : ℕ) → length s ≡ n → length d ≤ at + n → paste d at s n ≡ take at d ++ s
  paste_end d s at n hs hd = rw (take_all n s (omega arith), drop_of_length-le d hd) (append-nil (take at d ++ s))

  -- a list that is overwritten whole
  pub paste_whole : (d s : List A) (n : ℕ) → length d ≡ n → paste d 0 s n ≡ take n s
  paste_whole d s n h =
      let past : length d ≤ 0 + n = omega arith in
      rw (drop_of_length-le d past) (append-nil (take n s))

  -- what was laid is read back, and what was read is laid back
  pub part_paste : (d s : List A) (at n : ℕ) → length s ≡ n → at + n ≤ length d → take n (drop at (paste d at s n)) ≡ s
  part_paste d s at n hs hd =
      sym (drop_take at n (paste d at s n)) ∙ ap (drop at) (take-paste d at s n (omega arith) (omega arith))
      ∙ drop_at (take at d) (take n s) at (length-take-le at d (omega arith)) ∙ take_all n s (omega arith)

  pub paste_part : (d : List A) (at n : ℕ) → paste d at (take n (drop at d)) n ≡ d
  paste_part d at n = rw (take-take n n (drop at d) (omega arith), ← take-add at n d) (take-append-drop (at + n) d)
