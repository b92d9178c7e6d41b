-- A write changes only held bits (document 01, "Writing", "Normal image": the bits that a value holds): every other bit
-- stands as it stood.
use Prim.Native.Nat.{ℕ, zero, suc, ◌+◌, ◌*◌}
use native.Mathlib.Nat.{mul-suc}
use native.Mathlib.Omega.{arith}
use mathlib.Core.Bool.{Bool, true, false, cond}
use mathlib.Core.List.{List, [], ◌∷◌, ◌++◌}
use mathlib.Core.Path.{◌≡◌, refl, sym, ap, ◌∙◌}
use lib.Dec.{eqb}
use lib.ListN.{length}
use Rattle.words.specs.Bits.{Bits, inside, stamp}
use Rattle.words.proofs.StampLaws.{not_inside, first_part, second_part, both_parts, stamp_beside}
use Rattle.words.proofs.TestLaws.{or_first, or_second, or_none}
use Rattle.values.specs.normal_image.Normal.{held}
use Rattle.values.specs.reading.Leaf.{Leaf, flag, width}
use Rattle.values.specs.reading.Tree.{Tree, leaf, bits, array, struct, Branches, none, branch, all_bits, span}
use Rattle.values.specs.reading.Tree.{Item, say, at, each, between, one_flag, items, branch_items}
use Rattle.values.specs.stream.Stream.{Token, kind_of, payload_of, mark}
use Rattle.values.specs.writing.Effects.{Effect, keep, put, refuse, or_null, taken, bits_whole}
use Rattle.values.specs.writing.Writing.{Outcome, ok, bad, and_then, on_effect, write_one, opened, elements}
use Rattle.values.specs.writing.Writing.{members_in, bools_in, wholes_in, first_is, no_bits, rest, write_bits, write}
use Rattle.values.specs.writing.Writing.{write_branch}

-- ---- bits that are not among some others

-- ---- bits that some items do not hold

-- a bit that two lists of items do not hold is not held by the first
pub held_first : (a b : List Item) (k : ℕ) → held (a ++ b) k ≡ false → held a k ≡ false
unfolding held
held_first [] b k e = refl
held_first (say t ∷ a) b k e = held_first a b k e
held_first (at p l ∷ a) b k e =
    or_none (inside p (width l) k) (held a k) (or_first (inside p (width l) k) (held (a ++ b) k) e)
    (held_first a b k (or_second (inside p (width l) k) (held (a ++ b) k) e))

-- a bit that two lists of items do not hold is not held by the second
pub held_second : (a b : List Item) (k : ℕ) → held (a ++ b) k ≡ false → held b k ≡ false
unfolding held
held_second [] b k e = e
held_second (say t ∷ a) b k e = held_second a b k e
held_second (at p l ∷ a) b k e = held_second a b k (or_second (inside p (width l) k) (held (a ++ b) k) e)

held_between : (start stop : ℕ) (is : List Item) (k : ℕ) → held (between start stop is) k ≡ false → held is k ≡ false
unfolding held
held_between start stop is k e = held_first is (say (mark stop) ∷ []) k e

-- a leaf's bits, and those of so many flags
held_leaf : (p : ℕ) (l : Leaf) (is : List Item) (k : ℕ) → held (at p l ∷ is) k ≡ false → inside p (width l) k ≡ false
unfolding held
held_leaf p l is k e = or_first (inside p (width l) k) (held is k) e

flags_held : (n p k : ℕ) → held (each n one_flag 1 p) k ≡ false → inside p n k ≡ false
unfolding each held
flags_held zero p k e = not_inside p 0 k (λ a b. omega arith)
flags_held (suc n) p k e =
    let m : 1 + n ≡ suc n = omega arith in
    rw m at (both_parts p 1 n k (or_first (inside p 1 k) (held (each n one_flag 1 (p + 1)) k) e)
    (flags_held n (p + 1) k (or_second (inside p 1 k) (held (each n one_flag 1 (p + 1)) k) e)))

-- ---- steps that leave a bit as it stood

abbrev Keeps : ℕ → Bits → Outcome → Type 0
Keeps k z (ok ts new) = new k ≡ z k
Keeps k z (bad number ts) = Unit {0}

abbrev KeepsBit : ℕ → (List Token → Bits → Outcome) → Type 0
KeepsBit k f = (ts : List Token) (z : Bits) → Keeps k z (f ts z)

keeps_from : (k : ℕ) (z y : Bits) (o : Outcome) → y k ≡ z k → Keeps k y o → Keeps k z o
keeps_from k z y (ok ts new) e h = h ∙ e
keeps_from k z y (bad number ts) e h = tt

keeps_cond : (k : ℕ) (z : Bits) (b : Bool) (o q : Outcome) → Keeps k z o → Keeps k z q → Keeps k z (cond b o q)
keeps_cond k z true o q h g = h
keeps_cond k z false o q h g = g

keeps_then : (k : ℕ) (z : Bits) (o : Outcome) (next : List Token → Bits → Outcome) → Keeps k z o → KeepsBit k next
    → Keeps k z (and_then o next)
keeps_then k z (ok ts y) next h steady = keeps_from k z y (next ts y) h (steady ts y)
keeps_then k z (bad number ts) next h steady = tt

keeps_effect : (e : Effect) (w p : ℕ) (t : Token) (ts : List Token) (z : Bits) (k : ℕ) → inside p w k ≡ false
    → Keeps k z (on_effect e w p t ts z)
keeps_effect keep w p t ts z k h = refl
keeps_effect (put b) w p t ts z k h = stamp_beside p w b z k h
keeps_effect (refuse number) w p t ts z k h = tt

one_steady : (takes : Token → Effect) (w p k : ℕ) → inside p w k ≡ false → KeepsBit k (write_one takes w p)
unfolding write_one
one_steady takes w p k h [] z = tt
one_steady takes w p k h (t ∷ ts) z = keeps_effect (takes t) w p t ts z k h

opened_steady : (start : ℕ) (inner : List Token → Bits → Outcome) (k : ℕ) → KeepsBit k inner
    → KeepsBit k (opened start inner)
unfolding opened
opened_steady start inner k steady [] z = tt
opened_steady start inner k steady (t ∷ ts) z =
    keeps_cond k z (eqb (kind_of t) 0) (ok ts z) (cond (eqb (kind_of t) start) (inner ts z) (bad 18 (t ∷ ts))) refl
    (keeps_cond k z (eqb (kind_of t) start) (inner ts z) (bad 18 (t ∷ ts)) (steady ts z) tt)

-- elements, where a fact of so many from a bit on tells of the first, and of those after it
module _ (Beside : ℕ → ℕ → Type 0) (one : ℕ → List Token → Bits → Outcome) (w k : ℕ)
    (first : (n p : ℕ) → Beside (suc n) p → KeepsBit k (one p))
    (after : (n p : ℕ) → Beside (suc n) p → Beside n (p + w)) where
  elements_steady : (n p : ℕ) → Beside n p → KeepsBit k (elements n one w p)
  unfolding elements
  elements_steady zero p h [] z = tt
  elements_steady zero p h (t ∷ ts) z = keeps_cond k z (eqb (kind_of t) 11) (ok ts z) (bad 20 (t ∷ ts)) refl tt
  elements_steady (suc n) p h [] z = tt
  elements_steady (suc n) p h (t ∷ ts) z =
      keeps_cond k z (eqb (kind_of t) 11) (ok ts z) (and_then (one p (t ∷ ts) z) (elements n one w (p + w))) refl
      (keeps_then k z (one p (t ∷ ts) z) (elements n one w (p + w)) (first n p h (t ∷ ts) z)
      (λ us y. elements_steady n (p + w) (after n p h) us y))

members_steady : (most : ℕ) (one : Token → List Token → Bits → Outcome) (k : ℕ) → ((t : Token) → KeepsBit k (one t))
    → KeepsBit k (members_in most one)
unfolding members_in
members_steady zero one k steady ts z = tt
members_steady (suc most) one k steady [] z = tt
members_steady (suc most) one k steady (t ∷ ts) z =
    keeps_cond k z (eqb (kind_of t) 9) (ok ts z)
    (cond (eqb (kind_of t) 7) (and_then (one t ts z) (members_in most one)) (bad 18 (t ∷ ts))) refl
    (keeps_cond k z (eqb (kind_of t) 7) (and_then (one t ts z) (members_in most one)) (bad 18 (t ∷ ts))
    (keeps_then k z (one t ts z) (members_in most one) (steady t ts z)
    (λ us y. members_steady most one k steady us y)) tt)

-- ---- bit strings

-- n numbers of w bits
run_steady : (takes : Token → Effect) (w n p k : ℕ) → inside p (w * n) k ≡ false
    → KeepsBit k (elements n (write_one takes w) w p)
run_steady takes w n p k h =
    elements_steady (λ m q. inside q (w * m) k ≡ false) (write_one takes w) w k
    (λ m q e. one_steady takes w q k (first_part q w (w * m) k (rw (next m) at e)))
    (λ m q e. second_part q w (w * m) k (rw (next m) at e)) n p h
  where
    next : (m : ℕ) → w * suc m ≡ w + w * m
    next m = omega (arith, mul-suc w m)

bools_steady : (n p k : ℕ) → inside p n k ≡ false → KeepsBit k (bools_in n p)
bools_steady n p k h ts z =
    let e : n ≡ 1 * n = omega arith in
    run_steady (taken flag) 1 n p k (ap (λ (m : ℕ). inside p m k) (sym e) ∙ h) ts z

bits_steady : (w n p k : ℕ) → inside p (all_bits w n) k ≡ false → KeepsBit k (write_bits w n p)
unfolding write_bits all_bits
bits_steady w zero p k h ts z =
    keeps_cond k z (first_is 10 ts) (bools_in w p (rest ts) (stamp p w no_bits z))
    (write_one (or_null (bits_whole w)) w p ts z)
    (keeps_from k z (stamp p w no_bits z) (bools_in w p (rest ts) (stamp p w no_bits z))
    (stamp_beside p w no_bits z k h) (bools_steady w p k h (rest ts) (stamp p w no_bits z)))
    (one_steady (or_null (bits_whole w)) w p k h ts z)
bits_steady w (suc n) p k h ts z =
    opened_steady 10
    (λ us y. cond (first_is 1 us) (bools_in (w * suc n) p us y) (wholes_in w (suc n) p us y)) k
    (λ us y. keeps_cond k y (first_is 1 us) (bools_in (w * suc n) p us y) (wholes_in w (suc n) p us y)
    (bools_steady (w * suc n) p k h us y) (run_steady (or_null (bits_whole w)) w (suc n) p k h us y)) ts z

-- ---- a tree

array_steady : (n : ℕ) (one : ℕ → List Token → Bits → Outcome) (f : ℕ → List Item) (w p k : ℕ)
    → ((q : ℕ) → held (f q) k ≡ false → KeepsBit k (one q)) → held (each n f w p) k ≡ false
    → KeepsBit k (elements n one w p)
unfolding each
array_steady n one f w p k steady h =
    elements_steady (λ m q. held (each m f w q) k ≡ false) one w k
    (λ m q e. steady q (held_first (f q) (each m f w (q + w)) k e))
    (λ m q e. held_second (f q) (each m f w (q + w)) k e) n p h

mutual
  unfolding write items held

  write_steady : (t : Tree) (p k : ℕ) → held (items t p) k ≡ false → KeepsBit k (write t p)
  write_steady (leaf l) p k h ts z = one_steady (or_null (taken l)) (width l) p k (held_leaf p l [] k h) ts z
  write_steady (bits w n) p k h ts z =
      bits_steady w n p k
      (flags_held (all_bits w n) p k (held_between 10 11 (each (all_bits w n) one_flag 1 p) k h)) ts z
  write_steady (array n t) p k h ts z =
      opened_steady 10 (λ us y. elements n (λ q vs x. write t q vs x) (span t) p us y) k
      (λ us y. array_steady n (λ q vs x. write t q vs x) (items t) (span t) p k
      (λ q e vs x. write_steady t q k e vs x) (held_between 10 11 (each n (items t) (span t) p) k h) us y) ts z
  write_steady (struct size bs) p k h ts z =
      opened_steady 8 (λ us y. members_in (suc (length us)) (λ t vs x. write_branch bs p t vs x) us y) k
      (λ us y. members_steady (suc (length us)) (λ t vs x. write_branch bs p t vs x) k
      (λ t vs x. branch_steady bs p k (held_between 8 9 (branch_items bs p) k h) t vs x) us y) ts z

  branch_steady : (bs : Branches) (p k : ℕ) → held (branch_items bs p) k ≡ false → (t : Token)
      → KeepsBit k (write_branch bs p t)
  branch_steady none p k h t ts z = tt
  branch_steady (branch j o tree bs) p k h t ts z =
      keeps_cond k z (eqb (payload_of 0 t) j) (write tree (p + o) ts z) (write_branch bs p t ts z)
      (write_steady tree (p + o) k (held_first (items tree (p + o)) (branch_items bs p) k h) ts z)
      (branch_steady bs p k (held_second (items tree (p + o)) (branch_items bs p) k h) t ts z)

-- every bit that is not held stands as it stood
pub only_held : (t : Tree) (p : ℕ) (ts rest : List Token) (z new : Bits) → write t p ts z ≡ ok rest new
    → (k : ℕ) → held (items t p) k ≡ false → new k ≡ z k
only_held t p ts rest z new e k h = go (write t p ts z) e (write_steady t p k h ts z)
  where
    go : (o : Outcome) → o ≡ ok rest new → Keeps k z o → new k ≡ z k
    go o q w = rw q at w
