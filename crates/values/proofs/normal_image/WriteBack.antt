-- What was read of a tree is written back (document 01, "Writing", "Normal image"): over any image all its entries are
-- taken, and the image gets the leaves' normal bits.
use Prim.Native.Nat.{ℕ, zero, suc, ◌+◌, ◌*◌, ◌<◌, ◌≤◌}
use native.Mathlib.Omega.{arith}
use mathlib.Core.Path.{◌≡◌, refl, ap, ◌∙◌}
use mathlib.Core.Bool.{cond}
use mathlib.Core.List.{List, [], ◌∷◌, ◌++◌, append_assoc}
use lib.ListN.{length, length-append}
use borrow.Author.Tests.{eq-eqb, ne_eqb}
use Rattle.words.specs.Bits.{Bits, from, stamp}
use Rattle.words.proofs.StampLaws.{stamp_ext}
use Rattle.values.specs.inside.normal_image.Placed.{BranchesPlaced, GoodLeaf, Ascending, TreePlaced}
use Rattle.values.specs.normal_image.Normal.{norm}
use Rattle.values.specs.reading.Leaf.{Leaf, flag, width, emit}
use Rattle.values.specs.reading.Tree.{Tree, leaf, bits, array, struct, Branches, none, branch, all_bits, span}
use Rattle.values.specs.reading.Tree.{Item, say, at, each, between, one_flag, items, branch_items, read}
use Rattle.values.specs.stream.Stream.{Token, member, mark, kind_of}
use Rattle.values.specs.writing.Effects.{Effect, put, or_null, taken}
use Rattle.values.specs.writing.Writing.{Outcome, ok, write_one, opened, elements, members_in, bools_in, wholes_in}
use Rattle.values.specs.writing.Writing.{first_is, no_bits, write_bits, write, write_branch}
use Rattle.values.proofs.normal_image.OverLaws.{over, over_append, flags_hide}
use Rattle.values.proofs.normal_image.PutBack.{PutBack, emit_value, put_back}
use Rattle.values.proofs.reading.TreeLaws.{read_append}
use Rattle.values.proofs.writing.FitLaws.{not_null}
use Rattle.values.proofs.writing.OutcomeLaws.{elements_next}

-- the entries of some items are taken, and more are left
abbrev pub WrittenOver : (List Token → Bits → Outcome) → List Item → Bits → Type 0
WrittenOver f is x = (z : Bits) (more : List Token) → f (read is x ++ more) z ≡ ok more (over is x z)

-- the same with the close after them
abbrev Closed : ℕ → (List Token → Bits → Outcome) → List Item → Bits → Type 0
Closed stop f is x = (z : Bits) (more : List Token) → f (read is x ++ mark stop ∷ more) z ≡ ok more (over is x z)

opened_back : (start stop : ℕ) (inner : List Token → Bits → Outcome) (is : List Item) (x : Bits) → 1 ≤ start
    → Closed stop inner is x → WrittenOver (opened start inner) (between start stop is) x
unfolding opened read over
opened_back start stop inner is x s h z more =
    rw (
      ne_eqb start 0 (λ e. omega arith),
      eq-eqb start start refl,
      read_append is (say (mark stop) ∷ []) x,
      over_append is (say (mark stop) ∷ []) x z,
      append_assoc (read is x) (mark stop ∷ []) more,
    )
    (h z more)

-- ---- a leaf

one_back : (takes : Token → Effect) (l : Leaf) (p : ℕ) (x : Bits) (r : PutBack l (from p x))
    → takes (emit l (from p x)) ≡ put r.bits → WrittenOver (write_one takes (width l) p) (at p l ∷ []) x
unfolding write_one read over
one_back takes l p x r e z more =
    rw e (ap (ok more) (stamp_ext p (width l) r.bits (norm l (from p x)) z r.normal))

leaf_back : (l : Leaf) → GoodLeaf l → (p : ℕ) (x : Bits)
    → WrittenOver (write_one (or_null (taken l)) (width l) p) (at p l ∷ []) x
leaf_back l g p x =
    let r = put_back l g (from p x) in
    let some = (emit_value l g (from p x)).0 in
    one_back (or_null (taken l)) l p x r
    (not_null (taken l) (emit l (from p x)) (λ e. omega arith) ∙ r.takes)

flag_back : (p : ℕ) (x : Bits) → WrittenOver (write_one (taken flag) 1 p) (one_flag p) x
flag_back p x = let r = put_back flag tt (from p x) in one_back (taken flag) flag p x r r.takes

-- ---- elements

-- the first entry is no close
record Starts (ts : List Token) : Type 0 where
  first : Token
  others : List Token
  are : ts ≡ first ∷ others
  unclosed : kind_of first ≡ 11 → ⊥

marked : (k : ℕ) {ts : List Token} → (k ≡ 11 → ⊥) → Starts (mark k ∷ ts)
marked k {ts} h = record { first = mark k; others = ts; are = refl; unclosed = h }

tree_starts : (t : Tree) (p : ℕ) (x : Bits) → TreePlaced t → Starts (read (items t p) x)
unfolding items read TreePlaced
tree_starts (leaf l) p x g =
    let most = (emit_value l g (from p x)).1 in
    record { first = emit l (from p x); others = []; are = refl; unclosed = λ e. omega arith }
tree_starts (bits w n) p x a = marked 10 (λ e. omega arith)
tree_starts (array n t) p x a = marked 10 (λ e. omega arith)
tree_starts (struct size bs) p x a = marked 8 (λ e. omega arith)

flag_starts : (p : ℕ) (x : Bits) → Starts (read (one_flag p) x)
unfolding read
flag_starts p x = record { first = emit flag (from p x); others = []; are = refl; unclosed = λ e. omega arith }

each_back : (n : ℕ) (one : ℕ → List Token → Bits → Outcome) (f : ℕ → List Item) (w p : ℕ) (x : Bits)
    → ((q : ℕ) → WrittenOver (one q) (f q) x) → ((q : ℕ) → Starts (read (f q) x))
    → Closed 11 (elements n one w p) (each n f w p) x
unfolding each read over
each_back zero one f w p x h s z more = unfold elements in refl
each_back (suc n) one f w p x h s z more =
    let later : List Token = read (each n f w (p + w)) x ++ mark 11 ∷ more in
    rw (
      read_append (f p) (each n f w (p + w)) x,
      over_append (f p) (each n f w (p + w)) x z,
      append_assoc (read (f p) x) (read (each n f w (p + w)) x) (mark 11 ∷ more),
    )
    (elements_next one w n p (s p).first ((s p).others ++ later) z (ap (◌++ later) (s p).are) (s p).unclosed
    ∙ rw (h p z later) (each_back n one f w (p + w) x h s (over (f p) x z) more))

-- ---- bit strings

flags_back : (n p : ℕ) (x : Bits) → Closed 11 (bools_in n p) (each n one_flag 1 p) x
flags_back n p x =
    each_back n (write_one (taken flag) 1) one_flag 1 p x (λ q. flag_back q x) (λ q. flag_starts q x)

-- an array of them begins with a bool, or is empty
bools_back : (w n m p : ℕ) (x : Bits)
    → Closed 11 (λ us y. cond (first_is 1 us) (bools_in m p us y) (wholes_in w (suc n) p us y)) (each m one_flag 1 p) x
bools_back w n zero p x z more = unfold each read over elements in refl
bools_back w n (suc m) p x z more = unfold each read in flags_back (suc m) p x z more

bits_back : (w n p : ℕ) (x : Bits) → WrittenOver (write_bits w n p) (items (bits w n) p) x
unfolding write_bits items all_bits read over
bits_back w zero p x z more =
    rw (
      read_append (each w one_flag 1 p) (say (mark 11) ∷ []) x,
      over_append (each w one_flag 1 p) (say (mark 11) ∷ []) x z,
      append_assoc (read (each w one_flag 1 p) x) (mark 11 ∷ []) more,
    )
    (flags_back w p x (stamp p w no_bits z) more ∙ ap (ok more) (flags_hide w p x no_bits z))
bits_back w (suc n) p x z more =
    opened_back 10 11 (λ us y. cond (first_is 1 us) (bools_in (w * suc n) p us y) (wholes_in w (suc n) p us y))
    (each (w * suc n) one_flag 1 p) x (omega arith) (bools_back w n (w * suc n) p x) z more

-- ---- members

-- one writes each of the branches by its number
abbrev Finds : ℕ → (Token → List Token → Bits → Outcome) → Branches → Type 0
Finds p one none = Unit {0}
Finds p one (branch j o t bs) =
    ((ts : List Token) (z : Bits) → one (member j) ts z ≡ write t (p + o) ts z) × Finds p one bs

finds_later : (bs cs : Branches) (p j o low : ℕ) (t : Tree) → j < low → Ascending low bs
    → Finds p (write_branch cs p) bs → Finds p (write_branch (branch j o t cs) p) bs
unfolding write
finds_later none cs p j o low t l n f = tt
finds_later (branch i q u bs) cs p j o low t l n f = (
  (λ ts z. rw (ne_eqb i j (λ e. omega (arith, n.0))) (f.0 ts z)),
  finds_later bs cs p j o (suc i) t (omega (arith, n.0)) n.1 f.1,
)

finds_all : (bs : Branches) (p low : ℕ) → Ascending low bs → Finds p (write_branch bs p) bs
unfolding write
finds_all none p low n = tt
finds_all (branch j o t bs) p low n = (
  (λ ts z. rw (eq-eqb j j refl) refl),
  finds_later bs bs p j o (suc j) t (omega arith) n.1 (finds_all bs p (suc j) n.1),
)

count : Branches → ℕ
count none = 0
count (branch j o t bs) = suc (count bs)

count_most : (bs : Branches) (p : ℕ) (x : Bits) → count bs ≤ length (read (branch_items bs p) x)
unfolding count branch_items read
count_most none p x = omega arith
count_most (branch j o t bs) p x =
    rw (read_append (items t (p + o)) (branch_items bs p) x) (omega (
      arith,
      length-append (read (items t (p + o)) x) (read (branch_items bs p) x),
      count_most bs p x,
    ))

members_end : (one : Token → List Token → Bits → Outcome) (x : Bits) (most : ℕ) → 0 < most
    → Closed 9 (members_in most one) [] x
unfolding members_in read over
members_end one x zero l z more = absurd (let y : ⊥ = omega arith in y)
members_end one x (suc most) l z more = refl

members_step : (j : ℕ) (a b : List Item) (x : Bits) (one : Token → List Token → Bits → Outcome) (n : ℕ)
    → WrittenOver (one (member j)) a x → ((most : ℕ) → n < most → Closed 9 (members_in most one) b x)
    → (most : ℕ) → suc n < most → Closed 9 (members_in most one) (say (member j) ∷ (a ++ b)) x
unfolding members_in read over
members_step j a b x one n h rest zero l z more = absurd (let y : ⊥ = omega arith in y)
members_step j a b x one n h rest (suc most) l z more =
    rw (
      read_append a b x,
      over_append a b x z,
      append_assoc (read a x) (read b x) (mark 9 ∷ more),
      h z (read b x ++ mark 9 ∷ more),
    )
    (rest most (omega arith) (over a x z) more)

-- ---- trees

mutual
  unfolding items write TreePlaced count

  -- what was read of a tree is all taken, and the image gets the leaves' normal bits
  pub tree_back : (t : Tree) (p : ℕ) (x : Bits) → TreePlaced t → WrittenOver (write t p) (items t p) x
  tree_back (leaf l) p x a = leaf_back l a p x
  tree_back (bits w n) p x a = bits_back w n p x
  tree_back (array n t) p x a =
      opened_back 10 11 (elements n (write t) (span t) p) (each n (items t) (span t) p) x (omega arith)
      (each_back n (write t) (items t) (span t) p x (λ q. tree_back t q x a) (λ q. tree_starts t q x a))
  tree_back (struct size bs) p x a =
      opened_back 8 9 (λ us y. members_in (suc (length us)) (write_branch bs p) us y) (branch_items bs p) x
      (omega arith)
      (λ z more. branches_back bs size p x a.0 (write_branch bs p) (finds_all bs p 0 a.1)
      (suc (length (read (branch_items bs p) x ++ mark 9 ∷ more)))
      (omega (arith, count_most bs p x, length-append (read (branch_items bs p) x) (mark 9 ∷ more))) z more)

  branches_back : (bs : Branches) (size p : ℕ) (x : Bits) → BranchesPlaced size bs
      → (one : Token → List Token → Bits → Outcome) → Finds p one bs
      → (most : ℕ) → count bs < most → Closed 9 (members_in most one) (branch_items bs p) x
  branches_back none size p x a one f most l = members_end one x most l
  branches_back (branch j o t bs) size p x a one f most l =
      members_step j (items t (p + o)) (branch_items bs p) x one (count bs)
      (λ z more. f.0 (read (items t (p + o)) x ++ more) z ∙ tree_back t (p + o) x a.0 z more)
      (λ m g. branches_back bs size p x a.1.1.1 one f.1 m g) most l
