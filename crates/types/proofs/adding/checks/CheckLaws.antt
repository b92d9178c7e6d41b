-- Laws of the checks of members (document 01, "Refusal numbers": per member 2, 8, 9): names that are the same have the
-- same mark, so a name whose mark was not seen is new; and the members one after the other.
use Rattle.std.specs.Prelude.{Result, Ok, Err}
use Prim.Native.Nat.{ℕ, zero, suc, ◌+◌, ◌-◌, ◌*◌, ◌%◌, ◌≤◌, ◌<◌}
use native.Mathlib.Nat.{mod-lt, sub-zero}
use native.Mathlib.Numerals.{add-one}
use native.Mathlib.Omega.{arith}
use mathlib.Core.Path.{◌≡◌, refl, sym, ap, ◌∙◌}
use mathlib.Core.Bool.{Bool, true, false, cond, not, ◌&&◌, ◌||◌}
use mathlib.Core.List.{List, [], ◌∷◌, map}
use borrow.Author.Count.{below_more}
use borrow.Author.Tests.{eq-eqb, ne_eqb}
use lib.Dec.{eqb}
use lib.ListN.{length, get_or, set, drop, length-set, drop_of_length-le}
use lib.Seq.{drop-cons}
use Rattle.words.proofs.Lists.{mark_set, mark_kept}
use Rattle.types.specs.adding.Checks.{entry_of, entries_from, among, checked}
use Rattle.types.specs.book.Names.{lower_of, same_name, good_name}
use Rattle.types.specs.inside.adding.Checks.{member_name, EntriesInside, names_before, mark_from, mark_of, Marked}
use Rattle.types.specs.inside.adding.Checks.{Marks, Looked, CheckedOne}
use Rattle.types.specs.tables.Defs.{name_in}
use Rattle.types.specs.declared.adding.checks.MemberFault.{MemberFault}
use Rattle.types.specs.declared.adding.checks.MemberFault.TheVariants.{NameWrong, Twice, LocalOutside}
use Rattle.types.specs.declared.book.contents.MemberEntry.{MemberEntry}
use Rattle.types.proofs.book.BookLaws.{from_cons, from_none}
use Rattle.types.proofs.book.NameLaws.{same_lower}

-- ---- marks

lower_mark : (h : ℕ) (xs ys : List ℕ) → map lower_of xs ≡ map lower_of ys → mark_from h xs ≡ mark_from h ys
unfolding mark_from
lower_mark h [] [] e = refl
lower_mark h [] (y ∷ ys) e = cc
lower_mark h (x ∷ xs) [] e = cc
lower_mark h (x ∷ xs) (y ∷ ys) e =
    let e' : lower_of x ∷ map lower_of xs ≡ lower_of y ∷ map lower_of ys = e in
    let p : lower_of x ≡ lower_of y = cc in
    let q : map lower_of xs ≡ map lower_of ys = cc in
    rw p (lower_mark ((h * 327 + lower_of y) % 16384) xs ys q)

-- names that are the same have the same mark
pub same_mark : (xs ys : List ℕ) → same_name xs ys ≡ true → mark_of xs ≡ mark_of ys
same_mark xs ys e = lower_mark 0 xs ys (same_lower xs ys e)

-- what taking a name's mark keeps: the mark of the whole is that of what is left from the value so far
pub record Marking (s : List ℕ) (h i : ℕ) : Type 0 where
  pub inside : i ≤ length s
  pub small : h < 16384
  pub rest : mark_of s ≡ mark_from h (drop i s)

-- at the start of a name its mark so far is 0, and all its bytes are left
pub marking_start : (s : List ℕ) → Marking s 0 0
marking_start s = record { inside = omega arith; small = omega arith; rest = refl }

module _ {s : List ℕ} {h i : ℕ} (m : Marking s h i) where
  -- the next byte of a name, as its small letter, goes into the mark so far
  pub marking_on : i < length s → {x : ℕ} → x ≡ lower_of (get_or s i 0) → Marking s ((h * 327 + x) % 16384) (i + 1)
  unfolding mark_from
  marking_on l e =
      record {
        inside = omega arith;
        small = mod-lt _ (omega arith);
        rest = m.rest ∙ rw (add-one, drop-cons s i 0 l, e);
      }

  -- where no byte is left, the mark so far is the name's
  pub marking_done : length s ≤ i → {r : ℕ} → r ≡ h → Marked s r
  unfolding mark_from
  marking_done l e =
      record { is = e ∙ sym (m.rest ∙ rw (drop_of_length-le s l)); small = omega (arith, m.small, e) }

-- ---- a name among those before

-- a name whose mark was not seen is not one whose mark was
unseen_one : (seen s x : List ℕ) (xs : List (List ℕ)) → get_or seen (mark_of s) 0 ≡ 0
    → (get_or seen (mark_of x) 0 ≡ 0 → ⊥) → among s xs ≡ false
    → (b : Bool) → same_name x s ≡ b → (b || among s xs) ≡ false
unseen_one seen s x xs z n r true q = absurd (n (rw (same_mark x s q) z))
unseen_one seen s x xs z n r false q = r

module _ (names : ℕ → List ℕ) where
  before_cons : (k m : ℕ) → k ≡ suc m → names_before names k ≡ names m ∷ names_before names m
  unfolding names_before
  before_cons k m e = rw e

  module _ (s : List ℕ) (k : ℕ) (l : 0 < k) (b : Bool) (e : b ≡ same_name (names (k - 1)) s) where
    -- a name that is the same as the last of those before stands among them
    pub among_here : b ≡ true → true ≡ among s (names_before names k)
    unfolding among
    among_here q =
        let g : same_name (names (k - 1)) s ≡ true = sym e ∙ q in
        rw (before_cons k (k - 1) (omega arith)) (rw g)

    -- a name that differs from the last of those before stands among them just where it does among the others
    pub among_on : b ≡ false → among s (names_before names k) ≡ among s (names_before names (k - 1))
    unfolding among
    among_on q =
        let g : same_name (names (k - 1)) s ≡ false = sym e ∙ q in
        rw (before_cons k (k - 1) (omega arith)) (rw g)

  -- where no names came before, no name stands among them
  pub among_none : (s : List ℕ) (k : ℕ) → k ≤ 0 → false ≡ among s (names_before names k)
  unfolding among names_before
  among_none s zero l = refl
  among_none s (suc k) l = absurd (let z : ⊥ = omega arith in z)

  -- a name whose mark was not seen is none of those before
  unseen : (seen s : List ℕ) (j : ℕ) → ((k : ℕ) → k < j → get_or seen (mark_of (names k)) 0 ≡ 0 → ⊥)
      → get_or seen (mark_of s) 0 ≡ 0 → among s (names_before names j) ≡ false
  unfolding among names_before
  unseen seen s zero all z = refl
  unseen seen s (suc j) all z =
      unseen_one seen s (names j) (names_before names j) z (all j (omega arith))
      (unseen seen s j (λ k l. all k (omega arith)) z) (same_name (names j) s) refl

-- ---- a name is looked up and marked

-- the marks of one name more are set
marks_more : {seen : List ℕ} {names : ℕ → List ℕ} {j : ℕ} → Marks seen names j
    → (get_or seen (mark_of (names j)) 0 ≡ 0 → ⊥) → Marks seen names (j + 1)
marks_more {seen} {names} {j} m n =
    record {
      long = m.long;
      marked = below_more (λ (k : ℕ). get_or seen (mark_of (names k)) 0 ≡ 0 → ⊥) j m.marked n;
    }

marks_set : {seen : List ℕ} {names : ℕ → List ℕ} {j : ℕ} (m : ℕ) → m < 16384 → Marks seen names j
    → Marks (set seen m 1) names j
marks_set {seen} {names} m l k =
    record {
      long = length-set seen m 1 ∙ k.long;
      marked = λ i h. mark_kept seen m (mark_of (names i)) (rw k.long l) (k.marked i h) _ refl;
    }

module _ (book : List ℕ) (at j : ℕ) {seen s : List ℕ} {m : ℕ} (e : s ≡ member_name book at j)
    (k : Marks seen (member_name book at) j) (p : Marked s m) where
  mark_here : m ≡ mark_of (member_name book at j)
  mark_here = p.is ∙ ap mark_of e

  -- a member's name whose mark was not set is new, and its mark is set then
  pub looked_new : get_or seen m 0 ≡ 0 → Looked book at j (set seen m 1) false
  looked_new z =
      record {
        is = sym (unseen (member_name book at) seen (member_name book at j) j k.marked (rw mark_here at z));
        marks = marks_more (marks_set m p.small k)
            (rw (← mark_here) (mark_set seen m (rw k.long p.small)));
      }

  -- a member's name whose mark was set is looked up among those before, and the marks stay
  pub looked_on : (get_or seen m 0 ≡ 0 → ⊥) → {r : Bool} → r ≡ among s (names_before (member_name book at) j)
      → Looked book at j seen r
  looked_on n q =
      record { is = q ∙ rw e; marks = marks_more k (rw (← mark_here) n) }

-- ---- one member

module _ (book : List ℕ) (aoi : Bool) (at j : ℕ) where
  one_is : {g a l : Bool} → good_name (member_name book at j) ≡ g
      → among (member_name book at j) (names_before (member_name book at) j) ≡ a
      → (eqb (entry_of book at j).local 1 && not aoi) ≡ l
      → cond g (cond a (Err Twice) (cond l (Err LocalOutside) (Ok tt))) (Err NameWrong)
      ≡ checked book aoi (names_before (member_name book at) j) (entry_of book at j ∷ [])
  unfolding checked
  one_is p q r = rw (p, q, r)

  module _ {good : Bool} (e : good ≡ good_name (member_name book at j)) where
    -- a member whose name is outside the rule is answered as wrongly named
    pub one_misnamed : good ≡ false → (seen : List ℕ) → CheckedOne book aoi at j seen (Err NameWrong)
    one_misnamed q seen = record { is = one_is (sym e ∙ q) refl refl; marks = λ h. cc }

    module _ (q : good ≡ true) {seen : List ℕ} {known : Bool} (w : Looked book at j seen known) where
      -- a member with a good name that stands among those before is answered as there twice
      pub one_twice : known ≡ true → CheckedOne book aoi at j seen (Err Twice)
      one_twice r =
          record { is = one_is (sym e ∙ q) (sym w.is ∙ r) refl; marks = λ h. cc }

      module _ (r : known ≡ false) {local : ℕ} (p : local ≡ (entry_of book at j).local) where
        -- a member with a good, new name that is no local is good
        pub one_shown : (local ≡ 1 → ⊥) → CheckedOne book aoi at j seen (Ok tt)
        one_shown n =
            let i : eqb (entry_of book at j).local 1 ≡ false = rw (← p) (ne_eqb local 1 n) in
            record { is = one_is {l = false} (sym e ∙ q) (sym w.is ∙ r) (rw i); marks = λ h. w.marks }

        module _ (l : local ≡ 1) where
          is_local : eqb (entry_of book at j).local 1 ≡ true
          is_local = rw (← p) (eq-eqb local 1 l)

          -- a local with a good, new name is good in an AOI
          pub one_inside : aoi ≡ true → CheckedOne book aoi at j seen (Ok tt)
          one_inside a =
              record {
                is = one_is {l = false} (sym e ∙ q) (sym w.is ∙ r) (rw (is_local, a));
                marks = λ h. w.marks;
              }

          -- a local with a good, new name outside an AOI is answered as that
          pub one_outside : aoi ≡ false → CheckedOne book aoi at j seen (Err LocalOutside)
          one_outside a =
              record {
                is = one_is {l = true} (sym e ∙ q) (sym w.is ∙ r) (rw (is_local, a));
                marks = λ h. cc;
              }

-- ---- the members one after the other

-- where n entries and their names lie in the book, so do the first m of them
pub inside_less : {book : List ℕ} {at n : ℕ} (m : ℕ) → EntriesInside book at n → m ≤ n → EntriesInside book at m
inside_less m w l = record { inside = omega (arith, w.inside); names = λ k h. w.names k (omega arith) }

-- what a member gives, and what those after it give where it is good
abbrev pub onward : Result (Unit {0}) MemberFault → Result (Unit {0}) MemberFault → Result (Unit {0}) MemberFault
onward (Ok tt) r = r
onward (Err f) r = Err f

onward_pick : (g a l : Bool) (r : Result (Unit {0}) MemberFault)
    → cond g (cond a (Err Twice) (cond l (Err LocalOutside) r)) (Err NameWrong)
    ≡ onward (cond g (cond a (Err Twice) (cond l (Err LocalOutside) (Ok tt))) (Err NameWrong)) r
onward_pick true true l r = refl
onward_pick true false true r = refl
onward_pick true false false r = refl
onward_pick false a l r = refl

checked_cons : (book : List ℕ) (aoi : Bool) (before : List (List ℕ)) (e : MemberEntry) (es : List MemberEntry)
    → checked book aoi before (e ∷ es)
    ≡ onward (checked book aoi before (e ∷ [])) (checked book aoi (name_in book e.name ∷ before) es)
unfolding checked
checked_cons book aoi before e es =
    onward_pick (good_name (name_in book e.name)) (among (name_in book e.name) before) (eqb e.local 1 && not aoi)
    (checked book aoi (name_in book e.name ∷ before) es)

-- what checking keeps: the answer for all members is that for those from the j-th on, after the names before
pub record Checking (book : List ℕ) (aoi : Bool) (at n : ℕ) (seen : List ℕ) (j : ℕ) : Type 0 where
  pub inside : j ≤ n
  pub marks : Marks seen (member_name book at) j
  pub rest : checked book aoi [] (entries_from book at 0 n)
      ≡ checked book aoi (names_before (member_name book at) j) (entries_from book at j (n - j))

-- before the first member all are still to be checked, whatever marks are set
pub checking_start : (book : List ℕ) (aoi : Bool) (at n : ℕ) {seen : List ℕ} → length seen ≡ 16384
    → Checking book aoi at n seen 0
unfolding names_before
checking_start book aoi at n l =
    record {
      inside = omega arith;
      marks = record { long = l; marked = λ k h. absurd (let f : ⊥ = omega arith in f) };
      rest = rw sub-zero;
    }

module _ {book : List ℕ} {aoi : Bool} {at n : ℕ} {seen : List ℕ} {j : ℕ} (w : Checking book aoi at n seen j) where
  module _ (l : j < n) {left : List ℕ} {r : Result (Unit {0}) MemberFault}
      (o : CheckedOne book aoi at j left r) where
    one_then : checked book aoi [] (entries_from book at 0 n)
        ≡ onward r (checked book aoi (names_before (member_name book at) (j + 1))
        (entries_from book at (j + 1) (n - (j + 1))))
    one_then =
        let b = before_cons (member_name book at) (j + 1) j (omega arith) in
        w.rest ∙ rw (from_cons (entry_of book at) n j l, b, o.is) (checked_cons book aoi _ _ _)

    -- after a good member, the answer for all is that for the members after it
    pub checking_on : r ≡ Ok tt → Checking book aoi at n left (j + 1)
    checking_on q = record { inside = omega arith; marks = o.marks q; rest = one_then ∙ rw q }

    -- the answer for a member that is not good is the answer for all
    pub checking_off : {f : MemberFault} → r ≡ Err f → Err f ≡ checked book aoi [] (entries_from book at 0 n)
    checking_off q = sym (one_then ∙ rw q)

  -- where no member is left, all are good
  pub checking_done : n ≤ j → Ok tt ≡ checked book aoi [] (entries_from book at 0 n)
  unfolding checked
  checking_done l = sym (w.rest ∙ rw (from_none (entry_of book at) n j l))
