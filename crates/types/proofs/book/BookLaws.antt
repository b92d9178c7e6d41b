-- Laws of the declaration book: entries one after the other, and the ways out of its checks.
use Prim.Native.Nat.{ℕ, suc, ◌+◌, ◌-◌, ◌*◌, ◌/◌, ◌%◌, ◌<◌, ◌≤◌}
use native.Mathlib.Nat.{add-zero, zero-add, sub-zero}
use native.Mathlib.Omega.{arith}
use mathlib.Core.Path.{◌≡◌, sym, ◌∙◌}
use mathlib.Core.Bool.{Bool, true, false, ◌||◌}
use mathlib.Core.List.{List, [], ◌∷◌}
use borrow.Author.Tests.{eq-eqb, ne_eqb, le-leb, lt-leb}
use lib.Dec.{eqb, leb}
use lib.ListN.{length}
use Rattle.types.specs.book.Contents.{type_entry, in_bodies, type_ok, member_ok, list_from, every, sum_counts}
use Rattle.types.specs.book.Contents.{members_in, bodies_at, type_entries, member_entries, book_ok}
use Rattle.types.specs.inside.book.Contents.{CountsSum}
use Rattle.types.specs.declared.book.contents.MemberEntry.{MemberEntry}
use Rattle.types.specs.declared.book.contents.TypeEntry.{TypeEntry}
use Rattle.types.specs.declared.tables.member.Span.{Span}

-- ---- entries one after the other

module _ {A : Type 0} (f : ℕ → A) (n i : ℕ) where
  -- the values that are left are the i-th and those after it
  pub from_cons : i < n → list_from f i (n - i) ≡ f i ∷ list_from f (i + 1) (n - (i + 1))
  unfolding list_from
  from_cons l =
      let e : n - i ≡ suc (n - (i + 1)) = omega arith in
      rw e

  -- past the last value none is left
  pub from_none : n ≤ i → list_from f i (n - i) ≡ []
  unfolding list_from
  from_none l =
      let e : n - i ≡ 0 = omega arith in
      rw e

  module _ (p : A → Bool) (b : Bool) (l : i < n) (e : b ≡ p (f i)) where
    -- where the i-th passes a test, all that are left pass it where all after it do
    pub every_on : b ≡ true → every p (list_from f i (n - i)) ≡ every p (list_from f (i + 1) (n - (i + 1)))
    unfolding every
    every_on q =
        let g : p (f i) ≡ true = sym e ∙ q in
        rw (from_cons l) (rw g)

    -- where the i-th fails a test, not all that are left pass it
    pub every_off : b ≡ false → every p (list_from f i (n - i)) ≡ false
    unfolding every
    every_off q =
        let g : p (f i) ≡ false = sym e ∙ q in
        rw (from_cons l) (rw g)

  -- where none is left, all that are left pass a test
  pub every_done : (p : A → Bool) → n ≤ i → every p (list_from f i (n - i)) ≡ true
  unfolding every
  every_done p l = rw (from_none l)

-- ---- places

module _ (start end : ℕ) (s : Span) {at long : ℕ} (p : at ≡ s.at) (q : long ≡ s.long) where
  -- a place that begins before the bodies is not in them
  pub before_bodies : at < start → false ≡ in_bodies start end s
  unfolding in_bodies
  before_bodies l = rw (← p) (simp (lt-leb start at l))

  -- a place that begins at their start or after is in them where it ends at or before their end
  pub from_bodies : start ≤ at → leb (at + long) end ≡ in_bodies start end s
  unfolding in_bodies
  from_bodies l = rw (← p, ← q) (simp (le-leb start at l))

-- ---- an entry

module _ (start end : ℕ) (e : TypeEntry) where
  -- a type entry with flags above 7 is not good
  pub flags_over : 7 < e.flags → false ≡ type_ok start end e
  unfolding type_ok
  flags_over l = simp (lt-leb e.flags 7 l)

  module _ (f : e.flags ≤ 7) where
    -- a type entry whose last field is not 0 is not good
    pub not_zero : (e.zero ≡ 0 → ⊥) → false ≡ type_ok start end e
    unfolding type_ok
    not_zero n = simp (le-leb e.flags 7 f, ne_eqb e.zero 0 n)

    module _ (z : e.zero ≡ 0) (a : Bool) (p : a ≡ (leb 4 e.flags || eqb e.id 0)) where
      -- a type entry without the id flag but with an id is not good
      pub id_left : a ≡ false → false ≡ type_ok start end e
      unfolding type_ok
      id_left q =
          let g : (leb 4 e.flags || eqb e.id 0) ≡ false = sym p ∙ q in
          simp (le-leb e.flags 7 f, eq-eqb e.zero 0 z, g)

      module _ (q : a ≡ true) (b : Bool) (r : b ≡ (eqb (e.flags / 2 % 2) 1 || eqb e.string 0)) where
        -- a type entry without the string flag but with a string length is not good
        pub string_left : b ≡ false → false ≡ type_ok start end e
        unfolding type_ok
        string_left s =
            let g : (leb 4 e.flags || eqb e.id 0) ≡ true = sym p ∙ q in
            let h : (eqb (e.flags / 2 % 2) 1 || eqb e.string 0) ≡ false = sym r ∙ s in
            simp (le-leb e.flags 7 f, eq-eqb e.zero 0 z, g, h)

        -- a type entry that passes these tests is good where its name lies in the bodies
        pub type_named : b ≡ true → in_bodies start end e.name ≡ type_ok start end e
        unfolding type_ok
        type_named s =
            let g : (leb 4 e.flags || eqb e.id 0) ≡ true = sym p ∙ q in
            let h : (eqb (e.flags / 2 % 2) 1 || eqb e.string 0) ≡ true = sym r ∙ s in
            simp (le-leb e.flags 7 f, eq-eqb e.zero 0 z, g, h)

module _ (start end : ℕ) (e : MemberEntry) where
  -- a member entry with local above 1 is not good
  pub local_over : 1 < e.local → false ≡ member_ok start end e
  unfolding member_ok
  local_over l = simp (lt-leb e.local 1 l)

  module _ (l : e.local ≤ 1) (a : Bool) (p : a ≡ in_bodies start end e.name) where
    -- a member entry whose name does not lie in the bodies is not good
    pub name_outside : a ≡ false → false ≡ member_ok start end e
    unfolding member_ok
    name_outside q =
        let g : in_bodies start end e.name ≡ false = sym p ∙ q in
        simp (le-leb e.local 1 l, g)

    -- a member entry that passes these tests is good where its type name lies in the bodies
    pub name_inside : a ≡ true → in_bodies start end e.ty ≡ member_ok start end e
    unfolding member_ok
    name_inside q =
        let g : in_bodies start end e.name ≡ true = sym p ∙ q in
        simp (le-leb e.local 1 l, g)

-- ---- counts

-- what adding up the counts keeps
pub record Summing (book : List ℕ) (n sum i : ℕ) : Type 0 where
  pub done : i ≤ n
  pub small : sum ≤ 65535 * i
  pub same : sum_counts (list_from (type_entry book) 0 n) ≡ sum + sum_counts (list_from (type_entry book) i (n - i))

-- before the first entry the sum is 0
pub sum_start : (book : List ℕ) (n : ℕ) → Summing book n 0 0
sum_start book n = record { done = omega arith; small = omega arith; same = rw (sub-zero, zero-add) }

module _ {book : List ℕ} {n sum i : ℕ} (s : Summing book n sum i) where
  -- after the last entry the sum is that of all counts
  pub sum_done : n ≤ i → CountsSum n (list_from (type_entry book) 0 n) sum
  unfolding sum_counts
  sum_done l =
      record {
        is = sym (rw (from_none (type_entry book) n i l) at s.same ∙ add-zero sum);
        small = omega (arith, s.small, s.done);
      }

  -- with the i-th entry's count added, the sum has come one entry further
  pub sum_on : i < n → {k : ℕ} → k ≡ (type_entry book i).count → k < 65536 → Summing book n (sum + k) (i + 1)
  unfolding sum_counts
  sum_on l e h =
      record {
        done = omega arith;
        small = omega (arith, s.small);
        same = omega (arith, e, rw (from_cons (type_entry book) n i l) at s.same);
      }

-- ---- the whole

module _ (s : List ℕ) where
  -- a book of fewer than 4 bytes is not well formed
  pub book_short : length s < 4 → false ≡ book_ok s
  unfolding book_ok
  book_short l = simp (lt-leb 4 (length s) l)

  module _ (l : 4 ≤ length s) where
    -- a book that ends before its bodies begin is not well formed
    pub no_bodies : length s < bodies_at s → false ≡ book_ok s
    unfolding book_ok
    no_bodies k = simp (le-leb 4 (length s) l, lt-leb (bodies_at s) (length s) k)

    module _ (k : bodies_at s ≤ length s) (a : Bool) (p : a ≡ every (type_ok (bodies_at s) (length s)) (type_entries s))
      where
        -- a book with a type entry that is not good is not well formed
        pub types_wrong : a ≡ false → false ≡ book_ok s
        unfolding book_ok
        types_wrong q =
            let g : every (type_ok (bodies_at s) (length s)) (type_entries s) ≡ false = sym p ∙ q in
            simp (le-leb 4 (length s) l, le-leb (bodies_at s) (length s) k, g)

        module _ (q : a ≡ true) where
          -- a book whose counts do not sum to the number of its members is not well formed
          pub counts_wrong : (sum_counts (type_entries s) ≡ members_in s → ⊥) → false ≡ book_ok s
          unfolding book_ok
          counts_wrong n =
              let g : every (type_ok (bodies_at s) (length s)) (type_entries s) ≡ true = sym p ∙ q in
              simp (le-leb 4 (length s) l, le-leb (bodies_at s) (length s) k, g, ne_eqb _ _ n)

          -- a book that passes these tests is well formed where all its member entries are good
          pub members_decide : sum_counts (type_entries s) ≡ members_in s
              → every (member_ok (bodies_at s) (length s)) (member_entries s) ≡ book_ok s
          unfolding book_ok
          members_decide e =
              let g : every (type_ok (bodies_at s) (length s)) (type_entries s) ≡ true = sym p ∙ q in
              simp (le-leb 4 (length s) l, le-leb (bodies_at s) (length s) k, g, eq-eqb _ _ e)
