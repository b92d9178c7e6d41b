-- What a good book has (document 01, "Declaration book"): its entries and their names lie in it, and the members of
-- each type are among all, one type's after the other's.
use Prim.Native.Nat.{ℕ, zero, suc, ◌+◌, ◌-◌, ◌*◌, ◌/◌, ◌%◌, ◌<◌, ◌≤◌}
use native.Mathlib.Decide.{dec_lt}
use native.Mathlib.Nat.{add-zero, zero-add, suc-add}
use native.Mathlib.Omega.{arith}
use mathlib.Core.Path.{◌≡◌, sym, ◌∙◌}
use mathlib.Core.Bool.{Bool, true, ◌&&◌, ◌||◌, and-eq-true_iff}
use mathlib.Core.List.{List}
use borrow.Author.Tests.{leb-true, eqb-true}
use lib.Dec.{eqb, leb}
use lib.ListN.{length}
use Rattle.types.specs.adding.Checks.{entry_of}
use Rattle.types.specs.book.Contents.{types_in, members_in, type_entry, member_entry, bodies_at, in_bodies, type_ok}
use Rattle.types.specs.book.Contents.{member_ok, list_from, every, sum_counts, type_entries, member_entries, book_ok}
use Rattle.types.specs.inside.adding.Checks.{EntriesInside}
use Rattle.types.specs.rounds.Turns.{first_member, entries_at, count_of}
use Rattle.types.specs.declared.book.contents.MemberEntry.{MemberEntry}
use Rattle.types.specs.declared.book.contents.TypeEntry.{TypeEntry}
use Rattle.types.specs.declared.tables.member.Span.{Span}

-- ---- each of a list

every_at : {A : Type 0} (p : A → Bool) (f : ℕ → A) (j n i : ℕ) → every p (list_from f j n) ≡ true → j ≤ i → i < j + n
    → p (f i) ≡ true
unfolding every list_from
every_at p f j zero i q l h = absurd (omega arith)
every_at p f j (suc n) i q l h =
    let both = (and-eq-true_iff (p (f j)) (every p (list_from f (j + 1) n))).0 q in
    go both.0 (every_at p f (j + 1) n i both.1) (dec_lt j i)
  where
    go : p (f j) ≡ true → (j + 1 ≤ i → i < j + 1 + n → p (f i) ≡ true) → Dec (j < i) → p (f i) ≡ true
    go here later (yes o) = later (omega arith) (omega arith)
    go here later (no o) =
        let e : i ≡ j = omega (arith, o) in
        rw e here

-- ---- an entry's names

bodies_end : (start end : ℕ) (s : Span) → in_bodies start end s ≡ true → s.at + s.long ≤ end
unfolding in_bodies
bodies_end start end s q =
    leb-true _ _ ((and-eq-true_iff (leb start s.at) (leb (s.at + s.long) end)).0 q).1

type_name : (start end : ℕ) (e : TypeEntry) → type_ok start end e ≡ true → e.name.at + e.name.long ≤ end
unfolding type_ok
type_name start end e q =
    let before = leb e.flags 7 && eqb e.zero 0 && (leb 4 e.flags || eqb e.id 0)
    && (eqb (e.flags / 2 % 2) 1 || eqb e.string 0) in
    bodies_end start end e.name ((and-eq-true_iff before (in_bodies start end e.name)).0 q).1

member_names : (start end : ℕ) (e : MemberEntry) → member_ok start end e ≡ true
    → (e.name.at + e.name.long ≤ end) × (e.ty.at + e.ty.long ≤ end)
unfolding member_ok
member_names start end e q =
    let both = (and-eq-true_iff (leb e.local 1 && in_bodies start end e.name) (in_bodies start end e.ty)).0 q in
    let name = (and-eq-true_iff (leb e.local 1) (in_bodies start end e.name)).0 both.0 in
    (bodies_end start end e.name name.1, bodies_end start end e.ty both.1)

-- ---- the whole

-- entries and their names lie in the book, and the types' counts sum to the number of its members
pub record BookSound (book : List ℕ) : Type 0 where
  pub room : bodies_at book ≤ length book
  pub types : (i : ℕ) → i < types_in book → (type_entry book i).name.at + (type_entry book i).name.long ≤ length book
  pub names : (k : ℕ) → k < members_in book
      → (member_entry book (types_in book) k).name.at + (member_entry book (types_in book) k).name.long ≤ length book
  pub uses : (k : ℕ) → k < members_in book
      → (member_entry book (types_in book) k).ty.at + (member_entry book (types_in book) k).ty.long ≤ length book
  pub sums : sum_counts (type_entries book) ≡ members_in book

-- a book that is well formed is sound
pub sound : (book : List ℕ) → book_ok book ≡ true → BookSound book
unfolding book_ok
sound book q =
    let start = bodies_at book in
    let a = leb 4 (length book) in
    let b = leb start (length book) in
    let c = every (type_ok start (length book)) (type_entries book) in
    let d = eqb (sum_counts (type_entries book)) (members_in book) in
    let e = every (member_ok start (length book)) (member_entries book) in
    let q4 = (and-eq-true_iff (a && b && c && d) e).0 q in
    let q3 = (and-eq-true_iff (a && b && c) d).0 q4.0 in
    let q2 = (and-eq-true_iff (a && b) c).0 q3.0 in
    let q1 = (and-eq-true_iff a b).0 q2.0 in
    record {
      room = leb-true _ _ q1.1;
      types = λ i l. type_name start (length book) (type_entry book i)
          (every_at (type_ok start (length book)) (type_entry book) 0 (types_in book) i q2.1
          (omega arith) (omega arith));
      names = λ k l. (member_names start (length book) (member_entry book (types_in book) k)
          (every_at (member_ok start (length book)) (member_entry book (types_in book)) 0 (members_in book) k q4.1
          (omega arith) (omega arith))).0;
      uses = λ k l. (member_names start (length book) (member_entry book (types_in book) k)
          (every_at (member_ok start (length book)) (member_entry book (types_in book)) 0 (members_in book) k q4.1
          (omega arith) (omega arith))).1;
      sums = eqb-true _ _ q3.1;
    }

-- ---- one type's members after the other's

sum_add : (book : List ℕ) (j a b : ℕ) → sum_counts (list_from (type_entry book) j (a + b))
    ≡ sum_counts (list_from (type_entry book) j a) + sum_counts (list_from (type_entry book) (j + a) b)
unfolding sum_counts list_from
sum_add book j zero b = rw (zero-add b, add-zero j) (sym (zero-add _))
sum_add book j (suc a) b =
    let e : j + suc a ≡ j + 1 + a = omega arith in
    rw (suc-add, e) (omega (arith, sum_add book (j + 1) a b))

first_next : (book : List ℕ) (i : ℕ) → first_member book (i + 1) ≡ first_member book i + count_of book i
unfolding first_member sum_counts list_from
first_next book i = sum_add book 0 i 1 ∙ rw (zero-add, add-zero)

-- the members of the first type begin right after the type entries
pub entries_first : (book : List ℕ) → 4 + 16 * types_in book ≡ entries_at book 0
unfolding entries_at first_member sum_counts list_from
entries_first book = omega arith

-- the members of the next type begin where those of the i-th end
pub entries_next : (book : List ℕ) (i : ℕ) → entries_at book i + 16 * count_of book i ≡ entries_at book (i + 1)
unfolding entries_at
entries_next book i = omega (arith, first_next book i)

module _ {book : List ℕ} (s : BookSound book) {i : ℕ} (l : i < types_in book) where
  -- the members of the i-th type are among all
  pub among_all : first_member book i + count_of book i ≤ members_in book
  unfolding first_member
  among_all =
      let t = types_in book in
      let e : i + 1 + (t - (i + 1)) ≡ t = omega arith in
      omega (arith, first_next book i, s.sums, rw e at (sum_add book 0 (i + 1) (t - (i + 1))))

  -- the entry of the i-th type lies in the book
  pub type_inside : 20 + 16 * i ≤ length book
  type_inside = omega (arith, s.room)

  entry_same : (k : ℕ) → entries_at book i + 16 * k ≡ 4 + 16 * types_in book + 16 * (first_member book i + k)
  unfolding entries_at
  entry_same k = omega arith

  -- the entries of its members, and their names, lie in the book
  pub entries_inside : EntriesInside book (entries_at book i) (count_of book i)
  entries_inside =
      record {
        inside = omega (arith, entry_same (count_of book i), among_all, s.room);
        names = λ k h. rw (entry_same k) (s.names (first_member book i + k) (omega (arith, among_all)));
      }

  -- the names of its members' types lie in the book
  pub entries_uses : (k : ℕ) → k < count_of book i
      → (entry_of book (entries_at book i) k).ty.at + (entry_of book (entries_at book i) k).ty.long ≤ length book
  entries_uses k h = rw (entry_same k) (s.uses (first_member book i + k) (omega (arith, among_all)))
