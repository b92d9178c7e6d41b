-- What the second pass of a layout keeps from one member to the next: all rows and names stand once those that are
-- left are stored after the others.
use Rattle.std.specs.Prelude.{Option, Some, None, Result, Ok, Err}
use Prim.Native.Nat.{ℕ, ◌+◌, ◌-◌, ◌*◌, ◌<◌, ◌≤◌}
use native.Mathlib.Nat.{add-zero, sub-zero}
use native.Mathlib.Omega.{arith}
use mathlib.Core.Path.{◌≡◌, refl, sym, ap, ◌∙◌}
use mathlib.Core.Bool.{true, false, true≢false}
use mathlib.Core.List.{List, [], ◌++◌}
use lib.ListN.{length, length-append}
use lib.Seq.{sets}
use Rattle.words.specs.Words.{Bytes}
use Rattle.words.proofs.Lists.{length_part}
use Rattle.types.specs.inside.book.Decls.{decl_at, decls_from, Found}
use Rattle.types.specs.inside.layout.Passes.{then_parts, then_measure, then_next, parts_from, measure_one, one_parts}
use Rattle.types.specs.inside.layout.Passes.{came}
use Rattle.types.specs.inside.layout.Passes.{stored_one, Far, StepFits, Storable}
use Rattle.types.specs.layout.HostNames.{host_name}
use Rattle.types.specs.layout.Placing.{placed}
use Rattle.types.specs.layout.Structs.{names_of, rows_of, named_in}
use Rattle.types.specs.tables.Defs.{Part}
use Rattle.types.specs.tables.Limits.{most_members, most_names}
use Rattle.types.specs.declared.layout.placing.Cursor.{Cursor}
use Rattle.types.specs.declared.layout.placing.Decl.{Decl}
use Rattle.types.specs.declared.layout.placing.LayoutFault.{LayoutFault}
use Rattle.types.specs.declared.layout.placing.Placed.{Placed}
use Rattle.types.specs.declared.layout.placing.Placed.TheVariants.{Hosted, One}
use Rattle.types.specs.declared.layout.store.StoreNext.{StoreNext}
use Rattle.types.proofs.book.DeclLaws.{decls_cons, decls_none, found_first, decl_fair, decl_ty}
use Rattle.types.proofs.layout.DigitLaws.{host_most}
use Rattle.types.proofs.layout.MeasureLaws.{far_on, near}
use Rattle.types.proofs.layout.StoreLaws.{names_append, rows_then, names_then}

-- ---- one step, by the ways that placing can go

-- what the next member's place consists of
module _ {x s : StoreNext} (q : Some x ≡ Some s) where
  next_is : x ≡ s
  next_is = cc

  next_cursor : x.cursor ≡ s.cursor
  next_cursor = ap (λ (z : StoreNext). z.cursor) next_is

  next_row : x.row ≡ s.row
  next_row = ap (λ (z : StoreNext). z.row) next_is

  next_place : x.place ≡ s.place
  next_place = ap (λ (z : StoreNext). z.place) next_is

-- how many rows and bytes a step takes, and what is left after it
pub record StoreMoved (row at row' at' : ℕ) (one all rest : List Part) : Type 0 where
  pub rows : row' ≡ row + length one
  pub place : at' ≡ at + length (names_of one)
  pub parts : all ≡ one ++ rest

moves : (p : Result Placed LayoutFault) (host name : List ℕ) (k : ℕ) → k ≡ length name
    → (rest : Cursor → List Part) (row at : ℕ) {s : StoreNext} → then_next p (length host) k row at ≡ Some s
    → StoreMoved row at s.row s.place (then_parts p host name (λ c. [])) (then_parts p host name rest) (rest s.cursor)
unfolding names_of
moves (Ok (Hosted h m c)) host name k l rest row at {s} q =
    let e : c ≡ s.cursor = next_cursor q in
    let f : row + 2 ≡ s.row = next_row q in
    let g : at + length host + k ≡ s.place = next_place q in
    record {
      rows = sym f;
      place = sym g ∙ simp (length-append, length-append) (omega arith);
      parts = rw e;
    }
moves (Ok (One m c)) host name k l rest row at {s} q =
    let e : c ≡ s.cursor = next_cursor q in
    let f : row + 1 ≡ s.row = next_row q in
    let g : at + k ≡ s.place = next_place q in
    record {
      rows = sym f;
      place = sym g ∙ simp length-append (omega arith);
      parts = rw e;
    }
moves (Err f) host name k l rest row at q = let z : true ≡ false = cc in absurd (true≢false z)

stops : (p : Result Placed LayoutFault) (a b : ℕ) (host name : List ℕ) (rest : Cursor → List Part) (row at : ℕ)
    → then_next p a b row at ≡ None → then_parts p host name rest ≡ []
stops (Ok (Hosted h m c)) a b host name rest row at q = cc
stops (Ok (One m c)) a b host name rest row at q = cc
stops (Err f) a b host name rest row at q = refl

-- where a step goes on, measuring goes on too
goes : (p : Result Placed LayoutFault) (a b row at : ℕ) {s : StoreNext} → then_next p a b row at ≡ Some s
    → (n : ℕ) × (then_measure p a b 0 (λ x y. came x y) ≡ came s.cursor n)
goes (Ok (Hosted h m c)) a b row at {s} q = let e : c ≡ s.cursor = next_cursor q in (0 + a + b, rw e)
goes (Ok (One m c)) a b row at {s} q = let e : c ≡ s.cursor = next_cursor q in (0 + b, rw e)
goes (Err f) a b row at q = let z : true ≡ false = cc in absurd (true≢false z)

-- ---- the loop

-- all parts stand once those of the members from the j-th on are stored from this row and place on
pub record Storing (types book tys type : List ℕ) (at n : ℕ) (c₀ : Cursor) (m₀ t₀ : List ℕ) (row₀ place₀ : ℕ)
    (c : Cursor) (m t : List ℕ) (row place j : ℕ) : Type 0 where
  pub passed : ℕ
  pub few : passed + n ≤ 131072
  pub done : j ≤ n
  pub found : Found book tys at n
  pub far : Far (passed + j) c 0
  pub inside : (k : ℕ) → k < n
      → (decl_at types book tys at k).name.at + (decl_at types book tys at k).name.long ≤ length book
  pub room : row + length (parts_from (named_in book) (host_name type) c (decls_from types book tys at j (n - j)))
      ≤ most_members
  pub bytes : place
      + length (names_of (parts_from (named_in book) (host_name type) c (decls_from types book tys at j (n - j))))
      ≤ most_names
  pub rows : sets m₀ (8 * row₀) (rows_of place₀
      (parts_from (named_in book) (host_name type) c₀ (decls_from types book tys at 0 n)))
      ≡ sets m (8 * row) (rows_of place
      (parts_from (named_in book) (host_name type) c (decls_from types book tys at j (n - j))))
  pub names : sets t₀ place₀
      (names_of (parts_from (named_in book) (host_name type) c₀ (decls_from types book tys at 0 n)))
      ≡ sets t place (names_of (parts_from (named_in book) (host_name type) c (decls_from types book tys at j (n - j))))

-- it is so before the first member, where all can be stored
pub starts : (types book tys type : List ℕ) (at n : ℕ) (c : Cursor) (m t : List ℕ) (row place : ℕ)
    → Storable types book tys type at n c row place
    → Storing types book tys type at n c m t row place c m t row place 0
starts types book tys type at n c m t row place s =
    record {
      passed = s.passed;
      few = s.few;
      done = omega arith;
      found = s.found;
      far = rw add-zero s.far;
      inside = s.inside;
      room = rw sub-zero s.rows;
      bytes = rw sub-zero s.names;
      rows = rw sub-zero;
      names = rw sub-zero;
    }

module _ {types book tys type m₀ t₀ m t : List ℕ} {at n row₀ place₀ row place j : ℕ} {c₀ c : Cursor}
    (s : Storing types book tys type at n c₀ m₀ t₀ row₀ place₀ c m t row place j) where
  abbrev all : List Part
  all = parts_from (named_in book) (host_name type) c₀ (decls_from types book tys at 0 n)

  -- after the last member the rows of all parts are stored
  pub rows_done : n ≤ j → m ≡ sets m₀ (8 * row₀) (rows_of place₀ all)
  unfolding parts_from rows_of
  rows_done l = sym (rw (decls_none types book tys at n j l) at s.rows)

  -- after the last member the names of all parts are stored
  pub names_done : n ≤ j → t ≡ sets t₀ place₀ (names_of all)
  unfolding parts_from names_of
  names_done l = sym (rw (decls_none types book tys at n j l) at s.names)

  module _ (l : j < n) (b : Bytes book) where
    abbrev d : Decl
    d = decl_at types book tys at j

    abbrev rest : Cursor → List Part
    rest x = parts_from (named_in book) (host_name type) x (decls_from types book tys at (j + 1) (n - (j + 1)))

    -- the first j + 1 members were found
    pub one_found : Found book tys at (j + 1)
    one_found = found_first (j + 1) (omega arith) s.found

    -- the parts that are left are this member's and those of the members after it
    split : parts_from (named_in book) (host_name type) c (decls_from types book tys at j (n - j))
        ≡ then_parts (placed c d) (host_name type c.members) (named_in book d) rest
    unfolding parts_from
    split = rw (decls_cons types book tys at n j l)

    long : length (named_in book d) ≡ d.name.long
    long = length_part book d.name.at d.name.long (s.inside j l)

    -- this member's parts are among those that are left
    least : (p : Result Placed LayoutFault) (host name : List ℕ) (next : Cursor → List Part)
        → length (then_parts p host name (λ x. [])) ≤ length (then_parts p host name next)
    least (Ok (Hosted h k x)) host name next = omega arith
    least (Ok (One k x)) host name next = omega arith
    least (Err f) host name next = omega arith

    least_names : (p : Result Placed LayoutFault) (host name : List ℕ) (next : Cursor → List Part)
        → length (names_of (then_parts p host name (λ x. []))) ≤ length (names_of (then_parts p host name next))
    unfolding names_of
    least_names (Ok (Hosted h k x)) host name next = simp (length-append, length-append) (omega arith)
    least_names (Ok (One k x)) host name next = simp (length-append, length-append) (omega arith)
    least_names (Err f) host name next = omega arith

    -- the book and the tables have what the parts of the j-th member ask
    pub one_fits : StepFits book type c d row place
    unfolding one_parts
    one_fits =
        record {
          near = near (s.passed + j) c 0 d (omega (arith, s.few)) s.far (decl_fair types book tys at j b);
          name = s.inside j l;
          ty = decl_ty types book tys at n j l s.found;
          rows =
              omega (
                arith,
                rw split at s.room,
                least (placed c d) (host_name type c.members) (named_in book d)
                    rest,
              );
          names = omega (
            arith,
            rw split at s.bytes,
            least_names (placed c d) (host_name type c.members) (named_in book d) rest,
          );
        }

    module _ (one : Option StoreNext) (e : one ≡ stored_one type c d row place) where
      stopped : one ≡ None → parts_from (named_in book) (host_name type) c (decls_from types book tys at j (n - j)) ≡ []
      unfolding stored_one
      stopped q = split ∙ stops (placed c d) _ _ _ _ rest row place (sym e ∙ q)

      nothing : one ≡ None → one_parts book type c d ≡ []
      unfolding stored_one one_parts
      nothing q = stops (placed c d) _ _ _ _ (λ x. []) row place (sym e ∙ q)

      -- where storing stops at the j-th member, the rows of all parts are stored
      pub rows_stopped : {m' : List ℕ} → one ≡ None → m' ≡ sets m (8 * row) (rows_of place (one_parts book type c d))
          → m' ≡ sets m₀ (8 * row₀) (rows_of place₀ all)
      unfolding rows_of
      rows_stopped q v = rw (nothing q) at v ∙ sym (rw (stopped q) at s.rows)

      -- where storing stops at the j-th member, the names of all parts are stored
      pub names_stopped : {t' : List ℕ} → one ≡ None → t' ≡ sets t place (names_of (one_parts book type c d))
          → t' ≡ sets t₀ place₀ (names_of all)
      unfolding names_of
      names_stopped q w = rw (nothing q) at w ∙ sym (rw (stopped q) at s.names)

      moved : {x : StoreNext} → one ≡ Some x
          → StoreMoved row place x.row x.place (one_parts book type c d)
          (parts_from (named_in book) (host_name type) c (decls_from types book tys at j (n - j))) (rest x.cursor)
      unfolding stored_one one_parts
      moved q =
          rw split
          (moves (placed c d) (host_name type c.members) (named_in book d) d.name.long (sym long) rest row place
          (sym e ∙ q))

      farther : {x : StoreNext} → one ≡ Some x → Far (s.passed + (j + 1)) x.cursor 0
      unfolding stored_one measure_one
      farther q =
          let g = goes (placed c d) _ _ row place (sym e ∙ q) in
          let h : s.passed + j + 1 ≡ s.passed + (j + 1) = omega arith in
          let f = far_on (host_name type) (s.passed + j) c 0 d s.far (decl_fair types book tys at j b)
          (host_most type c.members) g.1 in
          rw (← h) (record { offset = f.offset; members = f.members; bits = f.bits; names = omega arith })

      -- where the parts of the j-th member were stored, it is so at the next
      pub goes_on : {x : StoreNext} {m' t' : List ℕ} → one ≡ Some x
          → m' ≡ sets m (8 * row) (rows_of place (one_parts book type c d))
          → t' ≡ sets t place (names_of (one_parts book type c d))
          → Storing types book tys type at n c₀ m₀ t₀ row₀ place₀ x.cursor m' t' x.row x.place (j + 1)
      goes_on {x} q v w =
          let o = moved q in
          let one = one_parts book type c d in
          record {
            passed = s.passed;
            few = s.few;
            done = omega arith;
            found = s.found;
            far = farther q;
            inside = s.inside;
            room = omega (arith, o.rows, simp length-append at (rw o.parts at s.room));
            bytes = omega (arith, o.place, simp (names_append, length-append) at (rw o.parts at s.bytes));
            rows = s.rows ∙ rw (o.parts, o.rows, o.place, v) (rows_then m row place one (rest x.cursor));
            names = s.names ∙ rw (o.parts, o.place, w) (names_then t place one (rest x.cursor));
          }
