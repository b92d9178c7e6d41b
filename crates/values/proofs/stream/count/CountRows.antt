-- The count of a structure's members (document 01, "Value stream"), row by row: the entries of the rows so far, with
-- the structure's brackets, counted on from a number, are exact for every image where they are at most `most`.
use Prim.Native.Nat.{ℕ, suc, ◌+◌, ◌*◌, ◌<◌, ◌≤◌}
use native.Mathlib.Numerals.{add-one}
use native.Mathlib.Omega.{arith}
use mathlib.Core.Path.{◌≡◌, refl, sym, ap₂, ◌∙◌}
use mathlib.Core.Bool.{Bool, false}
use mathlib.Core.List.{List, [], ◌++◌}
use lib.ListN.{length, length-append}
use Rattle.words.specs.Words.{part}
use Rattle.types.specs.layout.Placing.{times}
use Rattle.types.specs.tables.Lent.{member_at, type_at}
use Rattle.types.specs.tables.Limits.{most_types}
use Rattle.types.specs.tables.Sizes.{sizes_in}
use Rattle.values.specs.inside.reading.Walk.{is_nested, up_to, wrap, leaf_out, structs_by, member_by, row_by}
use Rattle.values.specs.inside.reading.Walk.{members_by}
use Rattle.values.specs.inside.reading.Walk.{struct_out}
use Rattle.values.specs.inside.reading.Walkable.{HeldIn, Walkable, NestedRow}
use Rattle.values.specs.inside.stream.Counting.{Counted, TextFree}
use Rattle.values.specs.stream.Stream.{most_bytes, Token, bodies}
use Rattle.values.specs.declared.reading.rows.Nested.{Nested}
use Rattle.values.proofs.reading.MemberLaws.{member_leaf, member_nested}
use Rattle.values.proofs.reading.UpLaws.{up_grows, wrap_length, wrap_bodies}
use Rattle.values.proofs.stream.CountLaws.{counted_same, member_counted, plain_counted, plain_same}
use Rattle.values.proofs.stream.HeadLaws.{bodies_append}

-- ---- one run after another

module _ (g : List ℕ → ℕ → List Token) where
  abbrev Run : ℕ → List ℕ → List Token
  Run n image = wrap 8 9 (up_to (g image) n)

  run_length : (n : ℕ) (image : List ℕ) → length (Run n image) ≡ 2 + length (up_to (g image) n)
  run_length n image = wrap_length 8 9 (up_to (g image) n)

  next_length : (j : ℕ) (image : List ℕ) → length (Run (j + 1) image) ≡ length (Run j image) + length (g image j)
  unfolding up_to
  next_length j image =
      rw (add-one j)
      (omega (arith, run_length (suc j) image, run_length j image, length-append (up_to (g image) j) (g image j)))

  next_bodies : (j : ℕ) (image : List ℕ) → bodies (Run j image) ≡ [] → bodies (g image j) ≡ []
      → bodies (Run (j + 1) image) ≡ []
  unfolding up_to
  next_bodies j image p q =
      rw (add-one j) (wrap_bodies 8 9 (up_to (g image) j ++ g image j) ∙ bodies_append (up_to (g image) j) (g image j)
      ∙ ap₂ ◌++◌ (sym (wrap_bodies 8 9 (up_to (g image) j)) ∙ p) q)

  module _ {most from sum j : ℕ} {b t : Bool} (w : Counted most from (Run j) b t sum) where
    -- one more, counted on from what was counted
    run_on : {more : ℕ} {u : Bool} → sum ≤ most → Counted most sum (λ image. g image j) t u more
        → Counted most from (Run (j + 1)) b u more
    run_on fits v =
        record {
          exact = λ h image. omega (arith, next_length j image, w.exact fits image, v.exact h image);
          over = λ h image. omega (arith, next_length j image, w.exact fits image, v.over h image);
          quiet = λ h e image. next_bodies j image (w.quiet fits (v.still e) image) (v.quiet h e image);
          still = λ e. w.still (v.still e);
        }

    -- what is above `most` stays so
    run_over : {n : ℕ} → j ≤ n → most < sum → Counted most from (Run n) b t sum
    run_over {n} l h =
        record {
          exact = λ k. absurd (let z : ⊥ = omega arith in z);
          over = λ k image.
              omega (arith, run_length j image, run_length n image, up_grows (g image) j n l, w.over h image);
          quiet = λ k. absurd (let z : ⊥ = omega arith in z);
          still = w.still;
        }

-- ---- the rows of a structure

-- j of the n rows of structure i are counted, on from a number
pub record RowsCounted (types members : List ℕ) (i from most first n : ℕ) (before after : Bool)
    (sum j : ℕ) : Type 0 where
  pub walk : Walkable types members
  pub low : i < most_types
  pub bound : most ≤ most_bytes
  pub first_row_is : first ≡ (type_at types i).first
  pub count_is : n ≡ (type_at types i).count
  pub inside : j ≤ n
  pub counted : Counted most from
      (λ image. wrap 8 9 (up_to (row_by types members (struct_out types members) first image) j))
      before after sum

-- before the first row the two brackets are counted
pub rows_none : {types members : List ℕ} {i from most first n : ℕ} {b : Bool} → Walkable types members → i < most_types
    → most ≤ most_bytes → first ≡ (type_at types i).first → n ≡ (type_at types i).count
    → RowsCounted types members i from most first n b b (from + 2) 0
unfolding up_to bodies
rows_none w l m p q =
    record {
      walk = w;
      low = l;
      bound = m;
      first_row_is = p;
      count_is = q;
      inside = omega arith;
      counted = plain_counted (record { exact = λ image. refl; plain = λ image. refl }) refl;
    }

module _ {types members : List ℕ} {i from most first n : ℕ} {b t : Bool} {sum j : ℕ}
    (w : RowsCounted types members i from most first n b t sum j) where
  abbrev Row : List ℕ → ℕ → List Token
  Row = row_by types members (struct_out types members) first

  -- with the entries of a nested row added, one row more is counted
  pub rows_nested : {more : ℕ} {u : Bool} → j < n → sum ≤ most
      → Counted most sum (member_by types members (struct_out types members) j (member_at members (first + j))) t u more
      → RowsCounted types members i from most first n b u more (j + 1)
  rows_nested h fits v =
      record {
        walk = w.walk;
        low = w.low;
        bound = w.bound;
        first_row_is = w.first_row_is;
        count_is = w.count_is;
        inside = omega arith;
        counted = run_on Row w.counted fits v;
      }

  -- with the entries of a row that is no structure added, one row more is counted
  pub rows_leaf : {more : ℕ} → j < n → sum ≤ most → is_nested (member_at members (first + j)) ≡ false
      → TextFree (leaf_out j (member_at members (first + j))) more
      → RowsCounted types members i from most first n b t (sum + more) (j + 1)
  rows_leaf h fits e p =
      rows_nested h fits
      (plain_counted (plain_same p (λ image.
      sym (member_leaf types members (struct_out types members) j (member_at members (first + j)) image e))) refl)

  -- the brackets and all rows are the structure
  members_are : {k : ℕ} → k ≡ n → (image : List ℕ)
      → wrap 8 9 (up_to (Row image) k) ≡ members_by types members (struct_out types members) i image
  unfolding members_by
  members_are e image = rw (e, w.first_row_is, w.count_is)

  -- where the sum is above `most` before the last row, so are the entries of all rows
  pub rows_over : most < sum → Counted most from (members_by types members (struct_out types members) i) b t sum
  rows_over h = counted_same (run_over Row w.counted w.inside h) (members_are refl)

  -- after the last row the sum is that of all members
  pub rows_all : n ≤ j → Counted most from (members_by types members (struct_out types members) i) b t sum
  rows_all h = counted_same w.counted (members_are (omega (arith, w.inside)))

-- ---- a nested row

-- a nested row has its number's entry and those of the structures that it holds
pub nested_counted : {types members : List ℕ} {i row most from sum : ℕ} {b t : Bool} {r : Nested} (j : ℕ)
    → NestedRow types members i row → HeldIn (member_at members row) r
    → Counted most (from + 1) (structs_by types members (struct_out types members) r.structure r.count) b t sum
    → Counted most from (member_by types members (struct_out types members) j (member_at members row)) b t sum
nested_counted {types} {members} {row = row} {r = r} j nested held w =
    counted_same (member_counted j
    (λ image. part image (member_at members row).offset (sizes_in types r.structure * times r.count)) w)
    (λ image. rw held.count (sym
    (member_nested types members (struct_out types members) j (member_at members row) image r.structure
    nested.nested held.struct)))
