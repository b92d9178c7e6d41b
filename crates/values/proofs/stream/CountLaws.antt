-- How many entries a value has (document 01, "Value stream"): counts that go on from a number, and what a
-- string, an array of structures and a member's number add to them.
use Prim.Native.Nat.{ℕ, ◌+◌, ◌*◌, ◌<◌, ◌≤◌}
use native.Mathlib.Omega.{arith}
use mathlib.Core.Path.{◌≡◌, refl, sym, ap, ◌∙◌}
use mathlib.Core.Bool.{Bool, true, false, cond}
use mathlib.Core.List.{List, ◌∷◌}
use borrow.Author.Tests.{eq-eqb, ne_eqb}
use lib.ListN.{length}
use Rattle.words.specs.Words.{part}
use Rattle.words.proofs.TestLaws.{clash}
use Rattle.types.specs.tables.Lent.{type_at}
use Rattle.types.specs.tables.Limits.{most_types}
use Rattle.types.specs.tables.Sizes.{sizes_in}
use Rattle.values.specs.inside.reading.Walk.{up_to, wrap, text_out, element_by, elements_by, structs_by, members_by}
use Rattle.values.specs.inside.reading.Walk.{struct_by, struct_within, struct_out}
use Rattle.values.specs.inside.reading.Walkable.{Walkable}
use Rattle.values.specs.inside.stream.Counting.{Counted, TextFree}
use Rattle.values.specs.reading.Texts.{capacity_at}
use Rattle.values.specs.reading.Trees.{is_string_kind}
use Rattle.values.specs.stream.Stream.{Token, member, bodies}
use Rattle.values.proofs.reading.UpLaws.{up_length, up_least, up_first, up_bodies, wrap_length, wrap_bodies}
use Rattle.values.proofs.reading.WalkLaws.{struct_out_lem}

-- ---- counts that go on from a number

-- entries of which none is a text
pub plain_counted : {most from sum r : ℕ} {f : List ℕ → List Token} {b : Bool} → TextFree f r → sum ≡ from + r
    → Counted most from f b b sum
plain_counted p q =
    record {
      exact = λ h image. omega (arith, p.exact image);
      over = λ h image. omega (arith, p.exact image);
      quiet = λ h e. p.plain;
      still = λ e. e;
    }

-- the count of some entries is that of any that are the same
pub counted_same : {most from sum : ℕ} {f g : List ℕ → List Token} {b t : Bool} → Counted most from f b t sum
    → ((image : List ℕ) → f image ≡ g image) → Counted most from g b t sum
counted_same w q =
    record {
      exact = λ h image. omega (arith, ap length (q image), w.exact h image);
      over = λ h image. omega (arith, ap length (q image), w.over h image);
      quiet = λ h e image. ap bodies (sym (q image)) ∙ w.quiet h e image;
      still = w.still;
    }

-- the same entries are as many, and none of them is a text
pub plain_same : {f g : List ℕ → List Token} {r : ℕ} → TextFree f r → ((image : List ℕ) → f image ≡ g image)
    → TextFree g r
plain_same w q =
    record {
      exact = λ image. ap length (sym (q image)) ∙ w.exact image;
      plain = λ image. ap bodies (sym (q image)) ∙ w.plain image;
    }

-- ---- structures

-- a member's number before a value, which is read from a part of the image
pub member_counted : {most from sum : ℕ} {f : List ℕ → List Token} {b t : Bool} (j : ℕ) (own : List ℕ → List ℕ)
    → Counted most (from + 1) f b t sum → Counted most from (λ image. member j ∷ f (own image)) b t sum
unfolding bodies
member_counted j own w =
    record {
      exact = λ h image. omega (arith, w.exact h (own image));
      over = λ h image. omega (arith, w.over h (own image));
      quiet = λ h e image. w.quiet h e (own image);
      still = w.still;
    }

-- the bytes of an element of an array of structures
abbrev element : List ℕ → ℕ → List ℕ → ℕ → List ℕ
element types s image k = part image (sizes_in types s * k) (sizes_in types s)

-- every structure has an entry
struct_some : (types members : List ℕ) (i : ℕ) (image : List ℕ) → 1 ≤ length (struct_out types members i image)
unfolding struct_out struct_within struct_by members_by
struct_some types members i image =
    go (is_string_kind (type_at types i).kind) (text_out (capacity_at members (type_at types i).first) image)
    (members_by types members (struct_within types members 199) i image) (omega arith) (omega arith)
  where
    go : (b : Bool) (xs ys : List Token) → 1 ≤ length xs → 1 ≤ length ys → 1 ≤ length (cond b xs ys)
    go true xs ys p q = p
    go false xs ys p q = q

module _ (types members : List ℕ) (s n : ℕ) where
  abbrev Structs : List ℕ → List Token
  Structs = structs_by types members (struct_out types members) s n

  abbrev Element : List ℕ → ℕ → List Token
  Element = element_by types members (struct_out types members) s

  -- with count 0 the structures are counted as the one structure is
  pub structs_one : {most from sum : ℕ} {b t : Bool} → n ≡ 0 → Counted most from (struct_out types members s) b t sum
      → Counted most from Structs b t sum
  unfolding structs_by
  structs_one z w = counted_same w (λ image. rw (eq-eqb n 0 z))

  -- or an array
  module _ (z : n ≡ 0 → ⊥) where
    structs_are : (image : List ℕ) → Structs image ≡ wrap 10 11 (up_to (Element image) n)
    unfolding structs_by elements_by
    structs_are image = rw (ne_eqb n 0 z)

    structs_length : (image : List ℕ) → length (Structs image) ≡ 2 + length (up_to (Element image) n)
    structs_length image = ap length (structs_are image) ∙ wrap_length 10 11 (up_to (Element image) n)

    -- an array of more than `most` elements has more entries than `most`
    pub structs_many : {most from : ℕ} {b : Bool} → most < n → Counted most from Structs b b (most + 1)
    structs_many h =
        record {
          exact = λ l. absurd (let e : ⊥ = omega arith in e);
          over = λ l image.
              omega (
                arith,
                structs_length image,
                up_least (Element image) 1 (λ k. struct_some types members s (element types s image k)) n,
              );
          quiet = λ l. absurd (let e : ⊥ = omega arith in e);
          still = λ e. e;
        }

    module _ {most one : ℕ} {b t : Bool} (w : Counted most 0 (struct_out types members s) b t one) where
      -- whose first element is above `most`
      pub structs_large : {from : ℕ} → most < one → Counted most from Structs b t (most + 1)
      structs_large h =
          record {
            exact = λ l. absurd (let e : ⊥ = omega arith in e);
            over = λ l image.
                omega (
                  arith,
                  structs_length image,
                  up_first (Element image) n z,
                  w.over h (element types s image 0),
                );
            quiet = λ l. absurd (let e : ⊥ = omega arith in e);
            still = w.still;
          }

      run_length : one ≤ most → (image : List ℕ) → length (Structs image) ≡ 2 + n * one
      run_length h image =
          omega (
            arith,
            structs_length image,
            up_length (Element image) one (λ k. omega (arith, w.exact h (element types s image k))) n,
          )

      -- elements that all have as many entries as the first are two brackets and so many times that
      pub structs_all : {from : ℕ} → one ≤ most → Counted most from Structs b t (from + 2 + n * one)
      structs_all h =
          record {
            exact = λ l image. omega (arith, run_length h image);
            over = λ l image. omega (arith, run_length h image);
            quiet = λ l e image.
                ap bodies (structs_are image) ∙ wrap_bodies 10 11 (up_to (Element image) n)
                ∙ up_bodies (Element image) (λ k. w.quiet h e (element types s image k)) n;
            still = w.still;
          }

module _ {types members : List ℕ} {i most from : ℕ} (w : Walkable types members) (l : i < most_types) where
  -- a string is one entry, and a text is among them
  pub text_counted : {b : Bool} → is_string_kind (type_at types i).kind ≡ true
      → Counted most from (struct_out types members i) b true (from + 1)
  text_counted e =
      record {
        exact = λ h image. omega (arith, one image);
        over = λ h image. omega (arith, one image);
        quiet = λ h k. clash refl k;
        still = λ k. clash refl k;
      }
    where
      one : (image : List ℕ) → length (struct_out types members i image) ≡ 1
      one image = ap length (struct_out_lem types members w i image l) ∙ unfold struct_by in rw e

  -- any other structure has as many entries as its members
  pub members_counted : {b t : Bool} {sum : ℕ} → is_string_kind (type_at types i).kind ≡ false
      → Counted most from (members_by types members (struct_out types members) i) b t sum
      → Counted most from (struct_out types members i) b t sum
  members_counted e v =
      counted_same v (λ image. sym (struct_out_lem types members w i image l ∙ unfold struct_by in rw e))
