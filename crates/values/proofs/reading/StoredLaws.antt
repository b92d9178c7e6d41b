-- The stored text of a string (document 01, "Reading", "Refusal numbers"): the number for each way out, and that the
-- text of an image that is not refused lies in it.
use Prim.Native.Nat.{ℕ, ◌+◌, ◌-◌, ◌<◌, ◌≤◌}
use native.Mathlib.Omega.{arith}
use mathlib.Core.Path.{◌≡◌, refl, sym, ap, ap₂, ◌∙◌}
use mathlib.Core.Bool.{Bool, true, false, cond}
use mathlib.Core.List.{List}
use borrow.Author.Tests.{eq-eqb, ne_eqb, eqb-true}
use lib.Dec.{eqb}
use lib.ListN.{length, take, drop}
use Rattle.words.specs.Words.{part}
use Rattle.types.specs.tables.Lent.{type_at}
use Rattle.types.specs.tables.Limits.{most_types}
use Rattle.types.specs.tables.Sizes.{sizes_in}
use Rattle.types.specs.tables.There.{is_there}
use Rattle.types.specs.declared.atomics.atomic.Atomic.{Atomic}
use Rattle.types.specs.declared.tables.member.StructDef.{StructDef}
use Rattle.types.specs.declared.tables.member.Ty.{Ty}
use Rattle.types.specs.declared.tables.member.Ty.TheVariants as ty
use Rattle.types.proofs.Face.{there_fits}
use Rattle.types.specs.refusals.Said.{done, refused}
use Rattle.values.specs.inside.reading.Texts.{StringRow, TextHeld}
use Rattle.values.specs.inside.reading.Walkable.{IsString, Walkable}
use Rattle.values.specs.reading.Texts.{capacity_at, text_length, capacity_of, string_number}
use Rattle.values.specs.reading.Texts.{text_answer, text_number, text_part}
use Rattle.values.specs.reading.Trees.{is_string_kind}

-- ---- the numbers

-- by the answers: a string, and of that size
abbrev string_by : Bool → Bool → ℕ
string_by b c = cond b (cond c 0 14) 15

module _ (types : List ℕ) (i long : ℕ) {d : StructDef} (e : d ≡ type_at types i) where
  string_by_lem : {b c : Bool} → is_string_kind d.kind ≡ b → eqb long d.size ≡ c
      → string_by b c ≡ string_number types i long
  unfolding string_number
  string_by_lem p q =
      sym (ap₂ string_by p q) ∙ ap (λ (f : StructDef). string_by (is_string_kind f.kind) (eqb long f.size)) e

  -- a string type and an image of its size: the number is 0
  pub string_fits : is_string_kind d.kind ≡ true → long ≡ d.size → 0 ≡ string_number types i long
  string_fits p l = string_by_lem p (eq-eqb long d.size l)

  -- a string type and an image of another length: the number is 14
  pub string_misfits : is_string_kind d.kind ≡ true → (long ≡ d.size → ⊥) → 14 ≡ string_number types i long
  string_misfits p l = string_by_lem p (ne_eqb long d.size l)

  -- a structure that is no string type: the number is 15
  pub no_string : is_string_kind d.kind ≡ false → 15 ≡ string_number types i long
  no_string p = string_by_lem p refl

module _ (types : List ℕ) (t : Ty) (image : List ℕ) where
  -- no such type: the number is 15
  pub number_none : is_there types t ≡ false → 15 ≡ text_number types t image
  unfolding text_number
  number_none h = rw h

  -- an atomic type: the number is 15
  pub number_atomic : {a : Atomic} → is_there types t ≡ true → t ≡ ty.Atomic a → 15 ≡ text_number types t image
  unfolding text_number
  number_atomic h e = rw (h, e)

  -- a structure that is there: the number is the one for it and the image's length
  pub number_struct : {i : ℕ} → is_there types t ≡ true → t ≡ ty.Struct i
      → string_number types i (length image) ≡ text_number types t image
  unfolding text_number
  number_struct h e = rw (h, e)

-- ---- an image that is not refused

-- what no refusal says of a structure and an image
pub record Accepted (types : List ℕ) (i : ℕ) (image : List ℕ) : Type 0 where
  pub low : i < most_types
  pub string : is_string_kind (type_at types i).kind ≡ true
  pub long : length image ≡ sizes_in types i

record TextPassed (a b c : Bool) : Type 0 where
  pub there : a ≡ true
  pub string : b ≡ true
  pub long : c ≡ true

passed : (a b c : Bool) → cond a (string_by b c) 15 ≡ 0 → TextPassed a b c
passed true true true e = record { there = refl; string = refl; long = refl }
passed true true false e = absurd (let z : ⊥ = omega arith in z)
passed true false c e = absurd (let z : ⊥ = omega arith in z)
passed false b c e = absurd (let z : ⊥ = omega arith in z)

-- a number of 0: the structure is a string type, and the image has its size
pub accepted : (types : List ℕ) (i : ℕ) (image : List ℕ) → text_number types (ty.Struct i) image ≡ 0
    → Accepted types i image
unfolding text_number string_number
accepted types i image e =
    let long : Bool = eqb (length image) (sizes_in types i) in
    let p = passed (is_there types (ty.Struct i)) (is_string_kind (type_at types i).kind) long e in
    record {
      low = there_fits types (ty.Struct i) p.there;
      string = p.string;
      long = eqb-true (length image) (sizes_in types i) p.long;
    }

-- its rows are in the table, and its capacity in the image
pub record TextReadable (types members : List ℕ) (i : ℕ) (image : List ℕ) : Type 0 where
  pub low : i < most_types
  pub rows : (type_at types i).first < 1999
  pub inside : 4 + capacity_at members (type_at types i).first ≤ length image

-- a number of 0: the rows of the string are in the table, and its capacity is in the image
pub readable : {types members : List ℕ} (t : Ty) {i : ℕ} (image : List ℕ) → Walkable types members → t ≡ ty.Struct i
    → text_number types t image ≡ 0 → TextReadable types members i image
readable {types} {members} t {i} image w e n =
    let a : Accepted types i image = accepted types i image (rw e at n) in
    let s : IsString members (type_at types i) = (w.each i a.low).string a.string in
    record {
      low = a.low;
      rows = omega (arith, (w.each i a.low).rows, s.rows);
      inside = omega (arith, a.long, s.size);
    }

-- the text of a string whose capacity is in the image lies in the image
pub held_struct : {types members : List ℕ} {t : Ty} {i : ℕ} {image : List ℕ} {n : ℕ} → t ≡ ty.Struct i
    → TextReadable types members i image → n ≡ text_length (capacity_at members (type_at types i).first) image
    → TextHeld types members t image n
held_struct {types} {members} {t} {i} {image} e r h = record { long = rw e h; inside = omega (arith, r.inside) }

-- no image of an atomic has a stored text
pub no_atomic : {A : Type 0} (types image : List ℕ) (a : Atomic) → text_number types (ty.Atomic a) image ≡ 0 → A
unfolding text_number
no_atomic types image a n = let z : ◌≡◌ {A = ℕ} 15 0 = n in absurd (let y : ⊥ = omega arith in y)

-- ---- the row of a string type

module _ {types : List ℕ} {t : Ty} {d : StructDef} (r : StringRow types t d) (image : List ℕ) where
  struct_number : string_number types r.number (length image) ≡ text_number types t image
  struct_number = number_struct types t image r.there r.struct

  -- an image of the row's size: the number is 0
  pub row_fits : length image ≡ d.size → 0 ≡ text_number types t image
  row_fits l = string_fits types r.number (length image) r.row r.string l ∙ struct_number

  -- an image of another length: the number is 14
  pub row_misfits : (length image ≡ d.size → ⊥) → 14 ≡ text_number types t image
  row_misfits l = string_misfits types r.number (length image) r.row r.string l ∙ struct_number

  -- in an image of the row's size the members' rows are in the table, and the text lies in the image
  module _ {members : List ℕ} (w : Walkable types members) (l : length image ≡ d.size) where
    row_readable : TextReadable types members r.number image
    row_readable = readable t image w r.struct (sym (row_fits l))

    pub row_low : d.first < 1999
    row_low = let h = row_readable.rows in rw r.row h

    pub row_inside : 4 + capacity_at members d.first ≤ length image
    row_inside = let h = row_readable.inside in rw r.row h

    pub row_held : {n : ℕ} → n ≡ text_length (capacity_at members d.first) image → TextHeld types members t image n
    row_held e = held_struct r.struct row_readable (rw r.row at e)

-- ---- what is handed back

-- a text is said where the test holds, and is the one that is said there
tested : {p q : List ℕ} (number : ℕ) (b : Bool) → done p ≡ cond b (done q) (refused number 0) → (b ≡ true) × (p ≡ q)
tested number true e = (refl, cc)
tested number false e = cc

module _ (types members : List ℕ) (t : Ty) (image : List ℕ) where
  -- a number of 0: the text's part of the image is handed back
  pub stored_text : {n : ℕ} → 0 ≡ text_number types t image → TextHeld types members t image n
      → done (take (4 + n - 4) (drop 4 image)) ≡ text_answer types members t image
  unfolding text_answer text_part part
  stored_text {n} z h =
      let f : 4 + n - 4 ≡ text_length (capacity_of types members t) image = omega (arith, h.long) in
      rw (← z, f)

  -- any other number: it is the refusal's
  pub stored_none : {number : ℕ} → number ≡ text_number types t image → (number ≡ 0 → ⊥)
      → refused number 0 ≡ text_answer types members t image
  unfolding text_answer
  stored_none {number} e z = rw (← e, ne_eqb number 0 z)

  -- a text handed back: the number is 0, and the text is the part
  pub stored_part : {p : List ℕ} → done p ≡ text_answer types members t image
      → (text_number types t image ≡ 0) × (p ≡ text_part types members t image)
  unfolding text_answer
  stored_part {p} e =
      let h = tested (text_number types t image) (eqb (text_number types t image) 0) e in
      (eqb-true (text_number types t image) 0 h.0, h.1)
