-- Steps of the walk (document 01, "Reading"): a structure is a string or its members; these are its rows in brackets,
-- each a leaf or a nested structure in its turn; an array of structures is its elements in brackets.
use Prim.Native.Nat.{ℕ, ◌+◌, ◌*◌, ◌<◌, ◌≤◌}
use native.Mathlib.Omega.{arith}
use mathlib.Core.Path.{◌≡◌, sym, ap, ◌∙◌}
use mathlib.Core.Bool.{Bool, true, false, cond}
use mathlib.Core.List.{List, ◌∷◌}
use lib.ListN.{length}
use lib.Seq.{sets}
use Rattle.types.specs.tables.Lent.{member_at, type_at}
use Rattle.types.specs.tables.Sizes.{sizes_in}
use Rattle.types.specs.declared.tables.member.Member.{Member}
use Rattle.types.specs.declared.tables.member.StructDef.{StructDef}
use Rattle.values.specs.inside.reading.Walk.{up_to, wrap, text_out, is_nested, leaf_out, element_by, elements_by}
use Rattle.values.specs.inside.reading.Walk.{member_by, row_by, members_by, struct_by, struct_out}
use Rattle.values.specs.inside.reading.Walkable.{IsString, HeldIn, Walkable, RowOf, NestedRow, ImageOf, ImagesOf}
use Rattle.values.specs.inside.stream.Laying.{EntriesPut, StreamRoom, TokensLaid}
use Rattle.values.specs.reading.Texts.{capacity_at}
use Rattle.values.specs.reading.Trees.{is_string_kind}
use Rattle.values.specs.stream.Stream.{Token, member, entry_bytes}
use Rattle.values.specs.declared.reading.rows.Nested.{Nested}
use Rattle.values.specs.declared.stream.place.Place.{Place}
use Rattle.values.proofs.reading.LeafLaws.{textless_leaf}
use Rattle.values.proofs.reading.MemberLaws.{nested_shown, member_leaf, row_of}
use Rattle.values.proofs.reading.PartLaws.{lent, element_image, element_is, HeldRow, one_image}
use Rattle.values.proofs.reading.PartLaws.{one_is, some_images, some_is}
use Rattle.values.proofs.reading.WalkLaws.{struct_out_lem}
use Rattle.values.proofs.stream.LayingLaws.{room_one, room_all, room_as, wrote_as, value_room, value_wrote}
use Rattle.values.proofs.stream.LayingLaws.{EntriesRun, run_start, run_room, run_turn, run_end}
use Rattle.values.proofs.stream.PutLaws.{put_wrote}

-- ---- a structure, where d was read from its row

module _ {types members : List ℕ} (w : Walkable types members) {i : ℕ} {image : List ℕ} (whole : ImageOf types i image)
    {d : StructDef} (is : d ≡ type_at types i) {b : Bool} (test : b ≡ is_string_kind d.kind) where
  struct_is : struct_out types members i image
      ≡ cond b (text_out (capacity_at members d.first) image)
      (members_by types members (struct_out types members) i image)
  unfolding struct_by
  struct_is = struct_out_lem types members w i image whole.low ∙ rw (test, is)

  -- a structure that is no string gives its members
  pub members_are : b ≡ false
      → struct_out types members i image ≡ members_by types members (struct_out types members) i image
  members_are e = struct_is ∙ rw e

  module _ (string : b ≡ true) {first : ℕ} (p : first ≡ d.first) where
    type_string : IsString members (type_at types i)
    type_string =
        (w.each i whole.low).string (ap (λ (x : StructDef). is_string_kind x.kind) (sym is) ∙ sym test ∙ string)

    first_row_is : first ≡ (type_at types i).first
    first_row_is = p ∙ ap (λ (x : StructDef). x.first) is

    module _ {capacity : ℕ} (q : capacity ≡ capacity_at members first) where
      -- LEN and a string's capacity lie in its image
      pub string_fits : 4 + capacity ≤ length image
      string_fits =
          let e : capacity ≡ capacity_at members (type_at types i).first = q ∙ ap (capacity_at members) first_row_is in
          omega (arith, whole.long, type_string.size)

      -- a string gives its text
      pub string_is : struct_out types members i image ≡ text_out capacity image
      string_is = struct_is ∙ rw (string, q, p)

-- ---- its members

-- the open bracket has room
pub members_room : (types members : List ℕ) (rec : ℕ → List ℕ → List Token) (i : ℕ) (image : List ℕ)
    {long base at text : ℕ} → StreamRoom long base at text (members_by types members rec i image) → at + 12 ≤ long
unfolding members_by
members_room types members rec i image r = (room_one r).0

rows_are : (types members : List ℕ) (rec : ℕ → List ℕ → List Token) (i : ℕ) (image : List ℕ) {first n : ℕ}
    {d : StructDef} → d ≡ type_at types i → first ≡ d.first → n ≡ d.count
    → members_by types members rec i image ≡ wrap 8 9 (up_to (row_by types members rec first image) n)
unfolding members_by
rows_are types members rec i image is f c = rw (c, f, is)

-- the rows before row j are written
pub record RowsRead (types members : List ℕ) (i : ℕ) (image : List ℕ) (first n : ℕ) (out : List ℕ) (base at text j : ℕ)
    (new : List ℕ) (p t : ℕ) : Type 0 where
  pub run : EntriesRun (row_by types members (struct_out types members) first image) n 9 out base at text j new p t
  pub walk : Walkable types members
  pub whole : ImageOf types i image
  pub rows : (k : ℕ) → k < n → RowOf types members i (first + k)

module _ {types members image : List ℕ} {i first n : ℕ} {d : StructDef} (is : d ≡ type_at types i) (f : first ≡ d.first)
    (c : n ≡ d.count) (out : List ℕ) {mid : List ℕ} {base at text : ℕ}
    (room : StreamRoom (length out) base at text (members_by types members (struct_out types members) i image))
    (put : mid ≡ sets out at (entry_bytes 8 0)) where
  -- the open bracket is put, and no row is written yet
  pub rows_start : Walkable types members → ImageOf types i image
      → RowsRead types members i image first n mid base (at + 12) text 0 mid (at + 12) text
  rows_start w whole =
      let e = rows_are types members (struct_out types members) i image is f c in
      record {
        run = run_start out (room_as e room) put;
        walk = w;
        whole = whole;
        rows = λ k h.
            row_of w whole.low (f ∙ ap (λ (x : StructDef). x.first) is) (c ∙ ap (λ (x : StructDef). x.count) is) h;
      }

  -- all rows are written and the close bracket is put: the structure's members
  pub rows_end : {j p t : ℕ} {new last : List ℕ}
      → RowsRead types members i image first n mid base (at + 12) text j new p t → n ≤ j
      → last ≡ sets new p (entry_bytes 9 0)
      → TokensLaid out base at text (members_by types members (struct_out types members) i image) last
      (record { at = p + 12; text = t })
  rows_end w h v =
      let e = rows_are types members (struct_out types members) i image is f c in
      wrote_as e (run_end (room_as e room) put w.run h v)

module _ {types members image out new : List ℕ} {i first n base at text j p t : ℕ}
    (w : RowsRead types members i image first n out base at text j new p t) (h : j < n) {b : Bool}
    (test : b ≡ is_nested (member_at members (first + j))) where
  on : {last : List ℕ} {r : Place}
      → TokensLaid new base p t
      (member_by types members (struct_out types members) j (member_at members (first + j)) image)
      last r
      → RowsRead types members i image first n out base at text (j + 1) last r.at r.text
  on v = record { run = run_turn w.run h v; walk = w.walk; whole = w.whole; rows = w.rows }

  -- row j is a structure, or an array of structures
  module _ (nested : b ≡ true) where
    -- a nested row in its turn: the tables, the row and the image are right, and it has room
    pub nested_asks : (Walkable types members × (NestedRow types members i (first + j) × ImageOf types i image))
        × StreamRoom (length new) base p t
        (member_by types members (struct_out types members) j (member_at members (first + j)) image)
    nested_asks =
        ((w.walk, (record { row_of = w.rows j h; nested = sym test ∙ nested }, w.whole)), run_room w.run h)

    -- a nested row is written: one row more
    pub nested_on : {last : List ℕ} {r : Place}
        → TokensLaid new base p t
        (member_by types members (struct_out types members) j (member_at members (first + j)) image)
        last r
        → RowsRead types members i image first n out base at text (j + 1) last r.at r.text
    nested_on v = on v

  -- it is neither
  module _ (leaf : b ≡ false) where
    row_leaf : member_by types members (struct_out types members) j (member_at members (first + j)) image
        ≡ leaf_out j (member_at members (first + j)) image
    row_leaf =
        member_leaf types members (struct_out types members) j (member_at members (first + j)) image (sym test ∙ leaf)

    -- a row that is no structure, in its turn: the row and the image are right, and it has room
    pub leaf_asks : (RowOf types members i (first + j) × ImageOf types i image)
        × (p + 12 * length (leaf_out j (member_at members (first + j)) image) ≤ length new)
    leaf_asks = ((w.rows j h, w.whole), room_all (room_as row_leaf (run_room w.run h)))

    -- a row that is no structure is put: one row more
    pub leaf_on : {last : List ℕ} {r : ℕ} → EntriesPut new p (leaf_out j (member_at members (first + j)) image) last r
        → RowsRead types members i image first n out base at text (j + 1) last r t
    leaf_on v = on (wrote_as row_leaf (put_wrote base t (textless_leaf j image _) v))

-- ---- a structure, or an array of structures, in a row

-- where a nested row's entries have room, its number has
pub nested_room : (types members : List ℕ) (rec : ℕ → List ℕ → List Token) (j : ℕ) (x : Member) (image : List ℕ)
    {long base at text : ℕ} → is_nested x ≡ true → StreamRoom long base at text (member_by types members rec j x image)
    → at + 12 ≤ long
unfolding member_by
nested_room types members rec j x image e r = (room_one (rw (nested_shown x e) at r)).0

-- its number is put
pub record Nesting (types members : List ℕ) (i row j : ℕ) (image out : List ℕ) (base at text : ℕ) (mid : List ℕ)
    (r : Nested) (size : ℕ) : Type 0 where
  pub held : HeldRow types members i row image r size
  pub walk : Walkable types members
  pub room : StreamRoom (length out) base at text
      (member_by types members (struct_out types members) j (member_at members row) image)
  pub put : mid ≡ sets out at (entry_bytes 7 j)

-- a row that holds a structure of that size, and the image that it is read from
pub held_row : {types members image : List ℕ} {i row size : ℕ} {r : Nested}
    → NestedRow types members i row × ImageOf types i image → HeldIn (member_at members row) r
    → size ≡ sizes_in types r.structure → HeldRow types members i row image r size
held_row w held long = record { nested = w.0; whole = w.1; held = held; long = long }

-- a row that holds a structure has room, and its number is put
pub nesting : {types members image : List ℕ} (out : List ℕ) {mid : List ℕ} {i row j base at text size : ℕ} {r : Nested}
    → Walkable types members → HeldRow types members i row image r size
    → StreamRoom (length out) base at text
    (member_by types members (struct_out types members) j (member_at members row) image)
    → mid ≡ sets out at (entry_bytes 7 j) → Nesting types members i row j image out base at text mid r size
nesting out walk held room put = record { held = held; walk = walk; room = room; put = put }

module _ {types members : List ℕ} {i row j : ℕ} {image out : List ℕ} {base at text : ℕ} {mid : List ℕ}
    {r : Nested} {size : ℕ} (w : Nesting types members i row j image out base at text mid r size) where
  -- the bytes of one structure, and of so many
  abbrev alone : List ℕ
  alone = lent image r.start (r.start + size)

  abbrev together : List ℕ
  together = lent image r.start (r.start + size * r.count)

  -- what they give, and what the member gives
  abbrev struct : List Token
  struct = struct_out types members r.structure alone

  abbrev elements : List Token
  elements = elements_by types members (struct_out types members) r.structure r.count together

  abbrev all : List Token
  all = member_by types members (struct_out types members) j (member_at members row) image

  module _ (none : r.count ≡ 0) where
    one : all ≡ member j ∷ struct
    one = sym (one_is w.held none (struct_out types members) j)

    -- one structure in a row: its bytes are an image of it, and it has room after the number
    pub one_asks : (Walkable types members × ImageOf types r.structure alone)
        × StreamRoom (length mid) base (at + 12) text struct
    one_asks = ((w.walk, one_image w.held none), value_room out (room_as one w.room) w.put)

    -- one structure in a row: the number and then the structure are written, the whole member
    pub one_wrote : {new : List ℕ} {p : Place} → TokensLaid mid base (at + 12) text struct new p
        → TokensLaid out base at text all new p
    one_wrote v = wrote_as one (value_wrote out (room_as one w.room) w.put v)

  module _ (many : r.count ≡ 0 → ⊥) where
    some : all ≡ member j ∷ elements
    some = sym (some_is w.held many (struct_out types members) j)

    -- an array of structures in a row: its bytes are an image of them, and it has room after the number
    pub some_asks : (Walkable types members × ImagesOf types r.structure r.count together)
        × StreamRoom (length mid) base (at + 12) text elements
    some_asks = ((w.walk, some_images w.held many), value_room out (room_as some w.room) w.put)

    -- an array of structures in a row: the number and then the array are written, the whole member
    pub some_wrote : {new : List ℕ} {p : Place} → TokensLaid mid base (at + 12) text elements new p
        → TokensLaid out base at text all new p
    some_wrote v = wrote_as some (value_wrote out (room_as some w.room) w.put v)

-- ---- an array of structures

-- the elements before element k are written
pub record ElementsRead (types members : List ℕ) (i n : ℕ) (image : List ℕ) (size : ℕ) (out : List ℕ)
    (base at text k : ℕ)
    (new : List ℕ) (p t : ℕ) : Type 0 where
  pub run : EntriesRun (element_by types members (struct_out types members) i image) n 11 out base at text k new p t
  pub walk : Walkable types members
  pub whole : ImagesOf types i n image
  pub long : size ≡ sizes_in types i

-- the open bracket has room
pub elements_room : (types members : List ℕ) (rec : ℕ → List ℕ → List Token) (i n : ℕ) (image : List ℕ)
    {long base at text : ℕ} → StreamRoom long base at text (elements_by types members rec i n image) → at + 12 ≤ long
unfolding elements_by
elements_room types members rec i n image r = (room_one r).0

module _ {types members image : List ℕ} {i n : ℕ} (out : List ℕ) {mid : List ℕ} {base at text : ℕ}
    (room : StreamRoom (length out) base at text (elements_by types members (struct_out types members) i n image))
    (put : mid ≡ sets out at (entry_bytes 10 0)) where
  -- the open bracket is put, and no element is written yet
  pub elements_start : {size : ℕ} → Walkable types members → ImagesOf types i n image → size ≡ sizes_in types i
      → ElementsRead types members i n image size mid base (at + 12) text 0 mid (at + 12) text
  unfolding elements_by
  elements_start w whole z = record { run = run_start out room put; walk = w; whole = whole; long = z }

  -- all elements are written and the close bracket is put: the array
  pub elements_end : {size k p t : ℕ} {new last : List ℕ}
      → ElementsRead types members i n image size mid base (at + 12) text k new p t → n ≤ k
      → last ≡ sets new p (entry_bytes 11 0)
      → TokensLaid out base at text (elements_by types members (struct_out types members) i n image) last
      (record { at = p + 12; text = t })
  unfolding elements_by
  elements_end w h e = run_end room put w.run h e

module _ {types members image out new : List ℕ} {i n size base at text k p t : ℕ}
    (w : ElementsRead types members i n image size out base at text k new p t) (h : k < n) where
  element : element_by types members (struct_out types members) i image k
      ≡ struct_out types members i (lent image (size * k) (size * k + size))
  element = sym (element_is w.whole w.long members (struct_out types members) k)

  -- the next element: its bytes are an image of its structure, and it has room
  pub element_asks : (Walkable types members × ImageOf types i (lent image (size * k) (size * k + size)))
      × StreamRoom (length new) base p t (struct_out types members i (lent image (size * k) (size * k + size)))
  element_asks = ((w.walk, element_image w.whole w.long k h), room_as element (run_room w.run h))

  -- the next element is written: one element more
  pub element_on : {last : List ℕ} {r : Place}
      → TokensLaid new base p t (struct_out types members i (lent image (size * k) (size * k + size))) last r
      → ElementsRead types members i n image size out base at text (k + 1) last r.at r.text
  element_on v =
      record { run = run_turn w.run h (wrote_as element v); walk = w.walk; whole = w.whole; long = w.long }
