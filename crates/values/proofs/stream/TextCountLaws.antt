-- The bytes of text of some entries (document 01, "Value stream"): those of runs and brackets, the promise of one part
-- more within the room, and the sum that a loop has so far. Entries of atomics have no text.
use Prim.Native.Nat.{ℕ, zero, suc, ◌+◌, ◌-◌, ◌^◌, ◌<◌, ◌≤◌}
use native.Mathlib.Nat.{add-zero}
use native.Mathlib.Omega.{arith}
use mathlib.Core.Path.{◌≡◌, refl, sym, ap, ◌∙◌, subst}
use mathlib.Core.Bool.{true, false}
use mathlib.Core.List.{List, [], ◌∷◌, ◌++◌, append-nil}
use lib.ListN.{length, length-append}
use Rattle.words.specs.Words.{part}
use Rattle.words.proofs.Lists.{length_part}
use Rattle.types.specs.tables.Lent.{member_at, type_at}
use Rattle.values.specs.inside.reading.Walk.{up_to, wrap, text_out, is_nested, member_by, row_by, members_by, struct_by}
use Rattle.values.specs.inside.reading.Walk.{struct_out}
use Rattle.values.specs.inside.reading.Walkable.{IsString, Walkable, ImageOf}
use Rattle.values.specs.inside.stream.Counting.{Texts}
use Rattle.values.specs.reading.Texts.{text_length, capacity_at}
use Rattle.values.specs.reading.Trees.{is_string_kind}
use Rattle.values.specs.stream.Stream.{Token, member, bodies}
use Rattle.values.proofs.reading.LeafLaws.{textless_leaf}
use Rattle.values.proofs.reading.MemberLaws.{member_leaf}
use Rattle.values.proofs.reading.UpLaws.{wrap_bodies, up_more}
use Rattle.values.proofs.reading.WalkLaws.{struct_out_lem}
use Rattle.values.proofs.stream.HeadLaws.{bodies_append}

-- ---- the promise

-- the same entries have the same bytes of text
pub texts_as : {room r : ℕ} {x y : List Token} → x ≡ y → Texts room x r → Texts room y r
texts_as {room} {r} e w = subst (λ (ts : List Token). Texts room ts r) e w

-- the texts alone count
texts_same : {room r : ℕ} {x y : List Token} → bodies x ≡ bodies y → Texts room x r → Texts room y r
texts_same e w =
    let l = ap length e in
    record {
      exact = λ h. omega (arith, w.exact h);
      over = λ h. omega (arith, w.over h);
      small = w.small;
    }

texts_wrap : {room r : ℕ} {ts : List Token} (start stop : ℕ) → Texts room ts r → Texts room (wrap start stop ts) r
texts_wrap {ts = ts} start stop w = texts_same (sym (wrap_bodies start stop ts)) w

-- a member's number adds no text
pub texts_member : {room r : ℕ} {ts : List Token} (j : ℕ) → Texts room ts r → Texts room (member j ∷ ts) r
unfolding bodies
texts_member {ts = ts} j w = texts_same {x = ts} {y = member j ∷ ts} refl w

texts_none : (room : ℕ) → Texts room [] 0
unfolding bodies
texts_none room = record { exact = λ h. refl; over = λ h. absurd (let z : ⊥ = omega arith in z); small = omega arith }

-- one part more, in the room that is left
texts_then : {room t r : ℕ} {x y : List Token} → t ≤ room → Texts room x t → Texts (room - t) y r
    → Texts room (x ++ y) (t + r)
texts_then {room} {t} {r} {x} {y} l v w =
    let s = ap length (bodies_append x y) ∙ length-append (bodies x) (bodies y) in
    let e = v.exact l in
    record {
      exact = λ h. omega (arith, w.exact (omega arith));
      over = λ h. omega (arith, w.over (omega arith));
      small = omega (arith, w.small);
    }

-- a part without text
texts_plain : {room t : ℕ} {x : List Token} (y : List Token) → bodies y ≡ [] → Texts room x t → Texts room (x ++ y) t
texts_plain {x = x} y e w =
    texts_same (sym (bodies_append x y ∙ ap (bodies x ++◌) e ∙ append-nil (bodies x))) w

-- what comes after the room is passed
texts_past : {room t : ℕ} {x : List Token} (y : List Token) → room < t → Texts room x t → Texts room (x ++ y) t
texts_past {x = x} y l w =
    let s = ap length (bodies_append x y) ∙ length-append (bodies x) (bodies y) in
    record {
      exact = λ h. absurd (let z : ⊥ = omega arith in z);
      over = λ h. omega (arith, w.over h);
      small = w.small;
    }

-- one string, whose capacity is a u32
texts_string : (capacity : ℕ) (image : List ℕ) (room : ℕ) → 4 + capacity ≤ length image → capacity < 2 ^ 32
    → Texts room (text_out capacity image) (text_length capacity image)
unfolding bodies
texts_string capacity image room h l =
    let n = text_length capacity image in
    let e = ap length (append-nil (part image 4 n)) ∙ length_part image 4 n (omega arith) in
    record { exact = λ k. e; over = λ k. omega arith; small = omega arith }

-- ---- what a loop has so far

-- of n parts the first k are summed
pub record Summed (room : ℕ) (g : ℕ → List Token) (n k t : ℕ) : Type 0 where
  pub texts : Texts room (up_to g k) t
  pub most : k ≤ n

-- before the first part the sum is 0
pub sum_start : {room n : ℕ} {g : ℕ → List Token} → Summed room g n 0 0
unfolding up_to
sum_start {room} = record { texts = texts_none room; most = omega arith }

module _ {room n k t : ℕ} {g : ℕ → List Token} (w : Summed room g n k t) (l : k < n) where
  -- the next part is summed, within the room that is left
  pub sum_on : {r : ℕ} → t ≤ room → Texts (room - t) (g k) r → Summed room g n (k + 1) (t + r)
  sum_on h v = record { texts = texts_as (sym (up_more g k)) (texts_then h w.texts v); most = omega arith }

  sum_plain : bodies (g k) ≡ [] → Summed room g n (k + 1) t
  sum_plain e = record { texts = texts_as (sym (up_more g k)) (texts_plain (g k) e w.texts); most = omega arith }

past_up : {room t : ℕ} (g : ℕ → List Token) (k d : ℕ) → room < t → Texts room (up_to g k) t
    → Texts room (up_to g (k + d)) t
unfolding up_to
past_up g k zero l w = rw add-zero w
past_up g k (suc d) l w =
    let e : k + suc d ≡ suc (k + d) = omega arith in
    rw e (texts_past (g (k + d)) l (past_up g k d l w))

module _ {room n k t : ℕ} {g : ℕ → List Token} (start stop : ℕ) (w : Summed room g n k t) where
  -- the room is passed before the end
  pub sum_past : room < t → Texts room (wrap start stop (up_to g n)) t
  sum_past l =
      let e : k + (n - k) ≡ n = omega (arith, w.most) in
      texts_wrap start stop (texts_as (ap (up_to g) e) (past_up g k (n - k) l w.texts))

  -- after the last part the sum is that of all texts
  pub sum_done : n ≤ k → Texts room (wrap start stop (up_to g n)) t
  sum_done h =
      let e : k ≡ n = omega (arith, w.most) in
      texts_wrap start stop (texts_as (ap (up_to g) e) w.texts)

-- ---- a structure

-- the first j rows of structure i are summed
pub record RowsOfTexts (types members : List ℕ) (i room : ℕ) (image : List ℕ) (j t : ℕ) : Type 0 where
  pub sum : Summed room (row_by types members (struct_out types members) (type_at types i).first image)
      (type_at types i).count j t

-- before the first row the sum is 0
pub rows_start : {types members : List ℕ} {i room : ℕ} {image : List ℕ} → RowsOfTexts types members i room image 0 0
rows_start = record { sum = sum_start }

module _ {types members : List ℕ} {i room j t : ℕ} {image : List ℕ}
    (w : RowsOfTexts types members i room image j t) where
  -- the room is passed before the last row
  pub rows_past : room < t → Texts room (members_by types members (struct_out types members) i image) t
  unfolding members_by
  rows_past l = sum_past 8 9 w.sum l

  module _ {n : ℕ} (q : n ≡ (type_at types i).count) where
    -- after the last row the sum is that of all members
    pub rows_done : n ≤ j → Texts room (members_by types members (struct_out types members) i image) t
    unfolding members_by
    rows_done l = sum_done 8 9 w.sum (omega arith)

    -- row j, where the code's first row is the table's: a structure, or no text
    module _ {first : ℕ} (e : first ≡ (type_at types i).first) (l : j < n) where
      -- row j is summed, within the room that is left
      pub rows_on : {r : ℕ} → t ≤ room
          → Texts (room - t)
          (member_by types members (struct_out types members) j (member_at members (first + j)) image) r
          → RowsOfTexts types members i room image (j + 1) (t + r)
      rows_on h v =
          let rec = struct_out types members in
          let same = ap (λ (z : ℕ). member_by types members rec j (member_at members (z + j)) image) e in
          record { sum = sum_on w.sum (omega arith) h (texts_as same v) }

      -- a row that is no structure adds no text
      pub rows_plain : is_nested (member_at members (first + j)) ≡ false
          → RowsOfTexts types members i room image (j + 1) t
      rows_plain h =
          let m = member_at members ((type_at types i).first + j) in
          let leaf = member_leaf types members (struct_out types members) j m image (rw e at h) in
          record { sum = sum_plain w.sum (omega arith) (ap bodies leaf ∙ (textless_leaf j image m).none) }

-- a structure that is no string has the texts of its members
pub members_texts : {types members : List ℕ} {i room r : ℕ} {image : List ℕ} → Walkable types members
    → ImageOf types i image → is_string_kind (type_at types i).kind ≡ false
    → Texts room (members_by types members (struct_out types members) i image) r
    → Texts room (struct_out types members i image) r
unfolding struct_by
members_texts {types} {members} {i} {image = image} w v e h = rw (struct_out_lem types members w i image v.low, e) h

-- a string, whose members begin at a row
pub record StringAt (types members : List ℕ) (i : ℕ) (image : List ℕ) (first : ℕ) : Type 0 where
  pub tables : Walkable types members
  pub whole : ImageOf types i image
  pub kind : is_string_kind (type_at types i).kind ≡ true
  pub at : first ≡ (type_at types i).first

module _ {types members : List ℕ} {i first : ℕ} {image : List ℕ} (w : StringAt types members i image first) where
  is_string : IsString members (type_at types i)
  is_string = (w.tables.each i w.whole.low).string w.kind

  -- the second row of a string is in the table
  pub string_row : first < 1999
  string_row = omega (arith, w.at, is_string.rows, (w.tables.each i w.whole.low).rows)

  -- LEN and a string's capacity lie in its image
  pub string_fits : 4 + capacity_at members first ≤ length image
  string_fits = rw w.at (omega (arith, is_string.size, w.whole.long))

  -- a string has as many bytes of text as LEN says, clipped to its capacity
  pub string_texts : {capacity : ℕ} (room : ℕ) → capacity ≡ capacity_at members first → capacity < 2 ^ 32
      → Texts room (struct_out types members i image) (text_length capacity image)
  unfolding struct_by
  string_texts {capacity} room e l =
      let z = texts_string capacity image room (omega (arith, e, string_fits)) l in
      rw (struct_out_lem types members w.tables i image w.whole.low, w.kind, ← w.at, ← e) z
