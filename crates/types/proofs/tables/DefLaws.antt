-- Laws of whole structures in the tables (document 01, "Declaration book": the tables): runs of stores leave the rows
-- beside them, parts that were stored are read back, and so is a structure with its name and its parts; its rows can
-- be read.
use Prim.Native.Nat.{ℕ, zero, suc, ◌+◌, ◌*◌, ◌≤◌, ◌<◌, ◌-◌}
use native.Mathlib.Nat.{add-zero}
use native.Mathlib.Omega.{arith}
use mathlib.Core.Path.{◌≡◌, refl, ◌∙◌, ap}
use mathlib.Core.List.{List, [], ◌∷◌}
use mathlib.Core.Logic.{◌⊎◌, inl, inr, ⊎_elim}
use lib.ListN.{length, get_or, length-append, take, drop}
use lib.Seq.{sets, length-sets}
use Rattle.words.specs.Words.{part}
use Rattle.words.proofs.Lists.{sets_append, get_d_beside, part_beside, part_run, lent_part, length_part}
use Rattle.types.specs.inside.tables.Defs.{Readable}
use Rattle.types.specs.inside.tables.Lent.{TyFits}
use Rattle.types.specs.layout.Laid.{Earlier, Every}
use Rattle.types.specs.layout.Structs.{names_of, rows_of}
use Rattle.types.specs.tables.Defs.{Part, Def, name_in, part_at, parts_at, def_of}
use Rattle.types.specs.tables.Lent.{member_row, member_at, name_at, type_at}
use Rattle.types.specs.tables.Limits.{most_types, most_members, most_names, member_words}
use Rattle.types.specs.tables.Registry.{own_names, head_of}
use Rattle.types.specs.declared.tables.member.Span.{Span}
use Rattle.types.specs.declared.tables.member.Ty.{Ty}
use Rattle.types.specs.declared.tables.member.Ty.TheVariants.{Atomic, Struct}
use Rattle.types.proofs.tables.TableLaws.{BitFits, RowStorable, Eight, member_back, name_back}

-- ---- rows beside a run of stores

module _ (t : List ℕ) (j : ℕ) (run : List ℕ) (i : ℕ) (h : (8 * i + 8 ≤ j) ⊎ (j + length run ≤ 8 * i)) where
  row_stays : Eight (sets t j run) i (get_or t (8 * i) 0) (get_or t (8 * i + 1) 0) (get_or t (8 * i + 2) 0)
      (get_or t (8 * i + 3) 0) (get_or t (8 * i + 4) 0) (get_or t (8 * i + 5) 0) (get_or t (8 * i + 6) 0)
      (get_or t (8 * i + 7) 0)
  row_stays =
      let at : (k : ℕ) → k < 8 → get_or (sets t j run) (8 * i + k) 0 ≡ get_or t (8 * i + k) 0 =
      λ k l. get_d_beside t j run (8 * i + k) 0 (⊎_elim (λ a. inl (omega arith)) (λ b. inr (omega arith)) h) in
      record {
        w0 = simp add-zero at (at 0 (omega arith));
        w1 = at 1 (omega arith);
        w2 = at 2 (omega arith);
        w3 = at 3 (omega arith);
        w4 = at 4 (omega arith);
        w5 = at 5 (omega arith);
        w6 = at 6 (omega arith);
        w7 = at 7 (omega arith);
      }

  -- the member in a row beside the run stays as it was
  pub member_stays : member_at (sets t j run) i ≡ member_at t i
  unfolding member_at
  member_stays =
      let w = row_stays in
      simp (w.w2, w.w3, w.w4, w.w5, w.w6, w.w7)

  -- the place of the name in a row beside the run stays as it was
  pub name_stays : name_at (sets t j run) i ≡ name_at t i
  unfolding name_at
  name_stays =
      let w = row_stays in
      simp (w.w0, w.w1)

  -- the structure in a row beside the run stays as it was
  pub type_stays : type_at (sets t j run) i ≡ type_at t i
  unfolding type_at
  type_stays =
      let w = row_stays in
      simp (w.w0, w.w1, w.w2, w.w3, w.w4, w.w5, w.w6, w.w7)

-- ---- parts

-- a part that a row can hold, whose type is an atomic or one of the first n
pub record PartFits (n : ℕ) (p : Part) : Type 0 where
  pub bit : BitFits p.member.bit
  pub access : p.member.access < 256
  pub earlier : Earlier n p.member.ty

storable : {n : ℕ} {p : Part} → PartFits n p → RowStorable p.member
storable f = record { bit = f.bit; access = f.access }

names_long : (p : Part) (ps : List Part) → length (names_of (p ∷ ps)) ≡ length p.name + length (names_of ps)
unfolding names_of
names_long p ps = length-append p.name (names_of ps)

-- the rows of some parts are the row of the first, then the rows of the others
abbrev part_row : ℕ → Part → List ℕ
part_row at p = member_row (record { at = at; long = length p.name }) p.member

rows_first : (m : List ℕ) (row at : ℕ) (p : Part) (ps : List Part) → sets m (8 * row) (rows_of at (p ∷ ps))
    ≡ sets (sets m (8 * row) (part_row at p)) (8 * (row + 1)) (rows_of (at + length p.name) ps)
unfolding rows_of member_row
rows_first m row at p ps =
    let e : 8 * (row + 1) ≡ 8 * row + 8 = omega arith in
    rw e (sets_append m (8 * row) (part_row at p) (rows_of (at + length p.name) ps))

names_first : (t : List ℕ) (at : ℕ) (p : Part) (ps : List Part)
    → sets t at (names_of (p ∷ ps)) ≡ sets (sets t at p.name) (at + length p.name) (names_of ps)
unfolding names_of
names_first t at p ps = sets_append t at p.name (names_of ps)

-- the first of some stored parts
module _ (m : List ℕ) (row at : ℕ) (p : Part) (run : List ℕ) (l : 8 * row + 8 ≤ length m) where
  first_member : RowStorable p.member
      → member_at (sets (sets m (8 * row) (part_row at p)) (8 * (row + 1)) run) row ≡ p.member
  first_member s =
      member_stays (sets m (8 * row) (part_row at p)) (8 * (row + 1)) run row (inl (omega arith))
      ∙ member_back m row _ p.member l s

  first_name : name_at (sets (sets m (8 * row) (part_row at p)) (8 * (row + 1)) run) row
      ≡ record { at = at; long = length p.name }
  first_name =
      name_stays (sets m (8 * row) (part_row at p)) (8 * (row + 1)) run row (inl (omega arith))
      ∙ name_back m row p.member l

  first_part : (t bytes : List ℕ) → at + length p.name ≤ length t → RowStorable p.member
      → part_at (sets (sets m (8 * row) (part_row at p)) (8 * (row + 1)) run)
      (sets (sets t at p.name) (at + length p.name) bytes) row
      ≡ p
  unfolding part_at
  first_part t bytes k s =
      let e : part (sets (sets t at p.name) (at + length p.name) bytes) at (length p.name) ≡ p.name =
      part_beside (sets t at p.name) (at + length p.name) bytes at (length p.name) (inl (omega arith))
      ∙ part_run t at p.name k in
      rw (first_member s, first_name) (rw e)

parts_none : (m t : List ℕ) (row : ℕ) → parts_at m t row 0 ≡ []
unfolding parts_at
parts_none m t row = refl

parts_first : (m t : List ℕ) (row n : ℕ) {p : Part} {ps : List Part} → part_at m t row ≡ p
    → parts_at m t (row + 1) n ≡ ps → parts_at m t row (suc n) ≡ p ∷ ps
unfolding parts_at
parts_first m t row n e r = rw (e, r)

-- stored parts are read back
pub parts_back : (m t : List ℕ) (row at n : ℕ) (ps : List Part) → 8 * row + 8 * length ps ≤ length m
    → at + length (names_of ps) ≤ length t → Every (PartFits n) ps
    → parts_at (sets m (8 * row) (rows_of at ps)) (sets t at (names_of ps)) row (length ps) ≡ ps
unfolding Every
parts_back m t row at n [] h k f = parts_none _ _ row
parts_back m t row at n (p ∷ ps) h k f =
    let e : length (names_of (p ∷ ps)) ≡ length p.name + length (names_of ps) = names_long p ps in
    let m1 = sets m (8 * row) (part_row at p) in
    let t1 = sets t at p.name in
    let run = rows_of (at + length p.name) ps in
    let bytes = names_of ps in
    let rest : parts_at (sets m1 (8 * (row + 1)) run) (sets t1 (at + length p.name) bytes) (row + 1) (length ps) ≡ ps =
    parts_back m1 t1 (row + 1) (at + length p.name) n ps
    (omega (arith, length-sets m (8 * row) (part_row at p))) (omega (arith, length-sets t at p.name)) f.1 in
    rw (rows_first m row at p ps, names_first t at p ps)
    (parts_first _ _ row (length ps) (first_part m row at p run (omega arith) t bytes (omega arith) (storable f.0))
    rest)

-- runs of stores after some parts leave them: after their rows, and from the end of their names on
pub parts_beside : (m t : List ℕ) (row n j : ℕ) (run : List ℕ) (edge : ℕ) (bytes : List ℕ) → 8 * (row + n) ≤ j
    → ((k : ℕ) → k < n → (name_at m (row + k)).at + (name_at m (row + k)).long ≤ edge)
    → parts_at (sets m j run) (sets t edge bytes) row n ≡ parts_at m t row n
unfolding parts_at part_at
parts_beside m t row zero j run edge bytes l h = refl
parts_beside m t row (suc n) j run edge bytes l h =
    let e : (name_at m row).at + (name_at m row).long ≤ edge = rw add-zero at (h 0 (omega arith)) in
    let same : name_in (sets t edge bytes) (name_at m row) ≡ name_in t (name_at m row) =
    part_beside t edge bytes (name_at m row).at (name_at m row).long (inl e) in
    let rest : parts_at (sets m j run) (sets t edge bytes) (row + 1) n ≡ parts_at m t (row + 1) n =
    parts_beside m t (row + 1) n j run edge bytes (omega arith) (λ k o. later k o) in
    rw (member_stays m j run row (inl (omega arith)), name_stays m j run row (inl (omega arith)), same, rest)
  where
    later : (k : ℕ) → k < n → (name_at m (row + 1 + k)).at + (name_at m (row + 1 + k)).long ≤ edge
    later k o =
        let e : row + 1 + k ≡ row + suc k = omega arith in
        rw e (h (suc k) (omega arith))

-- ---- a structure

-- a stored structure, whose row says where its names and its members begin, is read back
pub def_back : (m t : List ℕ) (row at n : ℕ) (d : Def) → 8 * row + 8 * length d.parts ≤ length m
    → at + length (own_names d) ≤ length t → Every (PartFits n) d.parts
    → def_of (sets m (8 * row) (rows_of (at + length d.name) d.parts)) (sets t at (own_names d)) (head_of at row d)
    ≡ d
unfolding def_of
def_back m t row at n d h k f =
    let long : length (own_names d) ≡ length d.name + length (names_of d.parts) =
    length-append d.name (names_of d.parts) in
    let t1 = sets t at d.name in
    let own : part (sets t1 (at + length d.name) (names_of d.parts)) at (length d.name) ≡ d.name =
    part_beside t1 (at + length d.name) (names_of d.parts) at (length d.name) (inl (omega arith))
    ∙ part_run t at d.name (omega arith) in
    rw (
      sets_append t at d.name (names_of d.parts),
      own,
      parts_back m t1 row (at + length d.name) n d.parts h (omega (arith, length-sets t at d.name)) f,
    )

-- a row whose name ends at or below a place, and whose type is an atomic or one of the first n
pub record RowWithin (m : List ℕ) (n edge row : ℕ) : Type 0 where
  pub name : (name_at m row).at + (name_at m row).long ≤ edge
  pub earlier : Earlier n (member_at m row).ty

-- in the rows of stored parts each name ends at or before the end of all their names, each type is earlier
pub rows_within : (m : List ℕ) (row at n : ℕ) (ps : List Part) → 8 * row + 8 * length ps ≤ length m
    → Every (PartFits n) ps → (k : ℕ) → k < length ps
    → RowWithin (sets m (8 * row) (rows_of at ps)) n (at + length (names_of ps)) (row + k)
unfolding Every
rows_within m row at n [] h f k l = absurd (omega arith)
rows_within m row at n (p ∷ ps) h f zero l =
    let e : row + 0 ≡ row = omega arith in
    let q = names_long p ps in
    rw (e, rows_first m row at p ps)
    record {
      name = rw (first_name m row at p _ (omega arith)) (omega arith);
      earlier = rw (first_member m row at p _ (omega arith) (storable f.0)) f.0.earlier;
    }
rows_within m row at n (p ∷ ps) h f (suc k) l =
    let e : row + suc k ≡ row + 1 + k = omega arith in
    let q : at + length (names_of (p ∷ ps)) ≡ at + length p.name + length (names_of ps) =
    omega (arith, names_long p ps) in
    rw (e, q, rows_first m row at p ps)
    (rows_within (sets m (8 * row) (part_row at p)) (row + 1) (at + length p.name) n ps
    (omega (arith, length-sets m (8 * row) (part_row at p))) f.1 k (omega arith))

-- with at most 200 types, an earlier type is an atomic or a structure below 200
pub earlier_fits : (n : ℕ) → n ≤ most_types → (ty : Ty) → Earlier n ty → TyFits ty
earlier_fits n h (Atomic a) e = tt
earlier_fits n h (Struct k) e = omega arith

-- and so is the type of a member whose row names an earlier one
pub within_fits : {m : List ℕ} {n edge row : ℕ} → n ≤ most_types → RowWithin m n edge row → TyFits (member_at m row).ty
within_fits {m} {n} {edge} {row} h w = earlier_fits n h (member_at m row).ty w.earlier

-- once the parts of a structure are stored, its rows can be read
pub head_readable : (m : List ℕ) (row at n : ℕ) (d : Def) → length m ≡ member_words
    → row + length d.parts ≤ most_members
    → at + length (own_names d) ≤ most_names → n ≤ most_types → Every (PartFits n) d.parts
    → Readable (sets m (8 * row) (rows_of (at + length d.name) d.parts)) (head_of at row d)
head_readable m row at n d z h k few f =
    let long : length (own_names d) ≡ length d.name + length (names_of d.parts) =
    length-append d.name (names_of d.parts) in
    let within = rows_within m row (at + length d.name) n d.parts (omega arith) f in
    record {
      name = omega arith;
      rows = h;
      names = λ i l. omega (arith, (within i l).name);
      types = λ i l. within_fits few (within i l);
    }

-- ---- a name that is lent

-- the part that is lent for a name, by the place and the length that the code has, is the name
pub lent_name : (names : List ℕ) (s : Span) {from long : ℕ} → from ≡ s.at → long ≡ s.long
    → take (from + long - from) (drop from names) ≡ name_in names s
lent_name names s p q = rw (p, q) (lent_part names s.at s.long)

-- it is as long as the name
pub lent_name_long : (names : List ℕ) {s : Span} {from long : ℕ} → from ≡ s.at → long ≡ s.long
    → s.at + s.long ≤ length names → length (take (from + long - from) (drop from names)) ≡ s.long
lent_name_long names {s} p q h = ap length (lent_name names s p q) ∙ length_part names s.at s.long h
