-- Laws of storing a new type: what its declared members give its functions to count on, and how the stored name, parts
-- and row are what the definition says.
use Rattle.std.specs.Prelude.{Result, Ok, Err}
use Prim.Native.Nat.{ℕ, zero, suc, ◌+◌, ◌*◌, ◌<◌, ◌≤◌}
use native.Mathlib.Omega.{arith}
use mathlib.Core.Path.{◌≡◌, refl, sym, ap, ◌∙◌}
use mathlib.Core.Bool.{Bool, true, false, ◌&&◌}
use mathlib.Core.List.{List, ◌++◌}
use borrow.Author.Tests.{ltb-true, leb-true, le-leb}
use lib.Dec.{leb, ltb}
use lib.ListN.{length, get_or}
use lib.Seq.{sets}
use Rattle.words.specs.Words.{Bytes}
use Rattle.words.proofs.Lists.{sets_append}
use Rattle.words.proofs.TestLaws.{and_left, and_right}
use Rattle.words.proofs.WordLaws.{word_below}
use Rattle.types.specs.adding.Add.{Verdict, no, yes, room_in_tables, new_def, fitted}
use Rattle.types.specs.book.Decls.{resolved}
use Rattle.types.specs.inside.adding.Add.{Took, Usable, Ready, Declared}
use Rattle.types.specs.inside.book.Decls.{decl_at, decls_from, Found}
use Rattle.types.specs.inside.tables.Defs.{Readable}
use Rattle.types.specs.inside.tables.Registry.{view_in, bare_head, with_handle, used_with}
use Rattle.types.specs.layout.Laid.{Every}
use Rattle.types.specs.layout.Structs.{names_of, rows_of, named_in}
use Rattle.types.specs.refusals.Said.{why_of}
use Rattle.types.specs.tables.Defs.{Part, Def}
use Rattle.types.specs.tables.Lent.{ty_of_word, type_row}
use Rattle.types.specs.tables.Limits.{most_types, most_members, most_names, member_words}
use Rattle.types.specs.tables.Registry.{head_of}
use Rattle.types.specs.templates.Handle.{handle_of}
use Rattle.types.specs.templates.Template.{template_in}
use Rattle.types.specs.declared.adding.used.Used.{Used}
use Rattle.types.specs.declared.refusals.refusal.Refusal.{Refusal}
use Rattle.types.specs.declared.refusals.refusal.Refusal.TheVariants.{TablesFull}
use Rattle.types.specs.declared.tables.member.StructDef.{StructDef}
use Rattle.types.specs.declared.tables.member.StructKind.{StructKind}
use Rattle.types.proofs.adding.AddLaws.{DeclAble, row_same, fitted_no, fitted_yes}
use Rattle.types.proofs.adding.RoomLaws.{room_bytes}
use Rattle.types.proofs.layout.FoundLaws.{decl_resolved, all_named}
use Rattle.types.proofs.tables.DefLaws.{PartFits, earlier_fits, head_readable}

-- ---- the declared members

module _ {book tys : List ℕ} {known at n : ℕ} (d : Declared book tys known at n) where
  -- of at most 200 known types: the declared members lie in the book, and their types were found
  pub declared_found : known ≤ most_types → Found book tys at n
  declared_found l =
      record {
        inside = d.inside.inside;
        known = d.room;
        types = λ k h. earlier_fits known l (ty_of_word (get_or tys k 0)) (d.earlier k h);
      }

  module _ (types : List ℕ) where
    decl_able : Bytes book → (k : ℕ) → k < n → DeclAble known (decl_at types book tys at k)
    unfolding decl_at resolved
    decl_able b k l =
        record {
          access = word_below 1 book (at + 16 * k + 7) b;
          earlier = (decl_resolved types book tys at known k (d.earlier k l)).earlier;
        }

    all_able : Bytes book → (k m : ℕ) → k + m ≤ n → Every (DeclAble known) (decls_from types book tys at k m)
    unfolding decls_from Every
    all_able b k zero l = tt
    all_able b k (suc m) l = (decl_able b k (omega arith), all_able b (k + 1) m (omega arith))

    -- each declared member's access is a byte, and its type is an earlier one
    pub decls_able : Bytes book → Every (DeclAble known) (decls_from types book tys at 0 n)
    decls_able b = all_able b 0 n (omega arith)

    -- their names lie in the book
    pub decl_inside : (k : ℕ) → k < n
        → (decl_at types book tys at k).name.at + (decl_at types book tys at k).name.long ≤ length book
    unfolding decl_at resolved
    decl_inside k l = d.inside.names k l

    -- the name of each declared member is as long as its entry says
    pub decls_named : Every (λ e. length (named_in book e) ≡ e.name.long) (decls_from types book tys at 0 n)
    decls_named = all_named types book tys at known n decl_inside

-- ---- room

-- one more type, m members and b bytes of names fit into the tables after what is used
pub record Roomy (u : Used) (m b : ℕ) : Type 0 where
  pub types : u.types < most_types
  pub members : u.members + m ≤ most_members
  pub bytes : u.bytes + b ≤ most_names

-- where the test for room is passed, the type, its members and its names fit into the tables
pub roomy : (u : Used) (members bytes : ℕ) → true ≡ room_in_tables u members bytes → Roomy u members bytes
unfolding room_in_tables
roomy u members bytes e =
    let a = ltb u.types most_types in
    let b = leb (u.members + members) most_members in
    let c = leb (u.bytes + bytes) most_names in
    let f = sym e in
    record {
      types = ltb-true _ _ (and_left a b (and_left (a && b) c f));
      members = leb-true _ _ (and_right a b (and_left (a && b) c f));
      bytes = leb-true _ _ (and_right (a && b) c f);
    }

-- ---- a new type is stored

-- a type's name and parts, counted: so many parts, so many bytes of names, and rows can hold them after n types
pub record PartsCounted (name : List ℕ) (parts : List Part) (n k l : ℕ) : Type 0 where
  pub count : length parts ≡ k
  pub long : length (name ++ names_of parts) ≡ l
  pub fit : Every (PartFits n) parts

module _ (types members names : List ℕ) (u : Used) {name : List ℕ} {parts : List Part} {count long : ℕ}
    (p : PartsCounted name parts u.types count long) (id size : ℕ) (kind : StructKind) {r : Bool}
    (e : r ≡ room_in_tables u count long) where
  abbrev new : Def
  new = new_def (view_in types names u) name id size kind parts

  abbrev bare : Def
  bare = record { name = name; id = id; handle = 0; size = size; kind = kind; parts = parts }

  abbrev head : StructDef
  head = bare_head u (length name) id size kind count

  same_head : head ≡ head_of u.bytes u.members bare
  same_head = rw (← p.count)

  room : r ≡ room_in_tables u (length parts) (length (name ++ names_of parts))
  room = rw (p.count, p.long) e

  -- without room 13 is answered, and the three tables stay as they were
  pub stored_full : (i : ℕ) → r ≡ false
      → Took (fitted (view_in types names u) i new) u types members names types members names (Err (TablesFull i))
  stored_full i q =
      rw (fitted_no types members names u name id size kind parts i r room q)
      (record { is = refl; types = refl; members = refl; names = refl })

  module _ (q : r ≡ true) where
    -- with room for what was counted, the verdict is the new type
    pub stored_yes : (i : ℕ) → fitted (view_in types names u) i new ≡ yes new
    stored_yes i = fitted_yes types members names u name id size kind parts i r room q

    pub stored_room : Roomy u count long
    stored_room = roomy u count long (sym q ∙ e)

    module _ (ready : Usable types names u) (m : length members ≡ member_words) where
      rows_fit : u.members + length parts ≤ most_members
      rows_fit = omega (arith, p.count, stored_room.members)

      names_fit : u.bytes + length (name ++ names_of parts) ≤ most_names
      names_fit = omega (arith, p.long, stored_room.bytes)

      -- once its parts are stored, the row of the type can be read
      pub stored_readable : Readable (sets members (8 * u.members) (rows_of (u.bytes + length name) parts)) head
      stored_readable =
          rw same_head
          (head_readable members u.members u.bytes u.types bare m rows_fit names_fit ready.rows.few
          p.fit)

      -- the verdict was carried out
      pub stored_took : (i : ℕ) → length names ≡ most_names → {t' m' n' : List ℕ}
          → m' ≡ sets members (8 * u.members) (rows_of (u.bytes + length name) parts)
          → n' ≡ sets (sets names u.bytes name) (u.bytes + length name) (names_of parts)
          → t' ≡ sets types (8 * u.types) (type_row (with_handle head (handle_of (template_in types m' n' head))))
          → Took (fitted (view_in types names u) i new) u types members names t' m' n' (Ok (used_with u count long))
      unfolding new_def
      stored_took i k em en et =
          let en' = en ∙ sym (sets_append names u.bytes name (names_of parts)) in
          let et' = rw (← p.count, em, en') at et in
          let same = row_same types members names u name id size kind parts ready p.fit m k rows_fit names_fit in
          rw (fitted_yes types members names u name id size kind parts i r room q, ← p.count, ← p.long)
          (record {
            is = refl;
            types = et' ∙ ap (λ (h : StructDef). sets types (8 * u.types) (type_row h)) same;
            members = em;
            names = en';
          })

-- a type for which the tables are ready is stored: its name, parts and row
module _ (types members names : List ℕ) (u : Used) {name : List ℕ} {parts : List Part} {k l : ℕ}
    (p : PartsCounted name parts u.types k l) (id size : ℕ) (kind : StructKind)
    (ready : Ready types members names u k l) where
  ready_room : true ≡ room_in_tables u k l
  ready_room =
      sym (le-leb (u.bytes + l) most_names ready.bytes) ∙ room_bytes u k l ready.few ready.rows

  -- once its parts are stored, the row of a new type can be read, before it has its handle
  pub new_readable : Readable (sets members (8 * u.members) (rows_of (u.bytes + length name) parts))
      (bare_head u (length name) id size kind k)
  new_readable =
      stored_readable types members names u p id size kind ready_room refl ready.usable ready.members

  -- once its parts, names and row are stored, the verdict that adds the type was carried out
  pub new_took : {t' m' n' : List ℕ} {r : Used}
      → m' ≡ sets members (8 * u.members) (rows_of (u.bytes + length name) parts)
      → n' ≡ sets (sets names u.bytes name) (u.bytes + length name) (names_of parts)
      → t' ≡ sets types (8 * u.types) (type_row (with_handle (bare_head u (length name) id size kind k)
      (handle_of (template_in types m' n' (bare_head u (length name) id size kind k)))))
      → r ≡ used_with u k l
      → Took (yes (new_def (view_in types names u) name id size kind parts)) u types members names t' m' n' (Ok r)
  new_took em en et er =
      let took = stored_took types members names u p id size kind ready_room refl ready.usable ready.members 0
      ready.names em en et in
      rw er (rw (stored_yes types members names u p id size kind ready_room refl 0) at took)

-- a refusal was answered, and nothing stored
pub took_no : {s : Verdict} {u : Used} {r : Refusal} {types members names : List ℕ} → s ≡ no (why_of r)
    → Took s u types members names types members names (Err r)
took_no {r} {types} {members} {names} e = rw e (record { is = refl; types = refl; members = refl; names = refl })

-- a verdict was carried out that is the one asked for
pub took_so : {s s' : Verdict} {u : Used} {t₀ m₀ n₀ t m n : List ℕ} {r : Result Used Refusal}
    → s ≡ s' → Took s' u t₀ m₀ n₀ t m n r → Took s u t₀ m₀ n₀ t m n r
took_so e t = rw e t

-- so much is used afterwards
pub took_used : {s : Verdict} {u : Used} {t₀ m₀ n₀ t m n : List ℕ} {r r' : Used}
    → r ≡ r' → Took s u t₀ m₀ n₀ t m n (Ok r') → Took s u t₀ m₀ n₀ t m n (Ok r)
took_used e t = rw e t
