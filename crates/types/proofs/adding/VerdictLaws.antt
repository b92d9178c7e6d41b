-- Laws of a type's verdict (document 01, "Refusal numbers" and "Order of building"): a type that is added fits into the
-- registry, has the name of its entry and an id and a name that no earlier type has, and no way out of adding is
-- refusal 10.
use Rattle.std.specs.Prelude.{Option, Some, None, Result, Ok, Err}
use Prim.Native.Nat.{ℕ, zero, suc, ◌+◌, ◌*◌, ◌<◌, ◌≤◌}
use native.Mathlib.Omega.{arith}
use mathlib.Core.Path.{◌≡◌, refl, sym}
use mathlib.Core.Bool.{Bool, true, false}
use mathlib.Core.List.{List, [], ◌∷◌}
use lib.ListN.{length, length-map}
use Rattle.words.specs.Words.{Bytes}
use Rattle.words.proofs.TestLaws.{either}
use Rattle.words.proofs.WordLaws.{word_below}
use Rattle.types.specs.adding.Add.{Verdict, no, yes, room_in_tables, used_in, new_def, fitted, on_laid, add_laid}
use Rattle.types.specs.adding.Add.{on_checked, add_members, string_ok, add_string, add_named, on_id, add_fresh}
use Rattle.types.specs.adding.Add.{add_entry}
use Rattle.types.specs.adding.Checks.{checked, entries_from}
use Rattle.types.specs.adding.Ids.{in_use, id_for}
use Rattle.types.specs.atomics.Lookup.{type_among}
use Rattle.types.specs.book.Contents.{is_aoi, is_string, has_id, list_from, type_entry}
use Rattle.types.specs.book.Decls.{stored_ty, resolved, declared}
use Rattle.types.specs.book.Names.{good_name}
use Rattle.types.specs.inside.layout.Passes.{parts_of, measured_of, Measured, came}
use Rattle.types.specs.layout.Laid.{Laid as Lies, Resolved, Every}
use Rattle.types.specs.layout.Placing.{most_size}
use Rattle.types.specs.layout.Structs.{named_in, laid_kind, rounded_size as size_of}
use Rattle.types.specs.rounds.Resolve.{is_found}
use Rattle.types.specs.rounds.Turns.{stuck_at, entries_at, count_of, then_decl, decls_of, verdict_on}
use Rattle.types.specs.tables.Defs.{Part, Def, name_in}
use Rattle.types.specs.tables.Limits.{most_members}
use Rattle.types.specs.tables.Registry.{View, size_at, own_names, view_of}
use Rattle.types.specs.declared.adding.checks.MemberFault.{MemberFault}
use Rattle.types.specs.declared.adding.checks.MemberFault.TheVariants.{NameWrong, Twice, LocalOutside}
use Rattle.types.specs.declared.adding.ids.IdFault.{IdFault}
use Rattle.types.specs.declared.adding.ids.IdFault.TheVariants.{OutsideRange, InUse, NoneFree}
use Rattle.types.specs.declared.book.contents.MemberEntry.{MemberEntry}
use Rattle.types.specs.declared.book.contents.TypeEntry.{TypeEntry}
use Rattle.types.specs.declared.layout.placing.LayoutFault.TheVariants.{AccessWrong, TooFar}
use Rattle.types.specs.declared.layout.placing.Cursor.{Cursor}
use Rattle.types.specs.declared.layout.placing.Decl.{Decl}
use Rattle.types.specs.declared.tables.member.StructKind.{StructKind}
use Rattle.types.specs.declared.tables.member.StructKind.TheVariants.{Predefined, Str}
use Rattle.types.specs.declared.tables.member.Ty.{Ty}
use Rattle.types.proofs.adding.AddLaws.{DeclAble, type_fits, string_fits}
use Rattle.types.proofs.adding.AddStoreLaws.{Roomy, roomy}
use Rattle.types.proofs.adding.AddTypeLaws.{string_least, string_most as string-room}
use Rattle.types.proofs.adding.IdLaws.{InRange, picked_range, IdUnheld, picked_unheld}
use Rattle.types.proofs.book.DeclLaws.{align_fair}
use Rattle.types.proofs.layout.BoundLaws.{type_count, type_most, string_most}
use Rattle.types.proofs.layout.FoundLaws.{stored_earlier}
use Rattle.types.proofs.layout.LaidLaws.{type_laid, string_laid}
use Rattle.types.proofs.layout.LaidOutLaws.{both, laid_passes}
use Rattle.types.proofs.layout.PartLaws.{PartFormed, NamedDecls, NamedEntries, type_formed, string_formed}
use Rattle.types.proofs.layout.PartLaws.{checked_named}
use Rattle.types.proofs.layout.StringLaws.{StringParts, string_is, other_kind, no_string}
use Rattle.types.proofs.rounds.ResolveLaws.{found_earlier}
use Rattle.types.proofs.tables.DefLaws.{PartFits}
use Rattle.types.proofs.tables.ProperLaws.{Proper, user_inside, not_predefined, declared_kind}
use Rattle.types.proofs.tables.ShownLaws.{TablesShow, FitsRegistry}
use Rattle.types.proofs.templates.HandleLaws.{handle_small}

-- ---- the ways out of adding

-- what a type that is added has: the name, an id in the range, both new, room in the tables, and a handle of 16 bits;
-- its parts can be stored where the declared members can
pub record TypeMade (v : View) (s : List ℕ) (ds : List Decl) (d : Def) : Type 0 where
  pub name : d.name ≡ s
  pub id : (0x100 ≤ d.id) × (d.id ≤ 0xEFF)
  pub handle : d.handle < 65536
  pub room : Roomy (used_in v) (length d.parts) (length (own_names d))
  pub parts : (n : ℕ) → Every (DeclAble n) ds → Every (PartFits n) d.parts
  pub laid : (n : ℕ) → Every (Resolved (size_at v) n) ds → Lies (size_at v) n d.size d.parts
  pub most : d.size ≤ most_size + 224
  pub good : good_name s ≡ true
  pub formed : Every PartFormed d.parts
  pub kind : d.kind ≡ Predefined → ⊥
  pub string : d.kind ≡ Str → StringParts d.size d.parts
  pub unheld : in_use d.id v.ids ≡ false
  pub unknown : is_found (type_among v.names s) ≡ false

-- a refusal is not 10, or the type is made so
abbrev pub VerdictMade : View → List ℕ → List Decl → Verdict → Type 0
VerdictMade v name ds (no r) = r.0 ≡ 10 → ⊥
VerdictMade v name ds (yes d) = TypeMade v name ds d

module _ (v : View) (book : List ℕ) (i at : ℕ) (e : TypeEntry) (name : List ℕ) (ds : List Decl)
    (named : NamedEntries book (entries_from book at 0 e.count) → NamedDecls book ds) where
  abbrev VerdictEnds : Verdict → Type 0
  VerdictEnds s = VerdictMade v name ds s

  module _ (good : good_name name ≡ true) (new : is_found (type_among v.names name) ≡ false) (id : ℕ)
      (range : InRange (Ok id)) (free : IdUnheld v.ids (Ok id)) where
    fitted_ends : (size : ℕ) (kind : StructKind) (parts : List Part)
        → ((n : ℕ) → Every (DeclAble n) ds → Every (PartFits n) parts)
        → ((n : ℕ) → Every (Resolved (size_at v) n) ds → Lies (size_at v) n size parts)
        → (length parts ≤ most_members → size ≤ most_size + 224)
        → Every PartFormed parts
        → (kind ≡ Str → StringParts size parts)
        → (kind ≡ Predefined → ⊥)
        → VerdictEnds (fitted v i (new_def v name id size kind parts))
    unfolding fitted new_def
    fitted_ends size kind parts f g h k s p =
        either VerdictEnds
        (room_in_tables (used_in v) (length parts) (length (own_names (new_def v name id size kind parts))))
        (λ q. record {
          name = refl;
          id = range;
          handle = handle_small _;
          room = roomy (used_in v) _ _ (sym q);
          parts = f;
          laid = g;
          most = h (omega (arith, (roomy (used_in v) _ _ (sym q)).members));
          good = good;
          formed = k;
          kind = p;
          string = s;
          unheld = free;
          unknown = new;
        })
        (λ q z. omega arith)

    -- 11, 12
    laid_ends : (aoi : Bool) → NamedDecls book ds → VerdictEnds (add_laid v book i aoi name id ds)
    unfolding add_laid
    laid_ends aoi a =
        rw (laid_passes aoi (named_in book) name ds)
        (go (measured_of aoi name ds)
        (λ c n q. fitted_ends (size_of c) (laid_kind aoi) _ (λ k b. type_fits aoi k (named_in book) name ds b)
        (λ k r. type_laid (size_at v) k aoi (named_in book) name ds c n r q)
        (λ l. type_most aoi name ds c n q (omega (arith, type_count aoi (named_in book) name ds c n q)))
        (type_formed aoi book name good ds a) (other_kind (laid_kind aoi) (no_string aoi))
        (not_predefined (laid_kind aoi) (declared_kind aoi))))
      where
        go : (m : Measured)
            → ((c : Cursor) (n : ℕ) → m ≡ came c n
            → VerdictEnds (fitted v i (new_def v name id (size_of c) (laid_kind aoi)
            (parts_of aoi (named_in book) name ds))))
            → VerdictEnds (on_laid (both (parts_of aoi (named_in book) name ds) m) i
            (λ parts size. fitted v i (new_def v name id size (laid_kind aoi) parts)))
        go (Ok (c, n)) f = f c n refl
        go (Err AccessWrong) f = λ z. omega arith
        go (Err TooFar) f = λ z. omega arith

    -- per member 2, 8, 9
    checked_ends : (c : Result (Unit {0}) MemberFault) (k : Verdict) → (c ≡ Ok tt → VerdictEnds k)
        → VerdictEnds (on_checked c i k)
    checked_ends (Ok tt) k f = f refl
    checked_ends (Err NameWrong) k f = λ z. omega arith
    checked_ends (Err Twice) k f = λ z. omega arith
    checked_ends (Err LocalOutside) k f = λ z. omega arith

    members_ends : (aoi : Bool) → VerdictEnds (add_members v book i at e.count aoi name id ds)
    unfolding add_members
    members_ends aoi =
        checked_ends (checked book aoi [] (entries_from book at 0 e.count)) _
        (λ c. let a = named (checked_named book aoi [] (entries_from book at 0 e.count) c) in
        laid_ends aoi a)

    -- 7
    string_ends : VerdictEnds (add_string v i e name id)
    unfolding add_string
    string_ends =
        either VerdictEnds (string_ok e)
        (λ q. fitted_ends _ Str _ (λ n a. string_fits n e.string) (λ n r. string_laid (size_at v) n e.string
        (string_least e q))
        (λ l. omega (arith, string_most e.string (string-room e q))) (string_formed e.string)
        (λ k. string_is e.string) (not_predefined Str refl))
        (λ q z. omega arith)

    named_ends : VerdictEnds (add_named v book i at e name id ds)
    unfolding add_named
    named_ends = either VerdictEnds (is_string e) (λ q. string_ends) (λ q. members_ends (is_aoi e))

  -- 4, 5, 6
  picked_ends : (p : Result ℕ IdFault) (k : ℕ → Verdict) → InRange p → IdUnheld v.ids p
      → ((id : ℕ) → InRange (Ok id) → IdUnheld v.ids (Ok id) → VerdictEnds (k id)) → VerdictEnds (on_id p i k)
  picked_ends (Ok id) k range free f = f id range free
  picked_ends (Err OutsideRange) k range free f = λ z. omega arith
  picked_ends (Err InUse) k range free f = λ z. omega arith
  picked_ends (Err NoneFree) k range free f = λ z. omega arith

  fresh_ends : good_name name ≡ true → is_found (type_among v.names name) ≡ false
      → VerdictEnds (add_fresh v book i at e name ds)
  unfolding add_fresh
  fresh_ends good new =
      picked_ends (id_for v.ids (has_id e) e.id) _ (picked_range v.ids (has_id e) e.id)
      (picked_unheld v.ids (has_id e) e.id) (named_ends good new)

  -- a type of the book is refused, not with 10, or made as said; here 2 and 3
  pub entry_ends : VerdictEnds (add_entry v book i at e name ds)
  unfolding add_entry
  entry_ends =
      either VerdictEnds (good_name name)
      (λ q. either VerdictEnds (is_found (type_among v.names name)) (λ r z. omega arith)
      (λ r. fresh_ends q r))
      (λ q z. omega arith)

-- ---- the declared members of a book's type

entries_small : (book : List ℕ) (at j n : ℕ) → Bytes book → Every (λ e. e.access < 256) (entries_from book at j n)
unfolding list_from Every
entries_small book at j zero b = tt
entries_small book at j (suc n) b =
    (word_below 1 book (at + 16 * j + 7) b, entries_small book at (j + 1) n b)

-- each is of a type that was found among the names
decl_able : (v : View) (e : MemberEntry) (s : List ℕ) (ty : Ty) → e.access < 256 → type_among v.names s ≡ Some ty
    → DeclAble (length v.names) (declared (size_at v) ty e)
unfolding resolved
decl_able v e s ty a q =
    record { access = a; earlier = stored_earlier _ ty e.dim (found_earlier v.names s ty q) }

decls_able : (v : View) (book : List ℕ) (es : List MemberEntry) → Every (λ e. e.access < 256) es
    → Every (DeclAble (length v.names)) (decls_of v book es)
unfolding decls_of Every
decls_able v book [] a = tt
decls_able v book (e ∷ es) (a, rest) =
    go (type_among v.names (name_in book e.ty)) refl (decls_able v book es rest)
  where
    go : (f : Option Ty) → type_among v.names (name_in book e.ty) ≡ f
        → Every (DeclAble (length v.names)) (decls_of v book es)
        → Every (DeclAble (length v.names)) (then_decl f (λ ty. declared (size_at v) ty e) (decls_of v book es))
    go (Some ty) q ih = (decl_able v e (name_in book e.ty) ty a q, ih)
    go None q ih = tt

-- and has the name of its entry
decls_named : (v : View) (book : List ℕ) (es : List MemberEntry) → NamedEntries book es
    → NamedDecls book (decls_of v book es)
unfolding decls_of Every resolved
decls_named v book [] a = tt
decls_named v book (e ∷ es) (a, rest) =
    go (type_among v.names (name_in book e.ty)) (decls_named v book es rest)
  where
    go : (f : Option Ty) → NamedDecls book (decls_of v book es)
        → NamedDecls book (then_decl f (λ ty. declared (size_at v) ty e) (decls_of v book es))
    go (Some ty) ih = (a, ih)
    go None ih = tt

-- ---- a verdict over a registry

module _ (book : List ℕ) (ds : List Def) (i : ℕ) where
  abbrev entries : List MemberEntry
  entries = entries_from book (entries_at book i) 0 (count_of book i)

  verdict_ends : VerdictMade (view_of ds) (name_in book (type_entry book i).name) (decls_of (view_of ds) book entries)
      (verdict_on book (view_of ds) i)
  unfolding verdict_on
  verdict_ends =
      entry_ends (view_of ds) book i (entries_at book i) (type_entry book i) _ _ (decls_named (view_of ds) book entries)

  verdict_made : (d : Def) → verdict_on book (view_of ds) i ≡ yes d
      → TypeMade (view_of ds) (name_in book (type_entry book i).name) (decls_of (view_of ds) book entries) d
  verdict_made d e = rw e at verdict_ends

  -- the name is that of the entry
  pub verdict_name : (d : Def) → verdict_on book (view_of ds) i ≡ yes d → d.name ≡ name_in book (type_entry book i).name
  verdict_name d e = (verdict_made d e).name

  -- no type is refused with 10 once its turn has come
  pub verdict_never : (p : ℕ) → verdict_on book (view_of ds) i ≡ no (stuck_at p) → ⊥
  verdict_never p e =
      let z : (stuck_at p).0 ≡ 10 → ⊥ = rw e at verdict_ends in
      z refl

-- a type that is added fits into the registry
pub verdict_fits : (book : List ℕ) (ds : List Def) (i : ℕ) (d : Def) → Bytes book → TablesShow ds
    → verdict_on book (view_of ds) i ≡ yes d → FitsRegistry ds d
unfolding view_of
verdict_fits book ds i d b s e =
    let m = verdict_made book ds i d e in
    let n = length-map ds (λ (x : Def). x.name) in
    let able = decls_able (view_of ds) book (entries book ds i)
    (entries_small book (entries_at book i) 0 (count_of book i) b) in
    record {
      few = omega (arith, m.room.types);
      rows = m.room.members;
      bytes = m.room.bytes;
      parts = rw n at (m.parts _ able);
      id = omega (arith, m.id.1);
      used = λ z. omega (arith, m.id.0);
      handle = m.handle;
    }

-- ---- and is laid out well

decl_resolved : (v : View) (e : MemberEntry) (s : List ℕ) (ty : Ty) → type_among v.names s ≡ Some ty
    → Resolved (size_at v) (length v.names) (declared (size_at v) ty e)
unfolding resolved
decl_resolved v e s ty q =
    record {
      size = refl;
      earlier = stored_earlier _ ty e.dim (found_earlier v.names s ty q);
      align = (align_fair (stored_ty ty e.dim)).0;
    }

decls_resolved : (v : View) (book : List ℕ) (es : List MemberEntry)
    → Every (Resolved (size_at v) (length v.names)) (decls_of v book es)
unfolding decls_of Every
decls_resolved v book [] = tt
decls_resolved v book (e ∷ es) =
    go (type_among v.names (name_in book e.ty)) refl (decls_resolved v book es)
  where
    go : (f : Option Ty) → type_among v.names (name_in book e.ty) ≡ f
        → Every (Resolved (size_at v) (length v.names)) (decls_of v book es)
        → Every (Resolved (size_at v) (length v.names))
        (then_decl f (λ ty. declared (size_at v) ty e) (decls_of v book es))
    go (Some ty) q ih = (decl_resolved v e (name_in book e.ty) ty q, ih)
    go None q ih = tt

module _ (book : List ℕ) (ds : List Def) (i : ℕ) (d : Def) (e : verdict_on book (view_of ds) i ≡ yes d) where
  -- the parts of a type that is added have earlier types and lie inside its size, the visible ones apart
  pub verdict_laid : Lies (size_at (view_of ds)) (length ds) d.size d.parts
  unfolding view_of
  verdict_laid =
      let n = length-map ds (λ (x : Def). x.name) in
      rw n at ((verdict_made book ds i d e).laid _ (decls_resolved (view_of ds) book (entries book ds i)))

  -- a type that is added has at most 2^26 + 224 bytes
  pub verdict_most : d.size ≤ most_size + 224
  verdict_most = (verdict_made book ds i d e).most

  -- a type that is added after the predefined types is proper
  pub verdict_proper : 4 ≤ length ds → Proper (length ds) d
  verdict_proper l =
      let m = verdict_made book ds i d e in
      record {
        name = rw m.name m.good;
        parts = m.formed;
        first = λ h. absurd (let z : ⊥ = omega arith in z);
        early = λ h. absurd (let z : ⊥ = omega arith in z);
        late = λ h. user_inside d.id m.id.0 m.id.1;
        kind = λ u. m.kind;
      }

  -- and a string where its kind says so
  pub verdict_string : d.kind ≡ Str → StringParts d.size d.parts
  verdict_string = (verdict_made book ds i d e).string

  -- its id and its name are those of no earlier type
  pub verdict_unheld : in_use d.id (view_of ds).ids ≡ false
  verdict_unheld = (verdict_made book ds i d e).unheld

  -- the name of a type that is added is no atomic's and that of no earlier type
  pub verdict_unknown : is_found (type_among (view_of ds).names d.name) ≡ false
  verdict_unknown =
      let m = verdict_made book ds i d e in
      rw m.name m.unknown
