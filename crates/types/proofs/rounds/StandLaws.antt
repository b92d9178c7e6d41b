-- Laws of tables that stand for a registry (document 01, "Order of building"): what a turn asks, what it gives against
-- the definition, and the registry with one type more.
use Rattle.std.specs.Prelude.{Option, Some, None, Result, Ok, Err}
use Prim.Native.Nat.{ℕ, ◌<◌, ◌≤◌}
use native.Mathlib.Omega.{arith}
use mathlib.Core.Path.{◌≡◌, refl, sym, ap, ◌∙◌}
use mathlib.Core.Bool.{Bool, true, false, true≢false}
use mathlib.Core.List.{List, [], ◌∷◌, ◌++◌, map-append}
use lib.ListN.{length}
use Rattle.words.specs.Words.{Bytes}
use Rattle.words.proofs.WordLaws.{word_below}
use Rattle.types.specs.adding.Add.{Verdict, no as against, yes as for, add_to}
use Rattle.types.specs.adding.Checks.{entries_from}
use Rattle.types.specs.atomics.Lookup.{row_names}
use Rattle.types.specs.book.Contents.{types_in, members_in}
use Rattle.types.specs.inside.adding.Add.{Took, Usable}
use Rattle.types.specs.inside.rounds.Turns.{TurnIn, Turned, Tries, at_once}
use Rattle.types.specs.inside.tables.Registry.{view_in, Stands, used_more}
use Rattle.types.specs.refusals.Said.{done, refused, why, why_of}
use Rattle.types.specs.rounds.Order.{all_known}
use Rattle.types.specs.rounds.Resolve.{type_names, has_name}
use Rattle.types.specs.rounds.Turns.{entries_at, count_of, uses_of, decls_of, ready_in, verdict_on}
use Rattle.types.specs.tables.Defs.{Def}
use Rattle.types.specs.tables.Registry.{View, view_of}
use Rattle.types.specs.declared.adding.used.Used.{Used}
use Rattle.types.specs.declared.refusals.refusal.Refusal.{Refusal}
use Rattle.types.proofs.book.SoundLaws.{BookSound, among_all, type_inside, entries_inside, entries_uses}
use Rattle.types.proofs.rounds.SearchLaws.{tries_more}
use Rattle.types.proofs.tables.RegistryLaws.{members_long, names_long}
use Rattle.types.proofs.tables.ShownLaws.{TablesShow, view_same, names_inside, ids_small}

-- ---- what the tables show

module _ {ds : List Def} {t m n : List ℕ} {u : Used} (shown : TablesShow ds) (stands : Stands ds t m n u) where
  view_stands : view_in t n u ≡ view_of ds
  view_stands = rw (stands.types, stands.names, stands.used) (view_same ds shown)

  pub names_stand : row_names t n u.types ≡ (view_of ds).names
  unfolding view_in
  names_stand = ap (λ (v : View). v.names) view_stands

  usable_stands : Usable t n u
  usable_stands =
      rw (stands.types, stands.names, stands.used)
      record {
        rows = names_inside ds shown;
        members = shown.members;
        bytes = shown.bytes;
        ids = ids_small ds shown;
      }

  -- ---- a turn

  module _ (book : List ℕ) (i at : ℕ) (e : at ≡ entries_at book i) where
    -- where the tables are a registry's and the book is good, the turn of type i finds what it asks
    pub turn_in : {stuck tried : List ℕ} (tys : List ℕ) → Bytes book → BookSound book → i < types_in book
        → members_in book ≤ length tys → Tries book (row_names t n u.types) stuck tried
        → TurnIn t m n book tys stuck tried i at u
    turn_in tys bytes s l room tries =
        record {
          usable = usable_stands;
          rows = rw stands.members (members_long ds);
          bytes = rw stands.names (names_long ds);
          entry = type_inside s l;
          named = s.types i l;
          inside = rw e (entries_inside s l);
          uses = rw e (entries_uses s l);
          room = omega (arith, among_all s l, room);
          small = omega (arith, l, word_below 2 book 0 bytes);
          among = l;
          place = e;
          tries = tries;
        }

    -- what it gives is what the definition says
    pub turn_same : {t' m' n' : List ℕ} {r : Result (Option Used) Refusal}
        → Turned (all_known has_name (row_names t n u.types) (type_names book at 0 (count_of book i)))
        (add_to (view_in t n u) book i at (decls_of (view_in t n u) book (entries_from book at 0 (count_of book i)))) u
        t m n t' m' n' r
        → Turned (ready_in book ds i) (verdict_on book (view_of ds) i) u t m n t' m' n' r
    unfolding ready_in uses_of verdict_on
    turn_same h = rw (names_stand, view_stands, e) at h

-- ---- the ways that a turn can go

once_none : {A : Type 0} (a : Result Used Refusal) → at_once a ≡ Ok None → A
once_none (Ok u) e = cc
once_none (Err x) e = cc

once_err : (a : Result Used Refusal) (x : Refusal) → at_once a ≡ Err x → a ≡ Err x
once_err (Ok u) x e = cc
once_err (Err y) x e = cc

once_some : (a : Result Used Refusal) (u : Used) → at_once a ≡ Ok (Some u) → a ≡ Ok u
once_some (Ok v) u e = cc
once_some (Err y) u e = cc

waits_of : (b : Bool) (v : Verdict) (u : Used) (r : Result (Option Used) Refusal) {t m n t' m' n' : List ℕ}
    → Turned b v u t m n t' m' n' r → r ≡ Ok None → b ≡ false
waits_of false v u r h e = refl
waits_of true v u r h e = once_none (h.takes refl).0 (sym (h.takes refl).1 ∙ e)

refused_of : (x : Refusal) (b : Bool) (v : Verdict) (u : Used) (r : Result (Option Used) Refusal)
    {t m n t' m' n' : List ℕ} → Turned b v u t m n t' m' n' r → r ≡ Err x → (b ≡ true) × (v ≡ against (why_of x))
refused_of x false v u r h e =
    let q = (h.waits refl).0 in
    (cc, cc)
refused_of x true (against (k, p)) u r h e =
    let a = h.takes refl in
    let o = once_err a.0 x (sym a.1 ∙ e) in
    let q : why x ≡ refused k p = rw o at a.2.is in
    (refl, cc)
refused_of x true (for d) u r h e =
    let a = h.takes refl in
    let o = once_err a.0 x (sym a.1 ∙ e) in
    let q : why x ≡ done (used_more u d) = rw o at a.2.is in
    (cc, cc)

-- a type was added, and so much is used then
pub record AddedBy (b : Bool) (v : Verdict) (u : Used) (t m n t' m' n' : List ℕ) (u' : Used) : Type 0 where
  pub d : Def
  pub ready : b ≡ true
  pub is : v ≡ for d
  pub took : Took (for d) u t m n t' m' n' (Ok u')

added_of : (u' : Used) (b : Bool) (v : Verdict) (u : Used) (r : Result (Option Used) Refusal)
    {t m n t' m' n' : List ℕ} → Turned b v u t m n t' m' n' r → r ≡ Ok (Some u') → AddedBy b v u t m n t' m' n' u'
added_of u' false v u r h e =
    let q = (h.waits refl).0 in
    let z : true ≡ false = cc in
    absurd (true≢false z)
added_of u' true (against y) u r h e =
    let a = h.takes refl in
    let o = once_some a.0 u' (sym a.1 ∙ e) in
    let q : done u' ≡ refused y.0 y.1 = rw o at a.2.is in
    let z : true ≡ false = cc in
    absurd (true≢false z)
added_of u' true (for d) u r h e =
    let a = h.takes refl in
    let o = once_some a.0 u' (sym a.1 ∙ e) in
    record { d = d; ready = refl; is = refl; took = rw o at a.2 }

module _ {b : Bool} {v : Verdict} {u : Used} {t m n t' m' n' : List ℕ} {r : Result (Option Used) Refusal}
    (h : Turned b v u t m n t' m' n' r)
  where
    -- where a turn says that the type waits, it was not ready, and the tables stay as they were
    pub turn_waits : r ≡ Ok None → (b ≡ false) × ((t' ≡ t) × ((m' ≡ m) × (n' ≡ n)))
    turn_waits e =
        let q = waits_of b v u r h e in
        (q, (h.waits q).1)

    -- where a turn says a refusal, the type was ready, and the verdict is that refusal
    pub turn_refused : (x : Refusal) → r ≡ Err x → (b ≡ true) × (v ≡ against (why_of x))
    turn_refused x e = refused_of x b v u r h e

    -- where a turn says that the type was added, it was ready, and the verdict with it was carried out
    pub turn_added : (u' : Used) → r ≡ Ok (Some u') → AddedBy b v u t m n t' m' n' u'
    turn_added u' e = added_of u' b v u r h e

-- what the scratches say stays true once a type is added to the tables
pub tries_stand : {ds : List Def} {t m n t' m' n' book stuck tried : List ℕ} {u u' : Used} (d : Def) → TablesShow ds
    → Stands ds t m n u → TablesShow (ds ++ d ∷ []) → Stands (ds ++ d ∷ []) t' m' n' u'
    → Tries book (row_names t n u.types) stuck tried → Tries book (row_names t' n' u'.types) stuck tried
unfolding view_of
tries_stand {ds} d a s b h t =
    let e = map-append (λ (x : Def). x.name) ds (d ∷ []) in
    rw (names_stand b h, e) (tries_more (rw (names_stand a s) at t) d.name)
