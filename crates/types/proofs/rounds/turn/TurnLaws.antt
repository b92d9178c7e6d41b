-- Laws of a turn: where as many member types were found as there are members, all are known, and the layout reads from
-- the scratch the declared members of the definition.
use Rattle.std.specs.Prelude.{Option, Some, None, Result, Ok, Err, MatchResult}
use Rattle.std.specs.Result.{IsOkAnd}
use Prim.Native.Nat.{ℕ, zero, suc, ◌+◌, ◌<◌, ◌≤◌}
use native.Mathlib.Omega.{arith}
use native.Mathlib.Nat.{zero-add}
use mathlib.Core.Path.{◌≡◌, refl, sym, ap, ◌∙◌}
use mathlib.Core.Bool.{Bool, true, false, ◌&&◌, true≢false}
use mathlib.Core.List.{List, [], ◌∷◌}
use lib.ListN.{length, get_or, set}
use lib.Seq.{sets, length-sets}
use Rattle.words.proofs.Lists.{get_d_sets}
use Rattle.types.specs.adding.Add.{Verdict, add_entry, add_to}
use Rattle.types.specs.adding.Checks.{entry_of, entries_from}
use Rattle.types.specs.atomics.Lookup.{row_name, row_names, type_among}
use Rattle.types.specs.book.Contents.{every, list_from, type_entry}
use Rattle.types.specs.book.Decls.{declared}
use Rattle.types.specs.inside.adding.Add.{Took, Declared}
use Rattle.types.specs.inside.adding.Checks.{EntriesInside}
use Rattle.types.specs.inside.book.Decls.{decl_at, decls_from}
use Rattle.types.specs.inside.rounds.Resolve.{then_word, found_words, Resolves, StillIn, Still}
use Rattle.types.specs.inside.rounds.Turns.{TurnIn, Turned, Missed, Tries, at_once}
use Rattle.types.specs.inside.tables.Registry.{view_in}
use Rattle.types.specs.layout.Laid.{Earlier}
use Rattle.types.specs.rounds.Order.{all_known}
use Rattle.types.specs.rounds.Resolve.{type_name, type_names, is_found, has_name}
use Rattle.types.specs.rounds.Turns.{count_of, then_decl, decls_of}
use Rattle.types.specs.tables.Defs.{name_in}
use Rattle.types.specs.tables.Lent.{ty_word, ty_of_word}
use Rattle.types.specs.tables.Registry.{View, size_at}
use Rattle.types.specs.tables.Sizes.{sizes_in}
use Rattle.types.specs.declared.adding.used.Used.{Used}
use Rattle.types.specs.declared.layout.placing.Decl.{Decl}
use Rattle.types.specs.declared.refusals.refusal.Refusal.{Refusal}
use Rattle.types.specs.declared.tables.member.Ty.{Ty}
use Rattle.types.proofs.adding.AddStoreLaws.{took_so}
use Rattle.types.proofs.rounds.ResolveLaws.{found_earlier}
use Rattle.types.proofs.rounds.SearchLaws.{one_unknown, first_unknown, tries_again, tries_new}
use Rattle.types.proofs.tables.AgreeLaws.{declared_same, length_list, get_d_list}
use Rattle.types.proofs.tables.TableLaws.{ty_back}

-- ---- how many were found

pub all_found : (known names : List (List ℕ)) → length names ≤ length (found_words known names)
    → all_known has_name known names ≡ true
unfolding found_words every
all_found known [] l = refl
all_found known (s ∷ ss) l = go (type_among known s) l (all_found known ss)
  where
    go : (f : Option Ty) → suc (length ss) ≤ length (then_word f (found_words known ss))
        → (length ss ≤ length (found_words known ss) → all_known has_name known ss ≡ true)
        → (is_found f && all_known has_name known ss) ≡ true
    go (Some ty) h rest = rest (omega arith)
    go None h rest = absurd (let z : ⊥ = omega arith in z)

-- ---- each word is that of the type that was found

-- the type of a name that is known
pub record KnownName (known : List (List ℕ)) (s : List ℕ) : Type 0 where
  pub ty : Ty
  pub is : type_among known s ≡ Some ty

known_one : (known : List (List ℕ)) (s : List ℕ) (f : Option Ty) (b : Bool) → type_among known s ≡ f
    → (is_found f && b) ≡ true → KnownName known s
known_one known s (Some ty) b e q = record { ty = ty; is = e }
known_one known s None b e q = absurd (true≢false (sym q))

known_rest : (f : Option Ty) {b : Bool} → (is_found f && b) ≡ true → b ≡ true
known_rest (Some ty) {b} q = q
known_rest None {b} q = absurd (true≢false (sym q))

module _ (known : List (List ℕ)) (f : ℕ → List ℕ) where
  -- the first word, and a later one
  abbrev WordAt : ℕ → ℕ → ℕ → Type 0
  WordAt j n k =
      (w : KnownName known (f (j + k))) × (get_or (found_words known (list_from f j n)) k 0 ≡ ty_word w.ty)

  first_word : (j n : ℕ) → KnownName known (f j) → WordAt j (suc n) 0
  unfolding list_from found_words
  first_word j n w = let e : j + 0 ≡ j = omega arith in rw e (w, rw w.is)

  later_word : (j n k : ℕ) → KnownName known (f j) → WordAt (j + 1) n k → WordAt j (suc n) (suc k)
  unfolding list_from found_words
  later_word j n k w r = let e : j + suc k ≡ j + 1 + k = omega arith in rw e (r.0, rw w.is r.1)

  words_at : (j n : ℕ) → all_known has_name known (list_from f j n) ≡ true → (k : ℕ) → k < n → WordAt j n k
  unfolding list_from every
  words_at j zero a k l = absurd (let z : ⊥ = omega arith in z)
  words_at j (suc n) a zero l = first_word j n (known_one known (f j) (type_among known (f j)) _ refl a)
  words_at j (suc n) a (suc k) l =
      later_word j n k (known_one known (f j) (type_among known (f j)) _ refl a)
      (words_at (j + 1) n (known_rest (type_among known (f j)) a) k (omega arith))

  words_long : (j n : ℕ) → all_known has_name known (list_from f j n) ≡ true
      → length (found_words known (list_from f j n)) ≡ n
  unfolding list_from every found_words
  words_long j zero a = refl
  words_long j (suc n) a =
      let w = known_one known (f j) (type_among known (f j)) _ refl a in
      rw w.is (ap suc (words_long (j + 1) n (known_rest (type_among known (f j)) a)))

-- ---- the scratch after a turn's search

module _ (types names book tys : List ℕ) (u : Used) (at n : ℕ) where
  abbrev view : View
  view = view_in types names u

  abbrev uses : List (List ℕ)
  uses = type_names book at 0 n

  abbrev scratch : List ℕ
  scratch = sets tys 0 (found_words view.names uses)

  module _ (a : all_known has_name view.names uses ≡ true) (l : n ≤ length tys) where
    word_at : (k : ℕ) → k < n
        → (w : KnownName view.names (type_name book at k)) × (ty_of_word (get_or scratch k 0) ≡ w.ty)
    word_at k h =
        let long = words_long view.names (type_name book at) 0 n a in
        let r : (w : KnownName view.names (type_name book at k))
        × (get_or (found_words view.names uses) k 0 ≡ ty_word w.ty)
        = rw zero-add at (words_at view.names (type_name book at) 0 n a k h) in
        let s : get_or scratch k 0 ≡ get_or (found_words view.names uses) k 0
        = rw zero-add at (get_d_sets tys 0 (found_words view.names uses) k 0 (omega (arith, long)) (omega
        (arith, long)))
        in
        (r.0, ap ty_of_word (s ∙ r.1) ∙ ty_back r.0.ty)

    names_long : length view.names ≡ u.types
    unfolding view_in
    names_long = length_list (row_name types names) 0 u.types

    word_earlier : (k : ℕ) → k < n → Earlier u.types (ty_of_word (get_or scratch k 0))
    word_earlier k h =
        let r = word_at k h in
        rw r.1 (rw names_long at (found_earlier view.names (type_name book at k) r.0.ty r.0.is))

    -- the declared members can be laid out
    pub turn_declared : EntriesInside book at n → n ≤ 65536 → Declared book scratch u.types at n
    turn_declared i f =
        record {
          inside = i;
          few = f;
          room = rw (length-sets tys 0 (found_words view.names uses)) l;
          earlier = word_earlier;
        }

    sizes_same : (k : ℕ) → k < u.types → sizes_in types k ≡ size_at view k
    unfolding view_in
    sizes_same k h = sym (get_d_list (sizes_in types) u.types k 0 h)

    -- and are the definition's
    decls_from_lem : (j m : ℕ) → j + m ≤ n
        → decls_from types book scratch at j m ≡ decls_of view book (entries_from book at j m)
    unfolding decls_from decls_of list_from decl_at
    decls_from_lem j zero h = refl
    decls_from_lem j (suc m) h = go (word_at j (omega arith)) (decls_from_lem (j + 1) m (omega arith))
      where
        go : ((w : KnownName view.names (type_name book at j)) × (ty_of_word (get_or scratch j 0) ≡ w.ty))
            → decls_from types book scratch at (j + 1) m ≡ decls_of view book (entries_from book at (j + 1) m)
            → ◌≡◌ {A = List Decl}
            (declared (sizes_in types) (ty_of_word (get_or scratch j 0)) (entry_of book at j)
            ∷ decls_from types book scratch at (j + 1) m)
            (then_decl (type_among view.names (type_name book at j)) (λ ty. declared (size_at view) ty
            (entry_of book at j))
            (decls_of view book (entries_from book at (j + 1) m)))
        go (w, q) rest =
            rw (w.is, q, rest)
            (ap (λ (d : Decl). d ∷ decls_of view book (entries_from book at (j + 1) m))
            (declared_same (sizes_in types) (size_at view) u.types sizes_same w.ty (entry_of book at j)
            (rw names_long at (found_earlier view.names (type_name book at j) w.ty w.is))))

    pub turn_decls : decls_from types book scratch at 0 n ≡ decls_of view book (entries_from book at 0 n)
    turn_decls = decls_from_lem 0 n (omega arith)

-- ---- the ways out of a turn

-- what is made of adding's answer by making `Some` of how much is used is the answer of a turn that does not wait
pub once_mapped : (a : Result Used Refusal) (b : Result (Option Used) Refusal) (P : Used → Option Used → Type 0)
    → ((x : Used) (y : Option Used) → P x y → y ≡ Some x)
    → MatchResult a (λ x. IsOkAnd b (P x)) (λ e. b ≡ Err e) → b ≡ at_once a
once_mapped (Ok x) (Ok y) P f m = ap Ok (f x y m)
once_mapped (Ok x) (Err e) P f m = absurd m
once_mapped (Err e) b P f m = m

module _ (types members names book : List ℕ) (u : Used) (i at n : ℕ) (e : n ≡ count_of book i) where
  abbrev known : Bool
  known = all_known has_name (row_names types names u.types) (type_names book at 0 (count_of book i))

  abbrev verdict : Verdict
  verdict =
      add_to (view_in types names u) book i at
      (decls_of (view_in types names u) book (entries_from book at 0 (count_of book i)))

  uses_long : length (type_names book at 0 n) ≡ n
  uses_long = length_list (type_name book at) 0 n

  rows_long : length (row_names types names u.types) ≡ u.types
  rows_long = length_list (row_name types names) 0 u.types

  -- one member's type is not known
  turn_idle : (k : ℕ) → k < count_of book i → type_among (row_names types names u.types) (type_name book at k) ≡ None
      → Turned known verdict u types members names types members names (Ok None)
  turn_idle k l o =
      let c = count_of book i in
      let f : known ≡ false
      = one_unknown (row_names types names u.types) (type_names book at 0 c) k
      (omega (arith, length_list (type_name book at) 0 c)) (rw (get_d_list (type_name book at) c k [] l) o)
      in
      record { waits = λ q. (refl, (refl, (refl, refl))); takes = λ q. absurd (true≢false (sym q ∙ f)) }

  module _ {tys stuck tried : List ℕ} (p : TurnIn types members names book tys stuck tried i at u) where
    module _ (k from : ℕ) (a : k ≡ get_or stuck i 0) (b : from ≡ get_or tried i 0) where
      missed : (from ≡ 0 → ⊥) → Missed book (row_names types names u.types) i k from
      missed q = rw (a, b) (p.tries.missed i p.among (rw b at q))

      -- what is known of an earlier turn
      pub turn_looks : StillIn types names book at k from u.types
      turn_looks =
          record {
            rows = p.usable.rows;
            inside = λ q. omega (arith, p.inside.inside, (missed q).below);
            uses = λ q. p.uses k (missed q).below;
            unseen = λ q. rw p.place (missed q).unseen;
          }

      -- the same member's type is still not known
      pub turn_still : Still types names book at k from u.types
          → Turned known verdict u types members names types members names (Ok None)
          × Tries book (row_names types names u.types) stuck (set tried i u.types)
      turn_still s =
          let l = (missed s.past).below in (
            turn_idle k l s.missing,
            tries_again p.tries i u.types p.among (sym rows_long) k l (rw (← p.place) s.missing) (sym a),
          )

  module _ {tys tys' : List ℕ} (r : ℕ)
      (w : Resolves (row_names types names u.types) (type_names book at 0 n) tys tys' r) where
    -- the member after those that were found is not known
    stops : r < n → type_among (row_names types names u.types) (type_name book at r) ≡ None
    stops l =
        let f = first_unknown (row_names types names u.types) (type_names book at 0 n)
        (omega (arith, w.is, uses_long)) in
        rw (get_d_list (type_name book at) n r [] l) at (rw (← w.is) at f)

    -- where a member's type is not found, the type waits, and it is remembered which and among how many types
    pub turn_waits : {ws stuck tried : List ℕ} → TurnIn types members names book ws stuck tried i at u → r < n
        → Turned known verdict u types members names types members names (Ok None)
        × Tries book (row_names types names u.types) (set stuck i r) (set tried i u.types)
    turn_waits p l = (
      turn_idle r (omega (arith, e)) (stops l),
      tries_new p.tries i u.types p.among (sym rows_long) r (omega (arith, e)) (rw (← p.place) (stops l)),
    )

    module _ (l : n ≤ r) where
      found_all : all_known has_name (row_names types names u.types) (type_names book at 0 n) ≡ true
      found_all = all_found (row_names types names u.types) (type_names book at 0 n) (omega (arith, w.is, uses_long))

      -- where all member types are found, the declared members lie in the book and have earlier types
      pub turn_ready : n ≤ length tys → EntriesInside book at n → n ≤ 65536 → Declared book tys' u.types at n
      unfolding view_in
      turn_ready k h f = rw w.words (turn_declared types names book tys u at n found_all k h f)

      -- where all member types are found, the turn was taken once the verdict on the entry is carried out
      pub turn_takes : n ≤ length tys → {t' m' n' : List ℕ} {x : Result Used Refusal}
          → Took (add_entry (view_in types names u) book i at (type_entry book i)
          (name_in book (type_entry book i).name)
          (decls_from types book tys' at 0 n)) u types members names t' m' n' x
          → {y : Result (Option Used) Refusal} → y ≡ at_once x → Turned known verdict u types members names t' m' n' y
      unfolding view_in
      turn_takes k {x} t o =
          let f : known ≡ true = rw (← e) found_all in
          let d : decls_from types book tys' at 0 n
          ≡ decls_of (view_in types names u) book (entries_from book at 0 (count_of book i))
          = ap (λ (z : List ℕ). decls_from types book z at 0 n) w.words
          ∙ turn_decls types names book tys u at n found_all k
          ∙ ap (λ (m : ℕ). decls_of (view_in types names u) book (entries_from book at 0 m)) e in
          record {
            waits = λ q. absurd (true≢false (sym f ∙ q));
            takes = λ q.
                (x, o, took_so (ap (λ (z : List Decl). add_to (view_in types names u) book i at z) (sym d)) t);
          }
