-- The theorem about refusal 10 for a book (document 01, "Order of building"): acceptance shows an ordering of its
-- types, and where refusal 10 comes there is none. Names are known as the lookup finds them, without ASCII case.
use Rattle.std.specs.Prelude.{Option, Some, None}
use Prim.Native.Nat.{ℕ, ◌+◌}
use native.Mathlib.Omega.{arith}
use mathlib.Core.Path.{◌≡◌, refl, sym, ap, ◌∙◌}
use mathlib.Core.Bool.{Bool, true, false, cond, ◌||◌, true≢false}
use mathlib.Core.List.{List, [], ◌∷◌, ◌++◌, map, map-append}
use mathlib.Core.Logic.{⊎_elim}
use Rattle.words.proofs.TestLaws.{or_right, or_left, or_cases}
use Rattle.types.specs.adding.Add.{Verdict, no as against, yes as for, new_def}
use Rattle.types.specs.atomics.Atomic.{atomics, name_of, first_of, atomic_named}
use Rattle.types.specs.atomics.Lookup.{named_among, atomic_or, type_among}
use Rattle.types.specs.book.Contents.{types_in}
use Rattle.types.specs.book.Names.{same_name, lower_of}
use Rattle.types.specs.layout.Predefined.{with_timer, with_counter, with_control, predefined, timer_name, counter_name}
use Rattle.types.specs.layout.Predefined.{control_name, string_name}
use Rattle.types.specs.rounds.Build.{build_of}
use Rattle.types.specs.rounds.Order.{Known}
use Rattle.types.specs.rounds.Ordering.{type_named, Ordering}
use Rattle.types.specs.rounds.Resolve.{is_found, has_name}
use Rattle.types.specs.rounds.Rounds.{no, ok, accepted, refused}
use Rattle.types.specs.rounds.Turns.{stuck_at, uses_of, ready_in, verdict_on, step_of, add_in, up_from, rounds_from}
use Rattle.types.specs.tables.Defs.{Def}
use Rattle.types.specs.tables.Registry.{view_of}
use Rattle.types.specs.declared.atomics.atomic.Atomic.{Atomic as Kind}
use Rattle.types.specs.declared.layout.predefined.PredefinedIds.{PredefinedIds}
use Rattle.types.specs.declared.tables.member.Ty.TheVariants.{Struct}
use Rattle.types.proofs.adding.VerdictLaws.{verdict_name, verdict_never}
use Rattle.types.proofs.book.NameLaws.{same_lower, lower_same}
use Rattle.types.proofs.rounds.BuildWays.{accepted_both, refused_rounds}
use Rattle.types.proofs.rounds.OrderLaws.{Ties, shown, none}
use Rattle.types.proofs.rounds.WaitLaws.{up_length}

-- ---- a name is found as any other that is the same without case

same_right : (a n x : List ℕ) → same_name n x ≡ true → same_name a n ≡ same_name a x
same_right a n x e = go (same_name a n) (same_name a x) refl refl
  where
    lower : map lower_of n ≡ map lower_of x
    lower = same_lower n x e

    go : (p q : Bool) → same_name a n ≡ p → same_name a x ≡ q → p ≡ q
    go true q u w = sym (lower_same a x (same_lower a n u ∙ lower)) ∙ w
    go false true u w = sym u ∙ lower_same a n (same_lower a x w ∙ sym lower)
    go false false u w = refl

first_same : {p q : Kind → Bool} (l : List Kind) → ((a : Kind) → p a ≡ q a) → first_of p l ≡ first_of q l
unfolding first_of
first_same [] h = refl
first_same {p} {q} (a ∷ l) h = rw (h a, first_same {p = p} {q = q} l h)

module _ (n x : List ℕ) (e : same_name n x ≡ true) where
  atomic_same : atomic_named n ≡ atomic_named x
  unfolding atomic_named
  atomic_same = first_same atomics (λ a. same_right (name_of a) n x e)

  named_same : (K : List (List ℕ)) (i : ℕ) → named_among K n i ≡ named_among K x i
  unfolding named_among
  named_same [] i = refl
  named_same (y ∷ K) i = rw (same_right y n x e, named_same K (i + 1))

  type_same : (K : List (List ℕ)) → type_among K n ≡ type_among K x
  unfolding type_among
  type_same K = rw (atomic_same, named_same K 0)

-- ---- one name more

named_more : (K : List (List ℕ)) (n x : List ℕ) (i : ℕ)
    → is_found (named_among (K ++ n ∷ []) x i) ≡ (is_found (named_among K x i) || same_name n x)
unfolding named_among
named_more [] n x i = go (same_name n x)
  where
    go : (b : Bool) → is_found (cond b (Some (Struct i)) None) ≡ b
    go true = refl
    go false = refl
named_more (y ∷ K) n x i = go (same_name y x) (named_more K n x (i + 1))
  where
    go : (b : Bool)
        → is_found (named_among (K ++ n ∷ []) x (i + 1)) ≡ (is_found (named_among K x (i + 1)) || same_name n x)
        → is_found (cond b (Some (Struct i)) (named_among (K ++ n ∷ []) x (i + 1)))
        ≡ (is_found (cond b (Some (Struct i)) (named_among K x (i + 1))) || same_name n x)
    go true ih = refl
    go false ih = ih

has_more : (K : List (List ℕ)) (n x : List ℕ) → has_name (K ++ n ∷ []) x ≡ (has_name K x || same_name n x)
unfolding type_among
has_more K n x = go (atomic_named x)
  where
    go : (a : Option Kind) → is_found (atomic_or a (named_among (K ++ n ∷ []) x 0))
        ≡ (is_found (atomic_or a (named_among K x 0)) || same_name n x)
    go (Some a) = refl
    go None = named_more K n x 0

pub names_known : Known has_name
names_known =
    record {
      self = λ K n. has_more K n n ∙ or_right (has_name K n) (same_name n n) (lower_same n n refl);
      more = λ K n x e. has_more K n x ∙ or_left (has_name K x) (same_name n x) e;
      least = λ K L n w h x e.
          ⊎_elim (w x) (λ q. ap is_found (sym (type_same n x q L)) ∙ h)
          (or_cases (has_name K x) (same_name n x) (sym (has_more K n x) ∙ e));
    }

-- ---- the rounds over a book go by the names that are known

module _ (book : List ℕ) (ds : List Def) (i : ℕ) where
  step_name : (s : Verdict) → verdict_on book (view_of ds) i ≡ s → (es : List Def) → step_of s ds ≡ ok es
      → (view_of es).names ≡ (view_of ds).names ++ type_named book i ∷ []
  unfolding view_of
  step_name (against r) e es q = let z : true ≡ false = cc in absurd (true≢false z)
  step_name (for d) e es q =
      let z : ds ++ d ∷ [] ≡ es = cc in
      rw (← z) (map-append (λ (x : Def). x.name) ds (d ∷ []) ∙ rw (verdict_name book ds i d e))

  step_never : (s : Verdict) → verdict_on book (view_of ds) i ≡ s → (p : ℕ) → step_of s ds ≡ no (stuck_at p) → ⊥
  step_never (against r) e p q = verdict_never book ds i p (cc)
  step_never (for d) e p q = let z : true ≡ false = cc in true≢false z

pub book_ties : (book : List ℕ)
    → Ties has_name (type_named book) (uses_of book) (λ ds. (view_of ds).names) stuck_at (ready_in book) (add_in book)
unfolding ready_in add_in
book_ties book =
    record {
      asks = λ ds i. refl;
      adds = λ ds es i e. step_name book ds i (verdict_on book (view_of ds) i) refl es e;
      never = λ ds i p e. step_never book ds i (verdict_on book (view_of ds) i) refl p e;
    }

-- ---- the theorem

module _ (book : List ℕ) (start : List Def) where
  -- acceptance shows an ordering, and the types were added in it
  pub accepted_ordered : (ds : List Def) → rounds_from book start ≡ accepted ds
      → (o : List ℕ) × Ordering book start o × ((view_of ds).names ≡ (view_of start).names ++ map (type_named book) o)
  unfolding rounds_from
  accepted_ordered ds e =
      let s = shown (book_ties book) (types_in book) start (up_from 0 (types_in book)) ds e in
      (s.order, record { same = s.same; ordered = s.ordered }, s.names)

  -- refusal 10 means that there is none
  pub refused_unordered : (p : ℕ) → rounds_from book start ≡ refused (stuck_at p)
      → (o : List ℕ) → Ordering book start o → ⊥
  unfolding rounds_from
  refused_unordered p e o g =
      none (book_ties book) names_known (types_in book) start (up_from 0 (types_in book)) p
      (omega (arith, up_length 0 (types_in book))) e o g.same g.ordered

-- ---- over a whole build

-- the book's types in an order with every member type atomic, predefined or earlier, and the types of a registry are
-- the predefined ones, then those in that order
pub record BuiltInOrder (ids : PredefinedIds) (book : List ℕ) (ds : List Def) : Type 0 where
  pub order : List ℕ
  pub ordering : Ordering book (predefined ids) order
  pub names : map (λ (d : Def). d.name) ds
      ≡ timer_name ∷ counter_name ∷ control_name ∷ string_name ∷ map (type_named book) order

module _ (ids : PredefinedIds) (book : List ℕ) where
  -- an accepted build shows an ordering of the book, and its types were added in it
  pub build_ordered : (ds : List Def) → build_of ids book ≡ accepted ds
      → BuiltInOrder ids book ds
  unfolding view_of with_timer with_counter with_control predefined new_def
  build_ordered ds e =
      let a = accepted_both ids book ds e in
      let s = accepted_ordered book (predefined ids) ds a.1 in
      record { order = s.0; ordering = s.1; names = s.2 }

  -- where a build gives refusal 10, no ordering of the book has every member type atomic, predefined or earlier
  pub build_unordered : (p : ℕ) → build_of ids book ≡ refused (10, p)
      → (o : List ℕ) → Ordering book (predefined ids) o → ⊥
  build_unordered p e =
      refused_unordered book (predefined ids) p
      (refused_rounds ids book p e)
