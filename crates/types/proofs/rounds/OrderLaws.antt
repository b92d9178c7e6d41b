-- The theorem about refusal 10 (document 01, "Order of building"): where it comes, no ordering of the waiting types has
-- every member type known at the start or earlier; acceptance shows one. Over any state and any way to add a type, as
-- long as they go by the names that are known.
use Prim.Native.Nat.{ℕ, suc, ◌≤◌}
use native.Mathlib.Omega.{arith}
use mathlib.Core.Path.{◌≡◌, refl, sym, ap, ◌∙◌}
use mathlib.Core.Bool.{Bool, true, false, true≢false, and-eq-true_iff}
use mathlib.Core.List.{List, [], ◌∷◌, ◌++◌, map, append_assoc, append-nil, map-append}
use mathlib.Core.List.Memᴰ
use mathlib.Core.List.{Memᴰ}
use mathlib.Core.Logic.{◌⊎◌, inl, inr, ⊎_elim}
use lib.ListN.{length, length-append}
use Rattle.types.specs.book.Contents.{every}
use Rattle.types.specs.rounds.Order.{all_known, Within, Known, Ordered, Same, Shown}
use Rattle.types.specs.rounds.Rounds.{Step, no, ok, stop, went, accepted, refused, round, rounds}
use Rattle.types.proofs.rounds.RoundLaws.{RoundWays, round_cases, rounds_cases}

-- ---- the same numbers

same_refl : (o : List ℕ) → Same o o
same_refl o = record { long = refl; into = λ i m. m; back = λ i m. m }

same_trans : {a b c : List ℕ} → Same a b → Same b c → Same a c
same_trans p q =
    record {
      long = p.long ∙ q.long;
      into = λ i m. q.into i (p.into i m);
      back = λ i m. p.back i (q.back i m);
    }

-- each number of the one list is in the other
abbrev Into : List ℕ → List ℕ → Type 0
Into a b = (i : ℕ) → Memᴰ i a → Memᴰ i b

cons_into : {a b : List ℕ} (j : ℕ) → Into a b → Into (j ∷ a) (j ∷ b)
cons_into j f i m = ⊎_elim (λ e. Memᴰ.head e) (λ q. Memᴰ.tail (f i q)) (Memᴰ.cases_cons m)

same_cons : {a b : List ℕ} (j : ℕ) → Same a b → Same (j ∷ a) (j ∷ b)
same_cons j p = record { long = ap suc p.long; into = cons_into j p.into; back = cons_into j p.back }

left_into : {a b : List ℕ} (l : List ℕ) → Into a b → Into (l ++ a) (l ++ b)
left_into {b = b} l f i m =
    ⊎_elim (Memᴰ.append_left b) (λ q. Memᴰ.append_right l (f i q)) (Memᴰ.append_cases l m)

same_left : {a b : List ℕ} (l : List ℕ) → Same a b → Same (l ++ a) (l ++ b)
same_left {a} {b} l p =
    record {
      long = omega (arith, length-append l a, length-append l b, p.long);
      into = left_into l p.into;
      back = left_into l p.back;
    }

-- a number may come first
module _ (j : ℕ) (l r : List ℕ) where
  into_first : Into (l ++ j ∷ r) (j ∷ (l ++ r))
  into_first i m =
      ⊎_elim (λ q. Memᴰ.tail (Memᴰ.append_left r q)) (λ q. cons_into j (λ k. Memᴰ.append_right l) i q)
      (Memᴰ.append_cases l m)

  from_first : Into (j ∷ (l ++ r)) (l ++ j ∷ r)
  from_first i m =
      ⊎_elim (λ e. Memᴰ.append_right l (Memᴰ.head e)) (λ q. left_into l (λ k. Memᴰ.tail) i q)
      (Memᴰ.cases_cons m)

  same_first : Same (l ++ j ∷ r) (j ∷ (l ++ r))
  same_first = record { long = simp length-append (omega arith); into = into_first; back = from_first }

-- ---- orderings

module _ {N : Type 0} (has : List N → N → Bool) where
  all_within : (K L us : List N) → Within has K L → all_known has K us ≡ true → all_known has L us ≡ true
  unfolding every
  all_within K L [] w e = refl
  all_within K L (u ∷ us) w e =
      let both = (and-eq-true_iff (has K u) (all_known has K us)).0 e in
      rw (w u both.0) (all_within K L us w both.1)

  module _ (name : ℕ → N) (uses : ℕ → List N) where
    ordered_append : (K : List N) (a b : List ℕ) → Ordered has name uses K a
        → Ordered has name uses (K ++ map name a) b → Ordered has name uses K (a ++ b)
    unfolding Ordered
    ordered_append K [] b p q = rw append-nil at q
    ordered_append K (i ∷ a) b p q = (p.0, ordered_append (K ++ name i ∷ []) a b p.1 (rw append_assoc q))

    -- from the types that waited, with the names K, to those that wait, with the names L: the others in such an order
    record InOrder (K : List N) (waited : List ℕ) (L : List N) (waiting : List ℕ) : Type 0 where
      order : List ℕ
      same : Same (order ++ waiting) waited
      ordered : Ordered has name uses K order
      names : L ≡ K ++ map name order

    added_none : (K : List N) (ws : List ℕ) → InOrder K ws K ws
    unfolding Ordered
    added_none K ws = record { order = []; same = same_refl ws; ordered = tt; names = sym (append-nil K) }

    added_one : (K : List N) (i : ℕ) (ws : List ℕ) → all_known has K (uses i) ≡ true
        → InOrder K (i ∷ ws) (K ++ name i ∷ []) ws
    unfolding Ordered
    added_one K i ws h = record { order = i ∷ []; same = same_refl (i ∷ ws); ordered = (h, tt); names = refl }

    module _ {K L : List N} {ws vs : List ℕ} (a : InOrder K ws L vs) where
      -- one more that waits
      added_kept : (i : ℕ) → InOrder K (i ∷ ws) L (i ∷ vs)
      added_kept i =
          record {
            order = a.order;
            same = same_trans (same_first i a.order vs) (same_cons i a.same);
            ordered = a.ordered;
            names = a.names;
          }

      added_then : {M : List N} {us : List ℕ} → InOrder L vs M us → InOrder K ws M us
      added_then b =
          record {
            order = a.order ++ b.order;
            same = rw append_assoc (same_trans (same_left a.order b.same) a.same);
            ordered = ordered_append K a.order b.order a.ordered (rw a.names at b.ordered);
            names = b.names ∙ rw (a.names, append_assoc, map-append);
          }

      added_fewer : length vs ≤ length ws
      added_fewer = omega (arith, a.same.long, length-append a.order vs)

    module _ (known : Known has) where
      names_within : (K : List N) (o : List ℕ) → Within has K (K ++ map name o)
      names_within K [] x h = rw append-nil h
      names_within K (i ∷ o) x h = rw append_assoc at (names_within (K ++ name i ∷ []) o x (known.more K (name i) x h))

      names_hold : (K : List N) (o : List ℕ) (i : ℕ) → Memᴰ i o → has (K ++ map name o) (name i) ≡ true
      names_hold K [] i m = absurd (Memᴰ.not-nil m)
      names_hold K (j ∷ o) i m =
          let M = K ++ name j ∷ [] in
          let h : has (M ++ map name o) (name i) ≡ true =
          ⊎_elim (λ e. names_within M o (name i) (rw e (known.self K (name j)))) (λ q. names_hold M o i q)
          (Memᴰ.cases_cons m) in
          rw append_assoc at h

      module _ {K L : List N} {ws vs : List ℕ} (a : InOrder K ws L vs) where
        added_within : Within has K L
        added_within x h = rw a.names (names_within K a.order x h)

        -- what waited is known or waits
        added_else : (i : ℕ) → Memᴰ i ws → (has L (name i) ≡ true) ⊎ Memᴰ i vs
        added_else i m =
            ⊎_elim (λ q. inl (rw a.names (names_hold K a.order i q))) inr
            (Memᴰ.append_cases a.order (a.same.back i m))

      -- where each type of an ordering is known or not ready, each of its types is ready
      ordered_ready : (K L : List N) (o : List ℕ) → Within has K L
          → ((i : ℕ) → Memᴰ i o → (has L (name i) ≡ true) ⊎ (all_known has L (uses i) ≡ false))
          → Ordered has name uses K o → (i : ℕ) → Memᴰ i o → all_known has L (uses i) ≡ true
      unfolding Ordered
      ordered_ready K L [] w f os i m = absurd (Memᴰ.not-nil m)
      ordered_ready K L (j ∷ o) w f os i m =
          let r : all_known has L (uses j) ≡ true = all_within K L (uses j) w os.0 in
          let h : has L (name j) ≡ true =
          ⊎_elim (λ q. q) (λ q. absurd (true≢false (sym r ∙ q))) (f j (Memᴰ.head refl)) in
          ⊎_elim (λ e. rw e r)
          (λ q. ordered_ready (K ++ name j ∷ []) L o (known.least K L (name j) w h)
          (λ k n. f k (Memᴰ.tail n)) os.1 i q)
          (Memᴰ.cases_cons m)

      -- so where types wait and none of them is ready, there was no ordering from the start
      no_order : {K L : List N} {all : List ℕ} {w : ℕ} {ws : List ℕ} → InOrder K all L (w ∷ ws)
          → ((i : ℕ) → Memᴰ i (w ∷ ws) → all_known has L (uses i) ≡ false)
          → (o : List ℕ) → Same o all → Ordered has name uses K o → ⊥
      no_order {K} {L} {all} {w} a f o e os =
          let first = Memᴰ.head refl in
          let waited = a.same.into w (Memᴰ.append_right a.order first) in
          let ready =
          ordered_ready K L o (added_within a)
          (λ i m. ⊎_elim inl (λ q. inr (f i q)) (added_else a i (e.into i m))) os w (e.back w waited) in
          true≢false (sym ready ∙ f w first)

-- ---- the rounds

-- what ties a state and the way to add a type to the names that are known: ready asks that all member types are known,
-- a type's name is added and no other, and refusal 10 is not one of the refusals of adding
pub record Ties {N S R : Type 0} (has : List N → N → Bool) (name : ℕ → N) (uses : ℕ → List N) (names : S → List N)
    (stuck : ℕ → R) (ready : S → ℕ → Bool) (add : S → ℕ → Step S R) : Type 0 where
  pub asks : (s : S) (i : ℕ) → ready s i ≡ all_known has (names s) (uses i)
  pub adds : (s s' : S) (i : ℕ) → add s i ≡ ok s' → names s' ≡ names s ++ name i ∷ []
  pub never : (s : S) (i p : ℕ) → add s i ≡ no (stuck p) → ⊥

module _ {N S R : Type 0} {has : List N → N → Bool} {name : ℕ → N} {uses : ℕ → List N} {names : S → List N}
    {stuck : ℕ → R} {ready : S → ℕ → Bool} {add : S → ℕ → Step S R}
    (ties : Ties has name uses names stuck ready add) where
  -- what a round does; where as many wait as before, none of them was ready
  record RoundPassed (s : S) (ws : List ℕ) (s' : S) (ws' : List ℕ) : Type 0 where
    added : InOrder has name uses (names s) ws (names s') ws'
    idle : length ws' ≡ length ws → (i : ℕ) → Memᴰ i ws → all_known has (names s) (uses i) ≡ false

  passed_added : (s t : S) (i : ℕ) (ws : List ℕ) → ready s i ≡ true → add s i ≡ ok t
      → (s' : S) (ws' : List ℕ) → RoundPassed t ws s' ws' → RoundPassed s (i ∷ ws) s' ws'
  passed_added s t i ws h e s' ws' p =
      let first = added_one has name uses (names s) i ws (sym (ties.asks s i) ∙ h) in
      record {
        added = added_then has name uses first (rw (ties.adds s t i e) at p.added);
        idle = λ l. absurd (omega (arith, added_fewer has name uses p.added));
      }

  passed_kept : (s : S) (i : ℕ) (ws : List ℕ) → ready s i ≡ false
      → (s' : S) (ws' : List ℕ) → RoundPassed s ws s' ws' → RoundPassed s (i ∷ ws) s' (i ∷ ws')
  passed_kept s i ws h s' ws' p =
      record {
        added = added_kept has name uses p.added i;
        idle = λ l j m.
            ⊎_elim (λ e. rw e (sym (ties.asks s i) ∙ h)) (λ q. p.idle (omega arith) j q) (Memᴰ.cases_cons m);
      }

  -- a refusal other than 10
  abbrev Other : R → Type 0
  Other r = (p : ℕ) → r ≡ stuck p → ⊥

  ways : RoundWays stuck ready add Other RoundPassed
  ways =
      record {
        over = λ s.
            record { added = added_none has name uses (names s) []; idle = λ l i m. absurd (Memᴰ.not-nil m) };
        refuses = λ s i r h e p q. ties.never s i p (cc);
        adds = passed_added;
        waits = passed_kept;
      }

  passed : (s : S) (ws : List ℕ) (s' : S) (ws' : List ℕ) → round stuck ready add s ws ≡ went s' ws'
      → RoundPassed s ws s' ws'
  passed s ws s' ws' e = rw e at (round_cases stuck ready add Other RoundPassed ways s ws)

  other : (s : S) (ws : List ℕ) (r : R) → round stuck ready add s ws ≡ stop r → Other r
  other s ws r e = rw e at (round_cases stuck ready add Other RoundPassed ways s ws)

  all_added : (k : ℕ) (s : S) (ws : List ℕ) (s' : S) → rounds stuck ready add k s ws ≡ accepted s'
      → InOrder has name uses (names s) ws (names s') []
  all_added =
      rounds_cases stuck ready add
      (λ k s ws a. (s' : S) → a ≡ accepted s' → InOrder has name uses (names s) ws (names s') [])
      (record {
        done = λ k s s' q. let z : s ≡ s' = cc in rw (← z) (added_none has name uses (names s) []);
        spent = λ s w ws s' q. let z : true ≡ false = cc in absurd (true≢false z);
        refuses = λ k s w ws r f s' q. let z : true ≡ false = cc in absurd (true≢false z);
        idle = λ k s w ws t vs f l s' q. let z : true ≡ false = cc in absurd (true≢false z);
        goes = λ k s w ws t vs a f l ih s' q. added_then has name uses (passed s (w ∷ ws) t vs f).added (ih s' q);
      })

  -- acceptance shows an ordering of all the waiting types
  pub shown : (k : ℕ) (s : S) (ws : List ℕ) (s' : S) → rounds stuck ready add k s ws ≡ accepted s'
      → Shown has name uses (names s) ws (names s')
  shown k s ws s' e =
      let a = all_added k s ws s' e in
      record { order = a.order; same = rw append-nil at a.same; ordered = a.ordered; names = a.names }

  module _ (known : Known has) where
    -- from the start, with the names K and all types waiting
    none_from : (K : List N) (all : List ℕ) (k : ℕ) (s : S) (ws : List ℕ) → length ws ≤ k
        → InOrder has name uses K all (names s) ws → (p : ℕ) → rounds stuck ready add k s ws ≡ refused (stuck p)
        → (o : List ℕ) → Same o all → Ordered has name uses K o → ⊥
    none_from K all =
        rounds_cases stuck ready add
        (λ k s ws a. length ws ≤ k → InOrder has name uses K all (names s) ws → (p : ℕ) → a ≡ refused (stuck p)
        → (o : List ℕ) → Same o all → Ordered has name uses K o → ⊥)
        (record {
          done = λ k s l g p q. let z : true ≡ false = cc in absurd (true≢false z);
          spent = λ s w ws l. absurd (omega arith);
          refuses = λ k s w ws r f l g p q. absurd (other s (w ∷ ws) r f p (cc));
          idle = λ k s w ws t vs f e l g p q. no_order has name uses known g ((passed s (w ∷ ws) t vs f).idle e);
          goes = λ k s w ws t vs a f e ih l g.
              let h = (passed s (w ∷ ws) t vs f).added in
              ih (omega (arith, added_fewer has name uses h, e)) (added_then has name uses g h);
        })

    -- refusal 10 means that no ordering of the waiting types has every member type known at the start or earlier
    pub none : (k : ℕ) (s : S) (ws : List ℕ) (p : ℕ) → length ws ≤ k
        → rounds stuck ready add k s ws ≡ refused (stuck p)
        → (o : List ℕ) → Same o ws → Ordered has name uses (names s) o → ⊥
    none k s ws p l = none_from (names s) ws k s ws l (added_none has name uses (names s) ws) p
