-- Laws of rounds over the waiting types (document 01, "Order of building"): what holds of each way that a round can go
-- holds of the round, and so for all rounds; what every addition keeps, the rounds keep; and the next round of a loop.
use Prim.Native.Nat.{ℕ, zero, suc, ◌-◌, ◌<◌, ◌≤◌}
use native.Mathlib.Omega.{arith}
use borrow.Author.Tests.{eqb-true, eqb-false}
use mathlib.Core.Bool.{Bool, true, false, true≢false}
use mathlib.Core.List.{List, [], ◌∷◌}
use mathlib.Core.Path.{◌≡◌, refl}
use lib.Dec.{eqb}
use lib.ListN.{length, get_or}
use Rattle.words.proofs.TestLaws.{either}
use Rattle.types.specs.rounds.Rounds.{Step, no, ok, Out, stop, went, Answer, refused, accepted, keep, on_step}
use Rattle.types.specs.rounds.Rounds.{on_round, round, rounds}

-- ---- one round

module _ {S R : Type 0} where
  -- T holds of the refusal, or P of the state and of the types that wait
  abbrev pub Comes : (R → Type 0) → (S → List ℕ → Type 0) → Out S R → Type 0
  Comes T P (stop r) = T r
  Comes T P (went s ws) = P s ws

module _ {S R : Type 0} (T : R → Type 0) (P Q : S → List ℕ → Type 0) where
  comes_on : (o : Out S R) → ((s : S) (ws : List ℕ) → P s ws → Q s ws) → Comes T P o → Comes T Q o
  comes_on (stop r) f c = c
  comes_on (went s ws) f c = f s ws c

  comes_keep : (i : ℕ) (o : Out S R) → ((s : S) (ws : List ℕ) → P s ws → Q s (i ∷ ws)) → Comes T P o
      → Comes T Q (keep i o)
  comes_keep i (stop r) f c = c
  comes_keep i (went s ws) f c = f s ws c

module _ {S R : Type 0} (stuck : ℕ → R) (ready : S → ℕ → Bool) (add : S → ℕ → Step S R) where
  -- each way that a round can go on with its next type, from state s to s', of the types ws to ws'
  pub record RoundWays (T : R → Type 0) (P : S → List ℕ → S → List ℕ → Type 0) : Type 0 where
    pub over : (s : S) → P s [] s []
    pub refuses : (s : S) (i : ℕ) (r : R) → ready s i ≡ true → add s i ≡ no r → T r
    pub adds : (s t : S) (i : ℕ) (ws : List ℕ) → ready s i ≡ true → add s i ≡ ok t → (s' : S) (ws' : List ℕ)
        → P t ws s' ws' → P s (i ∷ ws) s' ws'
    pub waits : (s : S) (i : ℕ) (ws : List ℕ) → ready s i ≡ false → (s' : S) (ws' : List ℕ)
        → P s ws s' ws' → P s (i ∷ ws) s' (i ∷ ws')

  module _ (T : R → Type 0) (P : S → List ℕ → S → List ℕ → Type 0) (w : RoundWays T P) where
    step_cases : (s : S) (i : ℕ) (ws : List ℕ) → ((t : S) → Comes T (P t ws) (round stuck ready add t ws))
        → ready s i ≡ true → (a : Step S R) → add s i ≡ a
        → Comes T (P s (i ∷ ws)) (on_step a (λ t. round stuck ready add t ws))
    step_cases s i ws ih h (no r) e = w.refuses s i r h e
    step_cases s i ws ih h (ok t) e =
        comes_on T (P t ws) _ (round stuck ready add t ws) (w.adds s t i ws h e) (ih t)

    -- what holds of each way holds of the round
    pub round_cases : (s : S) (ws : List ℕ) → Comes T (P s ws) (round stuck ready add s ws)
    unfolding round
    round_cases s [] = w.over s
    round_cases s (i ∷ ws) =
        either (Comes T (P s (i ∷ ws))) (ready s i)
        (λ h. step_cases s i ws (λ t. round_cases t ws) h (add s i) refl)
        (λ h. comes_keep T (P s ws) _ i (round stuck ready add s ws) (w.waits s i ws h) (round_cases s ws))

  -- ---- all rounds

  -- each way that at most k rounds can go
  pub record RoundsWays (Q : ℕ → S → List ℕ → Answer S R → Type 0) : Type 0 where
    pub done : (k : ℕ) (s : S) → Q k s [] (accepted s)
    pub spent : (s : S) (w : ℕ) (ws : List ℕ) → Q 0 s (w ∷ ws) (refused (stuck w))
    pub refuses : (k : ℕ) (s : S) (w : ℕ) (ws : List ℕ) (r : R) → round stuck ready add s (w ∷ ws) ≡ stop r
        → Q (suc k) s (w ∷ ws) (refused r)
    pub idle : (k : ℕ) (s : S) (w : ℕ) (ws : List ℕ) (s' : S) (ws' : List ℕ)
        → round stuck ready add s (w ∷ ws) ≡ went s' ws' → length ws' ≡ length (w ∷ ws)
        → Q (suc k) s (w ∷ ws) (refused (stuck (get_or ws' 0 0)))
    pub goes : (k : ℕ) (s : S) (w : ℕ) (ws : List ℕ) (s' : S) (ws' : List ℕ) (a : Answer S R)
        → round stuck ready add s (w ∷ ws) ≡ went s' ws' → (length ws' ≡ length (w ∷ ws) → ⊥)
        → Q k s' ws' a → Q (suc k) s (w ∷ ws) a

  module _ (Q : ℕ → S → List ℕ → Answer S R → Type 0) (v : RoundsWays Q) where
    out_cases : (k : ℕ) (s : S) (w : ℕ) (ws : List ℕ)
        → ((s' : S) (ws' : List ℕ) → Q k s' ws' (rounds stuck ready add k s' ws'))
        → (o : Out S R) → round stuck ready add s (w ∷ ws) ≡ o
        → Q (suc k) s (w ∷ ws) (on_round stuck (length (w ∷ ws)) o (λ s' ws'. rounds stuck ready add k s' ws'))
    out_cases k s w ws ih (stop r) e = v.refuses k s w ws r e
    out_cases k s w ws ih (went s' ws') e =
        either (Q (suc k) s (w ∷ ws)) (eqb (length ws') (length (w ∷ ws)))
        (λ q. v.idle k s w ws s' ws' e (eqb-true _ _ q))
        (λ q. v.goes k s w ws s' ws' _ e (eqb-false _ _ q) (ih s' ws'))

    -- what holds of each way holds of the rounds
    pub rounds_cases : (k : ℕ) (s : S) (ws : List ℕ) → Q k s ws (rounds stuck ready add k s ws)
    unfolding rounds
    rounds_cases zero s [] = v.done zero s
    rounds_cases zero s (w ∷ ws) = v.spent s w ws
    rounds_cases (suc k) s [] = v.done (suc k) s
    rounds_cases (suc k) s (w ∷ ws) =
        out_cases k s w ws (λ s' ws'. rounds_cases k s' ws') (round stuck ready add s (w ∷ ws)) refl

  -- ---- what every addition keeps, the rounds keep

  module _ (P : S → Type 0) (adds : (s s' : S) (i : ℕ) → P s → ready s i ≡ true → add s i ≡ ok s' → P s') where
    round_ways : RoundWays (λ r. Unit {0}) (λ s ws s' ws'. P s → P s')
    round_ways =
        record {
          over = λ s p. p;
          refuses = λ s i r h e. tt;
          adds = λ s t i ws h e s' ws' f p. f (adds s t i p h e);
          waits = λ s i ws h s' ws' f. f;
        }

    -- what every addition keeps holds after a round that refused no type
    pub round_keep : (s : S) (ws : List ℕ) (s' : S) (ws' : List ℕ) → P s
        → round stuck ready add s ws ≡ went s' ws' → P s'
    round_keep s ws s' ws' p e = (rw e at (round_cases _ _ round_ways s ws)) p

    -- what every addition keeps holds of the state that all rounds accept
    pub rounds_keep : (k : ℕ) (s : S) (ws : List ℕ) (s' : S) → P s
        → rounds stuck ready add k s ws ≡ accepted s' → P s'
    rounds_keep k s ws s' p e =
        rounds_cases (λ k s ws a. P s → (s' : S) → a ≡ accepted s' → P s')
        (record {
          done = λ k s p s' q. let z : s ≡ s' = cc in rw (← z) p;
          spent = λ s w ws p s' q. let z : true ≡ false = cc in absurd (true≢false z);
          refuses = λ k s w ws r f p s' q. let z : true ≡ false = cc in absurd (true≢false z);
          idle = λ k s w ws t vs f l p s' q. let z : true ≡ false = cc in absurd (true≢false z);
          goes = λ k s w ws t vs a f l ih p. ih (round_keep s (w ∷ ws) t vs p f);
        })
        k s ws p s' e

  -- ---- a round leaves no more types than it began with

  fewer_ways : RoundWays (λ r. Unit {0}) (λ s ws s' ws'. length ws' ≤ length ws)
  fewer_ways =
      record {
        over = λ s. omega arith;
        refuses = λ s i r h e. tt;
        adds = λ s t i ws h e s' ws' l. omega (arith, l);
        waits = λ s i ws h s' ws' l. omega (arith, l);
      }

  -- a round that refused no type leaves at most as many waiting as it began with
  pub round_fewer : (s : S) (ws : List ℕ) (s' : S) {ws' : List ℕ} → round stuck ready add s ws ≡ went s' ws'
      → length ws' ≤ length ws
  round_fewer s ws s' e = rw e at (round_cases _ _ fewer_ways s ws)

  -- ---- the next round of a loop

  -- where none waits, the state is the answer
  pub rounds_none : (k : ℕ) (s : S) (ws : List ℕ) → length ws ≡ 0 → rounds stuck ready add k s ws ≡ accepted s
  unfolding rounds
  rounds_none zero s [] e = refl
  rounds_none zero s (w ∷ ws) e = absurd (omega arith)
  rounds_none (suc k) s [] e = refl
  rounds_none (suc k) s (w ∷ ws) e = absurd (omega arith)

  -- where some wait, the rounds are one round and then those after it
  pub rounds_some : (k : ℕ) (s : S) (ws : List ℕ) → 0 < length ws → length ws ≤ k
      → rounds stuck ready add k s ws
      ≡ on_round stuck (length ws) (round stuck ready add s ws) (λ s' ws'. rounds stuck ready add (k - 1) s' ws')
  unfolding rounds
  rounds_some zero s ws l h = absurd (omega arith)
  rounds_some (suc k) s [] l h = absurd (omega arith)
  rounds_some (suc k) s (w ∷ ws) l h =
      let e : suc k - 1 ≡ k = omega arith in
      rw e
