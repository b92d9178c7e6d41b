-- Rounds over the waiting types (document 01, "Order of building"), over any state, any refusals and any way to add a
-- type: rounds over the waiting types in book order; one is added when all its member types are known, those of the
-- same round included. Refusal 10 comes when a round adds nothing.
use Rattle.std.specs.Prelude.{ℕ, zero, suc, Bool, cond, List, [], ◌∷◌, eqb, length, get_or}

-- what adding one type gives
pub data Step (S R : Type 0) : Type 0 where
  -- a refusal
  no : R → Step S R
  -- the state with it
  ok : S → Step S R

-- what one round gives
pub data Out (S R : Type 0) : Type 0 where
  -- a refusal
  stop : R → Out S R
  -- the state after it, and the types that still wait
  went : S → List ℕ → Out S R

-- what all rounds give
pub data Answer (S R : Type 0) : Type 0 where
  -- a refusal
  refused : R → Answer S R
  -- the state with all the types
  accepted : S → Answer S R

module _ {S R : Type 0} where
  -- a type that is not added still waits, before those that come after it
  abbrev pub keep : ℕ → Out S R → Out S R
  keep i (stop r) = stop r
  keep i (went s ws) = went s (i ∷ ws)

  -- a round goes on from the state with the type
  abbrev pub on_step : Step S R → (S → Out S R) → Out S R
  on_step (no r) k = stop r
  on_step (ok s) k = k s

  -- a round of n types that leaves n added nothing: refusal 10, and its place is the first waiting one
  abbrev pub on_round : (ℕ → R) → ℕ → Out S R → (S → List ℕ → Answer S R) → Answer S R
  on_round stuck n (stop r) k = refused r
  on_round stuck n (went s ws) k = cond (eqb (length ws) n) (refused (stuck (get_or ws 0 0))) (k s ws)

-- stuck is refusal 10 with its place; ready, that all member types of a type are known
module _ {S R : Type 0} (stuck : ℕ → R) (ready : S → ℕ → Bool) (add : S → ℕ → Step S R) where
  unfoldable pub round : S → List ℕ → Out S R
  round s [] = went s []
  round s (i ∷ ws) = cond (ready s i) (on_step (add s i) (λ s'. round s' ws)) (keep i (round s ws))

  -- at most so many rounds; each but the last adds a type, so as many as types wait are enough
  unfoldable pub rounds : ℕ → S → List ℕ → Answer S R
  rounds zero s [] = accepted s
  rounds zero s (w ∷ ws) = refused (stuck w)
  rounds (suc k) s [] = accepted s
  rounds (suc k) s (w ∷ ws) = on_round stuck (length (w ∷ ws)) (round s (w ∷ ws)) (λ s' ws'. rounds k s' ws')
