-- Laws of an answer whose error is turned into another (document 01, "Refusal numbers": a fault becomes its type's
-- refusal): what the answer was before.
use Rattle.std.specs.Prelude.{◌≡◌, refl, Result, Ok, Err, MatchResult}
use Rattle.std.specs.Result.{IsErrAnd}

module _ {A E D : Type 0} {a : Result A E} {b : Result A D} (P : E → D → Type 0) where
  -- where a value is left, it was the value before
  pub mapped_ok : MatchResult a (λ x. b ≡ Ok x) (λ e. IsErrAnd b (P e)) → {x : A} → b ≡ Ok x → a ≡ Ok x
  mapped_ok m {x} q = go a m
    where
      go : (r : Result A E) → MatchResult r (λ x. b ≡ Ok x) (λ e. IsErrAnd b (P e)) → r ≡ Ok x
      go (Ok y) h = cc
      go (Err e) h = absurd (rw q at h)

  -- where an error is left, it is what was made of the error before
  pub mapped_err : MatchResult a (λ x. b ≡ Ok x) (λ e. IsErrAnd b (P e)) → {d : D} → b ≡ Err d
      → (e : E) × (a ≡ Err e) × P e d
  mapped_err m {d} q = go a m
    where
      go : (r : Result A E) → MatchResult r (λ x. b ≡ Ok x) (λ e. IsErrAnd b (P e)) → (e : E) × (r ≡ Err e) × P e d
      go (Ok y) h = cc
      go (Err e) h = (e, refl, rw q at h)
