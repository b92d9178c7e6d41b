-- The ways out of a build (document 01, "Order of building" and refusals 22 and 1): what was accepted passed both tests
-- and is what the rounds made; refusal 10 is one of the rounds.
use Prim.Native.Nat.{ℕ}
use native.Mathlib.Omega.{arith}
use mathlib.Core.Path.{◌≡◌, refl, ap}
use mathlib.Core.Bool.{Bool, true, false, cond}
use mathlib.Core.List.{List}
use Rattle.types.specs.book.Contents.{book_ok}
use Rattle.types.specs.layout.Predefined.{predefined_ids, predefined}
use Rattle.types.specs.refusals.Said.{Why}
use Rattle.types.specs.rounds.Build.{build_of}
use Rattle.types.specs.rounds.Rounds.{Answer, refused, accepted}
use Rattle.types.specs.rounds.Turns.{rounds_from, stuck_at}
use Rattle.types.specs.tables.Defs.{Def}
use Rattle.types.specs.declared.layout.predefined.PredefinedIds.{PredefinedIds}

passed : (p b : Bool) {a : Answer (List Def) Why} (ds : List Def)
    → cond p (cond b a (refused (1, 0))) (refused (22, 0)) ≡ accepted ds → (p ≡ true) × (a ≡ accepted ds)
passed true true {a} ds e = (refl, e)
passed true false {a} ds e = (refl, cc)
passed false b {a} ds e = (cc, cc)

-- a refusal with another number is not refusal 10
other : {A : Type 0} (m n : ℕ) → (m ≡ 10 → ⊥) → ◌≡◌ {A = Answer (List Def) Why} (refused (m, 0)) (refused (stuck_at n))
    → A
other m n h e =
    let z : ◌≡◌ {A = Why} (m, 0) (stuck_at n) = cc in
    absurd (h (ap (λ (w : Why). w.0) z))

stuck : (p b : Bool) {a : Answer (List Def) Why} (n : ℕ)
    → cond p (cond b a (refused (1, 0))) (refused (22, 0)) ≡ refused (stuck_at n) → a ≡ refused (stuck_at n)
stuck true true {a} n e = e
stuck true false {a} n e = other 1 n (λ z. omega arith) e
stuck false b {a} n e = other 22 n (λ z. omega arith) e

module _ (ids : PredefinedIds) (book : List ℕ) where
  -- an accepted build passed the test of the ids, and the rounds from the predefined types accepted the same
  pub accepted_both : (ds : List Def) → build_of ids book ≡ accepted ds
      → (predefined_ids ids ≡ true)
      × (rounds_from book (predefined ids) ≡ accepted ds)
  unfolding build_of
  accepted_both ds e = passed (predefined_ids ids) (book_ok book) ds e

  -- where a build gives refusal 10, the rounds gave it
  pub refused_rounds : (p : ℕ) → build_of ids book ≡ refused (stuck_at p)
      → rounds_from book (predefined ids) ≡ refused (stuck_at p)
  unfolding build_of
  refused_rounds p e = stuck (predefined_ids ids) (book_ok book) p e
