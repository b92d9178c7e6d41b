-- The BOOLs of a structure put back (document 01, "Normal image"): each bit that a visible BOOL holds is as it was, and
-- every other stands.
use Prim.Native.Nat.{ℕ, zero, suc, ◌+◌, ◌<◌}
use native.Mathlib.Nat.{zero-add}
use native.Mathlib.Omega.{arith}
use mathlib.Core.Path.{◌≡◌, refl, ◌∙◌}
use mathlib.Core.Bool.{Bool, true, false, cond}
use mathlib.Core.List.{List, [], ◌∷◌}
use Rattle.words.specs.Bits.{Bits, from, stamp}
use Rattle.words.proofs.StampLaws.{one_back}
use Rattle.types.specs.layout.Laid.{first_bit}
use Rattle.types.specs.tables.Lent.{member_at}
use Rattle.types.specs.declared.tables.member.Member.{Member}
use Rattle.values.specs.inside.normal_image.InPlace.{flagged, is_flag}
use Rattle.values.specs.normal_image.Normal.{held}
use Rattle.values.specs.reading.Leaf.{flag}
use Rattle.values.specs.reading.Tree.{Item, at}
use Rattle.values.specs.reading.Trees.{members_at}

-- the items of the visible BOOLs, where their structure begins at bit p
unfoldable pub flag_items : ℕ → List Member → List Item
flag_items p [] = []
flag_items p (m ∷ ms) = cond (is_flag m) (at (p + first_bit m) flag ∷ flag_items p ms) (flag_items p ms)

-- the bits from number j on are those that x has in the BOOLs' places
unfoldable pub SameFlags : Bits → Bits → ℕ → ℕ → List Member → Type 0
SameFlags b x p j [] = Unit {0}
SameFlags b x p j (m ∷ ms) = (is_flag m ≡ true → b j ≡ x (p + first_bit m)) × SameFlags b x p (j + 1) ms

-- a member that may be a visible BOOL
back_step : (b x : Bits) (q j : ℕ) (is : List Item) (y : Bits) (k : ℕ) (c : Bool) → (c ≡ true → b j ≡ x q)
    → cond (held is k) (x k) (cond c (stamp q 1 (from j b) y) y k)
    ≡ cond (held (cond c (at q flag ∷ is) is) k) (x k) (y k)
unfolding held
back_step b x q j is y k true e = one_back b x q j y k (held is k) (e refl)
back_step b x q j is y k false e = refl

-- with the BOOLs put back, each bit that one of them holds is as it was, and every other stands
pub flagged_is : (b x : Bits) (p j : ℕ) (ms : List Member) → SameFlags b x p j ms → (y : Bits) (k : ℕ)
    → flagged b p j ms y k ≡ cond (held (flag_items p ms) k) (x k) (y k)
unfolding flagged flag_items SameFlags held
flagged_is b x p j [] s y k = refl
flagged_is b x p j (m ∷ ms) s y k =
    let e : j + 1 ≡ suc j = omega arith in
    flagged_is b x p (suc j) ms (rw e at s.1) (cond (is_flag m) (stamp (p + first_bit m) 1 (from j b) y) y) k
    ∙ back_step b x (p + first_bit m) j (flag_items p ms) y k (is_flag m) s.0

-- the same by rows, from number j on
same_from : (b x : Bits) (p : ℕ) (members : List ℕ) (first n j : ℕ)
    → ((k : ℕ) → k < n → is_flag (member_at members (first + k)) ≡ true
    → b (j + k) ≡ x (p + first_bit (member_at members (first + k))))
    → SameFlags b x p j (members_at members first n)
unfolding SameFlags members_at
same_from b x p members first zero j h = tt
same_from b x p members first (suc n) j h =
    let g : first + 0 ≡ first = omega arith in
    let z : j + 0 ≡ j = omega arith in (
      rw (g, z) at (h 0 (omega arith)),
      same_from b x p members (first + 1) n (j + 1) (λ k l.
          let e : first + (k + 1) ≡ first + 1 + k = omega arith in
          let f : j + (k + 1) ≡ j + 1 + k = omega arith in
          rw (e, f) at (h (k + 1) (omega arith))),
    )

-- bits that are those of the BOOLs' places row by row are so for the members of these rows
pub same_rows : (b x : Bits) (p : ℕ) (members : List ℕ) (first n : ℕ)
    → ((k : ℕ) → k < n → is_flag (member_at members (first + k)) ≡ true
    → b k ≡ x (p + first_bit (member_at members (first + k))))
    → SameFlags b x p 0 (members_at members first n)
same_rows b x p members first n h = same_from b x p members first n 0 (λ k l f. rw zero-add (h k l f))
