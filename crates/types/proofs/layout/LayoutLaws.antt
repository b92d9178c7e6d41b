-- Laws of one step of a layout: a member's end, the ways out of placing, and what a step leaves.
use Rattle.std.specs.Prelude.{Option, Some, None, Ok, Err}
use Prim.Native.Nat.{ℕ, zero, suc, ◌+◌, ◌-◌, ◌*◌, ◌%◌, ◌≤◌, ◌<◌, max}
use native.Mathlib.Omega.{arith}
use mathlib.Core.Path.{◌≡◌, refl, sym, ◌∙◌}
use mathlib.Core.Bool.{true, false}
use borrow.Author.Tests.{eq-eqb, ne_eqb, le-leb, lt-leb}
use Rattle.types.specs.layout.Placing.{most_size, times, member_end, access_ok, is_bool, align_up, other_at, closed}
use Rattle.types.specs.layout.Placing.{said_by, start_of, place_bool, place_other, placed}
use Rattle.types.specs.refusals.Said.{done, refused}
use Rattle.types.specs.declared.layout.placing.Cursor.{Cursor}
use Rattle.types.specs.declared.layout.placing.Decl.{Decl}
use Rattle.types.specs.declared.layout.placing.Host.{Host}
use Rattle.types.specs.declared.layout.placing.LayoutFault.TheVariants.{AccessWrong, TooFar}
use Rattle.types.specs.declared.layout.placing.Placed.TheVariants.{One}

-- a count of 0 is one element
pub times_one : (n : ℕ) → n ≡ 0 → 1 ≡ times n
unfolding times
times_one n e = simp (eq-eqb n 0 e)

-- any other count is as many elements
pub times_same : (n : ℕ) → (n ≡ 0 → ⊥) → n ≡ times n
unfolding times
times_same n e = simp (ne_eqb n 0 e)

-- so it is as many elements, and at least one
pub times_most : (n : ℕ) → max n 1 ≡ times n
times_most zero = times_one 0 refl
times_most (suc n) =
    let same : max (suc n) 1 ≡ suc n = omega arith in
    same ∙ times_same (suc n) (λ e. omega arith)

-- the next multiple of an alignment
pub next_multiple : (x a : ℕ) → 0 < a → a ≤ 4 → x + (a - x % a) % a ≡ align_up x a
unfolding align_up
next_multiple x zero l m = omega arith
next_multiple x (suc zero) l m = let e : suc zero ≡ 1 = refl in rw e (omega arith)
next_multiple x (suc (suc zero)) l m = let e : suc (suc zero) ≡ 2 = refl in rw e (omega arith)
next_multiple x (suc (suc (suc zero))) l m = let e : suc (suc (suc zero)) ≡ 3 = refl in rw e (omega arith)
next_multiple x (suc (suc (suc (suc zero)))) l m = let e : suc (suc (suc (suc zero))) ≡ 4 = refl in rw e (omega arith)
next_multiple x (suc (suc (suc (suc (suc n))))) l m = let f : ⊥ = omega arith in elim f [ ]

module _ (offset size count : ℕ) {end : ℕ} (e : end ≡ offset + size * times count) where
  -- a member that ends at or below 2^26 has that end
  pub end_at : end ≤ most_size → done end ≡ member_end offset size count
  unfolding member_end
  end_at h = rw (← e) (simp (le-leb end most_size h))

  -- a member that ends above 2^26 is refused with 12
  pub end_over : most_size < end → refused 12 0 ≡ member_end offset size count
  unfolding member_end
  end_over h = rw (← e) (simp (lt-leb end most_size h))

-- ---- the ways out of one step

module _ (c : Cursor) (d : Decl) {at : ℕ} (end : Option ℕ) (s : at ≡ start_of c d)
    (e : said_by end ≡ member_end at d.size d.count) where
  ends : member_end (start_of c d) d.size d.count ≡ said_by end
  ends = rw (← s) (sym e)

  -- the way out of any other member where it ends above 2^26: too far
  pub other_over : end ≡ None → Err TooFar ≡ place_other c d
  unfolding place_other
  other_over q = rw (ends, q)

  -- any other member stands at its start, closes the host, and leaves the cursor at its end
  pub other_at_lem : {o : ℕ} {h : Host} → end ≡ Some o → h ≡ closed c.host
      → Ok (One (other_at d at) (record { offset = o; host = h; members = c.members + 1 })) ≡ place_other c d
  unfolding place_other
  other_at_lem {o} {h} q k = rw (s, k, ends, q)

module _ (c : Cursor) (d : Decl) where
  -- a BOOL with a good access goes into a host
  pub placed_bool : access_ok d.access ≡ true → is_bool d.ty ≡ true → Ok (place_bool c.host c d) ≡ placed c d
  unfolding placed
  placed_bool a b = rw (a, b)

  -- any other member with a good access goes to its aligned start, or is too far
  pub placed_other : access_ok d.access ≡ true → is_bool d.ty ≡ false → place_other c d ≡ placed c d
  unfolding placed
  placed_other a b = rw (a, b)

  -- the way out at the access, where it is not 0, 2 or 3
  pub placed_wrong : access_ok d.access ≡ false → Err AccessWrong ≡ placed c d
  unfolding placed
  placed_wrong a = rw a
