-- Laws of the first pass of a layout: the ways out of one member, the members that are left, and how far a cursor can
-- have come.
use Rattle.std.specs.Prelude.{Result, Ok, Err}
use Prim.Native.Nat.{ℕ, ◌+◌, ◌≤◌}
use native.Mathlib.Omega.{arith}
use mathlib.Core.Path.{◌≡◌, refl, sym}
use mathlib.Core.Bool.{true, false, true≢false}
use mathlib.Core.List.{List, [], ◌∷◌}
use lib.ListN.{length}
use Rattle.types.specs.inside.layout.Passes.{then_measure, measure_one, measured, Fair, Far, Near, Measured, came}
use Rattle.types.specs.inside.layout.Placing.{shared_bits}
use Rattle.types.specs.layout.Placing.{placed, opened, next_bit, closed}
use Rattle.types.specs.declared.layout.placing.Cursor.{Cursor}
use Rattle.types.specs.declared.layout.placing.Decl.{Decl}
use Rattle.types.specs.declared.layout.placing.Host.{Host}
use Rattle.types.specs.declared.layout.placing.Host.TheVariants.{Closed, Open, Shared}
use Rattle.types.specs.declared.layout.placing.LayoutFault.{LayoutFault}
use Rattle.types.specs.declared.layout.placing.LayoutFault.TheVariants.{AccessWrong, TooFar}
use Rattle.types.specs.declared.layout.placing.Placed.{Placed}
use Rattle.types.specs.declared.layout.placing.Placed.TheVariants.{Hosted, One}
use Rattle.types.specs.declared.tables.member.Member.{Member}
use Rattle.types.proofs.layout.PlaceLaws.{place_cases, came_cursor, came_names}

module _ (host : ℕ → List ℕ) (c : Cursor) (n : ℕ) (d : Decl) {p : Result Placed LayoutFault}
    (e : p ≡ placed c d) where
  -- where a host opens, the lengths of its name and of the member's are added
  pub one_hosted : {h m : Member} {c' : Cursor} {long : ℕ} → p ≡ Ok (Hosted h m c') → long ≡ length (host c.members)
      → came c' (n + long + d.name.long) ≡ measure_one host c n d
  unfolding measure_one
  one_hosted {long} q l = rw (← e, q, l)

  -- where the member is placed alone, the length of its name is added
  pub one_alone : {m : Member} {c' : Cursor} → p ≡ Ok (One m c') → came c' (n + d.name.long) ≡ measure_one host c n d
  unfolding measure_one
  one_alone q = rw (← e, q)

  -- a member with a wrong access, or one that ends too far, is measured as that
  pub one_fault : (f : LayoutFault) → p ≡ Err f → Err f ≡ measure_one host c n d
  unfolding measure_one
  one_fault AccessWrong q = rw (← e, q)
  one_fault TooFar q = rw (← e, q)

-- ---- the members that are left

module _ (host : ℕ → List ℕ) (c : Cursor) (n : ℕ) (d : Decl) (ds : List Decl) where
  next : (p : Result Placed LayoutFault) {c' : Cursor} {n' : ℕ} (a b : ℕ) (rest : Cursor → ℕ → Measured)
      → then_measure p a b n (λ x y. came x y) ≡ came c' n' → then_measure p a b n rest ≡ rest c' n'
  next (Ok (Hosted h m x)) {c'} {n'} a b rest q =
      let e : x ≡ c' = came_cursor q in
      let f : n + a + b ≡ n' = came_names q in
      rw (e, f)
  next (Ok (One m x)) {c'} {n'} a b rest q =
      let e : x ≡ c' = came_cursor q in
      let f : n + b ≡ n' = came_names q in
      rw (e, f)
  next (Err AccessWrong) a b rest q = cc
  next (Err TooFar) a b rest q = cc

  refuses : (p : Result Placed LayoutFault) (a b : ℕ) (rest : Cursor → ℕ → Measured) {r : Measured}
      → ((c' : Cursor) (n' : ℕ) → r ≡ came c' n' → ⊥) → r ≡ then_measure p a b n (λ x y. came x y)
      → then_measure p a b n rest ≡ r
  refuses (Ok (Hosted h m x)) a b rest w e = elim (w _ _ e) [ ]
  refuses (Ok (One m x)) a b rest w e = elim (w _ _ e) [ ]
  refuses (Err AccessWrong) a b rest w e = sym e
  refuses (Err TooFar) a b rest w e = sym e

  -- where the first member is measured, the whole measures as those after it do from there
  pub measured_on : {c' : Cursor} {n' : ℕ} → measure_one host c n d ≡ came c' n'
      → measured host c n (d ∷ ds) ≡ measured host c' n' ds
  unfolding measure_one measured
  measured_on q = next (placed c d) _ _ (λ x y. measured host x y ds) q

  -- where the first member is refused, the whole is refused so
  pub measured_refused : {r : Measured} → ((c' : Cursor) (n' : ℕ) → r ≡ came c' n' → ⊥)
      → r ≡ measure_one host c n d → measured host c n (d ∷ ds) ≡ r
  unfolding measure_one measured
  measured_refused w e = refuses (placed c d) _ _ (λ x y. measured host x y ds) w e

-- where no member is left, the cursor and the bytes of names are what is measured
pub measured_done : (host : ℕ → List ℕ) (c : Cursor) (n : ℕ) → came c n ≡ measured host c n []
unfolding measured
measured_done host c n = refl

-- ---- how far a cursor can have come

carried : {k n n' : ℕ} {c c' : Cursor} → Far k c n → came c n ≡ came c' n' → Far k c' n'
carried {k} {n} {n'} {c} {c'} f q =
    rw (← came_cursor q, ← came_names q) f

never : {A : Type 0} {m : Measured} {c : Cursor} {n : ℕ} → m ≡ came c n → m ≡ (Err AccessWrong) → A
never p q = let z : true ≡ false = cc in absurd (true≢false z)

never_far : {A : Type 0} {m : Measured} {c : Cursor} {n : ℕ} → m ≡ came c n → m ≡ (Err TooFar) → A
never_far p q = let z : true ≡ false = cc in absurd (true≢false z)

closed_bits : (h : Host) → shared_bits (closed h) ≤ shared_bits h
unfolding closed
closed_bits Closed = omega arith
closed_bits (Open b k) = omega arith
closed_bits (Shared i) = omega arith

-- one member more comes no farther than k + 1 members can
pub far_on : (host : ℕ → List ℕ) (k : ℕ) (c : Cursor) (n : ℕ) (d : Decl) {c' : Cursor} {n' : ℕ} → Far k c n → Fair d
    → length (host c.members) ≤ 40 → measure_one host c n d ≡ came c' n' → Far (k + 1) c' n'
unfolding measure_one opened next_bit
far_on host k c n d {c'} {n'} f a h =
    place_cases
    (λ p. then_measure p (length (host c.members)) d.name.long n (λ x y. came x y) ≡ came c' n'
    → Far (k + 1) c' n')
    c d
    (record {
      wrong = λ w q. never q refl;
      opens = λ b w q.
          carried
          (record {
            offset = omega (arith, f.offset);
            members = omega (arith, f.members);
            bits = omega arith;
            names = omega (arith, f.names, a.name);
          })
          q;
      next = λ b byte bit e l q.
          carried
          (record {
            offset = omega (arith, f.offset);
            members = omega (arith, f.members);
            bits = omega arith;
            names = omega (arith, f.names, a.name);
          })
          q;
      shared = λ b i e q.
          carried
          (record {
            offset = omega (arith, f.offset);
            members = omega (arith, f.members);
            bits = omega (arith, rw e at f.bits);
            names = omega (arith, f.names, a.name);
          })
          q;
      other = λ b l q.
          carried
          (record {
            offset = omega arith;
            members = omega (arith, f.members);
            bits = omega (arith, closed_bits c.host, f.bits);
            names = omega (arith, f.names, a.name);
          })
          q;
      far = λ b l q. never_far q refl;
    })

-- a step from a cursor that has not come too far keeps inside 32 bits
pub near : (k : ℕ) (c : Cursor) (n : ℕ) (d : Decl) → k ≤ 131072 → Far k c n → Fair d → Near c n d
near k c n d h f a =
    record {
      able = record {
        aligned = record { far = omega (arith, f.offset); least = a.least; most = a.most };
        members = omega (arith, f.members);
        bits = omega (arith, f.bits);
      };
      few = omega (arith, f.members);
      names = omega (arith, f.names);
      name = a.name;
    }
