-- What the first pass of a layout keeps from one member to the next: the whole measures as what is left does from here.
use Prim.Native.Nat.{ℕ, ◌+◌, ◌-◌, ◌*◌, ◌<◌, ◌≤◌}
use native.Mathlib.Nat.{add-zero, sub-zero}
use native.Mathlib.Omega.{arith}
use mathlib.Core.Path.{◌≡◌, sym, ap, ◌∙◌}
use mathlib.Core.List.{List, ◌∷◌}
use Rattle.words.specs.Words.{Bytes}
use Rattle.types.specs.inside.book.Decls.{decl_at, decls_from, Found}
use Rattle.types.specs.inside.layout.Passes.{measure_one, measured, Far, Near, Measurable, Measured, came}
use Rattle.types.specs.layout.HostNames.{host_name}
use Rattle.types.specs.layout.Structs.{udt_start, aoi_start}
use Rattle.types.specs.declared.layout.placing.Cursor.{Cursor}
use Rattle.types.proofs.book.DeclLaws.{decls_cons, decls_none, found_first, decl_fair}
use Rattle.types.proofs.layout.DigitLaws.{host_most}
use Rattle.types.proofs.layout.MeasureLaws.{measured_on, measured_refused, measured_done, far_on}
use Rattle.types.proofs.layout.MeasureLaws.{near}

-- the whole measures as the members from the j-th on do from this cursor, which is not too far
pub record Measuring (types book tys name : List ℕ) (at n : ℕ) (c₀ : Cursor) (n₀ : ℕ) (c : Cursor) (names j : ℕ) :
    Type 0 where
  pub passed : ℕ
  pub few : passed + n ≤ 131072
  pub done : j ≤ n
  pub found : Found book tys at n
  pub far : Far (passed + j) c names
  pub same : measured (host_name name) c₀ n₀ (decls_from types book tys at 0 n)
      ≡ measured (host_name name) c names (decls_from types book tys at j (n - j))

-- it is so before the first member, where all can be measured
pub starts : (types book tys name : List ℕ) (at n : ℕ) (c : Cursor) (names : ℕ) → Measurable book tys at n c names
    → Measuring types book tys name at n c names c names 0
starts types book tys name at n c names m =
    record {
      passed = m.passed;
      few = m.few;
      done = omega arith;
      found = m.found;
      far = rw add-zero m.far;
      same = rw sub-zero;
    }

module _ {types book tys name : List ℕ} {at n n₀ names j : ℕ} {c₀ c : Cursor}
    (m : Measuring types book tys name at n c₀ n₀ c names j) where
  -- after the last member the cursor and the bytes of names are what the whole measures
  pub all_done : n ≤ j → came c names ≡ measured (host_name name) c₀ n₀ (decls_from types book tys at 0 n)
  all_done l = sym (rw (decls_none types book tys at n j l) at m.same ∙ sym (measured_done (host_name name) c names))

  module _ (l : j < n) (b : Bytes book) where
    -- a step at the j-th member keeps inside 32 bits
    pub one_near : Near c names (decl_at types book tys at j)
    one_near = near (m.passed + j) c names _ (omega (arith, m.few)) m.far (decl_fair types book tys at j b)

    -- the first j + 1 members were found
    pub one_found : Found book tys at (j + 1)
    one_found = found_first (j + 1) (omega arith) m.found

    -- the whole measures as this member and those after it
    split : measured (host_name name) c₀ n₀ (decls_from types book tys at 0 n)
        ≡ measured (host_name name) c names
        (decl_at types book tys at j ∷ decls_from types book tys at (j + 1) (n - (j + 1)))
    split = m.same ∙ ap (measured (host_name name) c names) (decls_cons types book tys at n j l)

    module _ (one : Measured) (e : one ≡ measure_one (host_name name) c names (decl_at types book tys at j)) where
      -- where the j-th member is refused, the whole is refused so
      pub refused : ((c' : Cursor) (n' : ℕ) → one ≡ came c' n' → ⊥)
          → one ≡ measured (host_name name) c₀ n₀ (decls_from types book tys at 0 n)
      refused r = sym (split ∙ measured_refused (host_name name) c names _ _ r e)

      -- where the j-th member is measured, it is so at the next
      pub goes_on : {c' : Cursor} {n' : ℕ} → one ≡ came c' n'
          → Measuring types book tys name at n c₀ n₀ c' n' (j + 1)
      goes_on {c'} {n'} q =
          let f : m.passed + j + 1 ≡ m.passed + (j + 1) = omega arith in
          record {
            passed = m.passed;
            few = m.few;
            done = omega arith;
            found = m.found;
            far = rw (← f) (far_on (host_name name) (m.passed + j) c names _ m.far (decl_fair types book tys at j b)
                (host_most name c.members) (sym e ∙ q));
            same = split ∙ measured_on (host_name name) c names _ _ (sym e ∙ q);
          }

-- any members of a book can be measured from the start of a UDT, and after the hosts of an AOI
pub from_start : {book tys : List ℕ} {at n : ℕ} → Found book tys at n → n ≤ 65536 → Measurable book tys at n udt_start 0
from_start f l =
    record {
      found = f;
      passed = 0;
      few = omega arith;
      far = record { offset = omega arith; members = omega arith; bits = omega arith; names = omega arith };
    }

-- up to 65,536 members can be measured after the hosts, EnableIn and EnableOut of an AOI
pub from_hosts : {book tys : List ℕ} {at n h long : ℕ} → Found book tys at n → n ≤ 65536 → h ≤ 2050 → long ≤ 15 * h
    → Measurable book tys at n (aoi_start h) (long + 17)
from_hosts f l k m =
    record {
      found = f;
      passed = 2052;
      few = omega arith;
      far = record { offset = omega arith; members = omega arith; bits = omega arith; names = omega arith };
    }
