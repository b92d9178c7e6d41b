-- Laws of AOIs: counting the BOOLs of the members that are left, and storing the hosts that are left.
use Prim.Native.Nat.{ℕ, suc, ◌+◌, ◌-◌, ◌*◌, ◌<◌, ◌≤◌}
use native.Mathlib.Nat.{add-zero}
use native.Mathlib.Omega.{arith}
use mathlib.Core.Path.{◌≡◌, sym, ap, ◌∙◌}
use mathlib.Core.Bool.{Bool, true, false, cond}
use mathlib.Core.List.{List, [], ◌∷◌}
use lib.ListN.{length, length-append}
use lib.Seq.{sets}
use Rattle.types.specs.inside.book.Decls.{decl_at, decls_from, Found}
use Rattle.types.specs.inside.layout.Passes.{BoolsCounted, HostPut, PartsPut, BitHostLong, HostsLong}
use Rattle.types.specs.layout.HostNames.{bit_host_name}
use Rattle.types.specs.layout.Placing.{is_bool}
use Rattle.types.specs.layout.Structs.{named, names_of, rows_of, bools, bit_host_at, host_parts}
use Rattle.types.specs.tables.Defs.{Part}
use Rattle.types.specs.tables.Limits.{most_members, most_names}
use Rattle.types.specs.declared.layout.placing.Decl.{Decl}
use Rattle.types.proofs.book.DeclLaws.{decls_cons, decls_none}
use Rattle.types.proofs.layout.StoreLaws.{one_name, names_append, rows_then, names_then}

-- what counting keeps
pub record CountingBools (types book tys : List ℕ) (at n count j : ℕ) : Type 0 where
  pub found : Found book tys at n
  pub few : n ≤ 131072
  pub done : j ≤ n
  pub most : count ≤ j
  pub same : bools (decls_from types book tys at 0 n) ≡ count + bools (decls_from types book tys at j (n - j))

-- what a member adds to the count
abbrev pub one_if : Bool → ℕ
one_if b = cond b 1 0

one_most : (b : Bool) → one_if b ≤ 1
one_most true = omega arith
one_most false = omega arith

module _ {types book tys : List ℕ} {at n count j : ℕ} (c : CountingBools types book tys at n count j) where
  -- after the last member the count is that of all BOOLs
  pub counted : n ≤ j → BoolsCounted n (decls_from types book tys at 0 n) count
  unfolding bools
  counted l =
      record {
        is = omega (arith, rw (decls_none types book tys at n j l) at c.same);
        most = omega (arith, c.most, c.done);
      }

  -- the j-th member adds one to the count where it is a BOOL, else nothing
  pub count_on : j < n → {d : Decl} {b : Bool} → d ≡ decl_at types book tys at j → b ≡ is_bool d.ty → {r : ℕ}
      → r ≡ count + one_if b → CountingBools types book tys at n r (j + 1)
  unfolding bools
  count_on l {d} {b} e f {r} q =
      let g : one_if b ≡ one_if (is_bool (decl_at types book tys at j).ty) =
      ap one_if (f ∙ ap (λ (x : Decl). is_bool x.ty) e) in
      record {
        found = c.found;
        few = c.few;
        done = omega arith;
        most = omega (arith, q, c.most, one_most b);
        same = omega (arith, q, g, rw (decls_cons types book tys at n j l) at c.same);
      }

-- ---- hosts

hosts_cons : (h i : ℕ) → i < h
    → host_parts i (h - i) ≡ named (bit_host_name i) (bit_host_at i) ∷ host_parts (i + 1) (h - (i + 1))
unfolding host_parts
hosts_cons h i l =
    let e : h - i ≡ suc (h - (i + 1)) = omega arith in
    rw e

hosts_none : (h i : ℕ) → h ≤ i → host_parts i (h - i) ≡ []
unfolding host_parts
hosts_none h i l =
    let e : h - i ≡ 0 = omega arith in
    rw e

-- what storing the hosts keeps: all stand once those that are left are stored after the others
pub record Hosting (h row place : ℕ) (m₀ t₀ m t : List ℕ) (at i : ℕ) : Type 0 where
  pub done : i ≤ h
  pub room : row + h ≤ most_members
  pub bytes : at + length (names_of (host_parts i (h - i))) ≤ most_names
  pub next : place + length (names_of (host_parts 0 h)) ≡ at + length (names_of (host_parts i (h - i)))
  pub rows : sets m₀ (8 * row) (rows_of place (host_parts 0 h)) ≡ sets m (8 * (row + i))
      (rows_of at (host_parts i (h - i)))
  pub names : sets t₀ place (names_of (host_parts 0 h)) ≡ sets t at (names_of (host_parts i (h - i)))

module _ {h row place at i : ℕ} {m₀ t₀ m t : List ℕ} (s : Hosting h row place m₀ t₀ m t at i) where
  -- after the last host all of them are stored
  pub hosts_done : h ≤ i → PartsPut (host_parts 0 h) row place m₀ t₀ m t at
  unfolding names_of rows_of
  hosts_done l =
      let e = hosts_none h i l in
      record {
        next = sym (rw e at s.next ∙ add-zero at);
        rows = sym (rw e at s.rows);
        names = sym (rw e at s.names);
      }

  abbrev host : Part
  host = named (bit_host_name i) (bit_host_at i)

  module _ (l : i < h) where
    -- the names have room for that of the i-th host
    pub host_room : at + length (bit_host_name i) ≤ most_names
    unfolding names_of
    host_room = omega (arith, simp length-append at (rw (hosts_cons h i l) at s.bytes))

    -- where the i-th host was stored, storing goes on with the next
    pub host_on : {m' t' : List ℕ} {r : ℕ} → HostPut i (row + i) at m t m' t' r
        → Hosting h row place m₀ t₀ m' t' (at + r) (i + 1)
    host_on {m'} {t'} {r} p =
        let e = hosts_cons h i l in
        let rest = host_parts (i + 1) (h - (i + 1)) in
        let f : length (names_of (host ∷ [])) ≡ r =
        sym (ap length (one_name (bit_host_name i) (bit_host_at i))) ∙ sym p.long in
        let g : row + i + 1 ≡ row + (i + 1) = omega arith in
        let k : length (names_of (host ∷ rest)) ≡ r + length (names_of rest) =
        ap length (names_append (host ∷ []) rest) ∙ length-append (names_of (host ∷ [])) (names_of rest) ∙ ap
        (◌+ length (names_of rest)) f in
        record {
          done = omega arith;
          room = s.room;
          bytes = omega (arith, k, rw e at s.bytes);
          next = omega (arith, k, rw e at s.next);
          rows = rw e at s.rows ∙ rows_then m (row + i) at (host ∷ []) rest ∙ rw (p.rows, f, g);
          names = rw e at s.names ∙ names_then t at (host ∷ []) rest ∙ rw (p.names, f);
        }

-- two parts stored one after the other are both stored
pub two_put : (a b : Part) (row place : ℕ) {m₀ t₀ m₁ t₁ m t : List ℕ} {r : ℕ}
    → r ≡ place + length (names_of (a ∷ b ∷ []))
    → m₁ ≡ sets m₀ (8 * row) (rows_of place (a ∷ [])) → t₁ ≡ sets t₀ place (names_of (a ∷ []))
    → (at : ℕ) → at ≡ place + length (names_of (a ∷ []))
    → m ≡ sets m₁ (8 * (row + 1)) (rows_of at (b ∷ [])) → t ≡ sets t₁ at (names_of (b ∷ []))
    → PartsPut (a ∷ b ∷ []) row place m₀ t₀ m t r
two_put a b row place {m₀} {t₀} n p q at e u v =
    record {
      next = n;
      rows = rw (u, p, e) (sym (rows_then m₀ row place (a ∷ []) (b ∷ [])));
      names = rw (v, q, e) (sym (names_then t₀ place (a ∷ []) (b ∷ [])));
    }

-- ---- the hosts' names

-- what adding up their lengths keeps
pub record Adding (h long i : ℕ) : Type 0 where
  pub done : i ≤ h
  pub few : h ≤ 131072
  pub most : long ≤ 15 * i
  pub same : length (names_of (host_parts 0 h)) ≡ long + length (names_of (host_parts i (h - i)))

module _ {h long i : ℕ} (s : Adding h long i) where
  -- after the last host the sum is the length of all hosts' names
  pub adding_done : h ≤ i → HostsLong h long
  unfolding names_of
  adding_done l =
      record {
        is = sym (rw (hosts_none h i l) at s.same ∙ add-zero long);
        most = omega (arith, s.most, s.done);
      }

  -- with the length of the i-th host's name added, the sum has come one host further
  pub adding_on : i < h → {r : ℕ} → BitHostLong i r → Adding h (long + r) (i + 1)
  unfolding names_of
  adding_on l b =
      record {
        done = omega arith;
        few = s.few;
        most = omega (arith, s.most, b.most);
        same = omega (arith, b.is, simp length-append at (rw (hosts_cons h i l) at s.same));
      }
