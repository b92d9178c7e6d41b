-- The ways that placing a declared member can go (document 01, "Layout"): what holds of each of them holds of the step.
-- And any other member closes a UDT's host, so that the next BOOL opens a new one at the current offset.
use Rattle.std.specs.Prelude.{Result, Ok, Err}
use Prim.Native.Nat.{ℕ, ◌+◌, ◌*◌, ◌/◌, ◌%◌, ◌≤◌, ◌<◌}
use mathlib.Core.Path.{◌≡◌, refl, sym, ap, ◌∙◌}
use mathlib.Core.Bool.{Bool, true, false, cond, true≢false}
use mathlib.Core.List.{List, [], ◌∷◌}
use borrow.Author.Tests.{ltb-true, ltb-false, leb-true, leb-false}
use lib.Dec.{leb, ltb}
use lib.ListN.{length}
use Rattle.words.proofs.TestLaws.{either}
use Rattle.types.specs.inside.layout.Passes.{Measured, then_measure, measured, came}
use Rattle.types.specs.inside.layout.Placing.{InUdt, Shut}
use Rattle.types.specs.layout.Placing.{most_size, access_ok, is_bool, other_at, opened, next_bit, place_bool, closed}
use Rattle.types.specs.layout.Placing.{times, member_end, start_of, on_end, place_other, placed}
use Rattle.types.specs.layout.Structs.{udt_start}
use Rattle.types.specs.refusals.Said.{done, refused}
use Rattle.types.specs.declared.layout.placing.Cursor.{Cursor}
use Rattle.types.specs.declared.layout.placing.Decl.{Decl}
use Rattle.types.specs.declared.layout.placing.Host.{Host}
use Rattle.types.specs.declared.layout.placing.Host.TheVariants.{Closed, Open, Shared}
use Rattle.types.specs.declared.layout.placing.LayoutFault.{LayoutFault}
use Rattle.types.specs.declared.layout.placing.LayoutFault.TheVariants.{AccessWrong, TooFar}
use Rattle.types.specs.declared.layout.placing.Placed.{Placed}
use Rattle.types.specs.declared.layout.placing.Placed.TheVariants.{One}
use Rattle.types.specs.declared.tables.member.Member.{Member}
use Rattle.types.proofs.layout.LayoutLaws.{placed_bool}

-- a UDT's host has no bit left, or there is none
abbrev pub Full : Host → Type 0
Full Closed = Unit {0}
Full (Open byte bit) = 8 ≤ bit
Full (Shared i) = ⊥

-- where any other member ends, and where it leaves the cursor
unfoldable pub end_of : Cursor → Decl → ℕ
end_of c d = start_of c d + d.size * times d.count

-- the cursor after any other member: at its end, with the host closed and one member more
abbrev pub past_other : Cursor → Decl → Cursor
past_other c d = record { offset = end_of c d; host = closed c.host; members = c.members + 1 }

-- P holds of each way that a step can go
pub record Ways (P : Result Placed LayoutFault → Type 0) (c : Cursor) (d : Decl) : Type 0 where
  pub wrong : access_ok d.access ≡ false → P (Err AccessWrong)
  pub opens : is_bool d.ty ≡ true → Full c.host → P (Ok (opened c d))
  pub next : is_bool d.ty ≡ true → (byte bit : ℕ) → c.host ≡ Open byte bit → bit < 8
      → P (Ok (next_bit c d byte bit (Open byte (bit + 1))))
  pub shared : is_bool d.ty ≡ true → (i : ℕ) → c.host ≡ Shared i
      → P (Ok (next_bit c d (4 * (i / 32) + i % 32 / 8) (i % 8) (Shared (i + 1))))
  pub other : is_bool d.ty ≡ false → end_of c d ≤ most_size
      → P (Ok (One (other_at d (start_of c d)) (past_other c d)))
  pub far : is_bool d.ty ≡ false → most_size < end_of c d → P (Err TooFar)

-- what holds of both answers of a test holds of the picked one
module _ (P : Result Placed LayoutFault → Type 0) (c : Cursor) (d : Decl) (w : Ways P c d) where
  bool_cases : is_bool d.ty ≡ true → (h : Host) → c.host ≡ h → P (Ok (place_bool h c d))
  unfolding place_bool
  bool_cases b Closed e = w.opens b (rw e tt)
  bool_cases b (Open byte bit) e =
      either (λ p. P (Ok p)) (ltb bit 8)
      (λ l. w.next b byte bit e (ltb-true bit 8 l))
      (λ l. w.opens b (rw e (ltb-false bit 8 l)))
  bool_cases b (Shared i) e = w.shared b i e

  other_cases : is_bool d.ty ≡ false → P (place_other c d)
  unfolding place_other member_end end_of
  other_cases b = go (leb (end_of c d) most_size) refl
    where
      go : (t : Bool) → leb (end_of c d) most_size ≡ t
          → P (on_end (cond t (done (end_of c d)) (refused 12 0)) (λ e. One (other_at d (start_of c d))
          (record { offset = e; host = closed c.host; members = c.members + 1 })))
      go true q = w.other b (leb-true _ _ q)
      go false q = w.far b (leb-false _ _ q)

  -- what holds of each way that a step can go holds of the step
  pub place_cases : P (placed c d)
  unfolding placed
  place_cases =
      either P (access_ok d.access)
      (λ a. either P (is_bool d.ty) (λ b. bool_cases b c.host refl) other_cases)
      w.wrong

-- ---- a step among others

came_so : {p q : Cursor × ℕ} → ◌≡◌ {A = Measured} (Ok p) (Ok q) → p ≡ q
came_so e = cc

module _ (host : ℕ → List ℕ) (e : Cursor) (n' : ℕ) where
  -- a layout that goes on from a step ends at e, with so many bytes of names
  abbrev pub LayoutEnds : Cursor → ℕ → Decl → List Decl → Result Placed LayoutFault → Type 0
  LayoutEnds c n d ds p =
      then_measure p (length (host c.members)) d.name.long n (λ c' k. measured host c' k ds) ≡ came e n'

-- two layouts that came as far came to one cursor, and have as many bytes of names
pub came_cursor : {c c' : Cursor} {n n' : ℕ} → came c n ≡ came c' n' → c ≡ c'
came_cursor q = ap (λ (p : Cursor × ℕ). p.0) (came_so q)

pub came_names : {c c' : Cursor} {n n' : ℕ} → came c n ≡ came c' n' → n ≡ n'
came_names q = ap (λ (p : Cursor × ℕ). p.1) (came_so q)

-- a refused layout ends nowhere
module _ {A : Type 0} {c : Cursor} {n : ℕ} where
  -- no layout with a wrong access comes to an end
  pub no_access : (Err AccessWrong) ≡ came c n → A
  no_access q = let z : true ≡ false = cc in absurd (true≢false z)

  -- no layout with a member too far comes to an end
  pub no_far : (Err TooFar) ≡ came c n → A
  no_far q = let z : true ≡ false = cc in absurd (true≢false z)

-- ---- in a UDT no host stays open across another member

closed_udt : (h : Host) → InUdt h → closed h ≡ Closed
unfolding closed
closed_udt Closed u = refl
closed_udt (Open byte bit) u = refl
closed_udt (Shared _) u = elim u [ ]

shut : {c : Cursor} → c.host ≡ Closed → Shut c
unfolding place_bool
shut {c} h = record { host = h; opens = λ e a b. sym (placed_bool c e a b) ∙ rw h }

-- after any other member the next BOOL opens a new host at the current offset
pub host_closed : (c : Cursor) (d : Decl) (m : Member) (c' : Cursor) → InUdt c.host → is_bool d.ty ≡ false
    → placed c d ≡ Ok (One m c') → Shut c'
unfolding opened next_bit
host_closed c d m c' u b =
    place_cases (λ p. p ≡ Ok (One m c') → Shut c') c d
    (record {
      wrong = λ a q. let z : true ≡ false = cc in absurd (true≢false z);
      opens = λ t f q. absurd (true≢false (sym t ∙ b));
      next = λ t byte bit h l q. absurd (true≢false (sym t ∙ b));
      shared = λ t i h q. absurd (true≢false (sym t ∙ b));
      other = λ t l q. shut (let e : closed c.host ≡ c'.host = cc in sym e ∙ closed_udt c.host u);
      far = λ t l q. let z : true ≡ false = cc in absurd (true≢false z);
    })

module _ (host : ℕ → List ℕ) (e : Cursor) (n' : ℕ) where
  stays_udt : (ds : List Decl) (c : Cursor) (n : ℕ) → InUdt c.host → measured host c n ds ≡ came e n'
      → InUdt e.host
  unfolding measured opened next_bit
  stays_udt [] c n u q = rw (← came_cursor q) u
  stays_udt (d ∷ ds) c n u q =
      place_cases (λ p. LayoutEnds host e n' c n d ds p → InUdt e.host) c d
      (record {
        wrong = λ a r. no_access r;
        opens = λ b f r. stays_udt ds _ _ tt r;
        next = λ b byte bit h l r. stays_udt ds _ _ tt r;
        shared = λ b i h r. absurd (rw h at u);
        other = λ b l r. stays_udt ds _ _ (rw (closed_udt c.host u) tt) r;
        far = λ b l r. no_far r;
      })
      q

  -- so it is after any members of a UDT
  pub udt_shut : (n₀ : ℕ) (ds : List Decl) (d : Decl) (m : Member) (c' : Cursor)
      → measured host udt_start n₀ ds ≡ came e n' → is_bool d.ty ≡ false → placed e d ≡ Ok (One m c') → Shut c'
  udt_shut n₀ ds d m c' q b p = host_closed e d m c' (stays_udt ds udt_start n₀ tt q) b p
