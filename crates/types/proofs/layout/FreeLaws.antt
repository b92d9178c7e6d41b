-- One step of a layout, in bits (document 01, "Layout"): it takes the bits of its visible member from those that the
-- cursor has free, and leaves them used. Free are all bits from the offset on, and the rest of the host.
use Rattle.std.specs.Prelude.{Some, Result, Ok, Err}
use Prim.Native.Nat.{ℕ, ◌+◌, ◌-◌, ◌*◌, ◌/◌, ◌%◌, ◌≤◌, ◌<◌}
use native.Mathlib.Nat.{div-add-mod', mod-lt}
use native.Mathlib.Omega.{arith}
use mathlib.Core.Path.{◌≡◌, refl, sym, ap, ◌∙◌}
use mathlib.Core.Bool.{true, false, true≢false}
use mathlib.Core.List.{List, ◌∷◌}
use mathlib.Core.Logic.{◌⊎◌, inl, inr, ⊎_map}
use Rattle.types.specs.atomics.Atomic.{size_of}
use Rattle.types.specs.inside.layout.Placing.{shared_bits}
use Rattle.types.specs.layout.Laid.{first_bit, past_bit, Apart, Earlier, has_bit, Plain, Resolved}
use Rattle.types.specs.layout.Placing.{times, is_bool, align_up, other_at, opened, next_bit, closed, start_of, placed}
use Rattle.types.specs.layout.Structs.{bools}
use Rattle.types.specs.tables.Sizes.{size_in}
use Rattle.types.specs.declared.layout.placing.Cursor.{Cursor}
use Rattle.types.specs.declared.layout.placing.Decl.{Decl}
use Rattle.types.specs.declared.layout.placing.Host.{Host}
use Rattle.types.specs.declared.layout.placing.Host.TheVariants.{Closed, Open, Shared}
use Rattle.types.specs.declared.layout.placing.LayoutFault.{LayoutFault}
use Rattle.types.specs.declared.layout.placing.Placed.{Placed}
use Rattle.types.specs.declared.layout.placing.Placed.TheVariants.{Hosted, One}
use Rattle.types.specs.declared.tables.member.Member.{Member}
use Rattle.types.proofs.layout.PlaceLaws.{end_of, past_other, place_cases}

-- ---- free and used bits

-- the rest of the host begins here ..
abbrev pub spare_from : Host → ℕ
spare_from Closed = 0
spare_from (Open byte bit) = 8 * byte + bit
spare_from (Shared i) = i

-- .. and ends here; an AOI's hosts end at a limit
abbrev pub spare_to : ℕ → Host → ℕ
spare_to limit Closed = 0
spare_to limit (Open byte bit) = 8 * byte + 8
spare_to limit (Shared i) = limit

-- the host lies before the offset, and an AOI's hosts have bits for all BOOLs to come
pub record HostReady (limit : ℕ) (c : Cursor) (ds : List Decl) : Type 0 where
  pub before : spare_to limit c.host ≤ 8 * c.offset
  pub enough : shared_bits c.host + bools ds ≤ limit

-- none of the bits from `first` to below `past` is free
pub record BitsUsed (limit : ℕ) (c : Cursor) (first past : ℕ) : Type 0 where
  pub before : past ≤ 8 * c.offset
  pub beside : (past ≤ spare_from c.host) ⊎ (spare_to limit c.host ≤ first)

-- none of a member's bits is free
abbrev pub BitsTaken : (ℕ → ℕ) → ℕ → Cursor → Member → Type 0
BitsTaken sizes limit c m = BitsUsed limit c (first_bit m) (past_bit sizes m)

-- ---- what a step does

module _ (sizes : ℕ → ℕ) (limit i : ℕ) (c : Cursor) (ds : List Decl) where
  -- a visible member is placed, apart from all that were before; the cursor comes to c' and has ds before it
  pub record MemberStep (m : Member) (c' : Cursor) : Type 0 where
    pub earlier : Earlier i m.ty
    pub onward : c.offset ≤ c'.offset
    pub ready : HostReady limit c' ds
    pub apart : (x : Member) → BitsTaken sizes limit c x → Apart sizes x m
    pub taken : BitsTaken sizes limit c' m
    pub onto : Plain m → 8 * c.offset ≤ first_bit m
    pub keeps : (first past : ℕ) → BitsUsed limit c first past → BitsUsed limit c' first past

  -- a hidden host is placed
  pub record HostStep (h : Member) (c' : Cursor) : Type 0 where
    pub hidden : h.hidden ≡ true
    pub earlier : Earlier i h.ty
    pub inside : past_bit sizes h ≤ 8 * c'.offset

  -- what a step places is placed so, its host too; nothing is asked of a refused step
  abbrev pub PlacedStep : Result Placed LayoutFault → Type 0
  PlacedStep (Ok (Hosted h m c')) = HostStep h c' × MemberStep m c'
  PlacedStep (Ok (One m c')) = MemberStep m c'
  PlacedStep (Err f) = Unit {0}

-- ---- its parts

-- a BOOL of a host is not plain
pub not_plain : {A : Type 0} {m : Member} {k : ℕ} → m.bit ≡ Some k → Plain m → A
not_plain e p = absurd (true≢false (sym (ap has_bit e) ∙ ap has_bit p.whole))

-- the lowest multiple of a from x on is not below x
align_least : (x a : ℕ) → 0 < a → x ≤ align_up x a
unfolding align_up
align_least x a l = omega (arith, div-add-mod' (x + (a - 1)) a, mod-lt (x + (a - 1)) l)

module _ (d : Decl) (ds : List Decl) where
  bools_on : is_bool d.ty ≡ true → bools (d ∷ ds) ≡ 1 + bools ds
  unfolding bools
  bools_on b = rw b

  bools_off : is_bool d.ty ≡ false → bools (d ∷ ds) ≡ bools ds
  unfolding bools
  bools_off b = rw b (omega arith)

-- any other member leaves nothing of a UDT's host, and all of an AOI's
module _ (limit : ℕ) where
  closed_to : (h : Host) → spare_to limit (closed h) ≤ spare_to limit h
  unfolding closed
  closed_to Closed = omega arith
  closed_to (Open byte bit) = omega arith
  closed_to (Shared i) = omega arith

  closed_beside : (h : Host) {first past : ℕ} → (past ≤ spare_from h) ⊎ (spare_to limit h ≤ first)
      → (past ≤ spare_from (closed h)) ⊎ (spare_to limit (closed h) ≤ first)
  unfolding closed
  closed_beside Closed u = u
  closed_beside (Open byte bit) u = inr (omega arith)
  closed_beside (Shared i) u = u

pub closed_shared : (h : Host) → shared_bits (closed h) ≡ shared_bits h
unfolding closed
closed_shared Closed = refl
closed_shared (Open byte bit) = refl
closed_shared (Shared i) = refl

-- a bit is the first of a host's rest, which then begins after it
record Takes (limit : ℕ) (h : Host) (at : ℕ) (h' : Host) : Type 0 where
  first : at ≡ spare_from h
  room : at < spare_to limit h
  from : spare_from h' ≡ at + 1
  to : spare_to limit h' ≡ spare_to limit h

-- ---- the ways that it can go

module _ {sizes : ℕ → ℕ} {limit i : ℕ} {c : Cursor} {d : Decl} {ds : List Decl}
    (k : HostReady limit c (d ∷ ds)) (r : Resolved sizes i d) where
  -- a host opens
  opens : is_bool d.ty ≡ true → PlacedStep sizes limit i c ds (Ok (opened c d))
  unfolding opened size_of times
  opens b = (
    record { hidden = refl; earlier = tt; inside = omega arith },
    record {
      earlier = tt;
      onward = omega arith;
      ready = record { before = omega arith; enough = omega (arith, bools_on d ds b) };
      apart = λ x u. inl (omega (arith, u.before));
      taken = record { before = omega arith; beside = inl (omega arith) };
      onto = λ w. not_plain refl w;
      keeps = λ first past u. record { before = omega arith; beside = inl (omega arith) };
    },
  )

  -- a BOOL takes a bit of a host that stands already
  takes : (byte bit : ℕ) (h : Host) → Takes limit c.host (8 * byte + bit) h → shared_bits h + bools ds ≤ limit
      → PlacedStep sizes limit i c ds (Ok (next_bit c d byte bit h))
  unfolding next_bit
  takes byte bit h t n =
      record {
        earlier = tt;
        onward = omega arith;
        ready = record { before = omega arith; enough = n };
        apart = λ x u. ⊎_map (λ a. omega arith) (λ a. omega arith) u.beside;
        taken = record { before = omega arith; beside = inl (omega arith) };
        onto = λ w. not_plain refl w;
        keeps = λ first past u.
            record { before = u.before; beside = ⊎_map (λ a. omega arith) (λ a. omega arith) u.beside };
      }

  -- any other member
  others : is_bool d.ty ≡ false
      → PlacedStep sizes limit i c ds (Ok (One (other_at d (start_of c d)) (past_other c d)))
  unfolding end_of start_of
  others b =
      let a = align_least c.offset d.align r.align in
      let e : size_in sizes d.ty * times d.count ≡ d.size * times d.count = rw (← r.size) in
      let t = closed_to limit c.host in
      record {
        earlier = r.earlier;
        onward = omega arith;
        ready = record { before = omega arith; enough = rw closed_shared (omega (arith, bools_off d ds b)) };
        apart = λ x u. inl (omega (arith, u.before));
        taken = record { before = omega arith; beside = inr (omega arith) };
        onto = λ w. omega arith;
        keeps = λ first past u. record { before = omega arith; beside = closed_beside limit c.host u.beside };
      }

  -- every step; the j-th BOOL of an AOI is bit j
  pub steps : PlacedStep sizes limit i c ds (placed c d)
  steps =
      place_cases (PlacedStep sizes limit i c ds) c d
      (record {
        wrong = λ a. tt;
        opens = λ b f. opens b;
        next = λ b byte bit h l.
            takes byte bit (Open byte (bit + 1)) (rw h (omega arith)) (omega (arith, bools_on d ds b));
        shared = λ b j h.
            let n : j + bools (d ∷ ds) ≤ limit = (rw h at k).enough in
            let m = bools_on d ds b in
            takes (4 * (j / 32) + j % 32 / 8) (j % 8) (Shared (j + 1)) (rw h (omega arith)) (omega arith);
        other = λ b l. others b;
        far = λ b l. tt;
      })
