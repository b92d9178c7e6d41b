-- What a row of the tables says, in words (document 01, "What promises shut out"): a structure or a member that was
-- read says its row's words, and no other one does.
use Rattle.std.specs.Prelude.{Option, Some, None}
use Prim.Native.Nat.{ℕ, zero, suc, ◌+◌, ◌-◌, ◌/◌, ◌%◌, ◌<◌, ◌≤◌}
use native.Mathlib.Decide.{dec_lt}
use native.Mathlib.Nat.{add-zero}
use native.Mathlib.Omega.{arith}
use mathlib.Core.Path.{◌≡◌, refl, sym, ap, ◌∙◌}
use mathlib.Core.Bool.{Bool, true, false, cond}
use mathlib.Core.List.{List}
use borrow.Author.Tests.{eq-eqb, ne_eqb, lt-ltb, le-ltb}
use lib.Dec.{eqb, ltb}
use lib.ListN.{get_or, get_or-map}
use Rattle.types.specs.atomics.Atomic.{atomics, atomic_at, num_of}
use Rattle.types.specs.rounds.Turns.{up_from}
use Rattle.types.specs.tables.Lent.{bit_of_word, bit_read, bit_word, flags_of, kind_of_word, kind_read, kind_word}
use Rattle.types.specs.tables.Lent.{member_at, member_said, member_says, ty_of_word, ty_read, ty_word, type_at}
use Rattle.types.specs.tables.Lent.{type_row}
use Rattle.types.specs.tables.Lent.{type_said}
use Rattle.types.specs.declared.atomics.atomic.Atomic.TheVariants.{Bool as BOOL}
use Rattle.types.specs.declared.tables.member.Member.{Member}
use Rattle.types.specs.declared.tables.member.StructDef.{StructDef}
use Rattle.types.specs.declared.tables.member.StructKind.{StructKind}
use Rattle.types.specs.declared.tables.member.Ty.{Ty}
use Rattle.types.specs.declared.tables.member.Ty.TheVariants.{Atomic, Struct}
use Rattle.types.proofs.atomics.AtomicLaws.{past_last}
use Rattle.types.proofs.tables.TableLaws.{hidden_back, kind_back, local_back, ty_back}

-- ---- a word that was read is said again

-- the i-th of the numbers from k on
nth_up : (k n i : ℕ) → i < n → get_or (up_from k n) i 0 ≡ k + i
unfolding up_from
nth_up k zero i h = absurd (let z : ⊥ = omega arith in z)
nth_up k (suc n) zero h = sym (add-zero k)
nth_up k (suc n) (suc i) h =
    let e : k + 1 + i ≡ k + suc i = omega arith in
    nth_up (k + 1) n i (omega arith) ∙ e

num_at : (w : ℕ) → w < 15 → num_of (atomic_at w) ≡ w
unfolding atomic_at up_from
num_at w h =
    let e : get_or (up_from 0 15) w 0 ≡ 0 + w = nth_up 0 15 w h in
    sym (get_or-map num_of atomics w BOOL) ∙ e ∙ omega arith

ty_said : (w : ℕ) → ty_word (ty_of_word w) ≡ ty_read w
unfolding ty_of_word ty_read
ty_said w = go (dec_lt w 0x8000) (dec_lt w 15)
  where
    go : Dec (w < 0x8000) → Dec (w < 15) → ty_word (cond (ltb w 0x8000) (Atomic (atomic_at w)) (Struct (w - 0x8000)))
        ≡ cond (ltb w 0x8000) (cond (ltb w 15) w 0) w
    go (yes a) (yes b) = rw (lt-ltb w 0x8000 a, lt-ltb w 15 b) (num_at w b)
    go (yes a) (no b) =
        let c : 15 ≤ w = omega (arith, b) in
        rw (lt-ltb w 0x8000 a, le-ltb w 15 c, ← past_last w c)
    go (no a) b =
        let c : 0x8000 ≤ w = omega (arith, a) in
        rw (le-ltb w 0x8000 c) (omega arith)

bit_said : (w : ℕ) → bit_word (bit_of_word w) ≡ bit_read w
unfolding bit_of_word bit_read
bit_said w = go (eqb w 0)
  where
    go : (b : Bool) → bit_word (cond b None (Some ((w - 1) % 8))) ≡ cond b 0 ((w - 1) % 8 + 1)
    go true = refl
    go false = refl

kind_said : (w : ℕ) → kind_word (kind_of_word w) ≡ kind_read w
unfolding kind_of_word kind_read
kind_said w = go (dec_lt w 4)
  where
    small : (v : ℕ) → v < 4 → kind_word (kind_of_word v) ≡ v
    small zero h = refl
    small (suc zero) h = refl
    small (suc (suc zero)) h = refl
    small (suc (suc (suc zero))) h = refl
    small (suc (suc (suc (suc v)))) h = absurd (let z : ⊥ = omega arith in z)

    go : Dec (w < 4) → kind_word (kind_of_word w) ≡ cond (ltb w 4) w 0
    go (yes a) = rw (lt-ltb w 4 a) (small w a)
    go (no a) =
        let one = ne_eqb w 1 (λ e. a (omega arith)) in
        let two = ne_eqb w 2 (λ e. a (omega arith)) in
        let three = ne_eqb w 3 (λ e. a (omega arith)) in
        rw (one, two, three, le-ltb w 4 (omega (arith, a)))

flags_said : (w : ℕ) → flags_of (eqb (w % 2) 1) (eqb (w / 2 % 2) 1) ≡ w % 4
flags_said w = go (dec_lt (w % 2) 1) (dec_lt (w / 2 % 2) 1)
  where
    go : Dec (w % 2 < 1) → Dec (w / 2 % 2 < 1) → flags_of (eqb (w % 2) 1) (eqb (w / 2 % 2) 1) ≡ w % 4
    go (yes a) (yes b) =
        rw (ne_eqb (w % 2) 1 (λ e. omega arith), ne_eqb (w / 2 % 2) 1 (λ e. omega arith)) (omega arith)
    go (yes a) (no b) =
        rw (ne_eqb (w % 2) 1 (λ e. omega arith), eq-eqb (w / 2 % 2) 1 (omega (arith, b))) (omega (arith, b))
    go (no a) (yes b) =
        rw (eq-eqb (w % 2) 1 (omega (arith, a)), ne_eqb (w / 2 % 2) 1 (λ e. omega arith)) (omega (arith, a))
    go (no a) (no b) =
        rw (eq-eqb (w % 2) 1 (omega (arith, a)), eq-eqb (w / 2 % 2) 1 (omega (arith, b))) (omega (arith, a, b))

-- the words of the member that a row holds
pub member_said_lem : (t : List ℕ) (row : ℕ) → member_says (member_at t row) ≡ member_said t row
unfolding member_says member_said member_at
member_said_lem t row = rw (ty_said, bit_said, flags_said)

-- the words of the structure that a row holds
pub type_said_lem : (t : List ℕ) (i : ℕ) → type_row (type_at t i) ≡ type_said t i
unfolding type_row type_said type_at
type_said_lem t i = rw kind_said

-- ---- what is said tells the row

bit_same : (a b : Option ℕ) → bit_word a ≡ bit_word b → a ≡ b
bit_same None None e = refl
bit_same None (Some k) e = absurd (let z : ⊥ = omega arith in z)
bit_same (Some k) None e = absurd (let z : ⊥ = omega arith in z)
bit_same (Some k) (Some l) e = ap Some (omega arith)

member_of : Ty → ℕ → ℕ → Option ℕ → Bool → Bool → ℕ → Member
member_of ty count offset bit hidden local access =
    record {
      ty = ty;
      count = count;
      offset = offset;
      bit = bit;
      hidden = hidden;
      local = local;
      access = access;
    }

member_eta : (m : Member) → member_of m.ty m.count m.offset m.bit m.hidden m.local m.access ≡ m
unfolding member_of
member_eta m = refl

-- two members that say the same are the same
pub member_same : (m n : Member) → member_says m ≡ member_says n → m ≡ n
unfolding member_says
member_same m n e =
    let words : ty_word m.ty ≡ ty_word n.ty = cc in
    let bits : bit_word m.bit ≡ bit_word n.bit = cc in
    let flags : flags_of m.hidden m.local ≡ flags_of n.hidden n.local = cc in
    let count : m.count ≡ n.count = cc in
    let offset : m.offset ≡ n.offset = cc in
    let access : m.access ≡ n.access = cc in
    let ty : m.ty ≡ n.ty = sym (ty_back m.ty) ∙ ap ty_of_word words ∙ ty_back n.ty in
    let bit = bit_same m.bit n.bit bits in
    let hidden : m.hidden ≡ n.hidden = sym (hidden_back m.hidden m.local)
    ∙ ap (λ (w : ℕ). eqb (w % 2) 1) flags ∙ hidden_back n.hidden n.local in
    let local : m.local ≡ n.local = sym (local_back m.hidden m.local)
    ∙ ap (λ (w : ℕ). eqb (w / 2 % 2) 1) flags ∙ local_back n.hidden n.local in
    let made : member_of m.ty m.count m.offset m.bit m.hidden m.local m.access
    ≡ member_of n.ty n.count n.offset n.bit n.hidden n.local n.access = cc in
    sym (member_eta m) ∙ made ∙ member_eta n

struct_of : ℕ → ℕ → ℕ → ℕ → ℕ → StructKind → ℕ → ℕ → StructDef
struct_of at long id handle size kind first count =
    record {
      name = record { at = at; long = long };
      id = id;
      handle = handle;
      size = size;
      kind = kind;
      first = first;
      count = count;
    }

struct_eta : (d : StructDef)
    → struct_of d.name.at d.name.long d.id d.handle d.size d.kind d.first d.count ≡ d
unfolding struct_of
struct_eta d = refl

-- and so are two structures
pub type_same : (d e : StructDef) → type_row d ≡ type_row e → d ≡ e
unfolding type_row
type_same d e q =
    let words : kind_word d.kind ≡ kind_word e.kind = cc in
    let at : d.name.at ≡ e.name.at = cc in
    let long : d.name.long ≡ e.name.long = cc in
    let id : d.id ≡ e.id = cc in
    let handle : d.handle ≡ e.handle = cc in
    let size : d.size ≡ e.size = cc in
    let first : d.first ≡ e.first = cc in
    let count : d.count ≡ e.count = cc in
    let kind : d.kind ≡ e.kind = sym (kind_back d.kind) ∙ ap kind_of_word words ∙ kind_back e.kind in
    let made : struct_of d.name.at d.name.long d.id d.handle d.size d.kind d.first d.count
    ≡ struct_of e.name.at e.name.long e.id e.handle e.size e.kind e.first e.count = cc in
    sym (struct_eta d) ∙ made ∙ struct_eta e
