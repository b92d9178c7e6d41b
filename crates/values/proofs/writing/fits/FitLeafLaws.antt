-- The check of atomics, arrays of them and members that are no structures (document 01, "Writing"): what the answers of
-- the runs and of one entry say of the value's tree.
use Rattle.std.specs.Prelude.{Some, None, Result, Ok, Err}
use Prim.Native.Nat.{ℕ, ◌+◌, ◌*◌, ◌^◌, ◌<◌, ◌≤◌}
use native.Mathlib.Nat.{mul-le-mul_right}
use native.Mathlib.Omega.{arith}
use mathlib.Core.Path.{◌≡◌, refl, sym, ap, ◌∙◌, fun_ext}
use mathlib.Core.Bool.{true, false, true≢false}
use mathlib.Core.List.{List}
use Rattle.words.specs.Bits.{Bits, stamp}
use Rattle.types.specs.atomics.Atomic.{bit_string, size_of}
use Rattle.types.specs.declared.atomics.atomic.Atomic.{Atomic}
use Rattle.types.specs.declared.atomics.atomic.Atomic.TheVariants as atomic
use Rattle.types.specs.declared.refusals.refusal.Refusal.{Refusal}
use Rattle.types.specs.declared.refusals.refusal.Refusal.TheVariants.{EntryMisfit}
use Rattle.types.specs.declared.tables.member.Member.{Member}
use Rattle.types.specs.declared.tables.member.Ty.TheVariants as ty
use Rattle.values.specs.inside.reading.Walk.{is_nested}
use Rattle.values.specs.inside.writing.Effects.{atomic_takes}
use Rattle.values.specs.inside.writing.Passes.{CheckedFrom, WellFormed, first_kind, left_at}
use Rattle.values.specs.inside.writing.Rows.{member_tree, run_in}
use Rattle.values.specs.reading.Leaf.{flag}
use Rattle.values.specs.reading.Tree.{Tree, leaf}
use Rattle.values.specs.reading.Trees.{atomics_tree}
use Rattle.values.specs.stream.Stream.{Token}
use Rattle.values.specs.writing.Effects.{Effect, or_null}
use Rattle.values.specs.writing.Writing.{bools_in, elements, no_bits, rest, write, write_one}
use Rattle.values.proofs.stream.CountLeaves.{size_range}
use Rattle.values.proofs.stream.LeftLaws.{EntryThere, by_kind}
use Rattle.values.proofs.writing.FitLaws.{flag_takes}
use Rattle.values.proofs.writing.RunInLaws.{array_is, bits_bools, bits_number, one_is_leaf, run_bools}
use Rattle.values.proofs.writing.RunInLaws.{run_numbers, run_wholes}
use Rattle.values.proofs.writing.StepLaws.{checked_as, onward_from, opened_goes, opened_keeps, opened_refuses}

-- what an answer says of one atomic, of an array of them, of what is inside it, and of one or an array
abbrev pub OneChecked : List ℕ → ℕ → Result ℕ Refusal → Atomic → Type 0
OneChecked s k r a = (w p : ℕ) → CheckedFrom s k r (write_one (or_null (atomic_takes a)) w p (left_at s k))

abbrev pub BoolsChecked : List ℕ → ℕ → Result ℕ Refusal → ℕ → Type 0
BoolsChecked s k r bytes = (p : ℕ) → CheckedFrom s k r (bools_in (8 * bytes) p (left_at s k))

abbrev pub NumbersChecked : List ℕ → ℕ → Result ℕ Refusal → Atomic → ℕ → Type 0
NumbersChecked s k r a count =
    (w p : ℕ) → CheckedFrom s k r (elements count (write_one (or_null (atomic_takes a)) w) w p (left_at s k))

abbrev pub RunChecked : List ℕ → ℕ → Result ℕ Refusal → Atomic → ℕ → Type 0
RunChecked s k r a count = (p : ℕ) → CheckedFrom s k r (run_in a count p (left_at s k))

abbrev pub TreeChecked : List ℕ → ℕ → Result ℕ Refusal → Atomic → ℕ → Type 0
TreeChecked s k r a count = (p : ℕ) → CheckedFrom s k r (write (atomics_tree a count) p (left_at s k))

module _ {s : List ℕ} {n k kind : ℕ} (told : WellFormed s n) (is : kind ≡ first_kind (left_at s k)) (a : Atomic) where
  -- ---- one bit string

  -- one bit string, an opening: what the check answers of the bools inside it answers of the value
  pub bits_array : {r : Result ℕ Refusal} {size : ℕ} → bit_string a ≡ true → kind ≡ 10 → size ≡ size_of a
      → BoolsChecked s (k + 1) r size
      → TreeChecked s k r a 0
  bits_array {r} {size} b e same c p =
      let t : EntryThere s k = by_kind s k told.form (λ h. let z : ⊥ = omega (arith, h, is, e) in z) in
      let after : Bits → Bits = λ z. stamp p (8 * size_of a) no_bits z in
      (onward_from {s = s} {k = k} {p = k + 1} {f = write (atomics_tree a 0) p (left_at s k)}
      {g = bools_in (8 * size_of a) p (left_at s (k + 1))} (omega arith) (omega (arith, t.inside))
      (λ z. (
        after z,
        bits_bools a p (left_at s k) z b (sym is ∙ e)
            ∙ ap (λ us. bools_in (8 * size_of a) p (rest us) (after z)) t.left,
      ))
      ).onward r (rw (← same) (c p))

  -- one bit string, no opening: what the check answers of the one entry it answers of the value
  pub bits_one : {r : Result ℕ Refusal} → bit_string a ≡ true → (kind ≡ 10 → ⊥) → OneChecked s k r a
      → TreeChecked s k r a 0
  bits_one b e c p =
      checked_as (λ z. bits_number a p (left_at s k) z b (λ h. e (is ∙ h))) (c (8 * size_of a) p)

  -- ---- inside an array

  -- bit strings, a bool first: what the check answers of the bools it answers of the run
  pub run_of_bools : {r : Result ℕ Refusal} {size : ℕ} (count : ℕ) → bit_string a ≡ true → kind ≡ 1 → size ≡ size_of a
      → BoolsChecked s k r (size * count) → RunChecked s k r a count
  run_of_bools {r} {size} count b e same c p =
      checked_as (λ z. run_bools a count p (left_at s k) z b (sym is ∙ e)) (rw (← same) (c p))

  -- bit strings, no bool first: what the check answers of the numbers it answers of the run
  pub run_of_wholes : {r : Result ℕ Refusal} (count : ℕ) → bit_string a ≡ true → (kind ≡ 1 → ⊥)
      → NumbersChecked s k r a count
      → RunChecked s k r a count
  run_of_wholes count b e c p =
      checked_as (λ z. run_wholes a count p (left_at s k) z b (λ h. e (is ∙ h))) (c (8 * size_of a) p)

  -- ---- an array

  -- null for an array of atomics: the check goes on to the next entry
  pub array_keeps : (count : ℕ) → 0 < count → kind ≡ 0 → TreeChecked s k (Ok (k + 1)) a count
  array_keeps count l e p =
      checked_as (λ z. array_is a count p (left_at s k) z l)
      (opened_keeps told.form 10 (run_in a count p) (sym is ∙ e))

  -- the opening of an array of atomics: what the check answers of the run it answers of the array
  pub array_goes : {r : Result ℕ Refusal} (count : ℕ) → 0 < count → kind ≡ 10 → RunChecked s (k + 1) r a count
      → TreeChecked s k r a count
  array_goes count l e c p =
      checked_as (λ z. array_is a count p (left_at s k) z l)
      (opened_goes told.form 10 (run_in a count p) (omega arith) (omega arith) (sym is ∙ e) (c p))

  -- neither null nor an opening for an array of atomics: the check answers 18 here
  pub array_refuses : (count : ℕ) → 0 < count → k ≤ n → (kind ≡ 0 → ⊥) → (kind ≡ 10 → ⊥)
      → TreeChecked s k (Err (EntryMisfit k)) a count
  array_refuses count l b e f p =
      checked_as (λ z. array_is a count p (left_at s k) z l)
      (opened_refuses told.form 10 (run_in a count p) (omega (arith, told.count)) (λ h. e (is ∙ h))
      (λ h. f (is ∙ h)))

-- an opening is an entry of the stream, not its end
pub opening : {s : List ℕ} {n kind : ℕ} (k : ℕ) → WellFormed s n → kind ≡ first_kind (left_at s k) → kind ≡ 10
    → k + 1 ≤ n
opening {s} k told is e =
    let t : EntryThere s k = by_kind s k told.form (λ h. let z : ⊥ = omega (arith, h, is, e) in z) in
    omega (arith, t.inside, told.count)

-- no bit strings: what the check answers of the numbers it answers of the run
pub run_of_numbers : {s : List ℕ} {k : ℕ} {r : Result ℕ Refusal} (a : Atomic) (count : ℕ) → bit_string a ≡ false
    → NumbersChecked s k r a count → RunChecked s k r a count
run_of_numbers {s} {k} a count b c p =
    checked_as (λ z. run_numbers a count p (left_at s k) z b) (c (8 * size_of a) p)

-- one atomic, no bit string: what the check answers of the one entry it answers of the value
pub one_of : {s : List ℕ} {k : ℕ} {r : Result ℕ Refusal} (a : Atomic) → bit_string a ≡ false → OneChecked s k r a
    → TreeChecked s k r a 0
one_of {s} {k} a b c p = checked_as (λ z. one_is_leaf a p (left_at s k) z b) (c (8 * size_of a) p)

-- ---- a member

-- so many atomics lie in memory
pub bytes_low : (a : Atomic) (count : ℕ) → count < 2 ^ 32 → size_of a * count < 2 ^ 64
bytes_low a count l = omega (arith, mul-le-mul_right {m = size_of a} {n = 8} count (size_range a).1)

-- what an answer says of a member's tree, whatever the trees of structures
abbrev pub MemberChecked : List ℕ → ℕ → Result ℕ Refusal → Member → Type 0
MemberChecked s k r m = (trees : ℕ → Tree) (p : ℕ) → CheckedFrom s k r (write (member_tree trees m) p (left_at s k))

-- a BOOL's bit takes what a BOOL takes
flag_one : (p : ℕ) (ts : List Token) (z : Bits)
    → write (leaf flag) p ts z ≡ write_one (or_null (atomic_takes atomic.Bool)) 1 p ts z
unfolding write
flag_one p ts z =
    ap (λ (takes : Token → Effect). write_one (or_null takes) 1 p ts z) (sym (fun_ext flag_takes))

module _ {s : List ℕ} {k : ℕ} {r : Result ℕ Refusal} (m : Member) where
  -- where a member has a bit, the check of one BOOL is the check of the member
  pub member_bit : {b : ℕ} → m.bit ≡ Some b → OneChecked s k r atomic.Bool → MemberChecked s k r m
  member_bit e c trees p = rw e (checked_as (λ z. flag_one p (left_at s k) z) (c 1 p))

  -- a member that is no BOOL of a host: what the check answers of its atomics it answers of the member
  pub member_atomic : {a : Atomic} {count : ℕ} → m.bit ≡ None → m.ty ≡ ty.Atomic a → count ≡ m.count
      → TreeChecked s k r a count → MemberChecked s k r m
  member_atomic e t same c trees p = rw (e, t, ← same) (c p)

-- a structure is none of these
pub member_struct : {i : ℕ} (m : Member) → m.hidden ≡ false → is_nested m ≡ false → m.bit ≡ None
    → m.ty ≡ ty.Struct i → ⊥
unfolding is_nested
member_struct m h f e t = let n : is_nested m ≡ true = rw (h, e, t) refl in true≢false (sym n ∙ f)
