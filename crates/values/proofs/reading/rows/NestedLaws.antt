-- Rows of the member table (document 01, "Layout"): which of them hold a visible structure, by the three tests of a
-- row; which hold a visible member that is no BOOL of a host, by two of them.
use Rattle.std.specs.Prelude.{Option, Some, None, not, is_some}
use mathlib.Core.Path.{◌≡◌, refl, sym, ap, ◌∙◌}
use mathlib.Core.Bool.{Bool, true, false, cond}
use Prim.Native.Nat.{ℕ}
use Rattle.types.specs.layout.Laid.{has_bit}
use Rattle.types.specs.declared.atomics.atomic.Atomic.{Atomic}
use Rattle.types.specs.declared.tables.member.Member.{Member}
use Rattle.types.specs.declared.tables.member.Ty.{Ty}
use Rattle.types.specs.declared.tables.member.Ty.TheVariants as ty
use Rattle.values.specs.inside.normal_image.InPlace.{is_plain}
use Rattle.values.specs.inside.reading.Walk.{bit_nested, is_nested}

-- ---- a bit, as the code tests it

bit_taken : (b : Option ℕ) (t : Ty) {r : Bool} → is_some b ≡ not r → r ≡ false → false ≡ bit_nested b t
bit_taken (Some k) t e f = refl
bit_taken None t e f = cc (e, ap not f)

bit_free : (b : Option ℕ) (i : ℕ) (r : Bool) → is_some b ≡ not r → r ≡ bit_nested b (ty.Struct i)
bit_free (Some k) i true e = cc e
bit_free (Some k) i false e = refl
bit_free None i true e = refl
bit_free None i false e = cc e

no_struct : (h : Bool) (b : Option ℕ) (a : Atomic) → false ≡ cond h false (bit_nested b (ty.Atomic a))
no_struct true b a = refl
no_struct false (Some k) a = refl
no_struct false None a = refl

plain_where : (h : Bool) (b : Option ℕ) {r : Bool} → is_some b ≡ not r → r ≡ true
    → not h ≡ cond h false (not (has_bit b))
plain_where h (Some k) e f = cc (e, ap not f)
plain_where true None e f = refl
plain_where false None e f = refl

plain_nowhere : (h : Bool) (b : Option ℕ) {r : Bool} → is_some b ≡ not r → r ≡ false
    → r ≡ cond h false (not (has_bit b))
plain_nowhere true b e f = f
plain_nowhere false (Some k) e f = f
plain_nowhere false None e f = cc (e, ap not f)

-- ---- a visible structure

module _ {m n : Member} (e : m ≡ n) where
  -- a hidden row holds no visible structure
  pub nested_hidden : m.hidden ≡ true → false ≡ is_nested n
  unfolding is_nested
  nested_hidden h = rw (← e, h)

  -- and the code's test of its flag says so
  pub nested_by_flag : m.hidden ≡ true → not m.hidden ≡ is_nested n
  nested_by_flag h = ap not h ∙ nested_hidden h

  -- a visible row with a bit holds no structure
  pub nested_bit : {r : Bool} → m.hidden ≡ false → is_some m.bit ≡ not r → r ≡ false → false ≡ is_nested n
  unfolding is_nested
  nested_bit h b f = rw (← e, h) (bit_taken m.bit m.ty b f)

  -- a row whose type is an atomic holds no structure
  pub nested_atomic : {a : Atomic} → m.ty ≡ ty.Atomic a → false ≡ is_nested n
  unfolding is_nested
  nested_atomic {a} t = rw (← e, t) (no_struct m.hidden m.bit a)

  -- a visible row whose type is a structure holds a visible structure exactly where the code's test finds no bit
  pub nested_by_bit : {r : Bool} {i : ℕ} → m.hidden ≡ false → is_some m.bit ≡ not r → m.ty ≡ ty.Struct i
      → r ≡ is_nested n
  unfolding is_nested
  nested_by_bit {r} {i} h b t = rw (← e, h, t) (bit_free m.bit i r b)

  -- a visible row without a bit whose type is a structure holds a visible structure
  pub nested_struct : {r : Bool} {i : ℕ} → m.hidden ≡ false → is_some m.bit ≡ not r → r ≡ true → m.ty ≡ ty.Struct i
      → true ≡ is_nested n
  nested_struct h b f t = sym f ∙ nested_by_bit h b t

  -- ---- a visible member that is no BOOL of a host

  -- a row without a bit holds one where it is visible
  pub plain_free : {r : Bool} → is_some m.bit ≡ not r → r ≡ true → not m.hidden ≡ is_plain n
  unfolding is_plain
  plain_free b f = rw (← e) (plain_where m.hidden m.bit b f)

  -- a row with a bit holds none
  pub plain_bit : {r : Bool} → is_some m.bit ≡ not r → r ≡ false → r ≡ is_plain n
  unfolding is_plain
  plain_bit b f = rw (← e) (plain_nowhere m.hidden m.bit b f)
