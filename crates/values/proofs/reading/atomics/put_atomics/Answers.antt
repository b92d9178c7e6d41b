-- `values::put_atomics` meets its contract: bit strings, one other atomic, an array.
use Prim.Native.Nat.{◌*◌}
use native.Mathlib.Omega.{arith}
use mathlib.Core.Path.{◌≡◌, sym, ap, ◌∙◌}
use lib.ListN.{length}
use Rattle.values.specs.inside.reading.Walk.{atomics_out, bits_out, element_out, numbers_out, up_to}
use Rattle.values.proofs.reading.atomics.AtomicRunLaws.{one_long, array_long, elements_long, atomics_bits}
use Rattle.values.proofs.reading.atomics.AtomicRunLaws.{atomics_one, atomics_array}
use Rattle.values.proofs.stream.PutLaws.{put_as}
use Rattle.values.proofs.reading.atomics.put_atomics.Goals as goal
use Rattle.values.proofs.reading.atomics.put_atomics.Goals.{Else-n-eq0, Then-is_bit_string, Then-n-eq0}

-- what each case puts is what the value gives

bits : (c : Then-is_bit_string)
    → let a = c.args in
    bits_out a.s.now (8 * length a.s.now) ≡ atomics_out a.a a.n a.s.now
bits c =
    let a = c.args in
    atomics_bits a.a a.n a.s.now (sym c.is_bit_string.ensures ∙ c.if-is_bit_string.true) c.requires.0

one : (c : Then-n-eq0)
    → let a = c.args in
    up_to (element_out a.a a.s.now) 1 ≡ atomics_out a.a a.n a.s.now
one c =
    let a = c.args in
    atomics_one a.a a.n a.s.now (sym c.is_bit_string.ensures ∙ c.if-is_bit_string.false) c.if-n-eq0.true c.requires.0

array : (c : Else-n-eq0)
    → let a = c.args in
    numbers_out a.a a.n a.s.now ≡ atomics_out a.a a.n a.s.now
array c =
    let a = c.args in
    atomics_array a.a a.n a.s.now (sym c.is_bit_string.ensures ∙ c.if-is_bit_string.false) c.if-n-eq0.false

pub put_bits-requires : goal.put_bits-requires
put_bits-requires c =
    omega (arith, ap length (bits (goal.at.put_bits-requires c).Then-is_bit_string), c.requires.1)

pub returns-then-is_bit_string : goal.returns-then-is_bit_string
returns-then-is_bit_string c =
    put_as (bits (goal.at.returns-then-is_bit_string c).Then-is_bit_string) c.put_bits.ensures

pub put_run-requires : goal.put_run-requires
put_run-requires c =
    let a = c.args in (
      omega (arith, one_long a.a a.n a.s.now c.if-n-eq0.true c.requires.0),
      omega (arith, ap length (one (goal.at.put_run-requires c).Then-n-eq0), elements_long a.a 1 a.s.now, c.requires.1),
    )

pub returns-then-n-eq0 : goal.returns-then-n-eq0
returns-then-n-eq0 c = put_as (one (goal.at.returns-then-n-eq0 c).Then-n-eq0) c.put_run.ensures

pub put_numbers-requires : goal.put_numbers-requires
put_numbers-requires c =
    let a = c.args in (
      array_long a.a a.n a.s.now c.if-n-eq0.false c.requires.0,
      omega (arith, ap length (array (goal.at.put_numbers-requires c).Else-n-eq0), c.requires.1),
    )

pub returns-else-n-eq0 : goal.returns-else-n-eq0
returns-else-n-eq0 c = put_as (array (goal.at.returns-else-n-eq0 c).Else-n-eq0) c.put_numbers.ensures
