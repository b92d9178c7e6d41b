-- `values::atomic_entries` meets its contract (document 01, "Reading"): the bits of a bit string as an array, and a
-- number or an array of numbers for any other atomic.
use native.Mathlib.Omega.{arith}
use Prim.Native.Nat.{◌*◌, ◌^◌, ◌≤◌}
use mathlib.Core.Path.{sym, ◌∙◌}
use Rattle.values.proofs.stream.CountLeaves.{atomics_bits, atomics_one, atomics_many, bytes_fit}
use Rattle.values.proofs.stream.count.atomic_entries.Goals as goal
use Rattle.values.proofs.stream.count.atomic_entries.Goals.{After-times_of}

product : (c : After-times_of) → c.size.result * c.times_of.result ≤ 2 ^ 36
product c =
    bytes_fit c.args.a c.args.n c.size.ensures c.times_of.ensures
    c.requires

pub overflow_mul-result : goal.overflow_mul-result
overflow_mul-result c = omega (arith, product (goal.at.overflow_mul-result c).After-times_of)

pub overflow_mul-result-then-is_bit_string : goal.overflow_mul-result-then-is_bit_string
overflow_mul-result-then-is_bit_string c =
    omega (arith, product (goal.at.overflow_mul-result-then-is_bit_string c).After-times_of)

pub overflow_add-result : goal.overflow_add-result
overflow_add-result c = omega (arith, product (goal.at.overflow_add-result c).After-times_of)

pub returns-then-is_bit_string : goal.returns-then-is_bit_string
returns-then-is_bit_string c =
    rw (c.size.ensures, c.times_of.ensures)
    (atomics_bits c.args.a c.args.n (sym c.is_bit_string.ensures ∙ c.if-is_bit_string.true))

pub returns-then-n-eq0 : goal.returns-then-n-eq0
returns-then-n-eq0 c =
    atomics_one c.args.a c.args.n (sym c.is_bit_string.ensures ∙ c.if-is_bit_string.false)
    c.if-n-eq0.true

pub returns : goal.returns
returns c =
    atomics_many c.args.a c.args.n (sym c.is_bit_string.ensures ∙ c.if-is_bit_string.false)
    c.if-n-eq0.false
