-- `values::eight` meets its contract: each byte is 0 or 1, so that no sum overflows.
use Rattle.std.proofs.Common.{arith}
use Rattle.values.proofs.writing.bools.BoolLaws.{eight_bytes, eight_val}
use Rattle.values.proofs.writing.bools.eight.Goals as goal

pub overflow_mul-at : goal.overflow_mul-at
overflow_mul-at c = omega (arith, eight_bytes c.requires)

pub overflow_add-at : goal.overflow_add-at
overflow_add-at c = omega (arith, eight_bytes c.requires)

pub bounds-s-at : goal.bounds-s-at
bounds-s-at c = omega (arith, eight_bytes c.requires)

pub overflow_add-result : goal.overflow_add-result
overflow_add-result c = omega (arith, eight_bytes c.requires)

pub bounds-s-at-2 : goal.bounds-s-at-2
bounds-s-at-2 c = omega (arith, eight_bytes c.requires)

pub overflow_mul-result : goal.overflow_mul-result
overflow_mul-result c = omega (arith, eight_bytes c.requires)

pub overflow_add-result-2 : goal.overflow_add-result-2
overflow_add-result-2 c = omega (arith, eight_bytes c.requires)

pub overflow_add-result-3 : goal.overflow_add-result-3
overflow_add-result-3 c = omega (arith, eight_bytes c.requires)

pub bounds-s-at-3 : goal.bounds-s-at-3
bounds-s-at-3 c = omega (arith, eight_bytes c.requires)

pub overflow_mul-result-2 : goal.overflow_mul-result-2
overflow_mul-result-2 c = omega (arith, eight_bytes c.requires)

pub overflow_add-result-4 : goal.overflow_add-result-4
overflow_add-result-4 c = omega (arith, eight_bytes c.requires)

pub overflow_add-result-5 : goal.overflow_add-result-5
overflow_add-result-5 c = omega (arith, eight_bytes c.requires)

pub bounds-s-at-4 : goal.bounds-s-at-4
bounds-s-at-4 c = omega (arith, eight_bytes c.requires)

pub overflow_mul-result-3 : goal.overflow_mul-result-3
overflow_mul-result-3 c = omega (arith, eight_bytes c.requires)

pub overflow_add-result-6 : goal.overflow_add-result-6
overflow_add-result-6 c = omega (arith, eight_bytes c.requires)

pub overflow_add-result-7 : goal.overflow_add-result-7
overflow_add-result-7 c = omega (arith, eight_bytes c.requires)

pub bounds-s-at-5 : goal.bounds-s-at-5
bounds-s-at-5 c = omega (arith, eight_bytes c.requires)

pub overflow_mul-result-4 : goal.overflow_mul-result-4
overflow_mul-result-4 c = omega (arith, eight_bytes c.requires)

pub overflow_add-result-8 : goal.overflow_add-result-8
overflow_add-result-8 c = omega (arith, eight_bytes c.requires)

pub overflow_add-result-9 : goal.overflow_add-result-9
overflow_add-result-9 c = omega (arith, eight_bytes c.requires)

pub bounds-s-at-6 : goal.bounds-s-at-6
bounds-s-at-6 c = omega (arith, eight_bytes c.requires)

pub overflow_mul-result-5 : goal.overflow_mul-result-5
overflow_mul-result-5 c = omega (arith, eight_bytes c.requires)

pub overflow_add-result-10 : goal.overflow_add-result-10
overflow_add-result-10 c = omega (arith, eight_bytes c.requires)

pub overflow_add-result-11 : goal.overflow_add-result-11
overflow_add-result-11 c = omega (arith, eight_bytes c.requires)

pub bounds-s-at-7 : goal.bounds-s-at-7
bounds-s-at-7 c = omega (arith, eight_bytes c.requires)

pub overflow_mul-result-6 : goal.overflow_mul-result-6
overflow_mul-result-6 c = omega (arith, eight_bytes c.requires)

pub overflow_add-result-12 : goal.overflow_add-result-12
overflow_add-result-12 c = omega (arith, eight_bytes c.requires)

pub overflow_add-result-13 : goal.overflow_add-result-13
overflow_add-result-13 c = omega (arith, eight_bytes c.requires)

pub bounds-s-at-8 : goal.bounds-s-at-8
bounds-s-at-8 c = omega (arith, eight_bytes c.requires)

pub overflow_mul-result-7 : goal.overflow_mul-result-7
overflow_mul-result-7 c = omega (arith, eight_bytes c.requires)

pub overflow_add-result-14 : goal.overflow_add-result-14
overflow_add-result-14 c = omega (arith, eight_bytes c.requires)

pub returns : goal.returns
returns c = eight_val c.requires
