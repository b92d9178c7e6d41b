-- What the loop of `Atomic::from_code` keeps: the first of the fifteen with the code is the first of those left.
use Rattle.std.proofs.Common.{◌≡◌, drop}
use lib.Dec.{eqb}
use Rattle.types.specs.atomics.Atomic.{atomics, first_of, code_of, code_given, said_by}
use Rattle.types.proofs.atomics.atomic.Atomic.from_code.Given as goal

abbrev pub invariant-loop-i : goal.invariant-loop-i
invariant-loop-i l = code_given l.code ≡ said_by (first_of (λ a. eqb (code_of a) l.code) (drop l.i atomics))
