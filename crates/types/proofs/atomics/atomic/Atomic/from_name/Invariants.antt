-- What the loop of `Atomic::from_name` keeps: the first of the fifteen with the name is the first of those left.
use Rattle.std.proofs.Common.{◌≡◌, drop}
use Rattle.types.specs.atomics.Atomic.{atomics, first_of, name_of, atomic_named}
use Rattle.types.specs.book.Names.{same_name}
use Rattle.types.proofs.atomics.atomic.Atomic.from_name.Given as goal

abbrev pub invariant-loop-i : goal.invariant-loop-i
invariant-loop-i l = atomic_named l.name ≡ first_of (λ a. same_name (name_of a) l.name) (drop l.i atomics)
