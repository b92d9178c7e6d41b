-- `values::fits::check_numbers` meets its contract: up to `count` atomics or nulls, and the close (document 01,
-- "Writing"). The loop knows the atomic by its limits alone.
use mathlib.Core.Path.{◌≡◌}
use Rattle.types.specs.declared.atomics.atomic.Atomic.{Atomic}
use Rattle.values.specs.inside.writing.Effects.{atomic_takes}
use Rattle.values.specs.inside.writing.Limits.{limits_of}
use Rattle.values.specs.writing.Effects.{or_null}
use Rattle.values.proofs.writing.fits.FitRunLaws.{Walked}
use Rattle.values.proofs.writing.fits.check_numbers.Given as goal

abbrev pub invariant-loop-p : goal.invariant-loop-p
invariant-loop-p l = (a : Atomic) → l.limits ≡ limits_of a → Walked l.s (or_null (atomic_takes a)) l.count l.k l.p
