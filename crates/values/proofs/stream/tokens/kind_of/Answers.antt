-- `values::kind_of` meets its contract: the first of an entry's bytes is its kind.
use native.Mathlib.Omega.{arith}
use mathlib.Core.Path.{sym, ◌∙◌}
use Rattle.values.proofs.stream.LeftLaws.{entries_inside, few_entries, kind_there, there}
use Rattle.values.proofs.stream.tokens.kind_of.Goals as goal

pub overflow_mul-result : goal.overflow_mul-result
overflow_mul-result c = omega (arith, c.requires.1, few_entries _ c.requires.0)

pub overflow_add-result : goal.overflow_add-result
overflow_add-result c = omega (arith, c.requires.1, few_entries _ c.requires.0)

pub bounds-s-k : goal.bounds-s-k
bounds-s-k c =
    omega (arith, c.requires.1, entries_inside _ c.requires.0)

pub returns : goal.returns
returns c =
    let t = there _ _ c.requires.0 c.requires.1 in
    sym (kind_there t ∙ t.kind)
