-- What the loop of `types::type_count` keeps: as many as were passed and are left.
use Rattle.std.proofs.Common.{◌≡◌, ◌+◌, ◌-◌}
use Rattle.types.specs.adding.Ids.{id_word}
use Rattle.types.specs.tables.Limits.{most_types}
use Rattle.types.specs.tables.Registry.{count_from, type_count}
use Rattle.types.proofs.tables.count.type_count.Given as goal

abbrev pub invariant-loop-i : goal.invariant-loop-i
invariant-loop-i l = type_count l.types ≡ l.i + count_from (id_word l.types) l.i (most_types - l.i)
