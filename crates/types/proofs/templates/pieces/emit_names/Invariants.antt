-- What the loop of `types::emit_names` keeps: the names of the rows from the next on are left.
use Rattle.std.proofs.Common.{◌-◌}
use Rattle.types.specs.inside.templates.Pieces.{names_in, names_from}
use Rattle.types.proofs.templates.SinkLaws.{PiecesLeft}
use Rattle.types.proofs.templates.pieces.emit_names.Given as goal

abbrev pub invariant-loop-row : goal.invariant-loop-row
invariant-loop-row l =
    PiecesLeft (names_in l.tables.members l.tables.names l.fn.d) l.initial.k l.initial.out
    (names_from l.tables.members l.tables.names l.row (l.row-end - l.row)) l.k l.out
