-- What the loop of `types::emit_infos` keeps: the infos of the rows from the next on are left.
use Rattle.std.proofs.Common.{◌-◌}
use Rattle.types.specs.inside.templates.Pieces.{infos_in, infos_from}
use Rattle.types.proofs.templates.SinkLaws.{PiecesLeft}
use Rattle.types.proofs.templates.pieces.emit_infos.Given as goal

abbrev pub invariant-loop-row : goal.invariant-loop-row
invariant-loop-row l =
    PiecesLeft (infos_in l.tables.types l.tables.members l.fn.d) l.initial.k l.initial.out
    (infos_from l.tables.types l.tables.members l.row (l.row-end - l.row)) l.k l.out
