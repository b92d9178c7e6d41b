-- What the loop of `types::emit_ids` keeps: the ids from the next member on are left.
use Rattle.std.proofs.Common.{◌-◌}
use Rattle.types.specs.templates.Template.{member_ids}
use Rattle.types.proofs.templates.SinkLaws.{PiecesLeft}
use Rattle.types.proofs.templates.pieces.emit_ids.Given as goal

abbrev pub invariant-loop-i : goal.invariant-loop-i
invariant-loop-i l =
    PiecesLeft (member_ids 0 l.n) l.initial.k l.initial.out (member_ids l.i (l.n - l.i)) l.k l.out
