-- `types::emit_ids` meets its contract. The invariant: the ids from the next member on are left.
use Rattle.std.proofs.Common.{◌≡◌, ◌+◌}
use Rattle.words.specs.Words.{bytes_of}
use Rattle.types.proofs.templates.SinkLaws.{left_room, left_on, left_none}
use Rattle.types.proofs.templates.TemplateLaws.{ids_on, ids_off}
use Rattle.types.proofs.templates.pieces.emit_ids.Goals as goal
use Rattle.types.proofs.templates.pieces.emit_ids.Goals.{After-to_le_bytes}

-- the two bytes of a turn
came : (c : After-to_le_bytes) → c.to_le_bytes.result ≡ bytes_of 2 (0xE000 + c.loop-i.i)
unfolding bytes_of
came c = c.to_le_bytes.ensures

pub emit-k-requires : goal.emit-k-requires
emit-k-requires c =
    rw (came (goal.at.emit-k-requires c).After-to_le_bytes)
    (left_room _ _ (ids_on c.args.n c.loop-i.i c.loop-i-test.true) c.loop-i.invariant)

pub loop-i-preserved : goal.loop-i-preserved
loop-i-preserved c =
    left_on _ (ids_on c.args.n c.loop-i.i c.loop-i-test.true) c.loop-i.invariant
    (rw (came (goal.at.loop-i-preserved c).After-to_le_bytes) at c.emit-k.ensures)

pub returns : goal.returns
returns c = left_none (ids_off c.args.n c.loop-i.i c.loop-i-test.false) c.loop-i.invariant
