-- `types::emit_padding` meets its contract: at most three zeros.
use Rattle.std.proofs.Common.{◌≡◌, ◌+◌, ◌-◌, ◌*◌, ◌/◌, take, arith, ◌∷◌, []}
use Rattle.types.specs.templates.Template.{padding}
use Rattle.types.proofs.templates.TemplateLaws.{zeros_padding}
use Rattle.types.proofs.templates.pieces.emit_padding.Goals as goal
use Rattle.types.proofs.templates.pieces.emit_padding.Goals.{After-next_multiple_of}

-- the zeros that are sent
sent : (c : After-next_multiple_of)
    → take (c.next_multiple_of.result - c.args.sink.at) (0 ∷ 0 ∷ 0 ∷ []) ≡ padding c.args.sink.at
sent c =
    let at = c.args.sink.at in
    let n : c.next_multiple_of.result - at ≡ (at + 3) / 4 * 4 - at = omega arith in
    rw n (zeros_padding at)

pub emit-requires : goal.emit-requires
emit-requires c = rw (sent (goal.at.emit-requires c).After-next_multiple_of) c.requires

pub returns : goal.returns
returns c = rw (sent (goal.at.returns c).After-next_multiple_of) at c.emit.ensures
