-- `types::fold_byte` meets its contract: the rotation is the sum of the two parts.
use Rattle.std.proofs.Common.{arith}
use Rattle.types.proofs.templates.HandleLaws.{rotated}
use Rattle.types.proofs.templates.handle.fold_byte.Goals as goal

pub returns : goal.returns
returns c = rw (c.rotate_left.ensures, c.from.ensures, rotated c.args.h (omega arith))
