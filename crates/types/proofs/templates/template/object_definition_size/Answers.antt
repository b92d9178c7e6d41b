-- `types::object_definition_size` meets its contract.
use Rattle.std.proofs.Common.{arith}
use Rattle.types.specs.templates.Template.{object_size}
use Rattle.types.proofs.templates.template.object_definition_size.Goals as goal

pub returns : goal.returns
unfolding object_size
returns c = omega arith
