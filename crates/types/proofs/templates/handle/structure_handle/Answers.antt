-- `types::structure_handle` meets its contract: the finished fold from the start.
use mathlib.Core.Path.{ap, ◌∙◌}
use Rattle.types.specs.templates.Handle.{not_zero, handle_of}
use Rattle.types.proofs.templates.handle.structure_handle.Goals as goal

pub returns : goal.returns
unfolding handle_of
returns c = c.finish_handle.ensures ∙ ap not_zero c.fold_handle.ensures
