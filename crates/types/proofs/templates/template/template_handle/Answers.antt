-- `types::template_handle` meets its contract: the finished fold of the walk.
use Rattle.std.proofs.Common.{ap, ◌∙◌}
use Rattle.types.specs.templates.Handle.{not_zero, handle_of}
use Rattle.types.proofs.templates.template.template_handle.Goals as goal

pub returns : goal.returns
unfolding handle_of
returns c = c.finish_handle.ensures ∙ ap not_zero c.measure.ensures.fold
