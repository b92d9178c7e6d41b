-- `types::align_up` meets its contract: the alignment is 1, 2, 3 or 4.
use mathlib.Core.Path.{◌∙◌}
use Rattle.types.proofs.layout.LayoutLaws.{next_multiple}
use Rattle.types.proofs.layout.placing.align_up.Goals as goal

pub returns : goal.returns
returns c =
    c.next_multiple_of.ensures.value ∙ next_multiple c.args.x c.args.align c.requires.least c.requires.most
