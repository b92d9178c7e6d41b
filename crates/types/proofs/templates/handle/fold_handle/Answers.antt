-- `types::fold_handle` meets its contract: the fold of the step over the bytes.
use Rattle.std.proofs.Common.{rules, ◌≡◌, ◌∙◌}
use Rattle.std.specs.List.{fold}
use Rattle.types.specs.templates.Handle.{fold_byte}
use Rattle.types.proofs.templates.HandleLaws.{fold_is}
use Rattle.types.proofs.templates.handle.fold_handle.Goals as goal

pub returns : goal.returns
returns c =
    let all : c.fold.result ≡ fold fold_byte c.args.h c.args.s.now = search rules in
    all ∙ fold_is _ _
