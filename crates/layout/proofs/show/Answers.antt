-- `layout::show` meets its contract: what a build leaves in the tables is kept.
use Rattle.types.proofs.Face.{build_kept}
use Rattle.layout.proofs.show.Goals as goal

pub list-requires : goal.list-requires
list-requires c = build_kept _ _ (λ k. (c.type_inv.book k).fits) c.build.ensures
