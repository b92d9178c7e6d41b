-- `replies::rebuild` meets its contract: a book is a list of bytes.
use Rattle.types.proofs.Face.{build_kept}
use Rattle.replies.proofs.kinds.rebuild.Goals as goal

pub returns : goal.returns
returns c = build_kept _ _ (λ k. (c.type_inv.book k).fits) c.build.ensures
