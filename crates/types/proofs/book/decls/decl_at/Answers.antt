-- `types::decl_at` meets its contract: the entry is the book's, its type the one found for it.
use Rattle.std.proofs.Common.{◌∙◌}
use Rattle.types.specs.inside.book.Decls.{decl_at}
use Rattle.types.proofs.book.decls.decl_at.Goals as goal

pub returns : goal.returns
unfolding decl_at
returns c = c.resolved.ensures ∙ rw (c.ty_of-ty.ensures, c.from.ensures, c.entry_at-e.ensures)
