-- `types::type_entry` meets its contract: each field is read from its own bytes.
use Rattle.types.specs.book.Contents.{type_entry}
use Rattle.types.proofs.book.contents.type_entry.Goals as goal

pub returns : goal.returns
unfolding type_entry
returns c =
    rw (
      c.load-7.ensures,
      c.load-6.ensures,
      c.load-5.ensures,
      c.load-4.ensures,
      c.load-3.ensures,
      c.from.ensures,
      c.load-2.ensures,
      c.load.ensures,
    )
