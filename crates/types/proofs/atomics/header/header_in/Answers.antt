-- `types::header_in` meets its contract: the mark and the two bytes of the handle.
use Rattle.words.specs.Words.{bytes_of}
use Rattle.types.proofs.atomics.header.header_in.Goals as goal

pub returns-in-Struct : goal.returns-in-Struct
unfolding bytes_of
returns-in-Struct c = rw (c.in-Struct.is, c.to_le_bytes.ensures, c.type_row.ensures)
