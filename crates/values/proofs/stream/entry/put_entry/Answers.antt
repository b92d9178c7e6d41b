-- `values::put_entry` meets its contract: the word of the kind, and the word of the payload after it, are the entry.
use Rattle.values.proofs.stream.EntryLaws.{entry_stored}
use Rattle.values.proofs.stream.entry.put_entry.Goals as goal

pub returns : goal.returns
returns c =
    let a = c.args in
    rw (c.store-2.ensures, c.store.ensures, c.from.ensures)
    (entry_stored a.out.now a.at a.kind a.payload c.ranges.kind.fits)
