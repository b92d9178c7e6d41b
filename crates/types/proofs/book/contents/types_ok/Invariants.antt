-- What the loop of `types::types_ok` keeps: all entries are well formed where those that are left are.
use Rattle.std.proofs.Common.{◌≡◌, ◌-◌, length}
use Rattle.types.specs.book.Contents.{type_entry, type_ok, every, list_from}
use Rattle.types.proofs.book.contents.types_ok.Given as goal

abbrev pub invariant-loop-i : goal.invariant-loop-i
invariant-loop-i l = every (type_ok l.start (length l.book)) (list_from (type_entry l.book) 0 l.n)
    ≡ every (type_ok l.start (length l.book)) (list_from (type_entry l.book) l.i (l.n - l.i))
