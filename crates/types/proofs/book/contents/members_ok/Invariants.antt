-- What the loop of `types::members_ok` keeps: all entries are well formed where those that are left are.
use Rattle.std.proofs.Common.{◌≡◌, ◌-◌, length}
use Rattle.types.specs.book.Contents.{member_entry, member_ok, every, list_from}
use Rattle.types.proofs.book.contents.members_ok.Given as goal

abbrev pub invariant-loop-i : goal.invariant-loop-i
invariant-loop-i l = every (member_ok l.start (length l.book)) (list_from (member_entry l.book l.t) 0 l.n)
    ≡ every (member_ok l.start (length l.book)) (list_from (member_entry l.book l.t) l.i (l.n - l.i))
