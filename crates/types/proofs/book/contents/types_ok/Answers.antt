-- `types::types_ok` meets its contract: all entries are well formed where those that are left are.
use Rattle.std.proofs.Common.{◌≡◌, sym, ◌∙◌, length}
use Rattle.types.specs.book.Contents.{type_entry, type_ok}
use Rattle.types.proofs.book.BookLaws.{every_on, every_off, every_done}
use Rattle.types.proofs.book.contents.types_ok.Goals as goal
use Rattle.types.proofs.book.contents.types_ok.Goals.{After-type_ok}

-- the entry's check, at the entry that was read
good : (c : After-type_ok)
    → c.type_ok.result ≡ type_ok c.args.start (length c.args.book.now) (type_entry c.args.book.now c.loop-i.i)
good c = c.type_ok.ensures ∙ rw c.type_entry.ensures

pub returns-then-not-type_ok : goal.returns-then-not-type_ok
returns-then-not-type_ok c =
    sym (c.loop-i.invariant
    ∙ every_off (type_entry c.args.book.now) c.args.n c.loop-i.i (type_ok c.args.start _) _
    c.loop-i-test.true (good (goal.at.returns-then-not-type_ok c).After-type_ok) c.if-not-type_ok.true)

pub loop-i-preserved : goal.loop-i-preserved
loop-i-preserved c =
    c.loop-i.invariant
    ∙ every_on (type_entry c.args.book.now) c.args.n c.loop-i.i (type_ok c.args.start _) _
    c.loop-i-test.true (good (goal.at.loop-i-preserved c).After-type_ok) c.if-not-type_ok.false

pub returns : goal.returns
returns c =
    sym (c.loop-i.invariant
    ∙ every_done (type_entry c.args.book.now) c.args.n c.loop-i.i (type_ok c.args.start _) c.loop-i-test.false)
