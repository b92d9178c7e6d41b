-- `types::members_ok` meets its contract: all entries are well formed where those that are left are.
use Rattle.std.proofs.Common.{◌≡◌, sym, ◌∙◌, length}
use Rattle.types.specs.book.Contents.{member_entry, member_ok}
use Rattle.types.proofs.book.BookLaws.{every_on, every_off, every_done}
use Rattle.types.proofs.book.contents.members_ok.Goals as goal
use Rattle.types.proofs.book.contents.members_ok.Goals.{After-member_ok}

-- the entry's check, at the entry that was read
good : (c : After-member_ok)
    → c.member_ok.result
    ≡ member_ok c.args.start (length c.args.book.now) (member_entry c.args.book.now c.args.t c.loop-i.i)
good c = c.member_ok.ensures ∙ rw c.member_entry.ensures

pub returns-then-not-member_ok : goal.returns-then-not-member_ok
returns-then-not-member_ok c =
    sym (c.loop-i.invariant
    ∙ every_off (member_entry c.args.book.now c.args.t) c.args.n c.loop-i.i (member_ok c.args.start _) _
    c.loop-i-test.true (good (goal.at.returns-then-not-member_ok c).After-member_ok) c.if-not-member_ok.true)

pub loop-i-preserved : goal.loop-i-preserved
loop-i-preserved c =
    c.loop-i.invariant
    ∙ every_on (member_entry c.args.book.now c.args.t) c.args.n c.loop-i.i (member_ok c.args.start _) _
    c.loop-i-test.true (good (goal.at.loop-i-preserved c).After-member_ok) c.if-not-member_ok.false

pub returns : goal.returns
returns c =
    sym (c.loop-i.invariant
    ∙ every_done (member_entry c.args.book.now c.args.t) c.args.n c.loop-i.i (member_ok c.args.start _)
    c.loop-i-test.false)
