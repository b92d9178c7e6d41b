-- `types::check_one` meets its contract: one way out for each rule.
use Rattle.std.proofs.Common.{◌≡◌, ◌+◌, ◌-◌, refl, ap, ◌∙◌, arith, take, drop}
use Rattle.types.specs.book.Names.{good_name}
use Rattle.types.specs.inside.adding.Checks.{member_name}
use Rattle.types.specs.declared.book.contents.MemberEntry.{MemberEntry}
use Rattle.types.proofs.adding.checks.CheckLaws.{inside_less, one_misnamed, one_twice, one_shown, one_inside}
use Rattle.types.proofs.adding.checks.CheckLaws.{one_outside}
use Rattle.types.proofs.adding.checks.check_one.Goals as goal
use Rattle.types.proofs.adding.checks.check_one.Goals.{After-entry_at-e, After-good_name}
use Rattle.types.proofs.adding.checks.check_one.Goals.{else-e-eq1-via-then-e-eq1+else-not-aoi}
use Rattle.types.proofs.adding.checks.check_one.Goals.{else-e-eq1-via-else-e-eq1}
use Rattle.types.proofs.tables.DefLaws.{lent_name}

-- the part that is lent is the member's name
named : (c : After-entry_at-e)
    → let s = c.entry_at-e.result.name in
    take (s.at + s.long - s.at) (drop s.at c.args.book.now) ≡ member_name c.args.book.now c.args.at c.args.j
named c = lent_name c.args.book.now c.entry_at-e.result.name refl refl ∙ rw c.entry_at-e.ensures

-- the rule, with the member's name
good : (c : After-good_name) → c.good_name.result ≡ good_name (member_name c.args.book.now c.args.at c.args.j)
good c = c.good_name.ensures ∙ ap good_name (named (goal.at.After-good_name c).After-entry_at-e)

pub returns-then-not-good_name : goal.returns-then-not-good_name
returns-then-not-good_name c =
    one_misnamed c.args.book.now c.args.aoi c.args.at c.args.j
    (good (goal.at.returns-then-not-good_name c).After-good_name) c.if-not-good_name.true c.args.seen.now

pub look-requires : goal.look-requires
look-requires c = (
  inside_less c.args.j c.requires.0 (omega arith),
  (named (goal.at.look-requires c).After-entry_at-e, c.requires.1),
)

pub returns-then-look : goal.returns-then-look
returns-then-look c =
    one_twice c.args.book.now c.args.aoi c.args.at c.args.j
    (good (goal.at.returns-then-look c).After-good_name) c.if-not-good_name.false c.look.ensures c.if-look.true

pub returns-then-not-aoi : goal.returns-then-not-aoi
returns-then-not-aoi c =
    one_outside c.args.book.now c.args.aoi c.args.at c.args.j
    (good (goal.at.returns-then-not-aoi c).After-good_name) c.if-not-good_name.false
    c.look.ensures c.if-look.false (ap (λ (e : MemberEntry). e.local) c.entry_at-e.ensures)
    c.if-e-eq1.true c.if-not-aoi.true

pub returns : goal.returns
returns c =
    let g = good (goal.at.returns c).After-good_name in
    let local = ap (λ (e : MemberEntry). e.local) c.entry_at-e.ensures in
    elim c.else-e-eq1.branch [
      | else-e-eq1-via-then-e-eq1+else-not-aoi w ↦
          one_inside c.args.book.now c.args.aoi c.args.at c.args.j g c.if-not-good_name.false
          c.look.ensures c.if-look.false local w.if-e-eq1.true w.if-not-aoi.false
      | else-e-eq1-via-else-e-eq1 w ↦
          one_shown c.args.book.now c.args.aoi c.args.at c.args.j g c.if-not-good_name.false
          c.look.ensures c.if-look.false local w.if-e-eq1.false
    ]
