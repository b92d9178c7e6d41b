-- `types::resolve` meets its contract: the words of all are those stored so far and those that are left.
use Rattle.std.proofs.Common.{◌≡◌, refl, sym, ◌∙◌, arith}
use Rattle.types.specs.atomics.Lookup.{row_name, row_names, type_among}
use Rattle.types.specs.rounds.Resolve.{type_name}
use Rattle.types.proofs.rounds.ResolveLaws.{found_earlier, left_on, left_stop, left_end}
use Rattle.types.proofs.rounds.resolve.resolve.Goals as goal
use Rattle.types.proofs.rounds.resolve.resolve.Goals.{After-lookup}
use Rattle.types.proofs.tables.AgreeLaws.{length_list}
use Rattle.types.proofs.tables.DefLaws.{earlier_fits, lent_name}

-- what was looked up is the entry's type name
looked : (c : After-lookup)
    → c.lookup.result
    ≡ type_among (row_names c.args.tables.now.types c.args.tables.now.names c.args.known)
    (type_name c.args.book.now c.args.at c.loop-j.j)
looked c = c.lookup.ensures ∙ rw (lent_name c.args.book.now c.entry_at.result.ty refl refl, c.entry_at.ensures)

pub word_of-requires : goal.word_of-requires
word_of-requires c =
    let found = looked (goal.at.word_of-requires c).After-lookup in
    earlier_fits c.args.known c.requires.rows.few c.in-Some.ty
    (rw (length_list (row_name c.args.tables.now.types c.args.tables.now.names) 0 c.args.known)
    at (found_earlier (row_names c.args.tables.now.types c.args.tables.now.names c.args.known) _ _
    (sym found ∙ c.in-Some.is)))

pub returns-in_default : goal.returns-in_default
returns-in_default c =
    let found = looked (goal.at.returns-in_default c).After-lookup in
    left_stop c.loop-j.j c.loop-j.invariant c.loop-j-test.true (sym found ∙ c.in_default.is)

pub loop-j-preserved : goal.loop-j-preserved
loop-j-preserved c =
    let found = looked (goal.at.loop-j-preserved c).After-lookup in
    rw c.word_of.ensures (left_on c.loop-j.j c.loop-j.invariant c.loop-j-test.true _ (sym found ∙ c.in-Some.is))

pub returns : goal.returns
returns c =
    let all : c.loop-j.j ≡ c.args.n = omega arith in
    rw all at (left_end c.loop-j.j c.loop-j.invariant c.loop-j-test.false)
