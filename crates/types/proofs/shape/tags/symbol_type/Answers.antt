-- `types::symbol_type` meets its contract: of a type that is there, with few lengths, the sum fits 16 bits.
use Rattle.std.proofs.Common.{◌≡◌, true, ◌<◌, arith, sym, ◌∙◌}
use Rattle.types.specs.tables.There.{is_there}
use Rattle.types.proofs.shape.ShapeLaws.{symbol_absent, symbol_is, symbol_many, there_fits, type_below}
use Rattle.types.proofs.shape.tags.symbol_type.Goals as goal
use Rattle.types.proofs.shape.tags.symbol_type.Goals.{Else-not-is_there, After-type_in}

-- the test was passed
there : (c : Else-not-is_there) → is_there c.args.types.now c.args.s.ty ≡ true
there c = sym c.is_there.ensures ∙ c.if-not-is_there.false

small : (c : After-type_in) → c.type_in.result < 0x9000
small c =
    rw c.type_in.ensures (type_below c.requires c.args.s.ty (there (goal.at.After-type_in c).Else-not-is_there))

pub returns-then-not-is_there : goal.returns-then-not-is_there
returns-then-not-is_there c = symbol_absent _ _ _ (sym c.is_there.ensures ∙ c.if-not-is_there.true)

pub returns-then-s-gt-MOST_LENGTHS : goal.returns-then-s-gt-MOST_LENGTHS
returns-then-s-gt-MOST_LENGTHS c =
    symbol_many _ _ _ (there (goal.at.returns-then-s-gt-MOST_LENGTHS c).Else-not-is_there)
    c.if-s-gt-MOST_LENGTHS.true

pub type_in-requires : goal.type_in-requires
type_in-requires c =
    there_fits c.args.types.now c.args.s.ty (there (goal.at.type_in-requires c).Else-not-is_there)

pub overflow_add-result : goal.overflow_add-result
overflow_add-result c =
    omega (arith, small (goal.at.overflow_add-result c).After-type_in, c.if-s-gt-MOST_LENGTHS.false)

pub overflow_cast-result-2 : goal.overflow_cast-result-2
overflow_cast-result-2 c =
    omega (arith, small (goal.at.overflow_cast-result-2 c).After-type_in, c.if-s-gt-MOST_LENGTHS.false)

pub returns : goal.returns
returns c =
    rw c.type_in.ensures
    (symbol_is _ _ _ (there (goal.at.returns c).Else-not-is_there) (omega (arith, c.if-s-gt-MOST_LENGTHS.false)))
