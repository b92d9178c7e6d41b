-- `values::fits::check_bits` meets its contract: a bit string is a whole number, or an array of bools (document 01,
-- "Writing").
use native.Mathlib.Omega.{arith}
use Rattle.values.proofs.writing.fits.FitLeafLaws.{bits_array, bits_one, opening}
use Rattle.values.proofs.writing.fits.FitRunLaws.{few}
use Rattle.values.proofs.writing.fits.check_bits.Goals as goal

pub overflow_add-k : goal.overflow_add-k
overflow_add-k c = omega (arith, few c.requires.well_formed.0, c.requires.well_formed.1)

pub check_bools-requires : goal.check_bools-requires
check_bools-requires c =
    let told = c.requires.well_formed.0 in
    (told, opening c.args.k told c.kind_at.ensures c.if-kind_at-eq-ARRAY_OPEN.true)

pub returns-then-kind_at-eq-ARRAY_OPEN : goal.returns-then-kind_at-eq-ARRAY_OPEN
returns-then-kind_at-eq-ARRAY_OPEN c =
    bits_array c.requires.well_formed.0 c.kind_at.ensures c.args.a c.requires.bits c.if-kind_at-eq-ARRAY_OPEN.true
    c.size.ensures c.check_bools.ensures

pub returns : goal.returns
returns c =
    bits_one c.requires.well_formed.0 c.kind_at.ensures c.args.a c.requires.bits c.if-kind_at-eq-ARRAY_OPEN.false
    c.check_atomic.ensures
