-- `values::fits::check_array` meets its contract: a null, or an opening and what is inside (document 01, "Writing").
use native.Mathlib.Omega.{arith}
use Rattle.values.proofs.writing.fits.FitLeafLaws.{array_goes, array_keeps, array_refuses, opening}
use Rattle.values.proofs.writing.fits.FitRunLaws.{few}
use Rattle.values.proofs.writing.fits.check_array.Goals as goal

pub overflow_add-result : goal.overflow_add-result
overflow_add-result c = omega (arith, few c.requires.well_formed.0, c.requires.well_formed.1)

pub returns-in-0 : goal.returns-in-0
returns-in-0 c =
    array_keeps c.requires.well_formed.0 c.kind_at.ensures c.args.a c.args.count c.requires.count_bound.1 c.in-0.is

pub overflow_add-k : goal.overflow_add-k
overflow_add-k c = omega (arith, few c.requires.well_formed.0, c.requires.well_formed.1)

pub check_run-requires-clause-well_formed : goal.check_run-requires-clause-well_formed
check_run-requires-clause-well_formed c =
    let told = c.requires.well_formed.0 in (told, opening c.args.k told c.kind_at.ensures c.in-10.is)

pub returns-in-10 : goal.returns-in-10
returns-in-10 c =
    array_goes c.requires.well_formed.0 c.kind_at.ensures c.args.a c.args.count c.requires.count_bound.1 c.in-10.is
    c.check_run.ensures

pub overflow_cast-result : goal.overflow_cast-result
overflow_cast-result c = omega (arith, few c.requires.well_formed.0, c.requires.well_formed.1)

pub returns-in_default : goal.returns-in_default
returns-in_default c =
    array_refuses c.requires.well_formed.0 c.kind_at.ensures c.args.a c.args.count c.requires.count_bound.1
    c.requires.well_formed.1 (omega arith) (omega arith)
