-- `values::set_bools` meets its contract: the run up to its close, as whole bytes and the bits of one more.
use Prim.Native.Nat.{◌+◌, ◌-◌}
use native.Mathlib.Omega.{arith}
use mathlib.Core.Path.{◌≡◌}
use Rattle.values.proofs.writing.bools.BoolLaws.{Parts, bools_applied, laid_both, parts_of}
use Rattle.values.proofs.writing.bools.BoolRuns.{accepts, bools_run}
use Rattle.values.proofs.writing.bools.set_bools.Goals as goal
use Rattle.values.proofs.writing.bools.set_bools.Goals.{After-close_of-q}

-- the close that was found is the run's
close_is : (c : After-close_of-q) → c.close_of-q.result ≡ c.args.k + (bools_run c.requires).many
close_is c = let run = bools_run c.requires in c.close_of-q.ensures run.many run.run

parts : (c : After-close_of-q)
    → Parts c.args.s.now c.args.k c.args.image.now c.args.base
    (c.close_of-q.result - c.args.k)
parts c = parts_of c.requires (omega (arith, close_is c))

pub close_of-q-requires : goal.close_of-q-requires
close_of-q-requires c =
    let run = bools_run c.requires in
    record { many = run.many; run = run.run; enough = omega arith }

pub overflow_sub-whole : goal.overflow_sub-whole
overflow_sub-whole c = omega (arith, close_is (goal.at.overflow_sub-whole c).After-close_of-q)

pub set_eights-requires : goal.set_eights-requires
set_eights-requires c = record {
  at_least = (parts (goal.at.set_eights-requires c).After-close_of-q).whole;
  inside = (parts (goal.at.set_eights-requires c).After-close_of-q).room;
}

pub overflow_sub-q : goal.overflow_sub-q
overflow_sub-q c = omega (arith, close_is (goal.at.overflow_sub-q c).After-close_of-q)

pub overflow_mul-whole : goal.overflow_mul-whole
overflow_mul-whole c = omega (arith, (parts (goal.at.overflow_mul-whole c).After-close_of-q).small)

pub overflow_add-k : goal.overflow_add-k
overflow_add-k c = omega (arith, (parts (goal.at.overflow_add-k c).After-close_of-q).small)

pub overflow_add-base : goal.overflow_add-base
overflow_add-base c =
    omega (arith, (parts (goal.at.overflow_add-base c).After-close_of-q).room, c.well_formed)

pub set_few-requires : goal.set_few-requires
set_few-requires c =
    let known = parts (goal.at.set_few-requires c).After-close_of-q in record {
      at_least = known.few;
      few = (omega arith, λ l. omega (arith, known.last l, c.set_eights.auto.image));
    }

pub overflow_add-result : goal.overflow_add-result
overflow_add-result c =
    let at_q = (goal.at.overflow_add-result c).After-close_of-q in
    omega (arith, (parts at_q).small, close_is at_q)

pub returns : goal.returns
returns c total taken =
    let run = accepts c.requires.form total c.args.k _ _ taken in
    bools_applied c.close_of-q.result c.args.base
    (laid_both _ c.args.base c.set_eights.auto.image c.set_eights.ensures
    c.set_few.auto.image c.set_few.ensures) run (c.close_of-q.ensures run.many run.run)
