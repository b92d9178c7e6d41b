-- `types::run` meets its contract: `Going` holds between rounds.
use Rattle.std.proofs.Common.{arith}
use Rattle.types.specs.inside.rounds.OneRound.{first}
use Rattle.types.specs.layout.Predefined.{predefined}
use Rattle.types.proofs.rounds.OneRoundLaws.{const_small}
use Rattle.types.proofs.rounds.build.BuildLaws.{Going, going_start, going_few, going_in, going_less, going_next}
use Rattle.types.proofs.rounds.build.BuildLaws.{ended_all, ended_no, ended_stuck}
use Rattle.types.proofs.rounds.build.run.Goals as goal
use Rattle.types.proofs.rounds.build.run.Goals.{At-loop-left}

-- the rounds began with the predefined types
going : (c : At-loop-left)
    → Going c.args.book.now (predefined c.args.ids) c.args.t c.args.tys.now c.args.done.now c.args.stuck.now
    c.args.tried.now c.loop-left.tables.types c.loop-left.tables.members c.loop-left.tables.names c.loop-left.tys
    c.loop-left.done
    c.loop-left.stuck c.loop-left.tried c.loop-left.u c.loop-left.left
going c = c.loop-left.invariant _ (first _ c.requires.allowed) c.put_predefined-u.ensures

pub loop-left-init : goal.loop-left-init
loop-left-init c =
    λ start reached stands. going_start c.requires (λ k. (c.type_inv.book k).fits) reached stands

pub one_round-requires : goal.one_round-requires
one_round-requires c = going_in (going (goal.at.one_round-requires c).At-loop-left)

pub returns-in-Err : goal.returns-in-Err
returns-in-Err c =
    ended_no (going (goal.at.returns-in-Err c).At-loop-left) c.one_round.ensures c.loop-left-test.true _
    c.in-Err.is c.clear-in-Err.ensures

pub overflow_cast-result : goal.overflow_cast-result
overflow_cast-result c =
    omega (
      arith,
      c.first_waiting.ensures.small,
      const_small (going (goal.at.overflow_cast-result c).At-loop-left).const,
    )

pub returns-then-rest-left : goal.returns-then-rest-left
returns-then-rest-left c =
    ended_stuck (going (goal.at.returns-then-rest-left c).At-loop-left) c.one_round.ensures c.loop-left-test.true _ _
    c.in-Ok.is _ c.if-rest-left.true c.first_waiting.ensures c.clear.ensures

pub loop-left-smaller : goal.loop-left-smaller
loop-left-smaller c =
    going_less (going (goal.at.loop-left-smaller c).At-loop-left) c.one_round.ensures c.loop-left-test.true _ _
    c.in-Ok.is c.if-rest-left.false

pub loop-left-preserved : goal.loop-left-preserved
loop-left-preserved c =
    λ start reached stands.
    going_next (c.loop-left.invariant start reached stands) c.one_round.ensures c.loop-left-test.true _ _
    c.in-Ok.is c.if-rest-left.false c.one_round.auto.tys c.one_round.auto.done c.one_round.auto.stuck
    c.one_round.auto.tried

pub overflow_cast-result-2 : goal.overflow_cast-result-2
overflow_cast-result-2 c = omega (arith, going_few (going (goal.at.overflow_cast-result-2 c).At-loop-left))

pub returns : goal.returns
returns c =
    ended_all (going (goal.at.returns c).At-loop-left) (omega (arith, c.loop-left-test.false))
