-- `types::one_round` meets its contract: `InRound` holds in the round.
use Rattle.std.proofs.Common.{◌≡◌, ap, ◌∙◌, Ok, arith}
use Rattle.std.proofs.lemmas.Result.{err_from_is_err_and}
use Rattle.types.specs.rounds.Turns.{count_of}
use Rattle.types.specs.declared.book.contents.TypeEntry.{TypeEntry}
use Rattle.types.proofs.rounds.OneRoundLaws.{start_small, within_start, within_in, within_near, within_left}
use Rattle.types.proofs.rounds.OneRoundLaws.{within_past, within_wait, within_yes, made_all, made_no}
use Rattle.types.proofs.rounds.round.one_round.Goals as goal
use Rattle.types.proofs.rounds.round.one_round.Goals.{then-done-i-eq0+in_ok-turn+in-Some}
use Rattle.types.proofs.rounds.round.one_round.Goals.{then-done-i-eq0+in_ok-turn+in_default, else-done-i-eq0}

pub overflow_mul-at : goal.overflow_mul-at
overflow_mul-at c = omega (arith, start_small c.requires (λ k. (c.type_inv.book k).fits))

pub overflow_add-at : goal.overflow_add-at
overflow_add-at c = omega (arith, start_small c.requires (λ k. (c.type_inv.book k).fits))

pub loop-i-init : goal.loop-i-init
loop-i-init c = within_start c.requires (λ k. (c.type_inv.book k).fits)

pub take_turn-requires : goal.take_turn-requires
take_turn-requires c = within_in c.loop-i.invariant c.loop-i-test.true

pub type_entry-requires : goal.type_entry-requires
type_entry-requires c = (within_in c.loop-i.invariant c.loop-i-test.true).entry

pub returns-in_err-turn : goal.returns-in_err-turn
returns-in_err-turn c =
    let p = err_from_is_err_and c.from_residual.result c.from_residual.ensures.1 in
    rw (p.1, p.2)
    (made_no c.loop-i.invariant c.loop-i-test.true c.take_turn.ensures.0 c.if-done-i-eq0.true _ c.in_err-turn.was)

pub overflow_sub-rest : goal.overflow_sub-rest
overflow_sub-rest c = omega (arith, within_left c.loop-i.invariant c.loop-i-test.true c.if-done-i-eq0.true)

pub loop-i-preserved : goal.loop-i-preserved
loop-i-preserved c =
    let v = c.loop-i.invariant in
    let l = c.loop-i-test.true in
    let n : c.count_of.result ≡ count_of c.args.book.now c.loop-i.i =
    c.count_of.ensures.0 ∙ ap (λ (x : TypeEntry). x.count) c.type_entry.ensures in
    rw n
    (elim c.if-done-i-eq0.branch [
      | then-done-i-eq0+in_ok-turn+in-Some w ↦
          rw (w.tables-is, w.tys-is, w.done-is, w.stuck-is, w.tried-is, w.used-is, w.rest-is)
          (within_yes v l w.take_turn.ensures.0 w.if-done-i-eq0.true w.take_turn.auto.tys w.take_turn.auto.stuck
          w.take_turn.auto.tried w.take_turn.ensures.1 _ (w.in_ok-turn.was ∙ ap Ok w.in-Some.is))
      | then-done-i-eq0+in_ok-turn+in_default w ↦
          rw (w.tables-is, w.tys-is, w.done-is, w.stuck-is, w.tried-is, w.used-is, w.rest-is)
          (within_wait v l w.take_turn.ensures.0 w.if-done-i-eq0.true w.take_turn.auto.tys w.take_turn.auto.stuck
          w.take_turn.auto.tried w.take_turn.ensures.1 (w.in_ok-turn.was ∙ ap Ok w.in_default.is))
      | else-done-i-eq0 w ↦
          rw (w.tables-is, w.tys-is, w.done-is, w.stuck-is, w.tried-is, w.used-is, w.rest-is)
          (within_past v l w.if-done-i-eq0.false)
    ])

pub overflow_add-at-in-loop-i : goal.overflow_add-at-in-loop-i
overflow_add-at-in-loop-i c =
    let n : c.count_of.result ≡ count_of c.args.book.now c.loop-i.i =
    c.count_of.ensures.0 ∙ ap (λ (x : TypeEntry). x.count) c.type_entry.ensures in
    omega (arith, n, within_near c.loop-i.invariant c.loop-i-test.true)

pub returns : goal.returns
returns c = made_all c.loop-i.invariant c.loop-i-test.false
