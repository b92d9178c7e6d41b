-- `types::take_turn` meets its contract: the type waits where a member type is not known, else it is added.
use Rattle.std.proofs.Common.{◌≡◌, refl, ap, ◌∙◌, arith}
use Rattle.types.specs.inside.rounds.Turns.{at_once}
use Rattle.types.specs.rounds.Turns.{count_of}
use Rattle.types.specs.declared.book.contents.TypeEntry.{TypeEntry}
use Rattle.types.proofs.rounds.turn.TurnLaws.{turn_still, turn_waits, turn_ready, turn_takes, once_mapped}
use Rattle.types.proofs.rounds.turn.take_turn.Goals as goal
use Rattle.types.proofs.rounds.turn.take_turn.Goals.{After-count_of-n}
use Rattle.types.proofs.tables.DefLaws.{lent_name}

pub returns-then-waits_still : goal.returns-then-waits_still
returns-then-waits_still c =
    turn_still _ _ _ _ _ _ _ _ refl c.requires _ _ c.count_of-k.ensures.0 refl
    (c.waits_still.ensures c.if-waits_still.true)

-- the number of members is the entry's
counted : (c : After-count_of-n) → c.count_of-n.result ≡ count_of c.args.book.now c.args.i
counted c = c.count_of-n.ensures.0 ∙ ap (λ (e : TypeEntry). e.count) c.type_entry-e.ensures

pub returns-then-found-n : goal.returns-then-found-n
returns-then-found-n c =
    turn_waits _ _ _ _ _ _ _ _ (counted (goal.at.returns-then-found-n c).After-count_of-n) _ c.resolve-found.ensures
    c.requires c.if-found-n.true

pub add_entry-requires : goal.add_entry-requires
add_entry-requires c =
    let few = counted (goal.at.add_entry-requires c).After-count_of-n in
    record {
      usable = c.requires.usable;
      declared =
          rw (← c.count_of-n.ensures.0)
          (turn_ready _ c.args.tables.now.members _ _ c.args.u _ _ _ few _ c.resolve-found.ensures
          c.if-found-n.false (omega (arith, few, c.requires.room)) (rw few c.requires.inside)
          (omega (arith, c.count_of-n.ensures.1)));
      rows = c.requires.rows;
      bytes = c.requires.bytes;
    }

pub returns : goal.returns
returns c =
    let few = counted (goal.at.returns c).After-count_of-n in
    let some : c.map.result ≡ at_once c.add_entry.result =
    once_mapped c.add_entry.result c.map.result _ (λ x y h. h) c.map.ensures.cases in (
      turn_takes _ _ _ _ _ _ _ _ few _ c.resolve-found.ensures c.if-found-n.false
          (omega (arith, few, c.requires.room)) {x = c.add_entry.result}
          (rw (
            ← c.type_entry-e.ensures,
            c.count_of-n.ensures.0,
            ← lent_name c.args.book.now c.type_entry-e.result.name refl refl,
          ) c.add_entry.ensures) some,
      c.requires.tries,
    )
