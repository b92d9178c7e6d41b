-- `types::put_predefined` meets its contract: after each call the tables stand for one type more.
use Rattle.std.proofs.Common.{arith}
use Rattle.types.specs.inside.tables.Registry.{Stands}
use Rattle.types.specs.layout.Predefined.{with_timer, with_counter, with_control}
use Rattle.types.proofs.layout.PredefinedIds.{ids_allowed}
use Rattle.types.proofs.layout.PredefinedLaws.{ready_for, none_built, timer_built, counter_built, control_built}
use Rattle.types.proofs.layout.PredefinedLaws.{none_stands, timer_stands, counter_stands, control_stands}
use Rattle.types.proofs.layout.PredefinedLaws.{string_stands, timer_ready, counter_ready, control_ready}
use Rattle.types.proofs.layout.predefined.put_predefined.Goals as goal
use Rattle.types.proofs.layout.predefined.put_predefined.Goals.{After-put_control_def-one}
use Rattle.types.proofs.layout.predefined.put_predefined.Goals.{After-put_control_def-two}
use Rattle.types.proofs.layout.predefined.put_predefined.Goals.{After-put_control_def-three}

-- what stands after each call
one : (c : After-put_control_def-one)
    → let f = c.put_control_def-one in
    Stands (with_timer c.args.ids) f.new.tables.types f.new.tables.members f.new.tables.names f.result
one c =
    let p = c.requires.zeroed in
    timer_stands _ (none_stands p.0 p.1.0 p.1.1) c.put_control_def-one.ensures

two : (c : After-put_control_def-two)
    → let f = c.put_control_def-two in
    Stands (with_counter c.args.ids) f.new.tables.types f.new.tables.members f.new.tables.names f.result
two c =
    let p = c.requires.zeroed in
    counter_stands _ (ids_allowed _ c.requires.apart)
    (timer_stands _ (none_stands p.0 p.1.0 p.1.1) c.put_control_def-one.ensures) c.put_control_def-two.ensures

three : (c : After-put_control_def-three)
    → let f = c.put_control_def-three in
    Stands (with_control c.args.ids) f.new.tables.types f.new.tables.members f.new.tables.names f.result
three c =
    let p = c.requires.zeroed in
    let good = ids_allowed _ c.requires.apart in
    control_stands _ good
    (counter_stands _ good (timer_stands _ (none_stands p.0 p.1.0 p.1.1) c.put_control_def-one.ensures)
    c.put_control_def-two.ensures)
    c.put_control_def-three.ensures

pub put_control_def-one-requires : goal.put_control_def-one-requires
put_control_def-one-requires c =
    let p = c.requires.zeroed in
    timer_ready (ready_for none_built (none_stands p.0 p.1.0 p.1.1) (omega arith) (omega arith) (omega arith))

pub put_control_def-two-requires : goal.put_control_def-two-requires
put_control_def-two-requires c =
    counter_ready
    (ready_for (timer_built _ (ids_allowed _ c.requires.apart))
    (one (goal.at.put_control_def-two-requires c).After-put_control_def-one)
    (omega arith) (omega arith) (omega arith))

pub put_control_def-three-requires : goal.put_control_def-three-requires
put_control_def-three-requires c =
    control_ready
    (ready_for (counter_built _ (ids_allowed _ c.requires.apart))
    (two (goal.at.put_control_def-three-requires c).After-put_control_def-two)
    (omega arith) (omega arith) (omega arith))

pub store_string-requires : goal.store_string-requires
store_string-requires c = (
  ready_for (control_built _ (ids_allowed _ c.requires.apart))
      (three (goal.at.store_string-requires c).After-put_control_def-three)
      (omega arith) (omega arith) (omega arith),
  omega arith,
)

pub returns : goal.returns
returns c =
    string_stands _ (ids_allowed _ c.requires.apart)
    (three (goal.at.returns c).After-put_control_def-three) c.store_string.ensures
