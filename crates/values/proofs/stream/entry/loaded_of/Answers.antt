-- `values::loaded_of` meets its contract: an arm for each kind.
use Rattle.std.proofs.Common.{refl, rules, arith}
use Rattle.std.proofs.lemmas.Grind.{common_steps}
use Rattle.values.specs.inside.stream.Entry.{loaded_of, low_in}
use Rattle.values.proofs.stream.EntryLaws.{kind_told, kind_above}
use Rattle.values.proofs.stream.entry.loaded_of.Goals as goal

pub returns-in-0 : goal.returns-in-0
unfolding loaded_of
returns-in-0 c = kind_told c.args.x c.in-0.is c.bare_in.ensures

pub returns-in-1 : goal.returns-in-1
unfolding loaded_of
returns-in-1 c = kind_told c.args.x c.in-1.is c.truth_in.ensures

pub returns-in-2 : goal.returns-in-2
unfolding loaded_of
returns-in-2 c = kind_told c.args.x c.in-2.is refl

pub returns-in-3 : goal.returns-in-3
unfolding loaded_of
returns-in-3 c = kind_told c.args.x c.in-3.is refl

pub returns-in-4 : goal.returns-in-4
unfolding loaded_of low_in
returns-in-4 c =
    kind_told c.args.x c.in-4.is (grind (arith, common_steps))

pub returns-in-5 : goal.returns-in-5
unfolding loaded_of
returns-in-5 c = kind_told c.args.x c.in-5.is refl

pub returns-in-6 : goal.returns-in-6
unfolding loaded_of
returns-in-6 c = kind_told c.args.x c.in-6.is refl

pub returns-in-7 : goal.returns-in-7
unfolding loaded_of low_in
returns-in-7 c =
    kind_told c.args.x c.in-7.is (grind (arith, common_steps))

pub returns-in-8 : goal.returns-in-8
unfolding loaded_of
returns-in-8 c = kind_told c.args.x c.in-8.is c.bare_in-in-8.ensures

pub returns-in-9 : goal.returns-in-9
unfolding loaded_of
returns-in-9 c = kind_told c.args.x c.in-9.is c.bare_in-in-9.ensures

pub returns-in-10 : goal.returns-in-10
unfolding loaded_of
returns-in-10 c = kind_told c.args.x c.in-10.is c.bare_in-in-10.ensures

pub returns-in-11 : goal.returns-in-11
unfolding loaded_of
returns-in-11 c = kind_told c.args.x c.in-11.is c.bare_in-in-11.ensures

pub returns-in_default : goal.returns-in_default
returns-in_default c = kind_above c.args.kind c.args.x (search rules)
