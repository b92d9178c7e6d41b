-- `types::lookup` meets its contract: an atomic, else the first structure.
use Rattle.std.proofs.Common.{sym, ◌∙◌}
use Rattle.std.proofs.Math.Nat.{sub-zero}
use Rattle.types.specs.atomics.Lookup.{type_among}
use Rattle.types.proofs.atomics.AtomicLaws.{named_is}
use Rattle.types.proofs.atomics.lookup.lookup.Goals as goal

pub returns-in-Some : goal.returns-in-Some
unfolding type_among
returns-in-Some c = rw (sym (named_is c.args.name.now c.from_name.ensures) ∙ c.in-Some.is)

pub returns-in-None : goal.returns-in-None
unfolding type_among
returns-in-None c =
    (rw sub-zero at c.find_type.ensures)
    ∙ rw (sym (named_is c.args.name.now c.from_name.ensures) ∙ c.in-None.is)
