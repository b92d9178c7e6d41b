-- `values::nested_in` meets its contract: a row that holds a structure holds no atomic.
use Rattle.std.proofs.Common.{sym, ap, ◌∙◌}
use Rattle.types.specs.declared.tables.member.Member.{Member}
use Rattle.values.proofs.reading.MemberLaws.{never_atomic}
use Rattle.values.proofs.reading.rows.nested_in.Goals as goal

pub unreachable-requires : goal.unreachable-requires
unreachable-requires c =
    never_atomic _ c.requires.1 (ap (λ (m : Member). m.ty) (sym c.member_row-m.ensures) ∙ c.in_default.is)
