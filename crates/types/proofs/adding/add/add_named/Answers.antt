-- `types::add_named` meets its contract: a string, or a type of members.
use Rattle.std.proofs.Common.{sym, ◌∙◌}
use Rattle.types.proofs.adding.AddStoreLaws.{took_no, took_so}
use Rattle.types.proofs.adding.AddTypeLaws.{string_most, named_string, named_wrong, named_members}
use Rattle.types.proofs.adding.add.add_named.Goals as goal

pub returns-then-not-is_string : goal.returns-then-not-is_string
returns-then-not-is_string c =
    rw (
      named_members _ _ _ _ _ _ _ _ _ c.is_string.ensures c.if-not-is_string.true,
      ← c.count_of.ensures.0,
      ← c.is_aoi.ensures,
    )
    c.add_members.ensures

pub returns-then-not-string_ok : goal.returns-then-not-string_ok
returns-then-not-string_ok c =
    took_no (named_wrong _ _ _ _ _ _ _ _ _ c.is_string.ensures c.if-not-is_string.false _
    c.string_ok.ensures c.if-not-string_ok.true)

pub add_string-requires-clause-capacity_bound : goal.add_string-requires-clause-capacity_bound
add_string-requires-clause-capacity_bound c =
    string_most c.args.w.entry (sym c.string_ok.ensures ∙ c.if-not-string_ok.false)

pub returns : goal.returns
returns c =
    took_so (named_string _ _ _ _ _ _ _ _ _ c.is_string.ensures c.if-not-is_string.false _
    c.string_ok.ensures c.if-not-string_ok.false) c.add_string.ensures
