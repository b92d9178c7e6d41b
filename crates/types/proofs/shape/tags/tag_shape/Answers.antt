-- `types::tag_shape` meets its contract, at each way out.
use Rattle.std.proofs.Common.{◌≡◌, sym, ◌∙◌, true}
use Rattle.types.specs.shape.Tags.{lengths_ok}
use Rattle.types.specs.tables.There.{is_there}
use Rattle.types.proofs.shape.ShapeLaws.{there_fits, ok_none, not_there, lengths_wrong, bools, others}
use Rattle.types.proofs.shape.tags.tag_shape.Goals as goal
use Rattle.types.proofs.shape.tags.tag_shape.Goals.{Else-not-is_there, Else-not-lengths_ok}

there : (c : Else-not-is_there) → is_there c.args.types.now c.args.ty ≡ true
there c = sym c.is_there.ensures ∙ c.if-not-is_there.false

ok : (c : Else-not-lengths_ok) → lengths_ok c.args.ty c.args.lengths.now ≡ true
ok c = sym c.lengths_ok.ensures ∙ c.if-not-lengths_ok.false

pub returns-then-not-is_there : goal.returns-then-not-is_there
returns-then-not-is_there c =
    not_there c.args.types.now c.args.ty c.args.lengths.now (sym c.is_there.ensures ∙ c.if-not-is_there.true)

pub returns-then-not-lengths_ok : goal.returns-then-not-lengths_ok
returns-then-not-lengths_ok c =
    lengths_wrong c.args.types.now c.args.ty c.args.lengths.now
    (there (goal.at.returns-then-not-lengths_ok c).Else-not-is_there)
    (sym c.lengths_ok.ensures ∙ c.if-not-lengths_ok.true)

pub plain_shape-requires : goal.plain_shape-requires
plain_shape-requires c =
    let at = goal.at.plain_shape-requires c in
    record {
      ty = there_fits c.args.types.now c.args.ty (there at.Else-not-is_there);
      lengths = ok_none c.args.ty c.args.lengths.now (ok at.Else-not-lengths_ok);
    }

pub returns-then-bool_tag : goal.returns-then-bool_tag
returns-then-bool_tag c =
    let at = goal.at.returns-then-bool_tag c in
    c.bool_shape.ensures
    ∙ rw c.length_at.ensures
    (bools c.args.types.now c.args.ty c.args.lengths.now (there at.Else-not-is_there) (ok at.Else-not-lengths_ok)
    (sym c.bool_tag.ensures ∙ c.if-bool_tag.true))

pub returns-else-bool_tag : goal.returns-else-bool_tag
returns-else-bool_tag c =
    let at = goal.at.returns-else-bool_tag c in
    c.plain_shape.ensures
    ∙ others c.args.types.now c.args.ty c.args.lengths.now (there at.Else-not-is_there) (ok at.Else-not-lengths_ok)
    (sym c.bool_tag.ensures ∙ c.if-bool_tag.false)
