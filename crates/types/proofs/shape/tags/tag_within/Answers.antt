-- `types::tag_within` meets its contract: the bytes decide.
use Rattle.std.proofs.Common.{◌≡◌, ◌*◌, ◌<◌, arith}
use Rattle.types.specs.layout.Placing.{most_size}
use Rattle.types.proofs.shape.ShapeLaws.{within_fits, within_over}
use Rattle.types.proofs.shape.tags.tag_within.Goals as goal

pub returns-then-bytes-gt-MOST_SIZE : goal.returns-then-bytes-gt-MOST_SIZE
returns-then-bytes-gt-MOST_SIZE c =
    let a = c.args in
    let large : most_size < c.size_in.result * a.n =
    omega (arith, c.saturating_mul-bytes.ensures, c.if-bytes-gt-MOST_SIZE.true) in
    within_over _ a.ty a.lengths a.used a.n c.size_in.ensures large

pub returns : goal.returns
returns c =
    let a = c.args in
    let same : c.saturating_mul-bytes.result ≡ c.size_in.result * a.n =
    omega (arith, c.saturating_mul-bytes.ensures, c.if-bytes-gt-MOST_SIZE.false) in
    rw same (within_fits _ a.ty a.lengths a.used a.n c.size_in.ensures (rw same at c.if-bytes-gt-MOST_SIZE.false))
