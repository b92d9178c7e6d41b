-- `types::member_end` meets its contract: nothing wraps in 64 bits.
use native.Mathlib.Omega.{arith}
use mathlib.Core.Path.{◌≡◌}
use Prim.Native.Nat.{◌+◌, ◌*◌, ◌≤◌}
use Rattle.words.proofs.ArithLaws.{product_most}
use Rattle.types.specs.layout.Placing.{times}
use Rattle.types.proofs.layout.LayoutLaws.{end_at, end_over}
use Rattle.types.proofs.layout.placing.member_end.Goals as goal
use Rattle.types.proofs.layout.placing.member_end.Goals.{After-elements}

product : (c : After-elements) → c.from-2.result * c.elements.result ≤ 0xFFFF_FFFE_0000_0001
product c = product_most (omega arith) c.elements.ensures.small

sum : (c : After-elements)
    → c.from.result + c.from-2.result * c.elements.result ≡ c.args.offset + c.args.size * times c.args.count
sum c = rw (c.from.ensures, c.from-2.ensures, c.elements.ensures.is)

pub overflow_mul-end : goal.overflow_mul-end
overflow_mul-end c = omega (arith, product (goal.at.overflow_mul-end c).After-elements)

pub overflow_add-end : goal.overflow_add-end
overflow_add-end c = omega (arith, product (goal.at.overflow_add-end c).After-elements)

pub returns-then-end-le-MOST_SIZE : goal.returns-then-end-le-MOST_SIZE
returns-then-end-le-MOST_SIZE c =
    let a = c.args in
    end_at a.offset a.size a.count (sum (goal.at.returns-then-end-le-MOST_SIZE c).After-elements)
    c.if-end-le-MOST_SIZE.true

pub returns-else-end-le-MOST_SIZE : goal.returns-else-end-le-MOST_SIZE
returns-else-end-le-MOST_SIZE c =
    let a = c.args in
    end_over a.offset a.size a.count (sum (goal.at.returns-else-end-le-MOST_SIZE c).After-elements)
    c.if-end-le-MOST_SIZE.false
