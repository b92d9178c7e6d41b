-- `types::put_bits` meets its contract. The invariant is `PuttingBits`, with the names that are left.
use Rattle.std.proofs.Common.{◌*◌, ◌/◌, ◌≤◌, ◌-◌, ◌≡◌, ◌∙◌, ◌++◌, sym, length, drop, length-drop, arith}
use Rattle.types.proofs.layout.fixed.FixedLaws.{bits_rows, bits_names, bits_on, next_inside, next_name, next_rest}
use Rattle.types.proofs.layout.fixed.put_bits.Goals as goal

pub loop-i-preserved : goal.loop-i-preserved
loop-i-preserved c =
    let i = c.loop-i.i-iterator.count in
    let name = c.in-Some.name.now in
    let kept = c.loop-i.invariant in
    let step = c.in-Some.ensures.steps in
    let size = kept.2 in
    let left : drop (2 * i) c.args.bits.now ≡ name ++ c.next.new.self.iter.rest.now = sym kept.1 ∙ step.0.1.0 in
    let two : length name ≡ 2 = step.0.1.1 ∙ size in
    let inside = next_inside c.args.bits.now name _ i left two in
    let is = next_name c.args.bits.now name _ i left two in
    let on = bits_on kept.0 (omega arith) inside
    (rw (← is, ← step.1, ← c.status_at.ensures) c.put_part.ensures.rows)
    (rw (← is, ← step.1, ← c.status_at.ensures) c.put_part.ensures.names) in
    rw step.2 (on, next_rest c.args.bits.now name _ i left two, step.0.0 ∙ size)

pub returns : goal.returns
returns c =
    let few = c.in-None.ensures.steps.0.1.0 in
    let kept = c.loop-i.invariant in
    let left : length c.loop-i.i-iterator.iter.rest.now ≡ length c.args.bits.now - 2 * c.loop-i.i-iterator.count =
    rw kept.1 (length-drop _ _) in
    let all : length c.args.bits.now / 2 ≤ c.loop-i.i-iterator.count = omega (arith, left, few, kept.2) in
    record { rows = bits_rows kept.0 all; names = bits_names kept.0 all }
