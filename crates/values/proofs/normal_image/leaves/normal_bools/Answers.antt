-- `values::normal_bools` meets its contract (document 01, "Normal image"). The invariant: making all normal is making
-- what is left normal in what stands now.
use Rattle.std.proofs.Common.{arith, rules, ℕ, ◌+◌, ◌-◌, ◌<◌, ◌≤◌, ◌≡◌, sym, ◌∙◌}
use Rattle.std.proofs.Common.{List, ◌++◌, length, get_or, take, set}
use Rattle.std.proofs.lemmas.List.{places, set-append_left, set-append_right}
use borrow.Rule.Slice.PartMut.{mid_len, post_of, put_mid, put_same}
use lib.Seq.{length-take-le}
use Rattle.values.proofs.normal_image.leaves.LeafMade.{bools_on, bools_done, bools_start}
use Rattle.values.proofs.normal_image.leaves.normal_bools.Goals as goal

-- a byte of the part is one of the image
part_set : (a w i v : ℕ) (xs ys : List ℕ) → a ≤ length xs → i < length ys
    → put_mid a w xs (set ys i v) ≡ set (put_mid a w xs ys) (a + i) v
part_set a w i v xs ys h l =
    let e : a + i - a ≡ i = omega arith in
    sym (set-append_right (take a xs) (ys ++ post_of a w xs) a (a + i) v (length-take-le a xs h) (omega arith)
    ∙ rw (e, set-append_left ys (post_of a w xs) i v l))

part_get : (a w i : ℕ) (xs ys : List ℕ) → a ≤ length xs → i < length ys
    → get_or ys i 0 ≡ get_or (put_mid a w xs ys) (a + i) 0
part_get a w i xs ys h l = search (rules, places)

pub loop-x-init : goal.loop-x-init
loop-x-init c =
    let a = c.args in
    rw (put_same a.base (a.base + a.n - a.base) a.image.now) (bools_start a.image.now a.base a.n)

pub loop-x-preserved : goal.loop-x-preserved
loop-x-preserved c =
    let a = c.args in
    let v = c.loop-x in
    let start : a.base ≤ length a.image.now = omega arith in
    let part : v.x-index < a.n = omega (arith, mid_len a.base (a.base + a.n) a.image.now c.requires) in
    let long : v.x-index < length v.x-items = omega arith in
    rw (part_set a.base (a.base + a.n - a.base) v.x-index c.truth_byte.result a.image.now v.x-items start long)
    (bools_on v.invariant part c.requires
    (part_get a.base (a.base + a.n - a.base) v.x-index a.image.now v.x-items start long) (search rules)
    c.truth_byte.ensures)

pub returns : goal.returns
returns c =
    let a = c.args in
    bools_done c.loop-x.invariant (omega (arith, mid_len a.base (a.base + a.n) a.image.now c.requires))
