-- `values::next_place` meets its contract: the kinds that streams are full of, by the halves of the payload, and then
-- the others.
use Rattle.std.proofs.Common.{◌+◌, ◌*◌, ◌^◌, ◌<◌, ℕ, inl, inr, arith}
use borrow.Author.Tests.{eqb-true, ltb-true, ltb-false}
use Rattle.values.proofs.stream.FormLaws.{bool_broken, bool_fits, high_broken, kind_none, mark_broken, mark_fits}
use Rattle.values.proofs.stream.FormLaws.{member_fits, moved_if, signed_fits}
use Rattle.values.proofs.stream.form.next_place.Goals as goal
use Rattle.values.proofs.stream.form.next_place.Goals.{Start, then-high-eq0, else-high-eq0}
use Rattle.values.proofs.stream.form.next_place.Goals.{else-head-lt-NO_KIND-via-else-head-lt-NO_KIND}
use Rattle.values.proofs.stream.form.next_place.Goals.{else-head-lt-NO_KIND-via-then-head-lt-NO_KIND+else-high-eq0-2}
use Rattle.values.proofs.stream.form.next_place.Goals.{
  else-head-lt-NO_KIND-via-then-head-lt-NO_KIND+then-high-eq0-2+else-low-eq0,
}

-- the payload
abbrev payload : Start → ℕ
payload c = c.args.low + 2 ^ 32 * c.args.high

small : (c : Start) → payload c < 2 ^ 64
small c = omega (arith, c.ranges.low, c.ranges.high)

pub returns-then-head-eq-SIGNED : goal.returns-then-head-eq-SIGNED
returns-then-head-eq-SIGNED c =
    let a = c.args in
    let at = (goal.at.returns-then-head-eq-SIGNED c).Start in
    (signed_fits a.head (payload at) a.place (small at) c.if-head-eq-SIGNED.true, omega arith)

pub returns-then-head-eq-BOOL : goal.returns-then-head-eq-BOOL
returns-then-head-eq-BOOL c =
    let a = c.args in
    let at = (goal.at.returns-then-head-eq-BOOL c).Start in
    let e = c.if-head-eq-BOOL.true in
    elim c.if-high-eq0.branch [
      | then-high-eq0 w ↦ moved_if _ _ _ c.then_some.ensures w.then_some-is (omega arith)
          (λ t. bool_fits a.head (payload at) a.place (small at) e (omega (arith, w.if-high-eq0.true, ltb-true _ _ t)))
          (λ t. bool_broken a.head (payload at) a.place (small at) e (omega (arith, ltb-false _ _ t)))
      | else-high-eq0 w ↦ moved_if _ _ _ c.then_some.ensures w.then_some-is (omega arith)
          (λ t. absurd (w.if-high-eq0.false (eqb-true _ _ t)))
          (λ t. bool_broken a.head (payload at) a.place (small at) e (omega (arith, w.if-high-eq0.false)))
    ]

pub returns-then-low-eq0 : goal.returns-then-low-eq0
returns-then-low-eq0 c =
    let a = c.args in
    let at = (goal.at.returns-then-low-eq0 c).Start in
    let high = c.if-high-eq0-2.true in
    elim c.if-low-eq0.either [
      | inl e ↦ (member_fits a.head (payload at) a.place (small at) e (omega (arith, c.ranges.low)), omega arith)
      | inr h ↦ (
        mark_fits a.head (payload at) a.place (small at) (omega (arith, h.0)) c.if-head-lt-NO_KIND.true
            (omega (arith, h.1)),
        omega arith,
      )
    ]

pub returns-then-head-ge-MEMBER : goal.returns-then-head-ge-MEMBER
returns-then-head-ge-MEMBER c =
    let a = c.args in
    let at = (goal.at.returns-then-head-ge-MEMBER c).Start in
    let l = c.if-head-ge-MEMBER.true in
    elim c.else-head-lt-NO_KIND.branch [
      | else-head-lt-NO_KIND-via-then-head-lt-NO_KIND+then-high-eq0-2+else-low-eq0 w ↦
          let h = w.if-low-eq0.false in
          mark_broken a.head (payload at) a.place (small at) (omega (arith, h.0)) w.if-head-lt-NO_KIND.true
          (λ e. h.1 (omega (arith, e)))
      | else-head-lt-NO_KIND-via-then-head-lt-NO_KIND+else-high-eq0-2 w ↦
          high_broken a.head (payload at) a.place (small at) l w.if-head-lt-NO_KIND.true
          (omega (arith, w.if-high-eq0-2.false))
      | else-head-lt-NO_KIND-via-else-head-lt-NO_KIND w ↦
          kind_none a.head (payload at) a.place w.if-head-lt-NO_KIND.false
    ]
