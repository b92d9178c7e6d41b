-- `values::set_numbers` meets its contract, by what is left of the elements.
use Prim.Native.Nat.{◌+◌, ◌^◌, ◌<◌, ◌≤◌}
use native.Mathlib.Omega.{arith}
use mathlib.Core.Path.{sym, ◌∙◌, subst}
use Rattle.values.specs.inside.writing.Rows.{Width}
use Rattle.values.specs.stream.Form.{count_in}
use Rattle.values.proofs.stream.LeftLaws.{few_entries}
use Rattle.values.proofs.writing.sets.SetLaws.{width_of}
use Rattle.values.proofs.writing.sets.SetRunLaws.{NumbersAsked, numbers_closed, numbers_end}
use Rattle.values.proofs.writing.sets.SetRunLaws.{numbers_null, numbers_put, numbers_room}
use Rattle.values.proofs.writing.sets.SetRunLaws.{numbers_start, numbers_there}
use Rattle.values.proofs.writing.sets.set_numbers.Goals as goal
use Rattle.values.proofs.writing.sets.set_numbers.Goals.{At-loop-e, then-kind-ne-NULL, else-kind-ne-NULL}

-- what the loop counts on
asked : (c : At-loop-e)
    → let a = c.args in
    NumbersAsked a.a a.count a.s.now a.k a.image.now a.base c.size-size.result
asked c =
    record {
      long = c.size-size.ensures;
      form = c.requires.formed.0;
      room = c.requires.formed.1;
      taken = c.requires.right;
    }

pub loop-e-init : goal.loop-e-init
loop-e-init c = numbers_start

-- the entry at hand is one of the stream's
below : (c : At-loop-e) → (c.args.k + c.loop-e.e < count_in c.args.s.now) × (count_in c.args.s.now < 2 ^ 28)
below c = ((numbers_there c.loop-e.invariant (asked c)).inside, few_entries _ c.requires.formed.0)

pub overflow_add-p : goal.overflow_add-p
overflow_add-p c = omega (arith, below (goal.at.overflow_add-p c).At-loop-e)

pub kind_of-kind-requires : goal.kind_of-kind-requires
kind_of-kind-requires c = (c.requires.formed.0, (below (goal.at.kind_of-kind-requires c).At-loop-e).0)

pub overflow_add-result : goal.overflow_add-result
overflow_add-result c = omega (arith, below (goal.at.overflow_add-result c).At-loop-e)

pub returns-then-kind-eq-ARRAY_CLOSE : goal.returns-then-kind-eq-ARRAY_CLOSE
returns-then-kind-eq-ARRAY_CLOSE c =
    numbers_closed c.loop-e.invariant (asked (goal.at.returns-then-kind-eq-ARRAY_CLOSE c).At-loop-e)
    (sym c.kind_of-kind.ensures ∙ c.if-kind-eq-ARRAY_CLOSE.true)

pub overflow_mul-size : goal.overflow_mul-size
overflow_mul-size c =
    let w = asked (goal.at.overflow_mul-size c).At-loop-e in
    omega (arith, numbers_room c.loop-e.invariant w c.loop-e-test.true)

pub overflow_add-base : goal.overflow_add-base
overflow_add-base c =
    let w = asked (goal.at.overflow_add-base c).At-loop-e in
    omega (arith, numbers_room c.loop-e.invariant w c.loop-e-test.true)

pub payload_of-requires : goal.payload_of-requires
payload_of-requires c = (c.requires.formed.0, (below (goal.at.payload_of-requires c).At-loop-e).0)

pub put_low-requires : goal.put_low-requires
put_low-requires c =
    let w = asked (goal.at.put_low-requires c).At-loop-e in (
      numbers_room c.loop-e.invariant w c.loop-e-test.true,
      subst Width (sym c.size-size.ensures) (width_of c.args.a),
    )

pub loop-e-preserved : goal.loop-e-preserved
loop-e-preserved c =
    elim c.if-kind-ne-NULL.branch [
      | then-kind-ne-NULL w ↦ rw w.image-is
          (numbers_put c.loop-e.invariant c.loop-e-test.true
          (λ h. c.if-kind-eq-ARRAY_CLOSE.false (c.kind_of-kind.ensures ∙ h))
          (λ h. w.if-kind-ne-NULL.true (c.kind_of-kind.ensures ∙ h)) w.payload_of.ensures w.put_low.ensures)
      | else-kind-ne-NULL w ↦ rw w.image-is
          (numbers_null c.loop-e.invariant c.loop-e-test.true
          (sym c.kind_of-kind.ensures ∙ w.if-kind-ne-NULL.false))
    ]

-- past the last place the entry is the close
ended : (c : At-loop-e) → c.args.count ≤ c.loop-e.e → c.args.k + c.args.count + 1 < 2 ^ 64
ended c l = omega (arith, below c)

pub overflow_add-result-2 : goal.overflow_add-result-2
overflow_add-result-2 c =
    omega (arith, ended (goal.at.overflow_add-result-2 c).At-loop-e (omega (arith, c.loop-e-test.false)))

pub overflow_add-result-3 : goal.overflow_add-result-3
overflow_add-result-3 c =
    omega (arith, ended (goal.at.overflow_add-result-3 c).At-loop-e (omega (arith, c.loop-e-test.false)))

pub returns : goal.returns
returns c =
    numbers_end c.loop-e.invariant (asked (goal.at.returns c).At-loop-e) (omega arith)
