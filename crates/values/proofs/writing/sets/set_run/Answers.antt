-- `values::set_run` meets its contract: bools, or numbers.
use Prim.Native.Nat.{◌*◌}
use mathlib.Core.Path.{◌≡◌, sym, ◌∙◌}
use Rattle.words.specs.Bits.{flat}
use Rattle.types.specs.atomics.Atomic.{size_of}
use Rattle.values.specs.inside.writing.Passes.{left_at}
use Rattle.values.specs.inside.writing.Rows.{run_in}
use Rattle.values.specs.writing.Writing.{bools_in}
use Rattle.values.proofs.writing.ApplyLaws.{accepted_as, applied_as}
use Rattle.values.proofs.writing.RunInLaws.{run_bools, run_numbers, run_wholes}
use Rattle.values.proofs.writing.sets.SetRunLaws.{bools_asked, run_there}
use Rattle.values.proofs.writing.sets.set_run.Goals as goal
use Rattle.values.proofs.writing.sets.set_run.Goals.{Then-kind_of-eq-BOOL}
use Rattle.values.proofs.writing.sets.set_run.Goals.{else-is_bit_string-via-else-is_bit_string}
use Rattle.values.proofs.writing.sets.set_run.Goals.{else-is_bit_string-via-then-is_bit_string+else-kind_of-eq-BOOL}

-- bools
bools : (c : Then-kind_of-eq-BOOL)
    → let a = c.args in
    run_in a.a a.count (8 * a.base) (left_at a.s.now a.k) (flat a.image.now)
    ≡ bools_in (8 * (size_of a.a * a.count)) (8 * a.base) (left_at a.s.now a.k) (flat a.image.now)
bools c =
    run_bools _ _ _ _ _ (sym c.is_bit_string.ensures ∙ c.if-is_bit_string.true)
    (sym c.kind_of.ensures ∙ c.if-kind_of-eq-BOOL.true)

pub kind_of-requires : goal.kind_of-requires
kind_of-requires c =
    let a = c.args in (
      c.requires.formed.0,
      (run_there c.requires.formed.0 a.a a.count (8 * a.base) (flat a.image.now)
          (sym c.is_bit_string.ensures ∙ c.if-is_bit_string.true) c.requires.right).inside,
    )

pub set_bools-requires : goal.set_bools-requires
set_bools-requires c =
    bools_asked (size_of c.args.a * c.args.count) c.requires.formed.0 c.requires.formed.1
    (accepted_as (bools (goal.at.set_bools-requires c).Then-kind_of-eq-BOOL) c.requires.right)

pub returns-then-kind_of-eq-BOOL : goal.returns-then-kind_of-eq-BOOL
returns-then-kind_of-eq-BOOL c =
    let w = bools (goal.at.returns-then-kind_of-eq-BOOL c).Then-kind_of-eq-BOOL in
    applied_as w (c.set_bools.ensures _ (accepted_as w c.requires.right))

pub set_numbers-requires-clause-right : goal.set_numbers-requires-clause-right
set_numbers-requires-clause-right c =
    elim c.else-is_bit_string.branch [
      | else-is_bit_string-via-then-is_bit_string+else-kind_of-eq-BOOL w ↦ accepted_as
          (run_wholes c.args.a c.args.count (8 * c.args.base) (left_at c.args.s.now c.args.k) (flat c.args.image.now)
          (sym c.is_bit_string.ensures ∙ w.if-is_bit_string.true)
          (λ h. w.if-kind_of-eq-BOOL.false (w.kind_of.ensures ∙ h))) c.requires.right
      | else-is_bit_string-via-else-is_bit_string w ↦ accepted_as
          (run_numbers c.args.a c.args.count (8 * c.args.base) (left_at c.args.s.now c.args.k) (flat c.args.image.now)
          (sym c.is_bit_string.ensures ∙ w.if-is_bit_string.false)) c.requires.right
    ]

pub returns : goal.returns
returns c =
    elim c.else-is_bit_string.branch [
      | else-is_bit_string-via-then-is_bit_string+else-kind_of-eq-BOOL w ↦ applied_as
          (run_wholes c.args.a c.args.count (8 * c.args.base) (left_at c.args.s.now c.args.k) (flat c.args.image.now)
          (sym c.is_bit_string.ensures ∙ w.if-is_bit_string.true)
          (λ h. w.if-kind_of-eq-BOOL.false (w.kind_of.ensures ∙ h))) c.set_numbers.ensures
      | else-is_bit_string-via-else-is_bit_string w ↦ applied_as
          (run_numbers c.args.a c.args.count (8 * c.args.base) (left_at c.args.s.now c.args.k) (flat c.args.image.now)
          (sym c.is_bit_string.ensures ∙ w.if-is_bit_string.false)) c.set_numbers.ensures
    ]
