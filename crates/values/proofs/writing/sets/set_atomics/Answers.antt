-- `values::set_atomics` meets its contract: one bit string, one other atomic, an array.
use Prim.Native.Nat.{ℕ, ◌*◌}
use native.Mathlib.Omega.{arith}
use mathlib.Core.Path.{◌≡◌, sym, ap, ◌∙◌}
use Rattle.words.specs.Bits.{flat}
use Rattle.values.specs.inside.writing.Passes.{left_at}
use Rattle.values.specs.reading.Trees.{atomics_tree}
use Rattle.values.specs.writing.Writing.{write}
use Rattle.values.proofs.writing.ApplyLaws.{accepted_as, applied_as}
use Rattle.values.proofs.writing.RunInLaws.{one_is_leaf}
use Rattle.values.proofs.writing.sets.SetRunLaws.{one_of, room_one, room_some}
use Rattle.values.proofs.writing.sets.set_atomics.Goals as goal
use Rattle.values.proofs.writing.sets.set_atomics.Goals.{Else-is_bit_string, Else-count-ne0}

-- the count is 0
one : (c : Else-count-ne0)
    → let a = c.args in
    write (atomics_tree a.a a.count) (8 * a.base) (left_at a.s.now a.k) (flat a.image.now)
    ≡ write (atomics_tree a.a 0) (8 * a.base) (left_at a.s.now a.k) (flat a.image.now)
one c =
    let a = c.args in
    ap (λ (n : ℕ). write (atomics_tree a.a n) (8 * a.base) (left_at a.s.now a.k) (flat a.image.now))
    c.if-count-ne0.false

leaf : (c : Else-is_bit_string)
    → let a = c.args in
    write (atomics_tree a.a a.count) (8 * a.base) (left_at a.s.now a.k) (flat a.image.now)
    ≡ one_of a.a (8 * a.base) (left_at a.s.now a.k) (flat a.image.now)
leaf c =
    let a = c.args in
    ap (λ (n : ℕ). write (atomics_tree a.a n) (8 * a.base) (left_at a.s.now a.k) (flat a.image.now))
    c.if-count-ne0.false
    ∙ one_is_leaf _ _ _ _ (sym c.is_bit_string.ensures ∙ c.if-is_bit_string.false)

pub set_bits-requires : goal.set_bits-requires
set_bits-requires c =
    let a = c.args in record {
      formed = (c.requires.formed.0, room_one a.a a.count a.base c.requires.formed.1 c.if-count-ne0.false);
      bits = (
        sym c.is_bit_string.ensures ∙ c.if-is_bit_string.true,
        accepted_as (one (goal.at.set_bits-requires c).Else-count-ne0) c.requires.right,
      );
    }

pub returns-then-is_bit_string : goal.returns-then-is_bit_string
returns-then-is_bit_string c =
    applied_as (one (goal.at.returns-then-is_bit_string c).Else-count-ne0) c.set_bits.ensures

pub set_atomic-requires : goal.set_atomic-requires
set_atomic-requires c =
    let a = c.args in record {
      formed = (c.requires.formed.0, room_one a.a a.count a.base c.requires.formed.1 c.if-count-ne0.false);
      right = accepted_as (leaf (goal.at.set_atomic-requires c).Else-is_bit_string) c.requires.right;
    }

pub returns : goal.returns
returns c = applied_as (leaf (goal.at.returns c).Else-is_bit_string) c.set_atomic.ensures

pub set_array-requires : goal.set_array-requires
set_array-requires c =
    let a = c.args in record {
      formed = (c.requires.formed.0, room_some a.a a.count a.base c.requires.formed.1 c.if-count-ne0.true);
      some = (omega (arith, c.if-count-ne0.true), c.requires.right);
    }
