-- `values::normal_atomics` meets its contract (document 01, "Normal image"): BOOLs one after another, and any other
-- atomic as it is.
use Rattle.std.proofs.Common.{◌*◌, ◌≡◌, length, sym, ◌∙◌}
use Rattle.types.specs.declared.atomics.atomic.Atomic.TheVariants as atomic
use Rattle.words.specs.Bits.{flat}
use Rattle.values.proofs.normal_image.leaves.LeafMade.{atomics_kept, bools_made, bools_room}
use Rattle.values.proofs.normal_image.leaves.normal_atomics.Goals as goal
use Rattle.values.proofs.normal_image.leaves.normal_atomics.Goals.{Else-matches, Then-matches, in-Bool, in_default}

-- what the test says
is_bool : (c : Then-matches) → c.args.a ≡ atomic.Bool
is_bool c =
    elim c.match-matches.branch [
      | in-Bool w ↦ w.in-Bool.is
      | in_default w ↦ cc (w.matches-is, c.if-matches.true)
    ]

no_bool : (c : Else-matches) → c.args.a ≡ atomic.Bool → ⊥
no_bool c e =
    elim c.match-matches.branch [
      | in-Bool w ↦ cc (w.matches-is, c.if-matches.false)
      | in_default w ↦ w.in_default.not-Bool e
    ]

pub normal_bools-requires : goal.normal_bools-requires
normal_bools-requires c =
    let a = c.args in
    bools_room (is_bool (goal.at.normal_bools-requires c).Then-matches) a.n c.times_of.result a.base
    (length a.image.now) c.times_of.ensures c.requires

pub returns-then-matches : goal.returns-then-matches
returns-then-matches c =
    let a = c.args in
    c.normal_bools.ensures
    ∙ bools_made (is_bool (goal.at.returns-then-matches c).Then-matches) a.n c.times_of.result (8 * a.base)
    (flat a.image.now) c.times_of.ensures

pub returns-else-matches : goal.returns-else-matches
returns-else-matches c =
    let a = c.args in
    sym (atomics_kept a.a (no_bool (goal.at.returns-else-matches c).Else-matches) a.n (8 * a.base) (flat a.image.now))
