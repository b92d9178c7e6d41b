-- `values::put_low` meets its contract: a store for each width.
use native.Mathlib.Omega.{arith}
use mathlib.Core.Path.{◌≡◌, refl}
use Rattle.words.proofs.WordLaws.{low_stored, all_stored}
use Rattle.values.proofs.writing.sets.SetLaws.{eight_left}
use Rattle.values.proofs.writing.sets.put_low.Goals as goal
use Rattle.values.proofs.writing.sets.put_low.Goals.{In_default}

-- no other width is left
eight : (c : In_default) → c.args.size ≡ 8
eight c = eight_left c.args.size c.requires.1 (omega arith) (omega arith) (omega arith)

pub store-requires-in_default : goal.store-requires-in_default
store-requires-in_default c = omega (arith, eight (goal.at.store-requires-in_default c).In_default, c.requires.0)

pub returns-in-4 : goal.returns-in-4
returns-in-4 c =
    let a = c.args in
    low_stored a.image.now a.at a.size a.x 4 (omega arith) c.low32.ensures c.store.ensures

pub returns-in-2 : goal.returns-in-2
returns-in-2 c =
    let a = c.args in
    low_stored a.image.now a.at a.size a.x 2 (omega arith) refl c.store-in-2.ensures

pub returns-in-1 : goal.returns-in-1
returns-in-1 c =
    let a = c.args in
    low_stored a.image.now a.at a.size a.x 1 (omega arith) refl c.store-in-1.ensures

pub returns-in_default : goal.returns-in_default
returns-in_default c =
    let a = c.args in
    all_stored a.image.now a.at a.size a.x 8 (eight (goal.at.returns-in_default c).In_default)
    c.store-in_default.ensures
