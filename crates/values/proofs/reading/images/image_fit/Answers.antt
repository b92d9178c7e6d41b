-- `values::image_fit` meets its contract: 15 where the type is not there, then 14 where the length is not its value's.
use Prim.Native.Nat.{ℕ, ◌*◌}
use mathlib.Core.Path.{◌≡◌, sym, ap₂, ◌∙◌}
use mathlib.Core.Bool.{true}
use lib.Dec.{eqb}
use Rattle.types.specs.layout.Placing.{times}
use Rattle.types.specs.tables.Sizes.{size_in, sizes_in}
use Rattle.types.specs.tables.There.{is_there}
use Rattle.types.proofs.Face.{there_fits}
use Rattle.values.proofs.reading.ImageLaws.{fit_absent, fit_done, fit_wrong}
use Rattle.values.proofs.reading.images.image_fit.Goals as goal
use Rattle.values.proofs.reading.images.image_fit.Goals.{After-is_product, Else-not-is_there}

-- the type is there
there : (c : Else-not-is_there) → is_there c.args.types.now c.args.ty ≡ true
there c = sym c.is_there.ensures ∙ c.if-not-is_there.false

-- the product's test is the length's
product : (c : After-is_product)
    → let a = c.args in
    c.is_product.result ≡ eqb a.long (size_in (sizes_in a.types.now) a.ty * times a.count)
product c =
    let a = c.args in
    c.is_product.ensures
    ∙ ap₂ (λ (s n : ℕ). eqb a.long (s * n)) c.size_of_ty.ensures
    c.times_of-n.ensures

pub returns-then-not-is_there : goal.returns-then-not-is_there
returns-then-not-is_there c =
    let a = c.args in
    fit_absent a.types.now a.ty a.count a.long
    (sym c.is_there.ensures ∙ c.if-not-is_there.true)

pub size_of_ty-requires : goal.size_of_ty-requires
size_of_ty-requires c =
    let a = c.args in
    there_fits a.types.now a.ty (there (goal.at.size_of_ty-requires c).Else-not-is_there)

pub returns-then-not-is_product : goal.returns-then-not-is_product
returns-then-not-is_product c =
    let a = c.args in
    fit_wrong a.types.now a.ty a.count a.long (there (goal.at.returns-then-not-is_product c).Else-not-is_there)
    (sym (product (goal.at.returns-then-not-is_product c).After-is_product) ∙ c.if-not-is_product.true)

pub returns : goal.returns
returns c =
    let a = c.args in
    fit_done a.types.now a.ty a.count a.long (there (goal.at.returns c).Else-not-is_there)
    (sym (product (goal.at.returns c).After-is_product) ∙ c.if-not-is_product.false)
