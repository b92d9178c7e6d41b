-- `values::normal_text` meets its contract (document 01, "Normal image"): LEN, and zeros after the text.
use Rattle.std.proofs.Common.{ℕ, ◌+◌, ◌-◌, ◌*◌, ◌/◌, arith, min, refl, rules, ap, ◌∙◌}
use Rattle.values.proofs.normal_image.FilledLaws.{zeros_filled}
use Rattle.values.proofs.normal_image.leaves.LeafMade.{text_made}
use Rattle.values.proofs.normal_image.leaves.normal_text.Goals as goal

pub returns : goal.returns
returns c =
    let a = c.args in
    let n = c.min-n.result in
    let room : ℕ = 4 * ((a.capacity + 3) / 4) in
    text_made a.capacity a.base n n room a.image.now (search rules) c.requires
    (c.min-n.ensures ∙ ap (λ v. min v a.capacity) c.load.ensures) refl refl c.store.ensures
    (zeros_filled c.store.new.s (a.base + 4 + n) (a.base + 4 + room) (room - n) (omega arith)
    (omega (arith, c.store.auto.s)) (c.fill.ensures.after (λ y h. h)))
