-- `values::text_length` meets its contract (document 01, "Reading"): min(LEN as u32, capacity).
use native.Mathlib.Omega.{arith}
use Rattle.words.proofs.BitLaws.{first_word}
use Rattle.values.proofs.reading.texts.text_length.Goals as goal

pub returns : goal.returns
returns c =
    let len = first_word c.args.image.now (λ k. (c.type_inv.image k).fits) c.load.ensures in
    omega (arith, len, c.min.ensures)
