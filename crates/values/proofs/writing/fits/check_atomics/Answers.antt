-- `values::fits::check_atomics` meets its contract: one atomic where the count is 0, else an array (document 01,
-- "Writing").
use mathlib.Core.Path.{◌∙◌, sym}
use Rattle.values.proofs.writing.fits.FitLeafLaws.{one_of}
use Rattle.values.proofs.writing.fits.check_atomics.Goals as goal

pub returns : goal.returns
returns c p =
    rw c.if-count-ne0.false
    (one_of c.args.a (sym c.is_bit_string.ensures ∙ c.if-is_bit_string.false) c.check_atomic.ensures p)
