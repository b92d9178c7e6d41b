-- `values::times_of` meets its contract.
use Rattle.std.proofs.Common.{ℕ, zero, suc, max, ◌≡◌, refl, ◌∙◌, arith}
use Rattle.types.specs.layout.Placing.{times}
use Rattle.types.proofs.Face.{times_one, times_same}
use Rattle.values.proofs.reading.rows.times_of.Goals as goal

at_least_one : (n : ℕ) → max n 1 ≡ times n
at_least_one zero = omega (arith, times_one 0 refl)
at_least_one (suc k) = omega (arith, times_same (suc k) (λ e. omega arith))

pub returns : goal.returns
returns c = c.max.ensures ∙ at_least_one c.args.n
