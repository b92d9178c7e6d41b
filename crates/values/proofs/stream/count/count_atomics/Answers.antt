-- `values::count_atomics` meets its contract (document 01, "Value stream"): more elements than `most` are more entries.
use native.Mathlib.Omega.{arith}
use Rattle.values.proofs.stream.CountLaws.{plain_counted}
use Rattle.values.proofs.stream.CountLeaves.{atomics_over}
use Rattle.values.proofs.stream.count.count_atomics.Goals as goal

pub returns-then-most-n : goal.returns-then-most-n
returns-then-most-n c = λ b. atomics_over c.args.a c.args.n c.if-most-n.true

pub returns : goal.returns
returns c = λ b. plain_counted c.atomic_entries.ensures (omega arith)
