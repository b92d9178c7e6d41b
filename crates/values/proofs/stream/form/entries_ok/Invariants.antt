-- `values::entries_ok` meets its contract, by what is left of the entries.
use Rattle.values.proofs.stream.FormLaws.{EntriesLeft}
use Rattle.values.proofs.stream.form.entries_ok.Given as goal

abbrev pub invariant-loop-k : goal.invariant-loop-k
invariant-loop-k l = EntriesLeft l.s l.base l.n l.place l.k
