-- The turns of `answers::serve` keep the tables.
use Rattle.std.proofs.Common.{◌≡◌, length}
use Rattle.types.specs.tables.Kept.{KeptTables}
use Rattle.answers.proofs.serve.Given as goal

abbrev pub invariant-loop : goal.invariant-loop
invariant-loop l = record {
  kept : KeptTables l.tables;
  question : length l.question ≡ length l.initial.question;
  out : length l.out ≡ length l.initial.out;
}
