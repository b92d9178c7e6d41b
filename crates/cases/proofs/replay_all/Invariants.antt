-- The cases of `cases::replay_all` keep the tables, and no more differ than there were.
use Rattle.std.proofs.Common.{◌≡◌, ◌≤◌, length}
use Rattle.types.specs.tables.Kept.{KeptTables}
use Rattle.cases.proofs.replay_all.Given as goal

abbrev pub invariant-loop-number : goal.invariant-loop-number
invariant-loop-number l = record {
  kept : KeptTables l.tables;
  differ : l.different ≤ l.number;
  question : length l.question ≡ length l.initial.question;
  expected : length l.expected ≡ length l.initial.expected;
  out : length l.out ≡ length l.initial.out;
}
