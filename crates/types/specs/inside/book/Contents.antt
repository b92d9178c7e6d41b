-- The sum of the types' member counts as the code adds it up (document 01, "Declaration book").
use Rattle.std.specs.Prelude.{ℕ, ◌+◌, ◌*◌, ◌<◌, List, ◌≡◌}
use Rattle.types.specs.book.Contents.{sum_counts}
use Rattle.types.specs.declared.book.contents.TypeEntry.{TypeEntry}

pub record CountsSum (n : ℕ) (es : List TypeEntry) (r : ℕ) : Type 0 where
  pub is : r ≡ sum_counts es
  pub small : r < 65536 * (n + 1)
