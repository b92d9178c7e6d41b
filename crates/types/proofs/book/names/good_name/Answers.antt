-- `types::good_name` meets its contract: each byte is tested, where there are 1 to 40.
use Rattle.std.proofs.Common.{◌≡◌, ◌≤◌, ◌∙◌, length, true, rules}
use Rattle.std.specs.Prelude.{◌↔◌, IsTrue, EachIndex, slice_index}
use Rattle.types.specs.book.Names.{name_byte}
use Rattle.types.proofs.book.NameLaws.{bytes_tested, good_within}
use Rattle.types.proofs.book.names.good_name.Goals as goal

pub returns-then-contains : goal.returns-then-contains
returns-then-contains c =
    let s = c.args.s.now in
    let each : IsTrue c.all.result ↔ EachIndex s (λ k. name_byte (slice_index s k) ≡ true) = search rules in
    let some : 1 ≤ length s = search rules in
    let few : length s ≤ 40 = search rules in
    bytes_tested s c.all.result each.0 each.1 ∙ good_within s some few
