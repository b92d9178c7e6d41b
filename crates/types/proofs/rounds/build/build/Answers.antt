-- `types::build` meets its contract: a scratch of 65,536 is enough for any book.
use Rattle.types.proofs.rounds.build.ScratchLaws.{few_all}
use Rattle.types.proofs.rounds.build.build.Goals as goal

pub build_sized-requires-else-is_small-clause-few : goal.build_sized-requires-else-is_small-clause-few
build_sized-requires-else-is_small-clause-few c = few_all (λ k. (c.type_inv.book k).fits)
