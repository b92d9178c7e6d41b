-- `types::none_zero` meets its contract: the test holds of all.
use Rattle.std.proofs.Common.{not, ◌∙◌, eqb, rules}
use Rattle.std.proofs.lemmas.Iterator.{YieldsList-from_slice}
use Rattle.std.proofs.lemmas.Iterator.Search.{all_from_yields_List}
use borrow.Author.Tests.{tests}
use Rattle.types.proofs.shape.ShapeLaws.{none_all}
use Rattle.types.proofs.shape.tags.none_zero.Goals as goal

pub returns : goal.returns
returns c =
    all_from_yields_List (λ n. not (eqb n 0)) _ _ _ c.all.ensures.ran (YieldsList-from_slice c.args.lengths.now cc)
    (λ x b q k. search (rules, tests))
    ∙ none_all _
