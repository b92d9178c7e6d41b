-- `types::build_with` meets its contract: 22, then 1, then the rounds.
use Rattle.std.proofs.Common.{sym, ◌∙◌, arith}
use Rattle.types.proofs.book.SoundLaws.{sound}
use Rattle.types.proofs.rounds.build.BuildLaws.{ended_ids, ended_book, ended_run}
use Rattle.types.proofs.rounds.build.build_with.Goals as goal

pub returns-then-not-ids_ok : goal.returns-then-not-ids_ok
returns-then-not-ids_ok c = ended_ids _ _ (sym c.ids_ok.ensures ∙ c.if-not-ids_ok.true) c.clear.ensures

pub returns-then-not-book_ok : goal.returns-then-not-book_ok
returns-then-not-book_ok c =
    ended_book _ _ (sym c.ids_ok.ensures ∙ c.if-not-ids_ok.false) (sym c.book_ok.ensures ∙ c.if-not-book_ok.true)
    c.clear.ensures

pub load-requires : goal.load-requires
load-requires c = omega (arith, (sound _ (sym c.book_ok.ensures ∙ c.if-not-book_ok.false)).room)

pub returns : goal.returns
returns c =
    ended_run _ _ (sym c.ids_ok.ensures ∙ c.if-not-ids_ok.false) (sym c.book_ok.ensures ∙ c.if-not-book_ok.false)
    c.run.ensures
