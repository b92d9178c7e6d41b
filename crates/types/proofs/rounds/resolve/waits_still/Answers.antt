-- `types::waits_still` meets its contract: the name is none of the rows from `from` on, and none of those before.
use Rattle.std.proofs.Common.{◌≡◌, ◌-◌, refl, sym, ◌∙◌, None, arith}
use Rattle.types.specs.atomics.Lookup.{row_name, named_among}
use Rattle.types.specs.book.Contents.{list_from}
use Rattle.types.specs.rounds.Resolve.{type_name}
use Rattle.types.proofs.rounds.SearchLaws.{unseen_none}
use Rattle.types.proofs.rounds.resolve.waits_still.Goals as goal
use Rattle.types.proofs.tables.DefLaws.{lent_name}

pub returns : goal.returns
returns c q =
    let a = c.args in
    let looked : c.find_type.result
    ≡ named_among (list_from (row_name a.tables.now.types a.tables.now.names) a.from (a.n - a.from))
    (type_name a.book.now a.at a.k) a.from =
    c.find_type.ensures ∙ rw (lent_name a.book.now c.entry_at.result.ty refl refl, c.entry_at.ensures) in
    let none : c.find_type.result ≡ None = grind arith in
    record {
      past = c.if-from-eq0.false;
      missing = unseen_none (row_name a.tables.now.types a.tables.now.names) (type_name a.book.now a.at a.k) a.from a.n
          (c.requires.unseen c.if-from-eq0.false) (sym looked ∙ none);
    }
