-- `types::add_entry` meets its contract: the name's rule, the names before it, and each way out of picking an id.
use Rattle.std.proofs.Common.{List, ◌≡◌, sym, ◌∙◌, rules}
use Rattle.std.proofs.lemmas.Result.{err_from_is_err_and}
use Rattle.types.specs.adding.Add.{add_entry, add_fresh}
use Rattle.types.specs.adding.Ids.{id_for, id_number}
use Rattle.types.specs.atomics.Lookup.{type_among}
use Rattle.types.specs.book.Contents.{has_id}
use Rattle.types.specs.inside.tables.Registry.{view_in}
use Rattle.types.specs.refusals.Said.{why_of}
use Rattle.types.specs.declared.layout.placing.Decl.{Decl}
use Rattle.types.proofs.adding.AddStoreLaws.{took_no, took_so}
use Rattle.types.proofs.adding.AddTypeLaws.{entry_bad, entry_known, entry_fresh, fresh_free, fresh_bad}
use Rattle.types.proofs.adding.FaultLaws.{mapped_ok, mapped_err}
use Rattle.types.proofs.book.NameLaws.{name_rule}
use Rattle.types.proofs.adding.add.add_entry.Goals as goal
use Rattle.types.proofs.adding.add.add_entry.Goals.{After-lookup, After-pick_id, Else-is_some}

-- what was looked up is the definition's
looked : (c : After-lookup)
    → c.lookup.result
    ≡ type_among (view_in c.args.tables.now.types c.args.tables.now.names c.args.w.used).names c.args.name.now
unfolding view_in
looked c = c.lookup.ensures

-- the id that was picked is the definition's
picked_id : (c : After-pick_id)
    → c.pick_id.result
    ≡ id_for (view_in c.args.tables.now.types c.args.tables.now.names c.args.w.used).ids (has_id c.args.w.entry)
    c.args.w.entry.id
unfolding view_in
picked_id c = c.pick_id.ensures ∙ rw c.has_id.ensures

-- a good name that is new: what is left is its id
is_new : (c : Else-is_some) (ds : List Decl)
    → add_entry (view_in c.args.tables.now.types c.args.tables.now.names c.args.w.used) c.args.book.now c.args.w.number
    c.args.w.at
    c.args.w.entry c.args.name.now ds
    ≡ add_fresh (view_in c.args.tables.now.types c.args.tables.now.names c.args.w.used) c.args.book.now c.args.w.number
    c.args.w.at
    c.args.w.entry c.args.name.now ds
is_new c ds =
    entry_fresh _ _ _ _ _ _ _ _ c.good_name.ensures c.if-not-good_name.false _
    (looked (goal.at.Else-is_some c).After-lookup) (sym c.is_some.ensures ∙ c.if-is_some.false)

pub returns-then-not-good_name : goal.returns-then-not-good_name
returns-then-not-good_name c = took_no (entry_bad _ _ _ _ _ _ _ _ c.good_name.ensures c.if-not-good_name.true)

pub returns-then-is_some : goal.returns-then-is_some
returns-then-is_some c =
    took_no (entry_known _ _ _ _ _ _ _ _ c.good_name.ensures c.if-not-good_name.false _
    (looked (goal.at.returns-then-is_some c).After-lookup) (sym c.is_some.ensures ∙ c.if-is_some.true))

pub returns-in_err-id : goal.returns-in_err-id
returns-in_err-id c =
    let s = goal.at.returns-in_err-id c in
    let p = err_from_is_err_and c.from_residual.result c.from_residual.ensures.1 in
    let m = mapped_err _ c.map_err.ensures.cases c.in_err-id.was in
    let made = m.2 in
    let w : why_of c.in_err-id.field-0.0 ≡ (id_number m.0, c.args.w.number) = search rules in
    rw (p.1, p.2)
    (took_no (is_new s.Else-is_some _ ∙ fresh_bad _ _ _ _ _ _ _ (picked_id s.After-pick_id) m.1 ∙ rw w))

pub add_named-requires : goal.add_named-requires
add_named-requires c =
    record {
      usable = c.requires.usable;
      declared = c.requires.declared;
      long = (name_rule c.args.name.now (sym c.good_name.ensures ∙ c.if-not-good_name.false)).most;
      rows = c.requires.rows;
      bytes = c.requires.bytes;
    }

pub returns : goal.returns
returns c =
    let s = goal.at.returns c in
    took_so
    (is_new s.Else-is_some _
    ∙ fresh_free _ _ _ _ _ _ _ (picked_id s.After-pick_id) (mapped_ok _ c.map_err.ensures.cases c.in_ok-id.was))
    c.add_named.ensures
