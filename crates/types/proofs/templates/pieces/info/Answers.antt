-- `types::info` meets its contract: three stores are the info.
use Rattle.std.proofs.Common.{ℕ, ◌%◌, ap, ◌∙◌}
use Rattle.types.specs.tables.TypeWord.{ids_in}
use Rattle.types.specs.templates.Template.{info_bytes}
use Rattle.types.proofs.templates.TemplateLaws.{info_bytes_lem}
use Rattle.types.proofs.templates.pieces.info.Goals as goal

pub returns : goal.returns
returns c =
    let m = c.member_row-m in
    let ids = ids_in c.args.tables.now.types in
    rw (c.store-3.ensures, c.store-2.ensures, c.store.ensures)
    (info_bytes_lem ids m.result c.info_of.ensures (ap (λ (x : ℕ). x % 65536) c.type_in-word.ensures)
    ∙ ap (info_bytes ids) m.ensures)
