-- `types::type_line` meets its contract: the word, the name and the numbers of the structure that was read.
use Rattle.std.proofs.Common.{◌≡◌, List, ℕ, length}
use borrow.Author.Rules.{rules}
use Rattle.types.specs.inside.listing.Lines.{Listable}
use Rattle.types.specs.listing.Lines.{line}
use Rattle.types.specs.tables.Limits.{most_names}
use Rattle.types.proofs.listing.lines.ListingLaws.{FieldsLeft, left_room, left_on, type_fields, type_left}
use Rattle.types.proofs.listing.lines.ListingLaws.{type_lined, listed}
use Rattle.types.proofs.listing.lines.type_line.Goals as goal
use Rattle.types.proofs.listing.lines.type_line.Goals.{After-lost_bits-bits}

-- the fields as the code has them
abbrev fields : After-lost_bits-bits → List (List ℕ)
fields c =
    type_fields c.args.tables.now.names c.type_row-d.result c.template_bytes-bytes.result c.lost_bits-bits.result

known : (c : After-lost_bits-bits) → Listable c.args.tables.now.types c.args.tables.now.members c.type_row-d.result
known c = listed c.type_row-d.ensures c.requires.1.0

all : (c : After-lost_bits-bits) → FieldsLeft (line (fields c)) 0 c.args.out.now (fields c) 0 c.args.out.now
all c = type_left c.args.tables.now.names c.type_row-d.result _ _ (known c).name c.requires.1.1

pub put_name-k2-requires : goal.put_name-k2-requires
put_name-k2-requires c =
    let w = (goal.at.put_name-k2-requires c).After-lost_bits-bits in
    let long : length c.args.tables.now.names ≡ most_names = search rules in
    (rw long (known w).name.inside, left_room (left_on (all w) c.put_field-k1.ensures))

pub put_numbers-requires : goal.put_numbers-requires
put_numbers-requires c =
    let w = (goal.at.put_numbers-requires c).After-lost_bits-bits in
    (left_on (left_on (all w) c.put_field-k1.ensures) c.put_name-k2.ensures).fits

pub returns : goal.returns
returns c =
    let w = (goal.at.returns c).After-lost_bits-bits in
    let l2 = left_on (left_on (all w) c.put_field-k1.ensures) c.put_name-k2.ensures in
    rw (← c.type_row-d.ensures, ← c.template_bytes-bytes.ensures, ← c.lost_bits-bits.ensures c.args.tables.now.names)
    (type_lined c.args.tables.now.names c.type_row-d.result c.template_bytes-bytes.result c.lost_bits-bits.result
    (all w)
    (l2.then _ _ c.put_numbers.ensures))
