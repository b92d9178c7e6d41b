-- `types::member_line` meets its contract: the fields of the member that was read.
use Rattle.std.proofs.Common.{◌≡◌, refl, List, ℕ, length}
use borrow.Author.Rules.{rules}
use Rattle.types.specs.inside.listing.Lines.{TypeNamed, Short}
use Rattle.types.specs.listing.Lines.{line}
use Rattle.types.specs.tables.Limits.{most_names}
use Rattle.types.proofs.listing.lines.ListingLaws.{FieldsLeft, left_room, left_on, member_fields, member_lined}
use Rattle.types.proofs.listing.lines.ListingLaws.{row_same, row_short, row_named, row_left}
use Rattle.types.proofs.listing.lines.member_line.Goals as goal
use Rattle.types.proofs.listing.lines.member_line.Goals.{After-name_row-name}

-- the fields as the code has them
abbrev fields : After-name_row-name → List (List ℕ)
fields c =
    member_fields c.args.tables.now.types c.args.tables.now.names c.args.k c.member_row-m.result c.name_row-name.result

named : (c : After-name_row-name) → TypeNamed c.args.tables.now.types c.member_row-m.result.ty
named c =
    row_named c.type_row-d.ensures refl c.requires.1.1.0 c.requires.1.0 c.member_row-m.ensures

short : (c : After-name_row-name) → Short c.name_row-name.result
short c = row_short c.type_row-d.ensures refl c.requires.1.1.0 c.requires.1.0 c.name_row-name.ensures

all : (c : After-name_row-name) → FieldsLeft (line (fields c)) 0 c.args.out.now (fields c) 0 c.args.out.now
all c =
    row_left c.type_row-d.ensures refl c.requires.1.1.0 c.requires.1.0 c.args.tables.now.names
    c.member_row-m.ensures c.name_row-name.ensures c.requires.1.1.1

pub put_number-k1-requires : goal.put_number-k1-requires
put_number-k1-requires c = left_room (all (goal.at.put_number-k1-requires c).After-name_row-name)

pub put_seen-k2-requires : goal.put_seen-k2-requires
put_seen-k2-requires c =
    left_room (left_on (all (goal.at.put_seen-k2-requires c).After-name_row-name) c.put_number-k1.ensures)

pub put_type_name-k3-requires : goal.put_type_name-k3-requires
put_type_name-k3-requires c =
    let w = (goal.at.put_type_name-k3-requires c).After-name_row-name in
    let l2 = left_on (left_on (all w) c.put_number-k1.ensures) c.put_seen-k2.ensures in
    (named w, (search rules, left_room l2))

pub put_place-requires : goal.put_place-requires
put_place-requires c =
    let w = (goal.at.put_place-requires c).After-name_row-name in
    let l2 = left_on (left_on (all w) c.put_number-k1.ensures) c.put_seen-k2.ensures in
    let long : length c.args.tables.now.names ≡ most_names = search rules in
    (rw long (short w).inside, (left_on l2 c.put_type_name-k3.ensures).fits)

pub returns : goal.returns
returns c =
    let w = (goal.at.returns c).After-name_row-name in
    let l2 = left_on (left_on (all w) c.put_number-k1.ensures) c.put_seen-k2.ensures in
    let l3 = left_on l2 c.put_type_name-k3.ensures in
    let row = row_same c.type_row-d.ensures refl c.requires.1.1.0 c.requires.1.0 in
    rw (← row, ← c.member_row-m.ensures, ← c.name_row-name.ensures)
    (member_lined c.args.tables.now.types c.args.tables.now.names c.args.k c.member_row-m.result c.name_row-name.result
    (all w) (l3.then _ _ c.put_place.ensures))
