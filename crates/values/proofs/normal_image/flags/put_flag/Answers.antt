-- `values::put_flag` meets its contract: a visible BOOL's bit is put back in its place, and else nothing is done.
use Rattle.std.proofs.Common.{refl, sym, ◌∙◌}
use Rattle.values.proofs.normal_image.FlagRows.{FlagHere, flag_inside, flag_put, unflagged}
use Rattle.values.proofs.normal_image.flags.put_flag.Goals as goal
use Rattle.values.proofs.normal_image.flags.put_flag.Goals.{In-Some}

-- the member was read, and it is a visible BOOL
here : (c : In-Some)
    → FlagHere c.args.members.now c.args.row c.args.base c.args.image.now c.member_row-m.result
    c.member_row-m.result.offset c.in-Some.b
here c =
    record {
      is = c.member_row-m.ensures;
      here = c.requires.0;
      place = refl;
      flag = sym c.flag_bit.ensures ∙ c.in-Some.is;
    }

pub put_bit-requires : goal.put_bit-requires
put_bit-requires c = flag_inside (here (goal.at.put_bit-requires c).In-Some)

pub returns-in-Some : goal.returns-in-Some
returns-in-Some c =
    flag_put (here (goal.at.returns-in-Some c).In-Some) c.args.k _ refl c.bit_at-value.ensures c.put_bit.ensures

pub returns-in_default : goal.returns-in_default
returns-in_default c = unflagged _ c.member_row-m.ensures (sym c.flag_bit.ensures ∙ c.in_default.is)
