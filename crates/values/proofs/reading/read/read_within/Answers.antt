-- `values::read_within` meets its contract: entries and texts are counted first, so that all of the stream is written
-- or nothing.
use native.Mathlib.Omega.{arith}
use mathlib.Core.Path.{◌≡◌, sym}
use Rattle.words.specs.Words.{Bytes}
use Rattle.values.specs.inside.reading.Walk.{value_out}
use Rattle.values.specs.reading.Read.{value_stream}
use Rattle.values.specs.stream.Stream.{stream_bytes}
use Rattle.values.proofs.reading.ReadingLaws.{no_room, over_room, read_all, stream_is}
use Rattle.values.proofs.reading.read.read_within.Goals as goal
use Rattle.values.proofs.reading.read.read_within.Goals.{Start}

-- the stream is that of the walk's entries
same : (c : Start) → Bytes c.args.image.now
    → let a = c.args in
    value_stream a.types.now a.members.now a.ty a.n a.image.now
    ≡ stream_bytes (value_out a.types.now a.members.now a.ty a.n a.image.now)
same c b =
    let a = c.args in
    stream_is a.types.now a.members.now c.requires.walkable.0 a.ty a.n a.image.now c.requires.walkable.1 b

pub returns-then-most-entries : goal.returns-then-most-entries
returns-then-most-entries c =
    let a = c.args in
    let over = c.count_value-entries.ensures.over c.if-most-entries.true a.image.now in
    no_room a.types.now a.members.now a.ty a.n a.image.now a.out.now
    (over_room a.types.now a.members.now a.ty a.n a.image.now a.out.now a.room
    (same (goal.at.returns-then-most-entries c).Start (λ k. (c.type_inv.image k).fits)) c.requires.most_room
    (omega (arith, over)))

pub text_value-text-requires : goal.text_value-text-requires
text_value-text-requires c =
    record {
      walkable = (c.requires.walkable.0, (omega (arith, c.requires.most_room), c.requires.walkable.1));
      textless = λ p. c.count_value-entries.ensures.quiet c.if-most-entries.false p c.args.image.now;
    }

pub returns-then-left-text : goal.returns-then-left-text
returns-then-left-text c =
    let a = c.args in
    let over = c.text_value-text.ensures.over c.if-left-text.true in
    let is = c.count_value-entries.ensures.exact c.if-most-entries.false a.image.now in
    no_room a.types.now a.members.now a.ty a.n a.image.now a.out.now
    (over_room a.types.now a.members.now a.ty a.n a.image.now a.out.now a.room
    (same (goal.at.returns-then-left-text c).Start (λ k. (c.type_inv.image k).fits)) c.requires.most_room
    (omega (arith, over, is, c.if-most-entries.false)))

pub read_value-requires : goal.read_value-requires
read_value-requires c =
    let a = c.args in
    let is = c.count_value-entries.ensures.exact c.if-most-entries.false a.image.now in
    let text = c.text_value-text.ensures.exact (omega (arith, c.if-left-text.false)) in
    let long = c.store.auto.s in record {
      walkable = (c.requires.walkable.0, c.requires.walkable.1);
      stream_room = record {
        entries = omega (arith, is);
        texts =
            omega (
              arith,
              is,
              text,
              long,
              c.requires.most_room,
              c.if-left-text.false,
              c.if-most-entries.false,
            );
        most = omega (arith, is, text, c.requires.most_room, c.if-left-text.false, c.if-most-entries.false);
      };
    }

pub returns : goal.returns
returns c =
    let a = c.args in
    let is = c.count_value-entries.ensures.exact c.if-most-entries.false a.image.now in
    let text = c.text_value-text.ensures.exact (omega (arith, c.if-left-text.false)) in
    read_all a.types.now a.members.now a.ty a.n a.image.now a.out.now a.room
    (same (goal.at.returns c).Start (λ k. (c.type_inv.image k).fits)) c.requires.most_room
    (omega (arith, is)) (sym text)
    (omega (arith, is, text, c.if-left-text.false, c.if-most-entries.false)) c.store.ensures
    c.read_value.ensures
