-- What a reading answers and leaves (document 01, "Reading", "Refusal numbers"): a law for each way out of the call.
use Rattle.std.specs.Prelude.{Result, Ok, Err}
use Prim.Native.Nat.{ℕ, ◌+◌, ◌*◌, ◌<◌, ◌≤◌, min}
use native.Mathlib.Nat.{mul-one}
use native.Mathlib.Omega.{arith}
use mathlib.Core.Path.{◌≡◌, refl, sym, ap, ap₂, ◌∙◌}
use mathlib.Core.Bool.{Bool, true, false, cond}
use mathlib.Core.List.{List, []}
use lib.ListN.{length, take}
use lib.Seq.{sets}
use borrow.Author.Tests.{ne_eqb, eqb-true, le-leb, lt-leb, leb-true}
use Rattle.words.specs.Bits.{flat}
use Rattle.words.specs.Words.{Bytes, bytes_of, part}
use Rattle.words.proofs.Lists.{part_run}
use Rattle.types.specs.layout.Placing.{times}
use Rattle.types.specs.refusals.Said.{done, refused, why}
use Rattle.types.specs.tables.Sizes.{size_in, sizes_in}
use Rattle.types.specs.tables.There.{is_there}
use Rattle.types.specs.declared.atomics.atomic.Atomic.{Atomic}
use Rattle.types.specs.declared.refusals.refusal.Refusal.{Refusal}
use Rattle.types.specs.declared.refusals.refusal.Refusal.TheVariants.{ImageLength, NoSuchType, NoRoom}
use Rattle.types.specs.declared.tables.member.Ty.{Ty}
use Rattle.types.specs.declared.tables.member.Ty.TheVariants as ty
use Rattle.types.proofs.Face.{times_one, times_same, there_fits}
use Rattle.values.specs.inside.reading.Images.{said_of_image}
use Rattle.values.specs.inside.reading.Read.{StreamWritten}
use Rattle.values.specs.inside.reading.Walk.{atomics_out, elements_by, struct_out, structs_by, value_out}
use Rattle.values.specs.inside.reading.Walkable.{ImageOf, ImagesOf, ValueImage, Walkable}
use Rattle.values.specs.inside.stream.Counting.{Texts}
use Rattle.values.specs.inside.stream.Laying.{laid_in, TokensLaid}
use Rattle.values.specs.reading.Read.{stream_of, value_stream, image_fits, has_room, stream_answer, read_answer}
use Rattle.values.specs.reading.Read.{Answered}
use Rattle.values.specs.reading.Tree.{items, read}
use Rattle.values.specs.reading.Trees.{known_in, tree_of_value}
use Rattle.values.specs.stream.Stream.{Token, bodies, most_bytes, stream_bytes}
use Rattle.values.specs.declared.stream.place.Place.{Place}
use Rattle.values.proofs.reading.ImageLaws.{fit_long, fit_there, unfit}
use Rattle.values.proofs.reading.Meaning.{meaning}
use Rattle.values.proofs.stream.StreamLaws.{stream_long, stream_laid}

-- ---- one way out each

module _ (types members : List ℕ) (t : Ty) (n : ℕ) (image out : List ℕ) where
  no_type : is_there types t ≡ false → Answered types members t n image out (Err NoSuchType) out
  unfolding read_answer
  no_type e = record { answer = rw e refl; leaves = rw e refl }

  no_image : is_there types t ≡ true → image_fits types t n image ≡ false
      → Answered types members t n image out (Err ImageLength) out
  unfolding read_answer
  no_image e f = record { answer = rw (e, f) refl; leaves = rw (e, f) refl }

  -- the ways out with 15 and 14: the image is not one of the type, and nothing is written
  pub unfit_read : {w : Refusal} → why w ≡ said_of_image types t n (length image)
      → Answered types members t n image out (Err w) out
  unfit_read {w} e =
      unfit types t n image (λ w. Answered types members t n image out (Err w) out) no_type no_image w e

  -- the image is one of the type: the answer is the one about the stream
  pub answered : {r : Result ℕ Refusal} {new : List ℕ} → done tt ≡ said_of_image types t n (length image)
      → StreamWritten types members t n image out r new → Answered types members t n image out r new
  unfolding read_answer
  answered e w =
      let f = fit_there types t n image e in
      let g = fit_long types t n image e in
      record { answer = rw (f, g) w.answer; leaves = rw (f, g) w.leaves }

  -- the way out with 16: the stream has no room, and nothing is written
  pub no_room : has_room (value_stream types members t n image) (length out) ≡ false
      → StreamWritten types members t n image out (Err NoRoom) out
  unfolding stream_answer
  no_room e = record { answer = rw e refl; leaves = rw e refl }

  all_room : {k : ℕ} {new : List ℕ} → has_room (value_stream types members t n image) (length out) ≡ true
      → k ≡ length (value_stream types members t n image) → new ≡ sets out 0 (value_stream types members t n image)
      → StreamWritten types members t n image out (Ok k) new
  unfolding stream_answer
  all_room e f g = record { answer = rw e (ap done f); leaves = rw e g }

-- ---- a value is an atomic or a structure, one or an array

module _ (types : List ℕ) (i n : ℕ) (image : List ℕ) (v : ImagesOf types i (times n) image) where
  -- with a count of 0 the image is that of one structure
  pub image_one : n ≡ 0 → ImageOf types i image
  image_one e =
      record { low = v.low; long = v.long ∙ ap (λ (k : ℕ). sizes_in types i * k) (sym (times_one n e)) ∙ mul-one _ }

  -- with any other count the image is that of so many structures
  pub image_some : (n ≡ 0 → ⊥) → ImagesOf types i n image
  image_some e = record { low = v.low; long = v.long ∙ ap (λ (k : ℕ). sizes_in types i * k) (sym (times_same n e)) }

-- an image of a value of a structure is one of so many of that structure
pub images : (types : List ℕ) (t : Ty) {i : ℕ} (n : ℕ) (image : List ℕ) → t ≡ ty.Struct i → ValueImage types t n image
    → ImagesOf types i (times n) image
images types t {i} n image e v = let w = rw e at v in record { low = w.fits; long = w.long }

module _ (types members : List ℕ) (n : ℕ) (image : List ℕ) where
  -- a value of an atomic type gives that atomic, or so many of them
  pub value_atomic : (t : Ty) {a : Atomic} → t ≡ ty.Atomic a → value_out types members t n image ≡ atomics_out a n image
  unfolding value_out
  value_atomic t {a} e = rw e refl

  -- a value of a structure type gives that structure, or so many of them
  pub value_struct : (t : Ty) {i : ℕ} → t ≡ ty.Struct i
      → value_out types members t n image ≡ structs_by types members (struct_out types members) i n image
  unfolding value_out
  value_struct t {i} e = rw e refl

  -- a structure with a count of 0 gives what one structure gives
  pub value_one : (i : ℕ) → n ≡ 0
      → value_out types members (ty.Struct i) n image ≡ struct_out types members i image
  unfolding value_out structs_by
  value_one i e = rw e refl

  -- a structure with any other count gives its elements in brackets
  pub value_some : (i : ℕ) → (n ≡ 0 → ⊥)
      → value_out types members (ty.Struct i) n image
      ≡ elements_by types members (struct_out types members) i n image
  unfolding value_out structs_by
  value_some i e = rw (ne_eqb n 0 e) refl

-- entries of which none is a text have no bytes of text
pub no_texts : {room : ℕ} {ts : List Token} → bodies ts ≡ [] → Texts room ts 0
no_texts e =
    record {
      exact = λ l. ap length e;
      over = λ l. absurd (let z : ⊥ = omega arith in z);
      small = omega arith;
    }

-- ---- the stream of a value is that of the walk's entries

-- the stream of a value is the stream of the entries that the walk gives
pub stream_is : (types members : List ℕ) → Walkable types members → (t : Ty) (n : ℕ) (image : List ℕ)
    → ValueImage types t n image → Bytes image
    → value_stream types members t n image ≡ stream_bytes (value_out types members t n image)
unfolding stream_of
stream_is types members w t n image v b =
    ap stream_bytes (sym (meaning types members w t n image v.fits v.long b))

-- ---- room for it

module _ (types members : List ℕ) (t : Ty) (n : ℕ) (image out : List ℕ) (room : ℕ)
    (same : value_stream types members t n image ≡ stream_bytes (value_out types members t n image))
    (space : room + 4 ≡ min (length out) most_bytes) where
  abbrev ts : List Token
  ts = value_out types members t n image

  long : length (value_stream types members t n image) ≡ 4 + 12 * length ts + length (bodies ts)
  long = ap length same ∙ stream_long ts

  -- entries and texts that pass the room: the stream has no room in the buffer
  pub over_room : room < 12 * length ts + length (bodies ts)
      → has_room (value_stream types members t n image) (length out) ≡ false
  over_room l =
      lt-leb (length (value_stream types members t n image)) (min (length out) most_bytes) (omega (arith, long, space))

  in_room : 12 * length ts + length (bodies ts) ≤ room
      → has_room (value_stream types members t n image) (length out) ≡ true
  in_room l =
      le-leb (length (value_stream types members t n image)) (min (length out) most_bytes) (omega (arith, long, space))

  -- where the count, the entries and the texts are written, so is the stream
  pub read_all : {entries text : ℕ} {mid new : List ℕ} {p : Place} → entries ≡ length ts → text ≡ length (bodies ts)
      → 12 * length ts + length (bodies ts) ≤ room → mid ≡ sets out 0 (bytes_of 4 entries)
      → TokensLaid mid (4 + 12 * entries) 4 0 ts new p
      → StreamWritten types members t n image out (Ok (4 + 12 * entries + text)) new
  read_all {entries} {text} {mid} e f l m w =
      all_room types members t n image out (in_room l) (omega (arith, long, e, f))
      (w.bytes ∙ ap (λ (o : List ℕ). laid_in o (4 + 12 * entries) 4 0 ts) m
      ∙ ap (λ (k : ℕ). laid_in (sets out 0 (bytes_of 4 k)) (4 + 12 * k) 4 0 ts) e
      ∙ stream_laid out ts ∙ ap (sets out 0) (sym same))

-- a buffer of fewer than four bytes has no room for any stream
pub no_start : (types members : List ℕ) (t : Ty) (n : ℕ) (image out : List ℕ) → min (length out) most_bytes < 4
    → has_room (value_stream types members t n image) (length out) ≡ false
unfolding stream_of
no_start types members t n image out l =
    let ts = read (items (tree_of_value (known_in types members) t n) 0) (flat image) in
    lt-leb (length (value_stream types members t n image)) (min (length out) most_bytes)
    (omega (arith, l, stream_long ts))

-- ---- what a caller may count on

-- of tests p, q, r that were passed in turn
record TestsPassed (p q r : Bool) (k m : ℕ) : Type 0 where
  pub there : p ≡ true
  pub fits : q ≡ true
  pub room : r ≡ true
  pub long : k ≡ m

given : (p q r : Bool) (k m : ℕ)
    → done k ≡ cond p (cond q (cond r (done m) (refused 16 0)) (refused 14 0)) (refused 15 0)
    → TestsPassed p q r k m
given true true true k m e = record { there = refl; fits = refl; room = refl; long = cc }
given true true false k m e = record { there = refl; fits = refl; room = cc; long = cc }
given true false r k m e = record { there = refl; fits = cc; room = cc; long = cc }
given false q r k m e = record { there = cc; fits = cc; room = cc; long = cc }

-- where a length was answered: the image is one of the value, and so much of the buffer is the value's stream
pub record LengthTold (types members : List ℕ) (t : Ty) (n : ℕ) (image out : List ℕ) (k : ℕ) (new : List ℕ)
    : Type 0 where
  pub there : is_there types t ≡ true
  pub value : ValueImage types t n image
  pub room : length (value_stream types members t n image) ≤ min (length out) most_bytes
  pub long : k ≡ length (value_stream types members t n image)
  pub stream : take k new ≡ value_stream types members t n image

module _ {types members : List ℕ} {t : Ty} {n k : ℕ} {image out new : List ℕ}
    (w : Answered types members t n image out (Ok k) new) where
  abbrev stream : List ℕ
  stream = value_stream types members t n image

  -- where a length is answered, type, image and room are right, and the stream is written
  pub length_told : LengthTold types members t n image out k new
  unfolding read_answer stream_answer part
  length_told =
      let g = given (is_there types t) (image_fits types t n image) (has_room stream (length out)) k (length stream)
      w.answer in
      let room = leb-true (length stream) (min (length out) most_bytes) g.room in
      let left : new ≡ sets out 0 stream = w.leaves ∙ rw (g.there, g.fits, g.room) refl in
      record {
        there = g.there;
        value = record {
          fits = there_fits types t g.there;
          long = eqb-true (length image) (size_in (sizes_in types) t * times n) g.fits;
        };
        room = room;
        long = g.long;
        stream = ap₂ take g.long left ∙ part_run out 0 stream (omega (arith, room));
      }

  -- no stream is longer than its buffer, or than 2^31 bytes
  pub read_short : k ≤ min (length out) most_bytes
  read_short = let told = length_told in omega (arith, told.room, told.long)
