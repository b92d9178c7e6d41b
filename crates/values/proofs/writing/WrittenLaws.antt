-- The whole of a write (document 01, "Writing", "Refusal numbers"): 15, 14 and 17 leave the image as it was; so does
-- the first bad entry, whose number in the stream is its place; else the image is what the entries make of it.
use Rattle.std.specs.Prelude.{Result, Ok, Err}
use Prim.Native.Nat.{ℕ, ◌-◌, ◌<◌, ◌≤◌}
use native.Mathlib.Nat.{sub-zero, zero-add}
use native.Mathlib.Omega.{arith}
use mathlib.Core.Path.{◌≡◌, refl, sym, ap, ◌∙◌, fun_ext}
use mathlib.Core.Bool.{true, false}
use mathlib.Core.List.{List, []}
use lib.ListN.{length}
use lib.Seq.{take-length}
use Rattle.words.specs.Bits.{Bits, flat}
use Rattle.words.specs.Words.{Bytes, part}
use Rattle.types.specs.refusals.Refusal.{number_of, place_of}
use Rattle.types.specs.refusals.Said.{done, refused, why}
use Rattle.types.specs.tables.There.{is_there}
use Rattle.types.specs.declared.refusals.refusal.Refusal.{Refusal}
use Rattle.types.specs.declared.refusals.refusal.Refusal.TheVariants.{ImageLength, NoSuchType, StreamMalformed}
use Rattle.types.specs.declared.refusals.refusal.Refusal.TheVariants.{EntryMisfit}
use Rattle.types.specs.declared.tables.member.Ty.{Ty}
use Rattle.values.specs.inside.reading.Images.{said_of_image}
use Rattle.values.specs.inside.writing.Passes.{Applied, CheckedFrom, accepted, left_at}
use Rattle.values.specs.inside.writing.Written.{Entered}
use Rattle.values.specs.reading.Leaf.{chars}
use Rattle.values.specs.reading.Read.{image_fits}
use Rattle.values.specs.reading.Tree.{Tree}
use Rattle.values.specs.reading.Trees.{known_in, tree_of_value}
use Rattle.values.specs.stream.Decode.{tokens_in}
use Rattle.values.specs.stream.Form.{count_in, stream_ok}
use Rattle.values.specs.stream.Stream.{Token}
use Rattle.values.specs.writing.Writing.{Outcome, ok, bad, ended, write, written}
use Rattle.values.specs.writing.Written.{Done, bytes_after, taken_of, value_written, write_result}
use Rattle.values.proofs.reading.ImageLaws.{fit_long, fit_there, unfit}
use Rattle.values.proofs.reading.TreeLaws.{chars_part}
use Rattle.values.proofs.stream.LeftLaws.{left_long, none_left, there}
use Rattle.values.proofs.writing.NumberedLaws.{bad_number}

-- ---- all entries

left_all : (s : List ℕ) → left_at s 0 ≡ tokens_in s
unfolding left_at tokens_in
left_all s = rw sub-zero refl

abbrev rest_of : Outcome → List Token
rest_of (ok ts z) = ts
rest_of (bad number ts) = ts

-- an image made of its own bits again is itself
pub bytes_bits : (image : List ℕ) → Bytes image → chars (length image) (flat image) ≡ image
unfolding part
bytes_bits image b =
    ap (chars (length image)) (fun_ext (λ k. ap (flat image) (sym (zero-add k))))
    ∙ chars_part (length image) image 0 b (omega arith) ∙ take-length image

-- ---- the entries of a value

module _ (types members : List ℕ) (t : Ty) (n : ℕ) (s image : List ℕ) (form : stream_ok s ≡ true) where
  abbrev tree : Tree
  tree = tree_of_value (known_in types members) t n

  abbrev entries : Bits → Outcome
  entries = write tree 0 (left_at s 0)

  all_written : value_written types members t n s image ≡ ended (entries (flat image))
  unfolding value_written written
  all_written = rw left_all refl

  -- where the entries from q on are left, q is their place
  place_of_lem : (q : ℕ) → q ≤ count_in s → count_in s - length (left_at s q) ≡ q
  place_of_lem q l = rw (left_long s q) (omega arith)

  at_bad : (x : Refusal) {q : ℕ} → place_of x ≡ q → q ≤ count_in s
      → ended (entries (flat image)) ≡ bad (number_of x) (left_at s q)
      → Entered types members t n s image (Err x) image
  at_bad x {q} k l e =
      record {
        answer =
            sym (ap (taken_of (count_in s)) (all_written ∙ e) ∙ ap (refused (number_of x)) (place_of_lem q l ∙ sym k));
        leaves = sym (ap (λ (o : Outcome). bytes_after o image) (all_written ∙ e));
      }

  -- where the check refuses, the call answers that refusal and leaves the image
  pub refused_entered : {why : Refusal} → CheckedFrom s 0 (Err why) entries
      → Entered types members t n s image (Err why) image
  refused_entered {why} c = at_bad why refl c.says.inside (ap ended (c.says.gives (flat image)))

  -- a refusal of the check has a number from 18 to 21
  pub refused_number : {why : Refusal} → CheckedFrom s 0 (Err why) entries
      → (18 ≤ number_of why) × (number_of why ≤ 21)
  refused_number c = bad_number tree 0 (left_at s 0) (flat image) (c.says.gives (flat image))

  -- an entry that is left over
  pub left_over : {r : ℕ} → CheckedFrom s 0 (Ok r) entries → r < count_in s
      → Entered types members t n s image (Err (EntryMisfit r)) image
  left_over {r} c m =
      let w = c.says in
      let first = there s r form m in
      let over : ended (entries (flat image)) ≡ bad 18 (left_at s r)
      = ap ended ((w.gives (flat image)).1 ∙ ap (λ (ts : List Token). ok ts (w.gives (flat image)).0) first.left)
      ∙ ap (bad 18) (sym first.left) in
      at_bad (EntryMisfit r) refl (omega arith) over

  module _ {r : ℕ} (c : CheckedFrom s 0 (Ok r) entries) (all : count_in s ≤ r) where
    -- where the check went past the last entry, the entries are accepted over this image
    pub all_accepted : accepted (entries (flat image)) ≡ true
    all_accepted = ap accepted (c.says.gives (flat image)).1

    -- where all entries are taken and set, nothing is refused
    pub entered_whole : {k : ℕ} {new : List ℕ} → Applied s 0 k image new entries → Bytes new
        → Entered types members t n s image (Ok tt) new
    entered_whole {k} {new} a b =
        let none = none_left s r all in
        let same : left_at s k ≡ []
        = sym (ap rest_of a.gives) ∙ ap rest_of (c.says.gives (flat image)).1 ∙ none in
        let done : ended (entries (flat image)) ≡ ok [] (flat new)
        = ap ended (a.gives ∙ ap (λ (ts : List Token). ok ts (flat new)) same) in
        record {
          answer = sym (ap (taken_of (count_in s)) (all_written ∙ done));
          leaves = sym (ap (λ (o : Outcome). bytes_after o image) (all_written ∙ done)
              ∙ ap (λ (m : ℕ). chars m (flat new)) (sym a.long) ∙ bytes_bits new b);
        }

-- ---- the call

module _ (types members : List ℕ) (t : Ty) (n : ℕ) (s image : List ℕ) where
  no_type : is_there types t ≡ false → Done types members t n s image (Err NoSuchType) image
  unfolding write_result
  no_type e = record { answer = rw e refl; leaves = rw e refl }

  no_image : is_there types t ≡ true → image_fits types t n image ≡ false
      → Done types members t n s image (Err ImageLength) image
  unfolding write_result
  no_image e f = record { answer = rw (e, f) refl; leaves = rw (e, f) refl }

  -- the ways out with 15 and 14: the image is not one of the type, and it is as it was
  pub unfit_write : {w : Refusal} → why w ≡ said_of_image types t n (length image)
      → Done types members t n s image (Err w) image
  unfit_write {w} e =
      unfit types t n image (λ w. Done types members t n s image (Err w) image) no_type no_image w e

  module _ (fits : done tt ≡ said_of_image types t n (length image)) where
    there_is : is_there types t ≡ true
    there_is = fit_there types t n image fits

    long_is : image_fits types t n image ≡ true
    long_is = fit_long types t n image fits

    -- the way out with 17: the stream is malformed, and the image is as it was
    pub no_stream : stream_ok s ≡ false → Done types members t n s image (Err StreamMalformed) image
    unfolding write_result
    no_stream e = record { answer = rw (there_is, long_is, e) refl; leaves = rw (there_is, long_is, e) refl }

    -- past these three tests the call answers and leaves what the entries do
    pub entered_done : {r : Result (Unit {0}) Refusal} {new : List ℕ} → stream_ok s ≡ true
        → Entered types members t n s image r new
        → Done types members t n s image r new
    unfolding write_result
    entered_done e w =
        record {
          answer = w.answer ∙ rw (there_is, long_is, e) refl;
          leaves = w.leaves ∙ rw (there_is, long_is, e) refl;
        }
