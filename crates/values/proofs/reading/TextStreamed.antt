-- The text that `text` hands back is the text that `read` streams (document 01, "Reading"): for tables as our own calls
-- left them, where `text` answers a part, the stream of that image is one text entry with the bytes of the part.
use denote.Bor.{Bor}
use Rattle.std.specs.Prelude.{Ok}
use Prim.Native.Nat.{ℕ, ◌*◌}
use native.Mathlib.Nat.{mul-one}
use mathlib.Core.Path.{◌≡◌, refl, sym, ap, ◌∙◌}
use mathlib.Core.Bool.{true}
use mathlib.Core.List.{List, [], ◌∷◌}
use Rattle.words.specs.Words.{Bytes}
use Rattle.types.specs.tables.Kept.{KeptRows}
use Rattle.types.specs.tables.Lent.{type_at}
use Rattle.types.specs.tables.Sizes.{sizes_in}
use Rattle.types.specs.declared.tables.member.Ty.{Ty}
use Rattle.types.specs.declared.tables.member.Ty.TheVariants as ty
use Rattle.types.proofs.Face.{times_one}
use Rattle.values.specs.inside.reading.Walk.{struct_by, struct_out, struct_within, text_out}
use Rattle.values.specs.inside.reading.Walkable.{ValueImage}
use Rattle.values.specs.reading.Read.{value_stream}
use Rattle.values.specs.reading.Texts.{Stored, capacity_of, text_number, text_part, capacity_at, text_in}
use Rattle.values.specs.reading.Trees.{is_string_kind}
use Rattle.values.specs.stream.Stream.{stream_bytes, text}
use Rattle.values.proofs.reading.KeptWalkable.{kept_walkable}
use Rattle.values.proofs.reading.ReadingLaws.{stream_is, value_one}
use Rattle.values.proofs.reading.StoredLaws.{Accepted, accepted, no_atomic, stored_part}

-- a string is read as one text
string_out : (types members : List ℕ) (i : ℕ) (image : List ℕ) → is_string_kind (type_at types i).kind ≡ true
    → struct_out types members i image ≡ text_out (capacity_at members (type_at types i).first) image
unfolding struct_out struct_within struct_by
string_out types members i image e = rw e refl

-- the part, where nothing is refused
part_is : (types members : List ℕ) (t : Ty) (image : List ℕ) → text_number types t image ≡ 0
    → text_part types members t image ≡ text_in (capacity_of types members t) image
unfolding text_part
part_is types members t image e = rw e refl

accepted_image : {types : List ℕ} {i : ℕ} {image : List ℕ} → Accepted types i image
    → ValueImage types (ty.Struct i) 0 image
accepted_image {types} {i} a =
    record {
      fits = a.low;
      long = a.long ∙ sym (mul-one (sizes_in types i)) ∙ ap (λ (k : ℕ). sizes_in types i * k) (times_one 0 refl);
    }

module _ {types members : List ℕ} (kept : KeptRows types members) (image : List ℕ) (b : Bytes image) where
  streamed : (t : Ty) {p : List ℕ} → text_number types t image ≡ 0 → p ≡ text_part types members t image
      → value_stream types members t 0 image ≡ stream_bytes (text p ∷ [])
  streamed (ty.Atomic a) z e = no_atomic types image a z
  streamed (ty.Struct i) z e =
      let a = accepted types i image z in
      stream_is types members (kept_walkable kept.kept) (ty.Struct i) 0 image (accepted_image a) b
      ∙ ap stream_bytes (value_one types members 0 image i refl ∙ string_out types members i image a.string
      ∙ ap (λ (p : List ℕ). text p ∷ []) (sym (e ∙ part_is types members (ty.Struct i) image z)))

-- where `text` answers a part, `read` streams the one text entry with the part's bytes
pub text_streamed : {types members : List ℕ} → KeptRows types members → {t : Ty} {image part : Bor (List ℕ)}
    → Bytes image.now → Stored types members t image (Ok part)
    → value_stream types members t 0 image.now ≡ stream_bytes (text part.now ∷ [])
text_streamed {types} {members} kept {t} {image} b s =
    let h = stored_part types members t image.now s.answer in
    streamed kept image.now b t h.0 h.1
