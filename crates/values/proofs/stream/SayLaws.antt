-- Every entry of a reading can be said (document 01, "Value stream"): its kind is one of the twelve and its payload
-- fits, so that a reading's stream is well formed and says the reading's entries.
use Rattle.std.specs.Prelude.{Option, Some, None}
use Prim.Native.Nat.{ℕ, zero, suc, ◌+◌, ◌-◌, ◌*◌, ◌^◌, ◌<◌, ◌≤◌}
use native.Mathlib.Omega.{arith}
use mathlib.Core.Path.{refl}
use mathlib.Core.Bool.{Bool, true, false, cond}
use mathlib.Core.List.{List, [], ◌∷◌}
use lib.Dec.{eqb, ltb}
use lib.ListN.{length}
use borrow.Author.Tests.{lt-ltb}
use Rattle.words.specs.Bits.{Bits, flat, val}
use Rattle.words.specs.Words.{part}
use Rattle.words.proofs.BitLaws.{val_below}
use Rattle.words.proofs.TestLaws.{picked}
use Rattle.types.specs.atomics.Atomic.{bit_string, size_of}
use Rattle.types.specs.inside.tables.Lent.{TyFits}
use Rattle.types.specs.layout.Laid.{Earlier, Every}
use Rattle.types.specs.layout.Placing.{times}
use Rattle.types.specs.tables.Lent.{member_at, type_at}
use Rattle.types.specs.tables.Limits.{most_types}
use Rattle.types.specs.tables.Sizes.{sizes_in}
use Rattle.types.specs.declared.atomics.atomic.Atomic.{Atomic}
use Rattle.types.specs.declared.atomics.atomic.Atomic.TheVariants as atomic
use Rattle.types.specs.declared.tables.member.Member.{Member}
use Rattle.types.specs.declared.tables.member.Ty.{Ty}
use Rattle.types.specs.declared.tables.member.Ty.TheVariants as ty
use Rattle.types.proofs.Face.{every_append}
use Rattle.values.specs.inside.reading.Walk.{up_to, wrap, bit_token, bits_out, element_out, number_out, numbers_out}
use Rattle.values.specs.inside.reading.Walk.{atomics_out, bit_out, element_by, elements_by, structs_by, value_by}
use Rattle.values.specs.inside.reading.Walk.{member_by, row_by, members_by, struct_by, struct_within, struct_out}
use Rattle.values.specs.inside.reading.Walk.{value_out, bytes_by}
use Rattle.values.specs.inside.reading.Walkable.{Walkable, WalkableType}
use Rattle.values.specs.reading.Leaf.{emit, is_true, leaf_of, signed}
use Rattle.values.specs.reading.Trees.{is_string_kind}
use Rattle.values.specs.stream.Entry.{payload_right}
use Rattle.values.specs.stream.Stream.{Token, bool, member, mark, stream_bytes, most_bytes}
use Rattle.values.proofs.stream.DecodeBack.{SaidWell, DecodedBack, decode_back}

-- ---- entries that can be said

bool_sound : (b : Bool) → SaidWell (bool b)
unfolding payload_right
bool_sound true = (refl, (refl, omega arith))
bool_sound false = (refl, (refl, omega arith))

member_said_lem : (j : ℕ) → j < 2 ^ 32 → SaidWell (member j)
unfolding payload_right
member_said_lem j l = (lt-ltb j (2 ^ 32) l, (refl, omega arith))

-- ---- the entries of a reading are so

every_up : (g : ℕ → List Token) (n : ℕ) → ((k : ℕ) → k < n → Every SaidWell (g k)) → Every SaidWell (up_to g n)
unfolding up_to Every
every_up g zero h = tt
every_up g (suc n) h =
    every_append SaidWell (up_to g n) (g n) (every_up g n (λ k l. h k (omega arith))) (h n (omega arith))

every_wrap : (start stop : ℕ) (ts : List Token) → SaidWell (mark start) → SaidWell (mark stop) → Every SaidWell ts
    → Every SaidWell (wrap start stop ts)
unfolding Every
every_wrap start stop ts a b w = (a, every_append SaidWell ts (mark stop ∷ []) w (b, tt))

-- an array's brackets
in_array : (ts : List Token) → Every SaidWell ts → Every SaidWell (wrap 10 11 ts)
unfolding payload_right
in_array ts w = every_wrap 10 11 ts (refl, (refl, omega arith)) (refl, (refl, omega arith)) w

signed_small : (n : ℕ) (b : Bits) → 2 ^ n ≤ 2 ^ 64 → signed n (val n b) < 2 ^ 64
unfolding signed
signed_small n b h = go (ltb (val n b) (2 ^ (n - 1)))
  where
    go : (t : Bool) → cond t (val n b) (val n b + (2 ^ 64 - 2 ^ n)) < 2 ^ 64
    go true = omega (arith, val_below n b, h)
    go false = omega (arith, val_below n b, h)

emit_sound : (a : Atomic) (b : Bits) → SaidWell (emit (leaf_of a) b)
unfolding payload_right
emit_sound atomic.Bool b = bool_sound (is_true (val 8 b))
emit_sound atomic.SInt b = (refl, (refl, signed_small 8 b (omega arith)))
emit_sound atomic.Int b = (refl, (refl, signed_small 16 b (omega arith)))
emit_sound atomic.DInt b = (refl, (refl, signed_small 32 b (omega arith)))
emit_sound atomic.LInt b = (refl, (refl, signed_small 64 b (omega arith)))
emit_sound atomic.USInt b = (refl, (refl, omega (arith, val_below 8 b)))
emit_sound atomic.UInt b = (refl, (refl, omega (arith, val_below 16 b)))
emit_sound atomic.UDInt b = (refl, (refl, omega (arith, val_below 32 b)))
emit_sound atomic.ULInt b = (refl, (refl, val_below 64 b))
emit_sound atomic.Real b =
    (lt-ltb (val 32 b) (2 ^ 32) (val_below 32 b), (refl, omega (arith, val_below 32 b)))
emit_sound atomic.LReal b = (refl, (refl, val_below 64 b))
emit_sound atomic.Byte b = (refl, (refl, omega (arith, val_below 8 b)))
emit_sound atomic.Word b = (refl, (refl, omega (arith, val_below 16 b)))
emit_sound atomic.DWord b = (refl, (refl, omega (arith, val_below 32 b)))
emit_sound atomic.LWord b = (refl, (refl, val_below 64 b))

bits_sound : (image : List ℕ) (n : ℕ) → Every SaidWell (bits_out image n)
unfolding bits_out Every
bits_sound image n =
    in_array (up_to (bit_token image) n) (every_up (bit_token image) n (λ k l. (bool_sound (flat image k), tt)))

numbers_sound : (a : Atomic) (n : ℕ) (image : List ℕ) → Every SaidWell (numbers_out a n image)
unfolding numbers_out Every
numbers_sound a n image =
    in_array (up_to (element_out a image) n)
    (every_up (element_out a image) n (λ k l. (emit_sound a (flat (part image (size_of a * k) (size_of a))), tt)))

atomics_sound : (a : Atomic) (n : ℕ) (image : List ℕ) → Every SaidWell (atomics_out a n image)
unfolding atomics_out Every
atomics_sound a n image =
    picked (Every SaidWell) (bit_string a) _ _ (bits_sound image (8 * (size_of a * times n)))
    (picked (Every SaidWell) (eqb n 0) (number_out a image) _ (emit_sound a (flat image), tt) (numbers_sound a n image))

-- where structure i holds only structures whose entries can be said
module _ (types members : List ℕ) (rec : ℕ → List ℕ → List Token) (i : ℕ)
    (sound : (s : ℕ) → s < i → (image : List ℕ) → Every SaidWell (rec s image)) where
  structs_sound : (s n : ℕ) (image : List ℕ) → s < i → Every SaidWell (structs_by types members rec s n image)
  unfolding structs_by elements_by
  structs_sound s n image l =
      picked (Every SaidWell) (eqb n 0) _ _ (sound s l image)
      (in_array _ (every_up (element_by types members rec s image) n
      (λ k h. sound s l (part image (sizes_in types s * k) (sizes_in types s)))))

  value_sound : (t : Ty) (n : ℕ) (image : List ℕ) → Earlier i t → Every SaidWell (value_by types members rec t n image)
  value_sound (ty.Atomic a) n image l = atomics_sound a n image
  value_sound (ty.Struct s) n image l = structs_sound s n image l

  bit_sound : (b : Option ℕ) (f : ℕ → Bool) (ts : List Token) → Every SaidWell ts
      → Every SaidWell (bit_out b (λ k. bool (f k) ∷ []) ts)
  unfolding Every
  bit_sound None f ts w = w
  bit_sound (Some k) f ts w = (bool_sound (f k), tt)

  member_sound : (j : ℕ) (m : Member) (image : List ℕ) → j < 2 ^ 32 → Earlier i m.ty
      → Every SaidWell (member_by types members rec j m image)
  unfolding member_by Every
  member_sound j m image l e =
      picked (Every SaidWell) m.hidden [] _ tt (
        member_said_lem j l,
        bit_sound m.bit (λ k. flat image (8 * m.offset + k)) _
            (value_sound m.ty m.count (part image m.offset (bytes_by types members rec m)) e),
      )

  struct_sound : (image : List ℕ) → WalkableType types members i → Every SaidWell (struct_by types members rec i image)
  unfolding struct_by members_by Every payload_right
  struct_sound image w =
      let row : ℕ → List Token = row_by types members rec (type_at types i).first image in
      picked (Every SaidWell) (is_string_kind (type_at types i).kind) _ _ (tt, tt)
      (every_wrap 8 9 (up_to row (type_at types i).count) (refl, (refl, omega arith)) (refl, (refl, omega arith))
      (every_up row (type_at types i).count
      (λ k h. member_sound k (member_at members ((type_at types i).first + k)) image (omega (arith, w.rows, h))
      (w.each k h).earlier)))

module _ (types members : List ℕ) (walk : Walkable types members) where
  within_sound : (f i : ℕ) → f ≤ most_types → i < f → (image : List ℕ)
      → Every SaidWell (struct_within types members f i image)
  unfolding struct_within Every
  within_sound zero i h l image = tt
  within_sound (suc f) i h l image =
      struct_sound types members (struct_within types members f) i
      (λ s q im. within_sound f s (omega arith) (omega arith) im) image (walk.each i (omega arith))

  reading_sound : (t : Ty) (n : ℕ) (image : List ℕ) → TyFits t → Every SaidWell (value_out types members t n image)
  unfolding value_out struct_out
  reading_sound t n image fits = go t fits
    where
      go : (t : Ty) → TyFits t
          → Every SaidWell (value_by types members (struct_within types members most_types) t n image)
      go (ty.Atomic a) l = atomics_sound a n image
      go (ty.Struct s) l =
          structs_sound types members (struct_within types members most_types) most_types
          (λ s q im. within_sound most_types s (omega arith) q im) s n image l

  -- what a reading writes is a stream that says its entries
  pub reading_back : (t : Ty) (n : ℕ) (image : List ℕ) → TyFits t
      → length (stream_bytes (value_out types members t n image)) ≤ most_bytes
      → DecodedBack (value_out types members t n image)
  reading_back t n image fits l =
      decode_back (value_out types members t n image) (reading_sound t n image fits) l
