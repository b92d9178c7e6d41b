-- A member that is no structure (document 01, "Value stream", "Reading"): what it gives by its bit and its type, that
-- none of it is a text, and that its bytes lie in the image.
use Rattle.std.specs.Prelude.{Option, Some, None}
use Prim.Native.Nat.{ℕ, ◌+◌, ◌-◌, ◌*◌, ◌%◌, ◌<◌, ◌≤◌}
use native.Mathlib.Omega.{arith}
use mathlib.Core.Path.{◌≡◌, refl, sym, ap, ◌∙◌}
use mathlib.Core.Bool.{Bool, true, false, cond}
use mathlib.Core.List.{List, [], ◌∷◌}
use lib.Dec.{eqb}
use lib.ListN.{length, get_or}
use lib.Seq.{sets, length-sets}
use Rattle.words.specs.Bits.{Bits, flat, digit}
use Rattle.words.specs.Words.{part}
use Rattle.words.proofs.Lists.{lent_part, lent_long}
use Rattle.types.specs.atomics.Atomic.{bit_string, size_of}
use Rattle.types.specs.layout.Placing.{times}
use Rattle.types.specs.tables.Lent.{member_at, bit_of_word}
use Rattle.types.specs.tables.Sizes.{sizes_in}
use Rattle.types.specs.declared.atomics.atomic.Atomic.{Atomic}
use Rattle.types.specs.declared.atomics.atomic.Atomic.TheVariants as atomic
use Rattle.types.specs.declared.tables.member.Member.{Member}
use Rattle.types.specs.declared.tables.member.Ty.{Ty}
use Rattle.types.specs.declared.tables.member.Ty.TheVariants as ty
use Rattle.values.specs.inside.reading.Walk.{wrap, bit_token, bits_out, element_out, numbers_out, atomics_out, bit_out}
use Rattle.values.specs.inside.reading.Walk.{leaf_value, leaf_out}
use Rattle.values.specs.inside.reading.Walkable.{RowOf, ImageOf}
use Rattle.values.specs.inside.stream.Laying.{EntriesPut}
use Rattle.values.specs.reading.Leaf.{emit, leaf_of}
use Rattle.values.specs.stream.Stream.{Token, bool, member, entry_bytes}
use Rattle.values.proofs.reading.PartLaws.{lent}
use Rattle.values.proofs.stream.HeadLaws.{Textless, textless_none, textless_plain, textless_append, textless_up}
use Rattle.values.proofs.stream.PutLaws.{put_none, put_one, put_first}

-- ---- no text

textless_wrap : (start stop : ℕ) {ts : List Token} → Textless ts → Textless (wrap start stop ts)
textless_wrap start stop h = textless_append textless_plain (textless_append h textless_plain)

-- the entry of one atomic is no text
pub textless_emit : (a : Atomic) (b : Bits) → Textless (emit (leaf_of a) b ∷ [])
textless_emit atomic.Bool b = textless_plain
textless_emit atomic.SInt b = textless_plain
textless_emit atomic.Int b = textless_plain
textless_emit atomic.DInt b = textless_plain
textless_emit atomic.LInt b = textless_plain
textless_emit atomic.USInt b = textless_plain
textless_emit atomic.UInt b = textless_plain
textless_emit atomic.UDInt b = textless_plain
textless_emit atomic.ULInt b = textless_plain
textless_emit atomic.Real b = textless_plain
textless_emit atomic.LReal b = textless_plain
textless_emit atomic.Byte b = textless_plain
textless_emit atomic.Word b = textless_plain
textless_emit atomic.DWord b = textless_plain
textless_emit atomic.LWord b = textless_plain

textless_either : (b : Bool) {ts us : List Token} → Textless ts → Textless us → Textless (cond b ts us)
textless_either true h k = h
textless_either false h k = k

-- an atomic or an array of them gives no text
pub textless_atomics : (a : Atomic) (n : ℕ) (image : List ℕ) → Textless (atomics_out a n image)
unfolding atomics_out bits_out numbers_out
textless_atomics a n image =
    textless_either (bit_string a)
    (textless_wrap 10 11 (textless_up (bit_token image) _ (λ k. textless_plain)))
    (textless_either (eqb n 0) (textless_emit a (flat image))
    (textless_wrap 10 11
    (textless_up (element_out a image) n (λ k. textless_emit a (flat (part image (size_of a * k) (size_of a)))))))

module _ (j : ℕ) (image : List ℕ) where
  textless_parts : (h : Bool) (b : Option ℕ) (t : Ty) (n at : ℕ)
      → Textless (cond h [] (member j
      ∷ bit_out b (λ k. bool (flat image (8 * at + k)) ∷ []) (leaf_value t n (part image at))))
  textless_parts true b t n at = textless_none
  textless_parts false (Some k) t n at = textless_append textless_plain textless_plain
  textless_parts false None (ty.Atomic a) n at =
      textless_append textless_plain (textless_atomics a n (part image at (size_of a * times n)))
  textless_parts false None (ty.Struct s) n at = textless_plain

  -- a member that is no structure gives no text
  pub textless_leaf : (m : Member) → Textless (leaf_out j m image)
  unfolding leaf_out
  textless_leaf m = textless_parts m.hidden m.bit m.ty m.count m.offset

-- ---- what it gives, where m was read from the row that holds x

module _ (j : ℕ) {m x : Member} (image : List ℕ) (is : m ≡ x) where
  -- a hidden member puts nothing, and the place stays
  pub put_hidden : (out : List ℕ) (at : ℕ) → m.hidden ≡ true → EntriesPut out at (leaf_out j x image) out at
  unfolding leaf_out
  put_hidden out at e = rw (← is, e) (put_none out at)

  -- where the entries of a visible member have room, its number has
  pub shown_room : (at : ℕ) {long : ℕ} → m.hidden ≡ false → at + 12 * length (leaf_out j x image) ≤ long
      → at + 12 ≤ long
  unfolding leaf_out
  shown_room at e h = let k = rw (← is, e) at h in omega arith

-- a visible row of structure i was read and its number put: the member, where it starts, and its count
pub record NumberPut (types members image out : List ℕ) (i row j at : ℕ) (m : Member) (mid : List ℕ) (start n : ℕ)
    : Type 0 where
  pub row_of : RowOf types members i row
  pub whole : ImageOf types i image
  pub room : at + 12 * length (leaf_out j (member_at members row) image) ≤ length out
  pub is : m ≡ member_at members row
  pub shown : m.hidden ≡ false
  pub put : mid ≡ sets out at (entry_bytes 7 j)
  pub from : start ≡ m.offset
  pub count : n ≡ m.count

bit_low : (b : Bool) (n k : ℕ) → cond b None (Some (n % 8)) ≡ Some k → k < 8
bit_low true n k e = let z : ◌≡◌ {A = ℕ} 0 1 = cc in absurd (let y : ⊥ = omega arith in y)
bit_low false n k e = let q : n % 8 ≡ k = cc in omega arith

-- the bit that a row names is one of the eight of a byte
pub row_bit : (members : List ℕ) (row k : ℕ) → (member_at members row).bit ≡ Some k → k < 8
unfolding member_at bit_of_word
row_bit members row k e =
    bit_low (eqb (get_or members (8 * row + 5) 0) 0) (get_or members (8 * row + 5) 0 - 1) k e

module _ {types members image out : List ℕ} {i row j at : ℕ} {m : Member} {mid : List ℕ} {start n : ℕ}
    (w : NumberPut types members image out i row j at m mid start n) where
  mid_long : length mid ≡ length out
  mid_long = ap length w.put ∙ length-sets out at (entry_bytes 7 j)

  -- the number, and then the rest
  number_then : {new : List ℕ} {r : ℕ} {ts : List Token} → leaf_out j (member_at members row) image ≡ member j ∷ ts
      → EntriesPut mid (at + 12) ts new r → EntriesPut out at (leaf_out j (member_at members row) image) new r
  number_then e v = rw e (put_first (member j) textless_plain.none refl refl w.put v)

  -- a BOOL is one bit of a byte
  module _ {k : ℕ} (e : m.bit ≡ Some k) where
    bit_is : leaf_out j (member_at members row) image ≡ member j ∷ bool (flat image (8 * start + k)) ∷ []
    unfolding leaf_out
    bit_is = rw (← w.is, w.shown, e, w.from)

    -- the byte of a BOOL lies in the image, and its bit is one of the eight
    pub bit_inside : (start < length image) × (k < 8)
    bit_inside =
        let h : 8 * m.offset + k + 1 ≤ 8 * sizes_in types i = rw (← w.is, e) at w.row_of.within.inside in (
          omega (arith, w.whole.long, w.from),
          row_bit members row k (ap (λ (x : Member). x.bit) (sym w.is) ∙ e),
        )

    -- the entry of a BOOL has room after the member's number
    pub bit_room : at + 12 + 12 ≤ length mid
    bit_room = omega (arith, ap length bit_is, w.room, mid_long)

    -- the number and then the bit are put: all that a BOOL gives
    pub put_bit : {payload : ℕ} {b : Bool} {new : List ℕ} → b ≡ flat image (8 * start + k) → payload ≡ digit b
        → new ≡ sets mid (at + 12) (entry_bytes 1 payload)
        → EntriesPut out at (leaf_out j (member_at members row) image) new (at + 12 + 12)
    put_bit f d v = number_then bit_is (put_one (bool (flat image (8 * start + k))) refl (sym (d ∙ ap digit f)) v)

  -- a structure gives no more than its number here
  pub put_struct : {s : ℕ} → m.bit ≡ None → m.ty ≡ ty.Struct s
      → EntriesPut out at (leaf_out j (member_at members row) image) mid (at + 12)
  unfolding leaf_out
  put_struct e f = rw (← w.is, w.shown, e, f) (put_one (member j) refl refl w.put)

-- it is an atomic, or an array of them: their size, and how many times
pub record Atomics (types members image out : List ℕ) (i row j at : ℕ) (m : Member) (mid : List ℕ) (start n : ℕ)
    (a : Atomic) (size count : ℕ) : Type 0 where
  pub numbered : NumberPut types members image out i row j at m mid start n
  pub whole : m.bit ≡ None
  pub atomic : m.ty ≡ ty.Atomic a
  pub long : size ≡ size_of a
  pub all : count ≡ times n

module _ {types members image out : List ℕ} {i row j at : ℕ} {m : Member} {mid : List ℕ} {start n : ℕ} {a : Atomic}
    {size count : ℕ} (w : Atomics types members image out i row j at m mid start n a size count) where
  -- the bytes of the atomics in a row lie in the image
  pub atomics_inside : start + size * count ≤ length image
  atomics_inside =
      let v = w.numbered in
      let h : 8 * m.offset + 8 * (size_of a * times m.count) ≤ 8 * sizes_in types i =
      rw (← v.is, w.whole, w.atomic) at v.row_of.within.inside in
      let q : size * count ≡ size_of a * times m.count = rw (w.long, w.all, v.count) in
      omega (arith, v.whole.long, v.from)

  atomics_are : leaf_out j (member_at members row) image
      ≡ member j ∷ atomics_out a n (lent image start (start + size * count))
  unfolding leaf_out
  atomics_are =
      let v = w.numbered in
      rw (
        ← v.is,
        v.shown,
        w.whole,
        w.atomic,
        lent_part image start (size * count),
        w.long,
        w.all,
        v.count,
        v.from,
      )

  -- the part is as long as its atomics ask, and their entries have room after the member's number
  pub atomics_asks : (length (lent image start (start + size * count)) ≡ size_of a * times n)
      × (at + 12 + 12 * length (atomics_out a n (lent image start (start + size * count))) ≤ length mid)
  atomics_asks = (
    lent_long image start (size * count) atomics_inside ∙ rw (w.long, w.all),
    omega (arith, ap length atomics_are, w.numbered.room, mid_long w.numbered),
  )

  -- the number and then the atomics are put: all that the member gives
  pub put_atomics : {new : List ℕ} {r : ℕ}
      → EntriesPut mid (at + 12) (atomics_out a n (lent image start (start + size * count))) new r
      → EntriesPut out at (leaf_out j (member_at members row) image) new r
  put_atomics v = number_then w.numbered atomics_are v
