-- The rows of BOOLs kept aside and put back (document 01, "Normal image"): what one row comes to, and what is done and
-- left after some of them. Which rows hold a plain member.
use Rattle.std.specs.Prelude.{Option, Some, None}
use Prim.Native.Nat.{ℕ, suc, ◌+◌, ◌-◌, ◌*◌, ◌/◌, ◌%◌, ◌<◌, ◌≤◌}
use native.Mathlib.Decide.{dec_lt}
use native.Mathlib.Nat.{add-zero}
use native.Mathlib.Omega.{arith}
use mathlib.Core.Path.{◌≡◌, refl, sym, ap, ◌∙◌}
use mathlib.Core.Bool.{Bool, true, false, cond}
use mathlib.Core.List.{List}
use lib.ListN.{length}
use Rattle.words.specs.Bits.{Bits, flat, from, stamp}
use Rattle.words.proofs.StampLaws.{one_bit, cond_beside, cond_own}
use Rattle.types.specs.layout.Laid.{first_bit}
use Rattle.types.specs.tables.Lent.{member_at}
use Rattle.types.specs.declared.tables.member.Member.{Member}
use Rattle.values.specs.inside.normal_image.InPlace.{RowsHere, flag_bit, flagged, is_flag, is_plain}
use Rattle.values.specs.inside.writing.Rows.{MemberHere}
use Rattle.values.specs.reading.Trees.{members_at}
use Rattle.values.proofs.reading.LeafLaws.{row_bit}

-- ---- plain rows

-- a hidden member is not plain
pub plain_hidden : {m n : Member} → m ≡ n → m.hidden ≡ true → false ≡ is_plain n
unfolding is_plain
plain_hidden e h = rw (← e, h)

-- a visible BOOL of a host is not plain
pub plain_bit : {m n : Member} {k : ℕ} → m ≡ n → m.hidden ≡ false → m.bit ≡ Some k → false ≡ is_plain n
unfolding is_plain
plain_bit e h b = rw (← e, h, b)

-- a visible member without a bit of its own is plain
pub plain_whole : {m n : Member} → m ≡ n → m.hidden ≡ false → m.bit ≡ None → true ≡ is_plain n
unfolding is_plain
plain_whole e h b = rw (← e, h, b)

-- ---- one row

-- no visible BOOL: nothing is done
pub unflagged : {m n : Member} (x : Bits) {y : Bits} → m ≡ n → flag_bit m ≡ None → y ≡ cond (is_flag n) x y
unfolding is_flag
unflagged x {y} e f = rw (← e, f) refl

own_bit : (hidden : Bool) (x : Option ℕ) {b : ℕ} → cond hidden None x ≡ Some b → x ≡ Some b
own_bit true x e = cc
own_bit false x e = e

-- the member of a row was read, with its place: a visible BOOL at bit b of its byte
pub record FlagHere (members : List ℕ) (row base : ℕ) (image : List ℕ) (m : Member) (start b : ℕ) : Type 0 where
  pub is : m ≡ member_at members row
  pub here : RowsHere members row 1 base image
  pub place : start ≡ m.offset
  pub flag : flag_bit m ≡ Some b

module _ {members : List ℕ} {row base : ℕ} {image : List ℕ} {m : Member} {start b : ℕ}
    (w : FlagHere members row base image m start b) where
  bit_is : m.bit ≡ Some b
  bit_is = own_bit m.hidden m.bit w.flag

  member_here : MemberHere w.here.sizes (member_at members row) base image
  member_here = rw add-zero at (w.here.each 0 (omega arith))

  -- its byte lies in the image, and its bit in that byte
  pub flag_inside : (base + start < length image) × (b < 8)
  flag_inside =
      let h : 8 * base + (8 * m.offset + b + 1) ≤ 8 * length image = rw (← w.is, bit_is) at member_here.inside in
      (omega (arith, w.place), row_bit members row b (ap (λ (x : Member). x.bit) (sym w.is) ∙ bit_is))

  flag_first : 8 * (base + start) + b ≡ 8 * base + first_bit (member_at members row)
  flag_first = rw (← w.is, bit_is) (omega (arith, w.place))

  chosen : is_flag (member_at members row) ≡ true
  unfolding is_flag
  chosen = rw (← w.is, w.flag) refl

  -- where the BOOL's bit was stored as bit k of those kept, the row's step is done
  pub flag_kept : {new : Bits} (k : ℕ) {r : ℕ} {v : Bool} (kept : Bits) → r ≡ k % 8
      → v ≡ flat image (8 * (base + start) + b) → new ≡ stamp (8 * (k / 8) + r) 1 (λ i. v) kept
      → new ≡ cond (is_flag (member_at members row))
      (stamp k 1 (from (8 * base + first_bit (member_at members row)) (flat image)) kept) kept
  flag_kept k {r} {v} kept e h f =
      rw chosen (f ∙ one_bit (8 * (k / 8) + r) k (8 * base + first_bit (member_at members row)) v (flat image) kept
      (omega arith) (h ∙ ap (flat image) flag_first))

  -- where bit k of those kept was stored as the BOOL's bit, the row's step is done
  pub flag_put : {new : Bits} (k : ℕ) {r : ℕ} {v : Bool} (kept : List ℕ) → r ≡ k % 8 → v ≡ flat kept (8 * (k / 8) + r)
      → new ≡ stamp (8 * (base + start) + b) 1 (λ i. v) (flat image)
      → new ≡ cond (is_flag (member_at members row))
      (stamp (8 * base + first_bit (member_at members row)) 1 (from k (flat kept)) (flat image)) (flat image)
  flag_put k {r} {v} kept e h f =
      let g : 8 * (k / 8) + r ≡ k = omega arith in
      rw chosen (f ∙ one_bit (8 * (base + start) + b) (8 * base + first_bit (member_at members row)) k v (flat kept)
      (flat image) flag_first (h ∙ ap (flat kept) g))

-- ---- the rows

-- where n rows lie in an image, each of them lies in any image of the same length
pub one_row : {members : List ℕ} {first n base : ℕ} {image : List ℕ} (k : ℕ) → RowsHere members first n base image
    → k < n → {new : List ℕ} → length new ≡ length image → RowsHere members (first + k) 1 base new
one_row {members} {first} {n} {base} {image} k h l {new} e =
    record {
      rows = omega (arith, h.rows);
      sizes = h.sizes;
      each = λ i s.
          let f : first + k + i ≡ first + k = omega arith in
          record { inside = rw (f, e) (h.each k l).inside };
    }

-- the BOOLs of the first k rows are kept
pub record Keeping (members : List ℕ) (first base : ℕ) (image kept : List ℕ) (k : ℕ) (new : List ℕ) : Type 0 where
  pub long : length new ≡ length kept
  pub each : (i : ℕ) → i < k → is_flag (member_at members (first + i)) ≡ true
      → flat new i ≡ flat image (8 * base + first_bit (member_at members (first + i)))

-- one row more, its BOOL kept where it has one
pub keeping_more : {members : List ℕ} {first base : ℕ} {image kept : List ℕ} {k : ℕ} {new : List ℕ} {newer : List ℕ}
    → Keeping members first base image kept k new → length newer ≡ length new
    → flat newer ≡ cond (is_flag (member_at members (first + k)))
    (stamp k 1 (from (8 * base + first_bit (member_at members (first + k))) (flat image)) (flat new)) (flat new)
    → Keeping members first base image kept (k + 1) newer
keeping_more {members} {first} {base} {image} {kept} {k} {new} {newer} a long e =
    record { long = long ∙ a.long; each = λ i l h. ap (λ (x : Bits). x i) e ∙ go i l h (dec_lt i k) }
  where
    go : (i : ℕ) → i < k + 1 → is_flag (member_at members (first + i)) ≡ true → Dec (i < k)
        → cond (is_flag (member_at members (first + k)))
        (stamp k 1 (from (8 * base + first_bit (member_at members (first + k))) (flat image)) (flat new)) (flat new) i
        ≡ flat image (8 * base + first_bit (member_at members (first + i)))
    go i l h (yes m) =
        cond_beside (is_flag (member_at members (first + k))) k i
        (from (8 * base + first_bit (member_at members (first + k))) (flat image)) (flat new) m ∙ a.each i m h
    go i l h (no m) =
        let f : i ≡ k = omega (arith, m) in
        cond_own (is_flag (member_at members (first + k))) k i (8 * base + first_bit (member_at members (first + k)))
        (flat image) (flat new) f (rw f at h)
        ∙ ap (λ (j : ℕ). flat image (8 * base + first_bit (member_at members (first + j)))) (sym f)

-- what is left after k rows comes to the whole
pub record PuttingFlags (members : List ℕ) (first n : ℕ) (b : Bits) (p : ℕ) (image : List ℕ) (k : ℕ) (new : List ℕ)
    : Type 0 where
  pub long : length new ≡ length image
  pub left : flagged b p k (members_at members (first + k) (n - k)) (flat new)
      ≡ flagged b p 0 (members_at members first n) (flat image)

flagged_first : (b : Bits) (p k : ℕ) (members : List ℕ) (row n : ℕ) (x : Bits)
    → flagged b p k (members_at members row (suc n)) x
    ≡ flagged b p (k + 1) (members_at members (row + 1) n) (cond (is_flag (member_at members row))
    (stamp (p + first_bit (member_at members row)) 1 (from k b) x) x)
unfolding members_at flagged
flagged_first b p k members row n x = let e : k + 1 ≡ suc k = omega arith in rw e refl

-- one row more, its BOOL put back where it has one
pub putting_more : {members : List ℕ} {first n : ℕ} {b : Bits} {p : ℕ} {image : List ℕ} {k : ℕ} {new : List ℕ}
    {newer : List ℕ} → PuttingFlags members first n b p image k new → k < n → length newer ≡ length new
    → flat newer ≡ cond (is_flag (member_at members (first + k)))
    (stamp (p + first_bit (member_at members (first + k))) 1 (from k b) (flat new)) (flat new)
    → PuttingFlags members first n b p image (k + 1) newer
putting_more {members} {first} {n} {b} {p} {image} {k} {new} {newer} a l long e =
    let f : suc (n - (k + 1)) ≡ n - k = omega arith in
    let g : first + k + 1 ≡ first + (k + 1) = omega arith in
    record {
      long = long ∙ a.long;
      left = ap (flagged b p (k + 1) (members_at members (first + (k + 1)) (n - (k + 1)))) e
          ∙ sym (rw (f, g) at (flagged_first b p k members (first + k) (n - (k + 1)) (flat new)))
          ∙ a.left;
    }

-- after the last row every BOOL is put back
pub putting_all : {members : List ℕ} {first n : ℕ} {b : Bits} {p : ℕ} {image : List ℕ} {k : ℕ} {new : List ℕ}
    → PuttingFlags members first n b p image k new → k ≡ n
    → flat new ≡ flagged b p 0 (members_at members first n) (flat image)
unfolding members_at flagged
putting_all {members} {first} {n} {b} {p} {image} {k} {new} a e =
    let f : n - k ≡ 0 = omega arith in
    rw f at a.left
