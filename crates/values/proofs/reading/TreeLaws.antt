-- Laws of trees (document 01, "Value stream", "Reading"): a tree is read the same wherever its bits stand, and depends
-- on the bits of its span alone where its branches lie inside, so that a part of an image is read by itself.
use Prim.Native.Nat.{ℕ, zero, suc, ◌+◌, ◌*◌, ◌≤◌, ◌<◌, min}
use native.Mathlib.Nat.{add_assoc, add-zero, mul-one, mul-suc, suc-mul}
use native.Mathlib.Omega.{arith}
use mathlib.Core.Path.{◌≡◌, refl, sym, ap, ap₂, ◌∙◌, fun_ext}
use mathlib.Core.List.{List, [], ◌∷◌, ◌++◌}
use lib.ListN.{length}
use lib.Seq.{drop-cons}
use Rattle.words.specs.Bits.{Bits, flat, from, val}
use Rattle.words.specs.Words.{Bytes, part}
use Rattle.words.proofs.BitLaws.{byte_val, val_ext, flat_part, from_from}
use Rattle.values.specs.inside.reading.Walk.{up_to, wrap}
use Rattle.values.specs.reading.Leaf.{Leaf, flag, byte, int, word, str, width, signed, is_true, chars, clipped}
use Rattle.values.specs.reading.Leaf.{emit}
use Rattle.values.specs.reading.Tree.{Tree, leaf, bits, array, struct, Branches, none, branch, room, all_bits}
use Rattle.values.specs.reading.Tree.{span, Item, say, at, each, between, one_flag, items, branch_items, read}
use Rattle.values.specs.stream.Stream.{Token, bool, number, text, member, mark}
use Rattle.values.proofs.normal_image.CharLaws.{chars_ext}
use Rattle.values.proofs.reading.UpLaws.{up_cons}

-- ---- reading some items

-- some items and others after them are read one after the other
pub read_append : (a b : List Item) (x : Bits) → read (a ++ b) x ≡ read a x ++ read b x
unfolding read
read_append [] b x = refl
read_append (say e ∷ a) b x = ap (e ∷◌) (read_append a b x)
read_append (at p l ∷ a) b x = ap (emit l (from p x) ∷◌) (read_append a b x)

-- items in brackets are read as their entries in brackets
pub read_between : (start stop : ℕ) (is : List Item) (x : Bits)
    → read (between start stop is) x ≡ wrap start stop (read is x)
unfolding read
read_between start stop is x = ap (mark start ∷◌) (read_append is (say (mark stop) ∷ []) x)

-- items in brackets, or after an entry, that read the same
between_same : (start stop : ℕ) (a b : List Item) (x y : Bits) → read a x ≡ read b y
    → read (between start stop a) x ≡ read (between start stop b) y
between_same start stop a b x y h =
    read_between start stop a x ∙ ap (wrap start stop) h ∙ sym (read_between start stop b y)

after_same : (e : Token) (a b c d : List Item) (x y : Bits) → read a x ≡ read b y → read c x ≡ read d y
    → read (say e ∷ (a ++ c)) x ≡ read (say e ∷ (b ++ d)) y
unfolding read
after_same e a b c d x y h k = rw (read_append a c x, read_append b d y, h, k)

none_same : (x y : Bits) → read [] x ≡ read [] y
unfolding read
none_same x y = refl

-- ---- a tree further on

leaf_shift : (l : Leaf) (p q : ℕ) (x : Bits) → read (at (p + q) l ∷ []) x ≡ read (at q l ∷ []) (from p x)
unfolding read
leaf_shift l p q x = ap (λ (b : Bits). emit l b ∷ []) (from_from p q x)

each_shift : (n : ℕ) (f : ℕ → List Item) (w p q : ℕ) (x : Bits)
    → ((r : ℕ) → read (f (p + r)) x ≡ read (f r) (from p x))
    → read (each n f w (p + q)) x ≡ read (each n f w q) (from p x)
unfolding each
each_shift zero f w p q x h = none_same x (from p x)
each_shift (suc n) f w p q x h =
    rw (
      add_assoc p q w,
      read_append (f (p + q)) (each n f w (p + (q + w))) x,
      read_append (f q) (each n f w (q + w)) (from p x),
    )
    (ap₂ ◌++◌ (h q) (each_shift n f w p (q + w) x h))

mutual
  unfolding items

  -- a tree at bit p + q is that tree at bit q of the bits from p on
  shift : (t : Tree) (p q : ℕ) (x : Bits) → read (items t (p + q)) x ≡ read (items t q) (from p x)
  shift (leaf l) p q x = leaf_shift l p q x
  shift (bits w n) p q x =
      between_same 10 11 (each (all_bits w n) one_flag 1 (p + q)) (each (all_bits w n) one_flag 1 q) x (from p x)
      (each_shift (all_bits w n) one_flag 1 p q x (λ r. leaf_shift flag p r x))
  shift (array n t) p q x =
      between_same 10 11 (each n (items t) (span t) (p + q)) (each n (items t) (span t) q) x (from p x)
      (each_shift n (items t) (span t) p q x (λ r. shift t p r x))
  shift (struct size bs) p q x =
      between_same 8 9 (branch_items bs (p + q)) (branch_items bs q) x (from p x) (shift_branches bs p q x)

  shift_branches : (bs : Branches) (p q : ℕ) (x : Bits)
      → read (branch_items bs (p + q)) x ≡ read (branch_items bs q) (from p x)
  shift_branches none p q x = none_same x (from p x)
  shift_branches (branch j o t bs) p q x =
      after_same (member j) (items t (p + q + o)) (items t (q + o)) (branch_items bs (p + q)) (branch_items bs q) x
      (from p x)
      (ap (λ (r : ℕ). read (items t r) x) (add_assoc p q o) ∙ shift t p (q + o) x) (shift_branches bs p q x)

-- ---- only the bits of its span matter

-- two images agree in the n bits from p on
abbrev pub Agree : ℕ → ℕ → Bits → Bits → Type 0
Agree p n x y = (k : ℕ) → p ≤ k → k < p + n → x k ≡ y k

-- a leaf gives what its bits say
emit_ext : (l : Leaf) (b c : Bits) → ((k : ℕ) → k < width l → b k ≡ c k) → emit l b ≡ emit l c
emit_ext flag b c h = ap bool (h 0 (omega arith))
emit_ext byte b c h = ap (λ (v : ℕ). bool (is_true v)) (val_ext 8 b c h)
emit_ext (int n) b c h = ap (λ (v : ℕ). number 2 (signed n v)) (val_ext n b c h)
emit_ext (word kind n) b c h = ap (number kind) (val_ext n b c h)
emit_ext (str capacity) b c h =
    let e : val 32 b ≡ val 32 c = val_ext 32 b c (λ k l. h k (omega arith)) in
    ap (λ (v : ℕ). text (chars (min v capacity) (from 32 b))) e
    ∙ ap text (chars_ext (clipped capacity c) (from 32 b) (from 32 c) (λ k l. h (32 + k) (omega arith)))

-- a leaf takes at least the bits that it holds
pub width_room : (l : Leaf) → width l ≤ room l
width_room flag = omega arith
width_room byte = omega arith
width_room (int n) = omega arith
width_room (word kind n) = omega arith
width_room (str capacity) = omega arith

unfoldable mutual
  -- the branches of each structure in a tree lie inside it
  pub Inside : Tree → Type 0
  Inside (leaf l) = Unit {0}
  Inside (bits w n) = Unit {0}
  Inside (array n t) = Inside t
  Inside (struct size bs) = AllInside size bs

  -- each branch of a list ends within a size, and so on inside it
  pub AllInside : ℕ → Branches → Type 0
  AllInside size none = Unit {0}
  AllInside size (branch j o t bs) = Inside t × ((o + span t ≤ size) × AllInside size bs)

leaf_alike : (l : Leaf) (p : ℕ) (x y : Bits) → Agree p (width l) x y → read (at p l ∷ []) x ≡ read (at p l ∷ []) y
unfolding read
leaf_alike l p x y h =
    ap (λ (e : Token). e ∷ []) (emit_ext l (from p x) (from p y) (λ k w. h (p + k) (omega arith) (omega arith)))

each_alike : (n : ℕ) (f : ℕ → List Item) (w p : ℕ) (x y : Bits)
    → ((q : ℕ) → Agree q w x y → read (f q) x ≡ read (f q) y) → Agree p (n * w) x y
    → read (each n f w p) x ≡ read (each n f w p) y
unfolding each
each_alike zero f w p x y g h = none_same x y
each_alike (suc n) f w p x y g h =
    let e : suc n * w ≡ n * w + w = suc-mul n w in
    read_append (f p) (each n f w (p + w)) x
    ∙ ap₂ ◌++◌ (g p (λ k a b. h k a (omega arith)))
    (each_alike n f w (p + w) x y g (λ k a b. h k (omega arith) (omega arith)))
    ∙ sym (read_append (f p) (each n f w (p + w)) y)

mutual
  unfolding items span Inside

  alike : (t : Tree) (p : ℕ) (x y : Bits) → Inside t → Agree p (span t) x y
      → read (items t p) x ≡ read (items t p) y
  alike (leaf l) p x y i h = leaf_alike l p x y (λ k a b. h k a (omega (arith, width_room l)))
  alike (bits w n) p x y i h =
      between_same 10 11 (each (all_bits w n) one_flag 1 p) (each (all_bits w n) one_flag 1 p) x y
      (each_alike (all_bits w n) one_flag 1 p x y (λ q g. leaf_alike flag q x y g)
      (λ k a b. h k a (omega (arith, mul-one (all_bits w n)))))
  alike (array n t) p x y i h =
      between_same 10 11 (each n (items t) (span t) p) (each n (items t) (span t) p) x y
      (each_alike n (items t) (span t) p x y (λ q g. alike t q x y i g) h)
  alike (struct size bs) p x y i h =
      between_same 8 9 (branch_items bs p) (branch_items bs p) x y (alike_branches bs size p x y i h)

  alike_branches : (bs : Branches) (size p : ℕ) (x y : Bits) → AllInside size bs → Agree p size x y
      → read (branch_items bs p) x ≡ read (branch_items bs p) y
  alike_branches none size p x y i h = none_same x y
  alike_branches (branch j o t bs) size p x y i h =
      after_same (member j) (items t (p + o)) (items t (p + o)) (branch_items bs p) (branch_items bs p) x y
      (alike t (p + o) x y i.0 (λ k a b. h k (omega arith) (omega (arith, i.1.0))))
      (alike_branches bs size p x y i.1.1 h)

-- ---- a part of an image

-- a tree at a byte is read from the part that begins there
pub part_read : (t : Tree) (image : List ℕ) (a n : ℕ) → Inside t → span t ≤ 8 * n
    → read (items t 0) (flat (part image a n)) ≡ read (items t (8 * a)) (flat image)
part_read t image a n i h =
    alike t 0 (flat (part image a n)) (from (8 * a) (flat image)) i (λ k u v. flat_part image a n k (omega arith))
    ∙ sym (shift t (8 * a) 0 (flat image)) ∙ ap (λ (p : ℕ). read (items t p) (flat image)) (add-zero (8 * a))

-- n bytes of an image are a part of it
pub chars_part : (n : ℕ) (s : List ℕ) (a : ℕ) → Bytes s → a + n ≤ length s
    → chars n (from (8 * a) (flat s)) ≡ part s a n
unfolding chars part
chars_part zero s a b h = refl
chars_part (suc n) s a b h =
    let e : from 8 (from (8 * a) (flat s)) ≡ from (8 * suc a) (flat s) = fun_ext (λ k. ap (flat s) (omega arith)) in
    rw (e, drop-cons s a 0 (omega arith)) (ap₂ ◌∷◌ (byte_val s a (b a)) (chars_part n s (suc a) b (omega arith)))

-- ---- runs

-- a run of items is read as a run of entries, each of its elements where it stands
pub each_up : (n : ℕ) (f : ℕ → List Item) (w p : ℕ) (x : Bits)
    → read (each n f w p) x ≡ up_to (λ k. read (f (p + w * k)) x) n
unfolding each
each_up zero f w p x = unfold read up_to in refl
each_up (suc n) f w p x =
    let next : (k : ℕ) → p + w + w * k ≡ p + w * suc k = λ k. omega (arith, mul-suc w k) in
    read_append (f p) (each n f w (p + w)) x
    ∙ ap₂ ◌++◌ (ap (λ (q : ℕ). read (f q) x) (omega arith))
    (each_up n f w (p + w) x
    ∙ ap (λ (g : ℕ → List Token). up_to g n) (fun_ext (λ k. ap (λ (q : ℕ). read (f q) x) (next k))))
    ∙ sym (up_cons (λ k. read (f (p + w * k)) x) n)
