-- Leaves made normal in place (document 01, "Normal image"): a BOOL's byte, BOOLs one after another, the atomics that
-- are as they are, and a string.
use Prim.Native.Nat.{ℕ, zero, suc, ◌+◌, ◌-◌, ◌*◌, ◌/◌, ◌≤◌, ◌<◌, min}
use native.Mathlib.Nat.{add-zero, mul-one, suc-mul}
use native.Mathlib.Omega.{arith}
use mathlib.Core.Path.{◌≡◌, refl, sym, ap, ap₂, ◌∙◌, fun_ext}
use mathlib.Core.Bool.{Bool, true, false, cond, ◌&&◌}
use mathlib.Core.List.{List, [], ◌∷◌}
use lib.Dec.{eqb, ltb}
use lib.ListN.{length, get_or, set, replicate, length-set}
use lib.Seq.{sets, length-sets}
use borrow.Author.Tests.{lt-ltb, le-ltb}
use Rattle.words.specs.Bits.{Bits, bit_of, digit, flat, from, inside, stamp, val}
use Rattle.words.specs.Words.{Bytes, bytes_of, word_at}
use Rattle.words.proofs.BitLaws.{BitLies, among, beside, byte_val, flat_set, lies, word_val}
use Rattle.words.proofs.StampLaws.{flat_word}
use Rattle.words.proofs.ArithLaws.{past_range, before_range}
use Rattle.types.specs.atomics.Atomic.{bit_string, size_of}
use Rattle.types.specs.layout.Placing.{times}
use Rattle.types.specs.declared.atomics.atomic.Atomic.{Atomic}
use Rattle.types.specs.declared.atomics.atomic.Atomic.TheVariants as atomic
use Rattle.values.specs.inside.normal_image.InPlace.{cleared, each_made, made}
use Rattle.values.specs.inside.normal_image.Placed.{TreePlaced}
use Rattle.values.specs.normal_image.Normal.{norm, normal}
use Rattle.values.specs.reading.Leaf.{Leaf, flag, byte, str, width, is_true, clipped, leaf_of}
use Rattle.values.specs.reading.Tree.{Tree, leaf, bits, array, at, all_bits, each, items, one_flag, room, span}
use Rattle.values.specs.reading.Trees.{atomics_tree}
use Rattle.values.proofs.normal_image.ArrayMade.{array_made}
use Rattle.values.proofs.normal_image.MadeLaws.{normal_around}
use Rattle.values.proofs.reading.SpanLaws.{Many, one, some, many}
use Rattle.values.proofs.writing.ClearLaws.{zeros_cleared}

-- ---- a bit beside some others is after them, or before them

-- ---- atomics that are as they are

-- a tree whose normal bits are the image's
kept : (t : Tree) (p : ℕ) (x : Bits) → ((k : ℕ) → p ≤ k → k < p + span t → normal (items t p) x k ≡ x k)
    → made t p x ≡ x
unfolding made
kept t p x h = fun_ext (λ k. go k (lies p (span t) k))
  where
    go : (k : ℕ) → BitLies p (span t) k → cond (inside p (span t) k) (normal (items t p) x k) (x k) ≡ x k
    go k (among a b e) = rw e (h k a b)
    go k (beside f e) = rw e refl

-- a leaf that is as it is, alone or many times
module _ (l : Leaf) (same : (b : Bits) (k : ℕ) → norm l b k ≡ b k) where
  each_kept : (n p : ℕ) (x : Bits) (k : ℕ) → p ≤ k → k < p + n * width l
      → normal (each n (λ q. at q l ∷ []) (width l) p) x k ≡ x k
  unfolding each normal
  each_kept zero p x k a b = absurd (let z : ⊥ = omega arith in z)
  each_kept (suc n) p x k a b = go (lies p (width l) k) (λ c d. each_kept n (p + width l) x k c d)
    where
      go : BitLies p (width l) k
          → (p + width l ≤ k → k < p + width l + n * width l
          → normal (each n (λ q. at q l ∷ []) (width l) (p + width l)) x k ≡ x k)
          → cond (inside p (width l) k) (norm l (from p x) (k - p))
          (normal (each n (λ q. at q l ∷ []) (width l) (p + width l)) x k)
          ≡ x k
      go (among u v e) rest = let j : p + (k - p) ≡ k = omega arith in rw e (same (from p x) (k - p) ∙ ap x j)
      go (beside f e) rest =
          let past : p + width l ≤ k = past_range p (width l) k a f in
          rw e (rest past (omega (arith, suc-mul n (width l))))

  leaf_kept : room l ≡ width l → (p : ℕ) (x : Bits) → made (leaf l) p x ≡ x
  unfolding items span normal
  leaf_kept full p x = kept (leaf l) p x (λ k a b. go k a (lies p (width l) k) (rw full at b))
    where
      go : (k : ℕ) → p ≤ k → BitLies p (width l) k → k < p + width l
          → cond (inside p (width l) k) (norm l (from p x) (k - p)) false ≡ x k
      go k a (among u v e) b = let j : p + (k - p) ≡ k = omega arith in rw e (same (from p x) (k - p) ∙ ap x j)
      go k a (beside f e) b = absurd (f a b)

  array_kept : room l ≡ width l → (n p : ℕ) (x : Bits) → made (array n (leaf l)) p x ≡ x
  unfolding items span
  array_kept full n p x =
      kept (array n (leaf l)) p x
      (λ k a b. normal_around 10 11 (each n (items (leaf l)) (room l) p) x k
      ∙ rw full (each_kept n p x k a (rw full at b)))

bits_kept : (w n p : ℕ) (x : Bits) → made (bits w n) p x ≡ x
unfolding items span
bits_kept w n p x =
    kept (bits w n) p x
    (λ k a b. normal_around 10 11 (each (all_bits w n) one_flag 1 p) x k
    ∙ each_kept flag (λ y j. refl) (all_bits w n) p x k a (rw (mul-one (all_bits w n)) b))

-- the leaves of the atomics hold all the bits that they take, and all but BOOL's are as they are
full_leaf : (a : Atomic) → room (leaf_of a) ≡ width (leaf_of a)
full_leaf atomic.Bool = refl
full_leaf atomic.SInt = refl
full_leaf atomic.Int = refl
full_leaf atomic.DInt = refl
full_leaf atomic.LInt = refl
full_leaf atomic.USInt = refl
full_leaf atomic.UInt = refl
full_leaf atomic.UDInt = refl
full_leaf atomic.ULInt = refl
full_leaf atomic.Real = refl
full_leaf atomic.LReal = refl
full_leaf atomic.Byte = refl
full_leaf atomic.Word = refl
full_leaf atomic.DWord = refl
full_leaf atomic.LWord = refl

same_leaf : (a : Atomic) → (a ≡ atomic.Bool → ⊥) → (b : Bits) (k : ℕ) → norm (leaf_of a) b k ≡ b k
same_leaf atomic.Bool other b k = absurd (other refl)
same_leaf atomic.SInt other b k = refl
same_leaf atomic.Int other b k = refl
same_leaf atomic.DInt other b k = refl
same_leaf atomic.LInt other b k = refl
same_leaf atomic.USInt other b k = refl
same_leaf atomic.UInt other b k = refl
same_leaf atomic.UDInt other b k = refl
same_leaf atomic.ULInt other b k = refl
same_leaf atomic.Real other b k = refl
same_leaf atomic.LReal other b k = refl
same_leaf atomic.Byte other b k = refl
same_leaf atomic.Word other b k = refl
same_leaf atomic.DWord other b k = refl
same_leaf atomic.LWord other b k = refl

-- any but a BOOL is as it is
pub atomics_kept : (a : Atomic) → (a ≡ atomic.Bool → ⊥) → (n p : ℕ) (x : Bits) → made (atomics_tree a n) p x ≡ x
unfolding atomics_tree
atomics_kept a other n p x = go (bit_string a) (eqb n 0)
  where
    go : (b c : Bool)
        → made (cond b (bits (8 * size_of a) n) (cond c (leaf (leaf_of a)) (array n (leaf (leaf_of a))))) p x ≡ x
    go true c = bits_kept (8 * size_of a) n p x
    go false true = leaf_kept (leaf_of a) (same_leaf a other) (full_leaf a) p x
    go false false = array_kept (leaf_of a) (same_leaf a other) (full_leaf a) n p x

-- ---- BOOLs outside structures

-- one byte
byte_made : (image : List ℕ) (i : ℕ) {x y : ℕ} → i < length image → x ≡ get_or image i 0 → x < 256
    → y ≡ digit (is_true x) → flat (set image i y) ≡ made (leaf byte) (8 * i) (flat image)
unfolding stamp made items span normal
byte_made image i {x} {y} l e small d =
    flat_set image i y l ∙ fun_ext (λ k. go k (lies (8 * i) 8 k))
  where
    same : y ≡ digit (is_true (val 8 (from (8 * i) (flat image))))
    same = d ∙ ap (λ v. digit (is_true v)) (e ∙ sym (byte_val image i (omega arith)))

    go : (k : ℕ) → BitLies (8 * i) 8 k
        → cond (inside (8 * i) 8 k) (bit_of y (k - 8 * i)) (flat image k)
        ≡ cond (inside (8 * i) 8 k)
        (cond (inside (8 * i) 8 k) (bit_of (digit (is_true (val 8 (from (8 * i) (flat image))))) (k - 8 * i)) false)
        (flat image k)
    go k (among a b f) = rw f (ap (λ v. bit_of v (k - 8 * i)) same)
    go k (beside f g) = rw g refl

-- making all normal is making what is left normal in what stands now
pub record Booling (first : List ℕ) (base n : ℕ) (image : List ℕ) (k : ℕ) : Type 0 where
  pub inside : k ≤ n
  pub long : length image ≡ length first
  pub left : each_made n (made (leaf byte)) 8 (8 * base) (flat first)
      ≡ each_made (n - k) (made (leaf byte)) 8 (8 * (base + k)) (flat image)

-- before the first BOOL all are still to be made normal
pub bools_start : (image : List ℕ) (base n : ℕ) → Booling image base n image 0
bools_start image base n =
    let e : n - 0 ≡ n = omega arith in
    record { inside = omega arith; long = refl; left = rw (add-zero, e) refl }

-- one BOOL more: its byte is set to 1 where it is true, else to 0
pub bools_on : {first image : List ℕ} {base n k x y : ℕ} → Booling first base n image k → k < n
    → base + n ≤ length first → x ≡ get_or image (base + k) 0 → x < 256 → y ≡ digit (is_true x)
    → Booling first base n (set image (base + k) y) (k + 1)
unfolding each_made
bools_on {first} {image} {base} {n} {k} {x} {y} w h room e small d =
    let f : n - k ≡ suc (n - (k + 1)) = omega arith in
    let g : 8 * (base + k) + 8 ≡ 8 * (base + (k + 1)) = omega arith in
    record {
      inside = omega arith;
      long = length-set image (base + k) y ∙ w.long;
      left = w.left ∙ ap (λ m. each_made m (made (leaf byte)) 8 (8 * (base + k)) (flat image)) f
          ∙ ap₂ (λ p z. each_made (n - (k + 1)) (made (leaf byte)) 8 p z) g
          (sym (byte_made image (base + k) (omega (arith, w.long)) e small d));
    }

-- after the last BOOL all are made normal
pub bools_done : {first image : List ℕ} {base n k : ℕ} → Booling first base n image k → n ≤ k
    → flat image ≡ each_made n (made (leaf byte)) 8 (8 * base) (flat first)
unfolding each_made
bools_done {first} {image} {base} {n} {k} w h =
    let e : n - k ≡ 0 = omega arith in
    sym (w.left ∙ ap (λ m. each_made m (made (leaf byte)) 8 (8 * (base + k)) (flat image)) e)

-- n BOOLs have n bytes
pub bools_room : {a : Atomic} → a ≡ atomic.Bool → (n m base long : ℕ) → m ≡ times n
    → base + size_of a * times n ≤ long → base + m ≤ long
unfolding size_of
bools_room e n m base long d l = omega (arith, ap (λ b. size_of b * times n) e)

-- BOOLs made normal byte after byte are their tree made normal
pub bools_made : {a : Atomic} → a ≡ atomic.Bool → (n m p : ℕ) (x : Bits) → m ≡ times n
    → each_made m (made (leaf byte)) 8 p x ≡ made (atomics_tree a n) p x
unfolding atomics_tree each_made bit_string
bools_made e n m p x d = rw (e, d) (go (many n))
  where
    go : Many n
        → each_made (times n) (made (leaf byte)) 8 p x ≡ made (cond (eqb n 0) (leaf byte) (array n (leaf byte))) p x
    go (one b t) = rw (b, t) refl
    go (some b t) = rw (b, t) (unfold span TreePlaced in array_made n (leaf byte) p x tt)

-- ---- a string

module _ (capacity base n : ℕ) (image : List ℕ) where
  -- how many bytes DATA takes
  abbrev data_room : ℕ
  data_room = 4 * ((capacity + 3) / 4)

  -- LEN and zeros after the text
  abbrev stored : Bits
  stored =
      cleared (8 * (base + 4 + n)) (8 * (data_room - n)) (stamp (8 * base) 32 (bit_of n) (flat image))

  -- and what the tree says
  abbrev told : Bits
  told k =
      cond (inside (8 * base) (32 + 32 * ((capacity + 3) / 4)) k)
      (cond (inside (8 * base) (32 + 8 * capacity) k)
      (cond (ltb (k - 8 * base) 32) (bit_of n (k - 8 * base))
      (ltb (k - 8 * base - 32) (8 * n) && flat image (8 * base + (k - 8 * base)))) false)
      (flat image k)

  text_stored : base + (4 + data_room) ≤ length image → n ≤ capacity
      → flat (sets (sets image base (bytes_of 4 n)) (base + 4 + n) (replicate (data_room - n) 0)) ≡ stored
  text_stored l h =
      let head : List ℕ = sets image base (bytes_of 4 n) in
      let long : length head ≡ length image = length-sets image base (bytes_of 4 n) in
      zeros_cleared head (base + 4 + n) (data_room - n) (omega arith)
      ∙ ap (cleared (8 * (base + 4 + n)) (8 * (data_room - n))) (flat_word image base 4 n (omega arith))

  -- a bit of the text
  text_inner : n ≤ capacity → (k : ℕ) → inside (8 * base) (32 + 32 * ((capacity + 3) / 4)) k ≡ true
      → BitLies (8 * base) (32 + 8 * capacity) k → inside (8 * (base + 4 + n)) (8 * (data_room - n)) k ≡ false
      → inside (8 * base) 32 k ≡ false → 8 * base + 32 ≤ k → k < 8 * (base + 4 + n) → stored k ≡ told k
  unfolding stamp
  text_inner h k e (among v m w) g r low high =
      let j : 8 * base + (k - 8 * base) ≡ k = omega arith in
      rw (e, w, g, r, le-ltb (k - 8 * base) 32 (omega arith), lt-ltb (k - 8 * base - 32) (8 * n) (omega arith))
      (sym (ap (flat image) j))
  text_inner h k e (beside v w) g r low high = absurd (v (omega arith) (omega arith))

  -- a bit outside, in LEN, among the zeros, or in the text
  text_bit : n ≤ capacity → (k : ℕ)
      → BitLies (8 * base) (32 + 32 * ((capacity + 3) / 4)) k → BitLies (8 * base) (32 + 8 * capacity) k
      → BitLies (8 * (base + 4 + n)) (8 * (data_room - n)) k → BitLies (8 * base) 32 k
      → stored k ≡ told k
  unfolding stamp
  text_bit h k (beside f e) w (among a b g) d = absurd (f (omega arith) (omega arith))
  text_bit h k (beside f e) w (beside u g) (among a b d) = absurd (f (omega arith) (omega arith))
  text_bit h k (beside f e) w (beside u g) (beside v d) = rw (e, g, d) refl
  text_bit h k (among a b e) w (among c d g) (among p q r) = absurd (let z : ⊥ = omega arith in z)
  text_bit h k (among a b e) (beside v w) (beside u g) (among p q r) = absurd (v (omega arith) (omega arith))
  text_bit h k (among a b e) (among v m w) (beside u g) (among p q r) =
      rw (e, w, g, r, lt-ltb (k - 8 * base) 32 (omega arith)) refl
  text_bit h k (among a b e) (beside v w) (among c d g) (beside q r) =
      rw (e, w, g) refl
  text_bit h k (among a b e) (among v m w) (among c d g) (beside q r) =
      rw (e, w, g, le-ltb (k - 8 * base) 32 (omega arith), le-ltb (k - 8 * base - 32) (8 * n) (omega arith)) refl
  text_bit h k (among a b e) w (beside u g) (beside q r) =
      text_inner h k e w g r (past_range (8 * base) 32 k a q)
      (before_range (8 * (base + 4 + n)) (8 * (data_room - n)) k u (omega arith))

-- the two stores of the code, where n and m are the length of the text, and space the bytes of DATA
pub text_made : (capacity base n m space : ℕ) (image : List ℕ) {one new : List ℕ} → Bytes image
    → base + (4 + 4 * ((capacity + 3) / 4)) ≤ length image → n ≡ min (word_at 4 image base) capacity → m ≡ n
    → space ≡ 4 * ((capacity + 3) / 4) → one ≡ sets image base (bytes_of 4 n)
    → new ≡ sets one (base + 4 + m) (replicate (space - m) 0)
    → flat new ≡ made (leaf (str capacity)) (8 * base) (flat image)
unfolding made items span normal
text_made capacity base n m space image {one} {new} bytes l e d r first last =
    let p : ℕ = 8 * base in
    let whole : ℕ = 4 * ((capacity + 3) / 4) in
    let clip : n ≡ clipped capacity (from p (flat image)) =
    e ∙ ap (λ v. min v capacity) (word_val 4 image base bytes) in
    let both : new ≡ sets (sets image base (bytes_of 4 n)) (base + 4 + n) (replicate (whole - n) 0) =
    last ∙ rw (first, d, r) refl in
    ap flat both ∙ text_stored capacity base n image l (omega arith)
    ∙ fun_ext (λ k. rw (← clip) (text_bit capacity base n image (omega arith) k
    (lies p (32 + 32 * ((capacity + 3) / 4)) k) (lies p (32 + 8 * capacity) k)
    (lies (8 * (base + 4 + n)) (8 * (whole - n)) k) (lies p 32 k)))
