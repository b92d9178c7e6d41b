-- What is made normal depends on its own bits only (document 01, "Normal image"): a leaf, some items, a tree; and the
-- bits beside it stand.
use Prim.Native.Nat.{ℕ, ◌+◌, ◌-◌, ◌<◌}
use native.Mathlib.Omega.{arith}
use mathlib.Core.Path.{◌≡◌, refl, ap}
use mathlib.Core.Bool.{true, false, cond, or-true}
use mathlib.Core.List.{List, [], ◌∷◌, ◌++◌}
use Rattle.words.specs.Bits.{Bits, bit_of, digit, from, inside}
use Rattle.words.proofs.BitLaws.{BitLies, among, beside, lies, val_ext}
use Rattle.words.proofs.StampLaws.{yes_inside}
use Rattle.words.proofs.TestLaws.{or_first, or_second}
use Rattle.values.specs.inside.normal_image.InPlace.{made}
use Rattle.values.specs.normal_image.Normal.{held, norm, normal}
use Rattle.values.specs.reading.Leaf.{Leaf, flag, byte, int, word, str, is_true, width}
use Rattle.values.specs.reading.Tree.{Item, say, at, Tree, between, items, span}
use Rattle.values.specs.stream.Stream.{mark}
use Rattle.values.proofs.normal_image.ItemLaws.{normal_unheld}

-- ---- locality

norm_local : (l : Leaf) (b c : Bits) → ((k : ℕ) → k < width l → b k ≡ c k) → (k : ℕ) → k < width l
    → norm l b k ≡ norm l c k
norm_local flag b c h k l = h k l
norm_local byte b c h k l = ap (λ (v : ℕ). bit_of (digit (is_true v)) k) (val_ext 8 b c h)
norm_local (int n) b c h k l = h k l
norm_local (word kind n) b c h k l = h k l
norm_local (str m) b c h k l = rw (val_ext 32 b c (λ j q. h j (omega arith)), h k l) refl

-- the normal bits of some items depend on the bits that they hold only
pub normal_local : (is : List Item) (x y : Bits) → ((k : ℕ) → held is k ≡ true → x k ≡ y k) → (k : ℕ)
    → normal is x k ≡ normal is y k
unfolding held normal
normal_local [] x y h k = refl
normal_local (say e ∷ is) x y h k = normal_local is x y h k
normal_local (at p l ∷ is) x y h k =
    go (lies p (width l) k) (normal_local is x y (λ j t. h j (rw t (or-true (inside p (width l) j)))) k)
  where
    own : (j : ℕ) → j < width l → x (p + j) ≡ y (p + j)
    own j q = h (p + j) (rw (yes_inside p (width l) (p + j) (omega arith) (omega arith)) refl)

    go : BitLies p (width l) k → normal is x k ≡ normal is y k
        → cond (inside p (width l) k) (norm l (from p x) (k - p)) (normal is x k)
        ≡ cond (inside p (width l) k) (norm l (from p y) (k - p)) (normal is y k)
    go (among u v e) ih = rw e (norm_local l (from p x) (from p y) own (k - p) (omega arith))
    go (beside f e) ih = rw e ih

-- ---- items after items

-- a bit that the second ones do not hold
pub normal_first : (a b : List Item) (x : Bits) (k : ℕ) → held b k ≡ false → normal (a ++ b) x k ≡ normal a x k
unfolding normal
normal_first [] b x k h = normal_unheld b x k h
normal_first (say e ∷ a) b x k h = normal_first a b x k h
normal_first (at p l ∷ a) b x k h =
    ap (cond (inside p (width l) k) (norm l (from p x) (k - p))) (normal_first a b x k h)

-- one that the first ones do not hold
pub normal_second : (a b : List Item) (x : Bits) (k : ℕ) → held a k ≡ false → normal (a ++ b) x k ≡ normal b x k
unfolding held normal
normal_second [] b x k h = refl
normal_second (say e ∷ a) b x k h = normal_second a b x k h
normal_second (at p l ∷ a) b x k h =
    rw (or_first (inside p (width l) k) (held a k) h)
    (normal_second a b x k (or_second (inside p (width l) k) (held a k) h))

-- brackets around some items change no normal bit
pub normal_around : (start stop : ℕ) (is : List Item) (x : Bits) (k : ℕ)
    → normal (between start stop is) x k ≡ normal is x k
unfolding held normal
normal_around start stop is x k = normal_first is (say (mark stop) ∷ []) x k refl

-- ---- a tree

-- a bit of the tree becomes its normal bit
pub made_inside : (t : Tree) (p : ℕ) (x : Bits) (k : ℕ) → inside p (span t) k ≡ true
    → made t p x k ≡ normal (items t p) x k
unfolding made
made_inside t p x k e = rw e refl

-- a bit beside the tree stands
pub made_beside : (t : Tree) (p : ℕ) (x : Bits) (k : ℕ) → inside p (span t) k ≡ false → made t p x k ≡ x k
unfolding made
made_beside t p x k e = rw e refl
