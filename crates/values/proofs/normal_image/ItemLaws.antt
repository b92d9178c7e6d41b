-- Items that share no bit (document 01, "Normal image"): a reading of the normal bits is the reading, two readings are
-- the same exactly when the normal bits are, and normalising again changes nothing.
use Prim.Native.Nat.{ℕ, ◌+◌, ◌-◌, ◌<◌, ◌≤◌}
use native.Mathlib.Omega.{arith}
use mathlib.Core.Path.{◌≡◌, refl, sym, ap, ap₂, ◌∙◌, fun_ext}
use mathlib.Core.Bool.{Bool, true, false, cond, ◌||◌, true≢false}
use mathlib.Core.List.{List, [], ◌∷◌}
use Rattle.words.specs.Bits.{Bits, from, inside}
use Rattle.words.proofs.BitLaws.{BitLies, among, beside, lies}
use Rattle.values.specs.inside.normal_image.Placed.{GoodLeaf}
use Rattle.values.specs.normal_image.Normal.{norm, held, normal}
use Rattle.values.specs.reading.Leaf.{Leaf, width, emit}
use Rattle.values.specs.reading.Tree.{Item, say, at, read}
use Rattle.values.specs.stream.Stream.{Token}
use Rattle.values.proofs.normal_image.NormalLaws.{emit_norm, emit_tells}

-- no bit of n bits from p on is held
abbrev pub HeldNowhere : ℕ → ℕ → List Item → Type 0
HeldNowhere p n is = (k : ℕ) → p ≤ k → k < p + n → held is k ≡ false

-- no two leaves share a bit
abbrev pub HeldApart : List Item → Type 0
HeldApart [] = Unit {0}
HeldApart (say e ∷ is) = HeldApart is
HeldApart (at p l ∷ is) = HeldNowhere p (width l) is × HeldApart is

-- each leaf is one that types have
abbrev pub AllGood : List Item → Type 0
AllGood [] = Unit {0}
AllGood (say e ∷ is) = AllGood is
AllGood (at p l ∷ is) = GoodLeaf l × AllGood is

-- ---- a reading sees nothing but the normal bits

first_normal : (p : ℕ) (l : Leaf) (is : List Item) (x y : Bits)
    → ((k : ℕ) → held (at p l ∷ is) k ≡ true → y k ≡ normal (at p l ∷ is) x k) → emit l (from p y) ≡ emit l (from p x)
unfolding held normal
first_normal p l is x y h = emit_norm l (from p x) (from p y) (λ k b. go k b (lies p (width l) (p + k)))
  where
    go : (k : ℕ) → k < width l → BitLies p (width l) (p + k) → y (p + k) ≡ norm l (from p x) k
    go k b (among u v e) =
        let q : p + k - p ≡ k = omega arith in
        h (p + k) (rw e refl) ∙ rw (e, q) refl
    go k b (beside f e) = absurd (f (omega arith) (omega arith))

rest_normal : (p : ℕ) (l : Leaf) (is : List Item) (x y : Bits) → HeldNowhere p (width l) is
    → ((k : ℕ) → held (at p l ∷ is) k ≡ true → y k ≡ normal (at p l ∷ is) x k)
    → (k : ℕ) → held is k ≡ true → y k ≡ normal is x k
unfolding held normal
rest_normal p l is x y a h k t = go (lies p (width l) k)
  where
    go : BitLies p (width l) k → y k ≡ normal is x k
    go (among u v e) = absurd (true≢false (sym t ∙ a k u v))
    go (beside f e) = h k (rw e t) ∙ rw e refl

read_normal : (is : List Item) (x y : Bits) → HeldApart is → ((k : ℕ) → held is k ≡ true → y k ≡ normal is x k)
    → read is y ≡ read is x
unfolding read held normal
read_normal [] x y a h = refl
read_normal (say e ∷ is) x y a h = ap (e ∷◌) (read_normal is x y a h)
read_normal (at p l ∷ is) x y (a, more) h =
    ap₂ ◌∷◌ (first_normal p l is x y h) (read_normal is x y more (rest_normal p l is x y a h))

-- every bit that is not held is zero
pub normal_unheld : (is : List Item) (x : Bits) (k : ℕ) → held is k ≡ false → normal is x k ≡ false
unfolding held normal
normal_unheld [] x k e = refl
normal_unheld (say d ∷ is) x k e = normal_unheld is x k e
normal_unheld (at p l ∷ is) x k e = go (inside p (width l) k) (normal_unheld is x k) e
  where
    go : (t : Bool) → (held is k ≡ false → normal is x k ≡ false) → (t || held is k) ≡ false
        → cond t (norm l (from p x) (k - p)) (normal is x k) ≡ false
    go true ih h = absurd (true≢false h)
    go false ih h = ih h

-- ---- and tells them all

head_same : {t u : Token} {ts us : List Token} → t ∷ ts ≡ u ∷ us → t ≡ u
head_same e = cc

tail_same : {t u : Token} {ts us : List Token} → t ∷ ts ≡ u ∷ us → ts ≡ us
tail_same e = cc

read_tells : (is : List Item) → AllGood is → (x y : Bits) → read is x ≡ read is y
    → (k : ℕ) → normal is x k ≡ normal is y k
unfolding read normal
read_tells [] g x y e k = refl
read_tells (say d ∷ is) g x y e k = read_tells is g x y (tail_same e) k
read_tells (at p l ∷ is) (g, more) x y e k =
    go (lies p (width l) k) (read_tells is more x y (tail_same e) k)
  where
    go : BitLies p (width l) k → normal is x k ≡ normal is y k
        → cond (inside p (width l) k) (norm l (from p x) (k - p)) (normal is x k)
        ≡ cond (inside p (width l) k) (norm l (from p y) (k - p)) (normal is y k)
    go (among u v q) ih =
        rw (q) (emit_tells l g (from p x) (from p y) (head_same e) (k - p) (omega arith))
    go (beside f q) ih = rw (q) ih

module _ (is : List Item) (apart : HeldApart is) (good : AllGood is) where
  read_of_normal : (x : Bits) → read is (normal is x) ≡ read is x
  read_of_normal x = read_normal is x (normal is x) apart (λ k h. refl)

  -- two readings are the same exactly when the normal bits are
  pub same_normal : (x y : Bits) → read is x ≡ read is y → normal is x ≡ normal is y
  same_normal x y e = fun_ext (λ k. read_tells is good x y e k)

  -- the same normal bits give the same reading
  pub same_read : (x y : Bits) → normal is x ≡ normal is y → read is x ≡ read is y
  same_read x y e = sym (read_of_normal x) ∙ ap (read is) e ∙ read_of_normal y

  -- normalising again changes nothing
  pub normal_twice : (x : Bits) → normal is (normal is x) ≡ normal is x
  normal_twice x = same_normal (normal is x) x (read_of_normal x)
