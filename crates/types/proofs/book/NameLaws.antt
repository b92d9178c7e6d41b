-- Laws of names: equality without case goes by the small letters, one byte after the other; the rule goes byte by byte.
use Prim.Native.Nat.{ℕ, zero, suc, ◌+◌, ◌-◌, ◌≤◌, ◌<◌}
use Rattle.std.specs.Char.{to_ascii_lowercase}
use Rattle.std.proofs.lemmas.Str.Ascii.{lowercase_is}
use native.Mathlib.Decide.{dec_lt}
use native.Mathlib.Omega.{arith}
use mathlib.Core.Path.{◌≡◌, refl, sym, ap, ◌∙◌}
use mathlib.Core.Bool.{Bool, true, false, ◌&&◌, not}
use mathlib.Core.List.{List, [], ◌∷◌, map}
use borrow.Author.Tests.{eq-eqb, ne_eqb, eqb-true, le-leb, lt-leb, leb-true}
use lib.Dec.{eqb, leb}
use lib.ListN.{length, get_or}
use Rattle.words.proofs.TestLaws.{and_left, and_right, and_off}
use Rattle.types.specs.book.Names.{lower_of, same_name, name_byte, name_bytes, good_name}

-- ---- small letters

-- a byte below A stays as it is
pub lower_below : (x : ℕ) → x < 65 → x ≡ lower_of x
unfolding lower_of
lower_below x h = simp (lt-leb 65 x h)

-- a byte from A to Z becomes its small letter, 32 higher
pub lower_capital : (x : ℕ) → 65 ≤ x → x ≤ 90 → x + 32 ≡ lower_of x
unfolding lower_of
lower_capital x h k = simp (le-leb 65 x h, le-leb x 90 k)

-- a byte above Z stays as it is
pub lower_above : (x : ℕ) → 65 ≤ x → 90 < x → x ≡ lower_of x
unfolding lower_of
lower_above x h k = simp (le-leb 65 x h, lt-leb x 90 k)

-- std's small letter of a byte is that small letter
pub lower_is : (x : ℕ) → to_ascii_lowercase x ≡ lower_of x
lower_is x = go (dec_lt x 65) (dec_lt 90 x)
  where
    go : Dec (x < 65) → Dec (90 < x) → to_ascii_lowercase x ≡ lower_of x
    go (yes a) o = (lowercase_is x).1 a ∙ lower_below x a
    go (no a) (yes b) = (lowercase_is x).2 b ∙ lower_above x (omega (arith, a)) b
    go (no a) (no b) =
        let least : 65 ≤ x = omega (arith, a) in
        let most : x ≤ 90 = omega (arith, b) in
        (lowercase_is x).0 (least, most) ∙ lower_capital x least most

-- ---- equality without case

same_on : (x y : ℕ) (xs ys : List ℕ) → lower_of x ≡ lower_of y → same_name (x ∷ xs) (y ∷ ys) ≡ same_name xs ys
unfolding same_name
same_on x y xs ys e = simp (eq-eqb _ _ e)

same_off : (x y : ℕ) (xs ys : List ℕ) → (lower_of x ≡ lower_of y → ⊥) → same_name (x ∷ xs) (y ∷ ys) ≡ false
unfolding same_name
same_off x y xs ys e = simp (ne_eqb _ _ e)

-- names of two lengths differ
pub same_long : (xs ys : List ℕ) → (length xs ≡ length ys → ⊥) → same_name xs ys ≡ false
unfolding same_name
same_long [] [] n = absurd (n refl)
same_long [] (y ∷ ys) n = refl
same_long (x ∷ xs) [] n = refl
same_long (x ∷ xs) (y ∷ ys) n =
    and_off (eqb (lower_of x) (lower_of y)) (same_name xs ys) (same_long xs ys (λ e. n (ap suc e)))

-- the test says that the small letters are equal, and is passed where they are
same_head : (u v : ℕ) (xs ys : List ℕ) → (same_name xs ys ≡ true → map lower_of xs ≡ map lower_of ys) → (b : Bool)
    → eqb u v ≡ b
    → (b && same_name xs ys) ≡ true → ◌≡◌ {A = List ℕ} (u ∷ map lower_of xs) (v ∷ map lower_of ys)
same_head u v xs ys rest true p q =
    let h : u ≡ v = eqb-true _ _ p in
    let t : map lower_of xs ≡ map lower_of ys = rest q in
    cc
same_head u v xs ys rest false p q = cc

-- names that are the same have the same small letters
pub same_lower : (xs ys : List ℕ) → same_name xs ys ≡ true → map lower_of xs ≡ map lower_of ys
unfolding same_name
same_lower [] [] e = refl
same_lower [] (y ∷ ys) e = let z : ◌≡◌ {A = List ℕ} [] (map lower_of (y ∷ ys)) = cc in z
same_lower (x ∷ xs) [] e = let z : ◌≡◌ {A = List ℕ} (map lower_of (x ∷ xs)) [] = cc in z
same_lower (x ∷ xs) (y ∷ ys) e =
    same_head (lower_of x) (lower_of y) xs ys (same_lower xs ys) (eqb (lower_of x) (lower_of y)) refl e

-- names with the same small letters are the same
pub lower_same : (xs ys : List ℕ) → map lower_of xs ≡ map lower_of ys → same_name xs ys ≡ true
unfolding same_name
lower_same [] [] e = refl
lower_same [] (y ∷ ys) e = let z : false ≡ true = cc in z
lower_same (x ∷ xs) [] e = let z : false ≡ true = cc in z
lower_same (x ∷ xs) (y ∷ ys) e =
    let e' : lower_of x ∷ map lower_of xs ≡ lower_of y ∷ map lower_of ys = e in
    let h : lower_of x ≡ lower_of y = cc in
    let t : map lower_of xs ≡ map lower_of ys = cc in
    same_on x y xs ys h ∙ lower_same xs ys t

-- names are the same where each byte is
same_each : (xs ys : List ℕ) → length xs ≡ length ys
    → ((j : ℕ) → j < length xs → lower_of (get_or xs j 0) ≡ lower_of (get_or ys j 0)) → same_name xs ys ≡ true
unfolding same_name
same_each [] [] l e = refl
same_each [] (y ∷ ys) l e = absurd (let z : ⊥ = omega arith in z)
same_each (x ∷ xs) [] l e = absurd (let z : ⊥ = omega arith in z)
same_each (x ∷ xs) (y ∷ ys) l e =
    same_on x y xs ys (e 0 (omega arith)) ∙ same_each xs ys (omega arith) (λ j h. e (suc j) (omega arith))

-- and differ where one does
same_not : (xs ys : List ℕ) (j : ℕ) → j < length xs → j < length ys
    → (lower_of (get_or xs j 0) ≡ lower_of (get_or ys j 0) → ⊥) → same_name xs ys ≡ false
unfolding same_name
same_not [] ys j l m e = absurd (let z : ⊥ = omega arith in z)
same_not (x ∷ xs) [] j l m e = absurd (let z : ⊥ = omega arith in z)
same_not (x ∷ xs) (y ∷ ys) zero l m e = same_off x y xs ys e
same_not (x ∷ xs) (y ∷ ys) (suc j) l m e =
    and_off (eqb (lower_of x) (lower_of y)) (same_name xs ys) (same_not xs ys j (omega arith) (omega arith) e)

-- two names of one length have the same bytes from the i-th on
pub record SameFrom (a b : List ℕ) (i : ℕ) : Type 0 where
  pub inside : i ≤ length a
  pub long : length a ≡ length b
  pub same : (j : ℕ) → i ≤ j → j < length a → lower_of (get_or a j 0) ≡ lower_of (get_or b j 0)

-- two names of one length have the same bytes from their end on
pub from_end : {a b : List ℕ} → length a ≡ length b → SameFrom a b (length a)
from_end {a} {b} e =
    record { inside = omega arith; long = e; same = λ j l h. absurd (let z : ⊥ = omega arith in z) }

module _ {a b : List ℕ} {i : ℕ} (s : SameFrom a b i) where
  -- where the byte before is the same too, the bytes are the same from that one on
  pub from_less : 0 < i → lower_of (get_or a (i - 1) 0) ≡ lower_of (get_or b (i - 1) 0) → SameFrom a b (i - 1)
  from_less l e =
      record { inside = omega (arith, s.inside); long = s.long; same = λ j h m. go j h m (dec_lt j i) }
    where
      go : (j : ℕ) → i - 1 ≤ j → j < length a → Dec (j < i) → lower_of (get_or a j 0) ≡ lower_of (get_or b j 0)
      go j h m (yes o) =
          let q : j ≡ i - 1 = omega arith in
          rw q e
      go j h m (no o) = s.same j (omega (arith, o)) m

  -- where the byte before differs, the names differ
  pub from_not : 0 < i → (lower_of (get_or a (i - 1) 0) ≡ lower_of (get_or b (i - 1) 0) → ⊥) → same_name a b ≡ false
  from_not l e = same_not a b (i - 1) (omega (arith, s.inside)) (omega (arith, s.inside, s.long)) e

  -- two names with the same bytes from the first on are the same
  pub from_first : i ≤ 0 → same_name a b ≡ true
  from_first l = same_each a b s.long (λ j h. s.same j (omega arith) h)

-- ---- the rule

-- a byte below 0x21 is not allowed in a name
pub byte_below : (x : ℕ) → x < 0x21 → false ≡ name_byte x
unfolding name_byte
byte_below x h = simp (lt-leb 0x21 x h)

-- a byte above 0x7E is not allowed in a name
pub byte_above : (x : ℕ) → 0x21 ≤ x → 0x7E < x → false ≡ name_byte x
unfolding name_byte
byte_above x h k = simp (le-leb 0x21 x h, lt-leb x 0x7E k)

-- a byte from 0x21 to 0x7E is allowed in a name where it is not `;`
pub byte_within : (x : ℕ) → 0x21 ≤ x → x ≤ 0x7E → not (eqb x 59) ≡ name_byte x
unfolding name_byte
byte_within x h k = simp (le-leb 0x21 x h, le-leb x 0x7E k)

-- where all bytes of a name are allowed, each is
bytes_each : (s : List ℕ) → name_bytes s ≡ true → (k : ℕ) → k < length s → name_byte (get_or s k 0) ≡ true
unfolding name_bytes
bytes_each [] q k h = absurd (let z : ⊥ = omega arith in z)
bytes_each (x ∷ xs) q zero h = and_left (name_byte x) (name_bytes xs) q
bytes_each (x ∷ xs) q (suc k) h = bytes_each xs (and_right (name_byte x) (name_bytes xs) q) k (omega arith)

-- where each byte of a name is allowed, all are
each_bytes : (s : List ℕ) → ((k : ℕ) → k < length s → name_byte (get_or s k 0) ≡ true) → name_bytes s ≡ true
unfolding name_bytes
each_bytes [] e = refl
each_bytes (x ∷ xs) e = rw (e 0 (omega arith)) (each_bytes xs (λ k h. e (suc k) (omega arith)))

-- a test that is passed where each byte of a name is allowed says whether all are
pub bytes_tested : (s : List ℕ) (b : Bool)
    → (b ≡ true → (k : ℕ) → k < length s → name_byte (get_or s k 0) ≡ true)
    → (((k : ℕ) → k < length s → name_byte (get_or s k 0) ≡ true) → b ≡ true) → b ≡ name_bytes s
bytes_tested s true each some = sym (each_bytes s (each refl))
bytes_tested s false each some = go (name_bytes s) refl
  where
    go : (t : Bool) → name_bytes s ≡ t → false ≡ t
    go true q = some (bytes_each s q)
    go false q = refl

-- a name of no bytes is not good
pub good_empty : (s : List ℕ) → length s < 1 → false ≡ good_name s
unfolding good_name
good_empty s h = simp (lt-leb 1 (length s) h)

-- a name of more than 40 bytes is not good
pub good_long : (s : List ℕ) → 1 ≤ length s → 40 < length s → false ≡ good_name s
unfolding good_name
good_long s h k = simp (le-leb 1 (length s) h, lt-leb (length s) 40 k)

-- a name of 1 to 40 bytes is good where each of its bytes is allowed
pub good_within : (s : List ℕ) → 1 ≤ length s → length s ≤ 40 → name_bytes s ≡ good_name s
unfolding good_name
good_within s h k = simp (le-leb 1 (length s) h, le-leb (length s) 40 k)

-- what a good name has
pub record NameRule (s : List ℕ) : Type 0 where
  pub least : 1 ≤ length s
  pub most : length s ≤ 40
  pub bytes : name_bytes s ≡ true

-- a good name has 1 to 40 bytes, each of them allowed
pub name_rule : (s : List ℕ) → good_name s ≡ true → NameRule s
unfolding good_name
name_rule s q =
    let a = leb 1 (length s) in
    let b = leb (length s) 40 in
    let long = and_left (a && b) (name_bytes s) q in
    record {
      least = leb-true _ _ (and_left a b long);
      most = leb-true _ _ (and_right a b long);
      bytes = and_right (a && b) (name_bytes s) q;
    }

-- a name of 1 to 40 bytes, each of them allowed, is good
pub rule_good : (s : List ℕ) → NameRule s → good_name s ≡ true
rule_good s r = sym (good_within s r.least r.most) ∙ r.bytes
