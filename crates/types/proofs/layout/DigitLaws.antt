-- Laws of decimal digits and of hosts' names: a number's digits, stored from the last one on; three writes that are one
-- name.
use Prim.Native.Nat.{ℕ, zero, suc, ◌+◌, ◌-◌, ◌/◌, ◌%◌, ◌^◌, ◌≤◌, ◌<◌, min}
use native.Mathlib.Decide.{dec_lt}
use native.Mathlib.Nat.{pow-suc}
use native.Mathlib.Omega.{arith}
use mathlib.Core.Path.{◌≡◌, refl, sym, ap, ◌∙◌}
use mathlib.Core.Bool.{Bool, true, false, cond}
use mathlib.Core.List.{List, [], ◌∷◌, ◌++◌, append_assoc, append-nil}
use borrow.Author.Tests.{lt-ltb, le-ltb}
use lib.Dec.{ltb}
use lib.ListN.{length, set, take, drop, replicate, length-append, length-drop, length-set, length-take}
use lib.Seq.{sets}
use Rattle.words.proofs.Lists.{drop_set, rest_lent, sets_append, take_least}
use Rattle.types.specs.inside.layout.Decimals.{Spelt, TwoDigits}
use Rattle.types.specs.layout.HostNames.{digits_in, digits, ten_z, host_name, bit_host, bit_host_name}
use Rattle.types.specs.declared.layout.decimals.Decimal.{Decimal}

-- the byte of a number's last digit
abbrev pub digit_of : ℕ → ℕ
digit_of x = 48 + x % 10

-- the digits of a number from 10 on are those of its tenth, then its last
pub more : (n x : ℕ) → 10 ≤ x → digits_in (suc n) x ≡ digits_in n (x / 10) ++ (digit_of x ∷ [])
unfolding digits_in
more n x h = simp (le-ltb x 10 h)

-- a number below 10 has one digit, however many are allowed
pub one : (n x : ℕ) → x < 10 → digits_in (suc n) x ≡ digit_of x ∷ []
unfolding digits_in
one n x h =
    let e : x % 10 ≡ x = omega arith in
    simp (lt-ltb x 10 h, e)

-- there are at most as many digits as are allowed
pub digits_most : (n x : ℕ) → length (digits_in n x) ≤ n
unfolding digits_in
digits_most zero x = omega arith
digits_most (suc n) x =
    fork (ltb x 10) ((48 + x) ∷ []) (digits_in n (x / 10) ++ ((48 + x % 10) ∷ [])) (omega arith)
    (simp length-append (omega (arith, digits_most n (x / 10))))
  where
    fork : (b : Bool) (s t : List ℕ) → length s ≤ suc n → length t ≤ suc n → length (cond b s t) ≤ suc n
    fork true s t h k = h
    fork false s t h k = k

-- a number below 10 ^ m, with m above 0, has at most m digits
pub digits_few : (m n x : ℕ) → x < 10 ^ suc m → length (digits_in n x) ≤ suc m
digits_few m zero x h = omega (arith, digits_most 0 x)
digits_few zero (suc n) x h = rw (one n x (omega arith)) (omega arith)
digits_few (suc m) (suc n) x h =
    go (dec_lt x 10) (digits_few m n (x / 10) (omega (arith, pow-suc 10 (suc m))))
  where
    go : Dec (x < 10) → length (digits_in n (x / 10)) ≤ suc m → length (digits_in (suc n) x) ≤ suc (suc m)
    go (yes l) t = rw (one n x l) (omega arith)
    go (no l) t = rw (more n x (omega (arith, l))) (simp length-append (omega arith))

-- ---- a number's digits, stored from the last one on

-- of the digits of x, those of y are left for the places up to `from`
pub record Spelling (x : ℕ) (bytes : List ℕ) (from y : ℕ) : Type 0 where
  pub long : length bytes ≡ 20
  pub inside : from < 20
  pub small : y < 10 ^ suc from
  pub left : digits x ≡ digits_in (suc from) y ++ drop (suc from) bytes

-- before the first digit is stored all digits of a number of 64 bits are left, for twenty places
pub spell_first : (x : ℕ) → x < 2 ^ 64 → Spelling x (replicate 20 0) 19 x
unfolding digits
spell_first x h =
    record {
      long = refl;
      inside = omega arith;
      small = omega arith;
      left = sym (append-nil (digits_in 20 x));
    }

module _ {x from y v : ℕ} {bytes : List ℕ} (w : Spelling x bytes from y) (e : v ≡ digit_of y) where
  -- where 10 or more is left, there is a place before this one
  pub spell_more : 10 ≤ y → 1 ≤ from
  spell_more h = at_least from w.small
    where
      at_least : (n : ℕ) → y < 10 ^ suc n → 1 ≤ n
      at_least zero k = omega arith
      at_least (suc n) k = omega arith

  -- where 10 or more is left, its last digit is stored, and a tenth of it is left for the place before
  pub spell_on : 10 ≤ y → Spelling x (set bytes from v) (from - 1) (y / 10)
  spell_on h =
      let n : suc (from - 1) ≡ from = omega (arith, spell_more h) in
      record {
        long = length-set bytes from v ∙ w.long;
        inside = omega (arith, w.inside);
        small = rw n (smaller w.small);
        left = w.left ∙ rw (n, drop_set bytes from v (omega (arith, w.long, w.inside)), e, more from y h)
            (append_assoc (digits_in from (y / 10)) _ _);
      }
    where
      smaller : y < 10 ^ suc from → y / 10 < 10 ^ from
      smaller k = omega (arith, pow-suc 10 from)

  -- where less than 10 is left, it is the first digit, and all of them stand from here on
  pub spell_done : y < 10 → Spelt x (record { bytes = set bytes from v; from = from })
  spell_done h =
      record {
        is = rw (drop_set bytes from v (omega (arith, w.long, w.inside)), e) (sym (w.left ∙ rw (one from y h)));
        inside = omega (arith, w.inside);
        long = length-set bytes from v ∙ w.long;
      }

-- ---- the end of twenty bytes

-- the end of the bytes, as it is lent
pub decimal_part : (d : Decimal) → length d.bytes ≡ 20
    → take (20 - d.from) (drop d.from d.bytes) ≡ drop d.from d.bytes
decimal_part d e =
    ap (λ (n : ℕ). take (n - d.from) (drop d.from d.bytes)) (sym e) ∙ rest_lent d.bytes d.from

-- it has as many bytes as stand from `from` on
pub decimal_long : (d : Decimal) → length d.bytes ≡ 20 → length (drop d.from d.bytes) ≡ 20 - d.from
decimal_long d e = simp length-drop (omega (arith, e))

-- the digits are the part of the bytes from `from` on
pub spelt_part : {x : ℕ} {d : Decimal} → Spelt x d → take (20 - d.from) (drop d.from d.bytes) ≡ digits x
spelt_part {x} {d} s = decimal_part d s.long ∙ s.is

-- ---- host names

module _ (name : List ℕ) (k n : ℕ) {d : Decimal} (s : Spelt k d) (e : n ≡ min 10 (length name)) where
  spelt_long : length (digits k) ≡ 20 - d.from
  spelt_long = ap length (sym s.is) ∙ decimal_long d s.long

  -- a host's name has ten bytes, those of the type name that are taken, and its digits
  pub host_long : 10 + n + (20 - d.from) ≡ length (host_name name k)
  unfolding host_name
  host_long = simp (length-append, length-take, spelt_long) (omega arith)

  -- three writes are one name
  pub host_put : (t : List ℕ) (at : ℕ)
      → sets (sets (sets t at ten_z) (at + 10) (take n name)) (at + 10 + n)
      (take (20 - d.from) (drop d.from d.bytes))
      ≡ sets t at (host_name name k)
  unfolding host_name
  host_put t at =
      let f : take n name ≡ take 10 name = ap (λ (m : ℕ). take m name) e ∙ take_least 10 name in
      let g : length (take 10 name) ≡ n = length-take 10 name ∙ sym e in
      rw (spelt_part s, f)
      (sym (sets_append t at ten_z (take 10 name ++ digits k)
      ∙ sets_append (sets t at ten_z) (at + 10) (take 10 name) (digits k) ∙ rw g))

-- no host's name is longer than 40
pub host_most : (name : List ℕ) (k : ℕ) → length (host_name name k) ≤ 40
unfolding host_name digits
host_most name k = simp (length-append, length-take) (omega (arith, digits_most 20 k))

-- with less than a million members before it, it is not longer than 26
pub host_few : (name : List ℕ) (k : ℕ) → k < 1000000 → length (host_name name k) ≤ 26
unfolding host_name digits
host_few name k h = simp (length-append, length-take) (omega (arith, digits_few 5 20 k (omega arith)))

-- ---- an AOI's hosts

module _ (x : ℕ) where
  -- below 10 the name of an AOI's host ends in 0 and the digit
  pub host_short : x < 10 → bit_host ++ (48 ∷ digit_of x ∷ []) ≡ bit_host_name x
  unfolding bit_host_name
  host_short h =
      let e : x % 10 ≡ x = omega arith in
      simp (lt-ltb x 10 h, e)

  -- from 10 on the name of an AOI's host ends in the number's digits
  pub host_digits : 10 ≤ x → bit_host ++ digits x ≡ bit_host_name x
  unfolding bit_host_name
  host_digits h = simp (le-ltb x 10 h)

-- an AOI's host with a number below a million has a name of at most 15 bytes
pub bit_host_few : (i : ℕ) → i < 1000000 → length (bit_host_name i) ≤ 15
bit_host_few i h = go (dec_lt i 10)
  where
    go : Dec (i < 10) → length (bit_host_name i) ≤ 15
    go (yes l) = rw (← host_short i l) (omega arith)
    go (no l) =
        rw (← host_digits i (omega (arith, l)))
        (unfold digits in simp length-append (omega (arith, digits_few 5 20 i (omega arith))))

module _ (i : ℕ) {d : Decimal} (s : TwoDigits i d) where
  -- the name of an AOI's host has nine bytes and its digits
  pub bit_host_long : 9 + (20 - d.from) ≡ length (bit_host_name i)
  bit_host_long = rw (← s.is) (simp length-append (omega (arith, decimal_long d s.long)))

  -- nine bytes and then the digits, written, are the name of an AOI's host
  pub bit_host_put : (t : List ℕ) (at : ℕ)
      → sets (sets t at bit_host) (at + 9) (take (20 - d.from) (drop d.from d.bytes))
      ≡ sets t at (bit_host_name i)
  bit_host_put t at =
      rw (decimal_part d s.long, ← s.is) (sym (sets_append t at bit_host (drop d.from d.bytes)))
