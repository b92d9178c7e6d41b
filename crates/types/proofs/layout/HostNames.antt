-- The names of hidden hosts follow the rule of names (document 01, "Layout" and "Declaration book"): they have 1 to 40
-- bytes, the type's first 10 follow the rule, and digits do.
use Prim.Native.Nat.{ℕ, zero, suc, ◌+◌, ◌/◌, ◌%◌, ◌<◌}
use native.Mathlib.Omega.{arith}
use mathlib.Core.Path.{◌≡◌, refl, sym, ap, ◌∙◌}
use mathlib.Core.Bool.{true, not}
use mathlib.Core.List.{List, [], ◌∷◌, ◌++◌}
use borrow.Author.Tests.{ne_eqb, ltb-true}
use lib.Dec.{ltb}
use lib.ListN.{take, length-append}
use Rattle.words.proofs.TestLaws.{and_left, and_right, either}
use Rattle.types.specs.book.Names.{name_byte, name_bytes, good_name}
use Rattle.types.specs.layout.HostNames.{digits_in, digits, ten_z, host_name, bit_host, bit_host_name}
use Rattle.types.proofs.book.NameLaws.{byte_within, name_rule, rule_good}
use Rattle.types.proofs.layout.DigitLaws.{digits_most, host_most}

bytes_append : (s t : List ℕ) → name_bytes s ≡ true → name_bytes t ≡ true → name_bytes (s ++ t) ≡ true
unfolding name_bytes
bytes_append [] t p q = q
bytes_append (x ∷ s) t p q =
    rw (and_left (name_byte x) _ p, bytes_append s t (and_right (name_byte x) _ p) q)

bytes_take : (n : ℕ) (s : List ℕ) → name_bytes s ≡ true → name_bytes (take n s) ≡ true
unfolding name_bytes
bytes_take zero s p = refl
bytes_take (suc n) [] p = refl
bytes_take (suc n) (x ∷ s) p = rw (and_left (name_byte x) _ p, bytes_take n s (and_right (name_byte x) _ p))

-- ---- digits

digit_byte : (x : ℕ) → x < 10 → name_byte (48 + x) ≡ true
digit_byte x l =
    sym (byte_within (48 + x) (omega arith) (omega arith)) ∙ ap not (ne_eqb (48 + x) 59 (λ e. omega arith))

one_byte : (x : ℕ) → name_byte x ≡ true → name_bytes (x ∷ []) ≡ true
unfolding name_bytes
one_byte x e = rw e

digits_bytes : (n x : ℕ) → name_bytes (digits_in n x) ≡ true
unfolding digits_in name_bytes
digits_bytes zero x = refl
digits_bytes (suc n) x =
    either (λ s. name_bytes s ≡ true) (ltb x 10)
    (λ q. one_byte (48 + x) (digit_byte x (ltb-true _ _ q)))
    (λ q. bytes_append (digits_in n (x / 10)) _ (digits_bytes n (x / 10))
    (one_byte (48 + x % 10) (digit_byte (x % 10) (omega arith))))

-- ---- hosts

-- the name of a UDT's host is good where the type's is
pub host_good : (name : List ℕ) (k : ℕ) → good_name name ≡ true → good_name (host_name name k) ≡ true
unfolding host_name digits name_byte name_bytes
host_good name k g =
    let rest = bytes_append (take 10 name) (digits k) (bytes_take 10 name (name_rule name g).bytes)
    (digits_bytes 20 k) in
    rule_good (host_name name k)
    (record {
      least = simp length-append (omega arith);
      most = host_most name k;
      bytes = bytes_append ten_z (take 10 name ++ digits k) refl rest;
    })

-- the name of an AOI's host is good
pub bit_host_good : (i : ℕ) → good_name (bit_host_name i) ≡ true
unfolding bit_host_name digits name_byte name_bytes
bit_host_good i =
    either (λ s. good_name (bit_host ++ s) ≡ true) (ltb i 10)
    (λ q. rule_good (bit_host ++ 48 ∷ (48 + i) ∷ [])
    (record {
      least = omega arith;
      most = omega arith;
      bytes = bytes_append bit_host (48 ∷ (48 + i) ∷ []) refl (one_byte (48 + i) (digit_byte i (ltb-true _ _ q)));
    }))
    (λ q. rule_good (bit_host ++ digits_in 20 i)
    (record {
      least = simp length-append (omega arith);
      most = simp length-append (omega (arith, digits_most 20 i));
      bytes = bytes_append bit_host (digits_in 20 i) refl (digits_bytes 20 i);
    }))
