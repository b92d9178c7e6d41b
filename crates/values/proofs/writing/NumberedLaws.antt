-- The refusals of entries (document 01, "Refusal numbers"): whatever a write refuses has a number from 18 to 21.
use Prim.Native.Nat.{ℕ, zero, suc, ◌+◌, ◌*◌, ◌≤◌}
use native.Mathlib.Omega.{arith}
use mathlib.Core.Path.{◌≡◌}
use mathlib.Core.Bool.{cond}
use mathlib.Core.List.{List, [], ◌∷◌}
use lib.Dec.{eqb, leb}
use lib.ListN.{length}
use Rattle.words.specs.Bits.{Bits, stamp}
use Rattle.words.proofs.TestLaws.{picked}
use Rattle.values.specs.reading.Leaf.{Leaf, flag, byte, int, word, str, width}
use Rattle.values.specs.reading.Tree.{Tree, leaf, bits, array, struct, Branches, none, branch, span}
use Rattle.values.specs.stream.Stream.{Token, kind_of, payload_of, body_of}
use Rattle.values.specs.writing.Effects.{Effect, keep, put, refuse, of_kind, is_whole, in_range, whole, as_text}
use Rattle.values.specs.writing.Effects.{taken, bits_whole, or_null, payload_bits, text_bits}
use Rattle.values.specs.writing.Writing.{Outcome, ok, bad, and_then, on_effect, write_one, opened, elements}
use Rattle.values.specs.writing.Writing.{members_in, bools_in, wholes_in, first_is, no_bits, rest, write_bits, write}
use Rattle.values.specs.writing.Writing.{write_branch}

abbrev EntryNumber : ℕ → Type 0
EntryNumber number = (18 ≤ number) × (number ≤ 21)

abbrev EntryRefusal : Outcome → Type 0
EntryRefusal (ok ts z) = Unit {0}
EntryRefusal (bad number ts) = EntryNumber number

abbrev Judges : Effect → Type 0
Judges keep = Unit {0}
Judges (put b) = Unit {0}
Judges (refuse number) = EntryNumber number

is_18 : EntryNumber 18
is_18 = (omega arith, omega arith)

is_19 : EntryNumber 19
is_19 = (omega arith, omega arith)

is_20 : EntryNumber 20
is_20 = (omega arith, omega arith)

is_21 : EntryNumber 21
is_21 = (omega arith, omega arith)

-- ---- one entry

kind_judges : (kind : ℕ) (t : Token) → Judges (of_kind kind t)
unfolding of_kind
kind_judges kind t = picked Judges (eqb (kind_of t) kind) (put (payload_bits t)) (refuse 18) tt is_18

whole_judges : (low high : ℕ) (t : Token) → Judges (whole low high t)
unfolding whole
whole_judges low high t =
    picked Judges (is_whole (kind_of t))
    (cond (in_range low high (kind_of t) (payload_of 0 t)) (put (payload_bits t)) (refuse 19)) (refuse 18)
    (picked Judges (in_range low high (kind_of t) (payload_of 0 t)) (put (payload_bits t)) (refuse 19) tt is_19) is_18

text_judges : (capacity : ℕ) (t : Token) → Judges (as_text capacity t)
unfolding as_text
text_judges capacity t =
    picked Judges (eqb (kind_of t) 6)
    (cond (leb (length (body_of t)) capacity) (put (text_bits (body_of t))) (refuse 21)) (refuse 18)
    (picked Judges (leb (length (body_of t)) capacity) (put (text_bits (body_of t))) (refuse 21) tt is_21) is_18

taken_judges : (l : Leaf) (t : Token) → Judges (taken l t)
taken_judges flag t = kind_judges 1 t
taken_judges byte t = kind_judges 1 t
taken_judges (int n) t = whole_judges _ _ t
taken_judges (word kind n) t =
    picked Judges (eqb kind 3) _ (of_kind kind t) (whole_judges _ _ t) (kind_judges kind t)
taken_judges (str capacity) t = text_judges capacity t

null_judges : (takes : Token → Effect) → ((t : Token) → Judges (takes t)) → (t : Token) → Judges (or_null takes t)
unfolding or_null
null_judges takes judges t = picked Judges (eqb (kind_of t) 0) keep (takes t) tt (judges t)

-- ---- entries

abbrev EntryRefusals : (List Token → Bits → Outcome) → Type 0
EntryRefusals f = (ts : List Token) (z : Bits) → EntryRefusal (f ts z)

then_numbered : (o : Outcome) (next : List Token → Bits → Outcome) → EntryRefusal o → EntryRefusals next
    → EntryRefusal (and_then o next)
then_numbered (ok ts z) next h steady = steady ts z
then_numbered (bad number ts) next h steady = h

effect_numbered : (e : Effect) (w p : ℕ) (t : Token) (ts : List Token) (z : Bits) → Judges e
    → EntryRefusal (on_effect e w p t ts z)
effect_numbered keep w p t ts z h = tt
effect_numbered (put b) w p t ts z h = tt
effect_numbered (refuse number) w p t ts z h = h

one_numbered : (takes : Token → Effect) (w p : ℕ) → ((t : Token) → Judges (takes t))
    → EntryRefusals (write_one takes w p)
unfolding write_one
one_numbered takes w p judges [] z = is_18
one_numbered takes w p judges (t ∷ ts) z = effect_numbered (takes t) w p t ts z (judges t)

opened_numbered : (start : ℕ) (inner : List Token → Bits → Outcome) → EntryRefusals inner
    → EntryRefusals (opened start inner)
unfolding opened
opened_numbered start inner steady [] z = is_18
opened_numbered start inner steady (t ∷ ts) z =
    picked EntryRefusal (eqb (kind_of t) 0) (ok ts z) (cond (eqb (kind_of t) start) (inner ts z) (bad 18 (t ∷ ts))) tt
    (picked EntryRefusal (eqb (kind_of t) start) (inner ts z) (bad 18 (t ∷ ts)) (steady ts z) is_18)

elements_numbered : (n : ℕ) (one : ℕ → List Token → Bits → Outcome) (w p : ℕ) → ((q : ℕ) → EntryRefusals (one q))
    → EntryRefusals (elements n one w p)
unfolding elements
elements_numbered zero one w p steady [] z = is_18
elements_numbered zero one w p steady (t ∷ ts) z =
    picked EntryRefusal (eqb (kind_of t) 11) (ok ts z) (bad 20 (t ∷ ts)) tt is_20
elements_numbered (suc n) one w p steady [] z = is_18
elements_numbered (suc n) one w p steady (t ∷ ts) z =
    picked EntryRefusal (eqb (kind_of t) 11) (ok ts z) (and_then (one p (t ∷ ts) z) (elements n one w (p + w))) tt
    (then_numbered (one p (t ∷ ts) z) (elements n one w (p + w)) (steady p (t ∷ ts) z)
    (λ us y. elements_numbered n one w (p + w) steady us y))

members_numbered : (most : ℕ) (one : Token → List Token → Bits → Outcome) → ((t : Token) → EntryRefusals (one t))
    → EntryRefusals (members_in most one)
unfolding members_in
members_numbered zero one steady ts z = is_18
members_numbered (suc most) one steady [] z = is_18
members_numbered (suc most) one steady (t ∷ ts) z =
    picked EntryRefusal (eqb (kind_of t) 9) (ok ts z)
    (cond (eqb (kind_of t) 7) (and_then (one t ts z) (members_in most one)) (bad 18 (t ∷ ts))) tt
    (picked EntryRefusal (eqb (kind_of t) 7) (and_then (one t ts z) (members_in most one)) (bad 18 (t ∷ ts))
    (then_numbered (one t ts z) (members_in most one) (steady t ts z)
    (λ us y. members_numbered most one steady us y)) is_18)

bools_numbered : (n p : ℕ) → EntryRefusals (bools_in n p)
bools_numbered n p ts z =
    elements_numbered n (write_one (taken flag) 1) 1 p (λ q. one_numbered (taken flag) 1 q (taken_judges flag)) ts z

whole_one : (w p : ℕ) → EntryRefusals (write_one (or_null (bits_whole w)) w p)
whole_one w p = one_numbered (or_null (bits_whole w)) w p (null_judges (bits_whole w) (λ t. whole_judges _ _ t))

bits_numbered : (w n p : ℕ) → EntryRefusals (write_bits w n p)
unfolding write_bits
bits_numbered w zero p ts z =
    picked EntryRefusal (first_is 10 ts) (bools_in w p (rest ts) (stamp p w no_bits z))
    (write_one (or_null (bits_whole w)) w p ts z) (bools_numbered w p (rest ts) (stamp p w no_bits z))
    (whole_one w p ts z)
bits_numbered w (suc n) p ts z =
    opened_numbered 10
    (λ us y. cond (first_is 1 us) (bools_in (w * suc n) p us y) (wholes_in w (suc n) p us y))
    (λ us y. picked EntryRefusal (first_is 1 us) (bools_in (w * suc n) p us y) (wholes_in w (suc n) p us y)
    (bools_numbered (w * suc n) p us y)
    (elements_numbered (suc n) (write_one (or_null (bits_whole w)) w) w p (whole_one w) us y)) ts z

-- ---- a tree

mutual
  unfolding write

  tree_numbered : (t : Tree) (p : ℕ) → EntryRefusals (write t p)
  tree_numbered (leaf l) p ts z =
      one_numbered (or_null (taken l)) (width l) p (null_judges (taken l) (taken_judges l)) ts z
  tree_numbered (bits w n) p ts z = bits_numbered w n p ts z
  tree_numbered (array n t) p ts z =
      opened_numbered 10 (λ us y. elements n (λ q vs x. write t q vs x) (span t) p us y)
      (λ us y. elements_numbered n (λ q vs x. write t q vs x) (span t) p (λ q vs x. tree_numbered t q vs x) us y) ts z
  tree_numbered (struct size bs) p ts z =
      opened_numbered 8 (λ us y. members_in (suc (length us)) (λ t vs x. write_branch bs p t vs x) us y)
      (λ us y. members_numbered (suc (length us)) (λ t vs x. write_branch bs p t vs x)
      (λ t vs x. branch_numbered bs p t vs x) us y) ts z

  branch_numbered : (bs : Branches) (p : ℕ) (t : Token) → EntryRefusals (write_branch bs p t)
  branch_numbered none p t ts z = is_18
  branch_numbered (branch j o tree bs) p t ts z =
      picked EntryRefusal (eqb (payload_of 0 t) j) (write tree (p + o) ts z) (write_branch bs p t ts z)
      (tree_numbered tree (p + o) ts z) (branch_numbered bs p t ts z)

-- what a write of a tree refuses has a number from 18 to 21
pub bad_number : (t : Tree) (p : ℕ) (ts : List Token) (z : Bits) {number : ℕ} {us : List Token}
    → write t p ts z ≡ bad number us → (18 ≤ number) × (number ≤ 21)
bad_number t p ts z {number} {us} e = go (write t p ts z) e (tree_numbered t p ts z)
  where
    go : (o : Outcome) → o ≡ bad number us → EntryRefusal o → EntryNumber number
    go o q w = rw q at w
