-- Writing (document 01, "Writing"): what the entries of a stream do to a value of a tree. Members come in any order,
-- and later wins; null keeps what stands, also for a whole array or structure, and counts as an element; a short array
-- keeps the rest; any entry but the close after an array's last place is 20; a missing one is 18.
use Rattle.std.specs.Prelude.{ℕ, zero, suc, ◌+◌, ◌*◌, Bool, false, cond, List, [], ◌∷◌, eqb, length}
use Rattle.words.specs.Bits.{Bits, stamp}
use Rattle.values.specs.reading.Leaf.{flag, width}
use Rattle.values.specs.reading.Tree.{Tree, leaf, bits, array, struct, Branches, none, branch, span}
use Rattle.values.specs.stream.Stream.{Token, kind_of, payload_of}
use Rattle.values.specs.writing.Effects.{Effect, keep, put, refuse, or_null, taken, bits_whole}

-- what came of some entries
pub data Outcome : Type 0 where
  -- the entries that are left, and the image
  ok : List Token → Bits → Outcome
  -- a refusal's number, and the entries from the bad one on
  bad : ℕ → List Token → Outcome

abbrev pub and_then : Outcome → (List Token → Bits → Outcome) → Outcome
and_then (ok ts z) next = next ts z
and_then (bad number ts) next = bad number ts

-- an entry's effect on w bits from p on
abbrev pub on_effect : Effect → ℕ → ℕ → Token → List Token → Bits → Outcome
on_effect keep w p t ts z = ok ts z
on_effect (put b) w p t ts z = ok ts (stamp p w b z)
on_effect (refuse number) w p t ts z = bad number (t ∷ ts)

-- one entry
unfoldable pub write_one : (Token → Effect) → ℕ → ℕ → List Token → Bits → Outcome
write_one takes w p [] z = bad 18 []
write_one takes w p (t ∷ ts) z = on_effect (takes t) w p t ts z

-- a null, or an opening and what is inside
unfoldable pub opened : ℕ → (List Token → Bits → Outcome) → List Token → Bits → Outcome
opened start inner [] z = bad 18 []
opened start inner (t ∷ ts) z =
    cond (eqb (kind_of t) 0) (ok ts z) (cond (eqb (kind_of t) start) (inner ts z) (bad 18 (t ∷ ts)))

-- up to n elements, w bits apart, and the array's close
unfoldable pub elements : ℕ → (ℕ → List Token → Bits → Outcome) → ℕ → ℕ → List Token → Bits → Outcome
elements zero one w p [] z = bad 18 []
elements zero one w p (t ∷ ts) z = cond (eqb (kind_of t) 11) (ok ts z) (bad 20 (t ∷ ts))
elements (suc n) one w p [] z = bad 18 []
elements (suc n) one w p (t ∷ ts) z =
    cond (eqb (kind_of t) 11) (ok ts z) (and_then (one p (t ∷ ts) z) (elements n one w (p + w)))

-- members by their numbers, and the structure's close; `most` is any number above the entries that are left
unfoldable pub members_in : ℕ → (Token → List Token → Bits → Outcome) → List Token → Bits → Outcome
members_in zero one ts z = bad 18 ts
members_in (suc most) one [] z = bad 18 []
members_in (suc most) one (t ∷ ts) z =
    cond (eqb (kind_of t) 9) (ok ts z)
    (cond (eqb (kind_of t) 7) (and_then (one t ts z) (members_in most one)) (bad 18 (t ∷ ts)))

-- ---- bit strings

-- up to n bools: null among them does not fit
abbrev pub bools_in : ℕ → ℕ → List Token → Bits → Outcome
bools_in n p ts z = elements n (write_one (taken flag) 1) 1 p ts z

-- up to n whole numbers of w bits, or nulls
abbrev pub wholes_in : ℕ → ℕ → ℕ → List Token → Bits → Outcome
wholes_in w n p ts z = elements n (write_one (or_null (bits_whole w)) w) w p ts z

abbrev pub first_is : ℕ → List Token → Bool
first_is kind [] = false
first_is kind (t ∷ ts) = eqb (kind_of t) kind

abbrev pub no_bits : Bits
no_bits k = false

-- the entries after the first
abbrev pub rest : List Token → List Token
rest [] = []
rest (t ∷ ts) = ts

-- one bit string takes a whole number, or an array of bools, missing ones zero; an array of them takes bools if its
-- first entry is a bool (missing bits keep), else whole numbers or nulls
unfoldable pub write_bits : ℕ → ℕ → ℕ → List Token → Bits → Outcome
write_bits w zero p ts z =
    cond (first_is 10 ts) (bools_in w p (rest ts) (stamp p w no_bits z)) (write_one (or_null (bits_whole w)) w p ts z)
write_bits w (suc n) p ts z =
    opened 10 (λ us y. cond (first_is 1 us) (bools_in (w * suc n) p us y) (wholes_in w (suc n) p us y)) ts z

-- ---- a value of a tree, from bit p on

unfoldable mutual
  pub write : Tree → ℕ → List Token → Bits → Outcome
  write (leaf l) p ts z = write_one (or_null (taken l)) (width l) p ts z
  write (bits w n) p ts z = write_bits w n p ts z
  write (array n t) p ts z = opened 10 (λ us y. elements n (λ q vs x. write t q vs x) (span t) p us y) ts z
  write (struct size bs) p ts z =
      opened 8 (λ us y. members_in (suc (length us)) (λ t vs x. write_branch bs p t vs x) us y) ts z

  -- the member whose number stands in an entry; a hidden one or one too large does not fit
  pub write_branch : Branches → ℕ → Token → List Token → Bits → Outcome
  write_branch none p t ts z = bad 18 (t ∷ ts)
  write_branch (branch j o tree bs) p t ts z =
      cond (eqb (payload_of 0 t) j) (write tree (p + o) ts z) (write_branch bs p t ts z)

-- a left-over entry does not fit
abbrev pub ended : Outcome → Outcome
ended (ok [] z) = ok [] z
ended (ok (t ∷ ts) z) = bad 18 (t ∷ ts)
ended (bad number ts) = bad number ts

-- the whole
unfoldable pub written : Tree → List Token → Bits → Outcome
written tree ts z = ended (write tree 0 ts z)
