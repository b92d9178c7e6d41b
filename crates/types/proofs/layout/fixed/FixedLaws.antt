-- Laws of the layouts that no book declares (document 01, "Layout", String and Predefined): a string's parts, status
-- bits and a control type's parts stored one after the other.
use Prim.Native.Nat.{ℕ, suc, ◌+◌, ◌-◌, ◌*◌, ◌<◌, ◌≤◌}
use native.Mathlib.Omega.{arith}
use mathlib.Core.Path.{◌≡◌, refl, sym, ap, ◌∙◌}
use mathlib.Core.List.{List, [], ◌∷◌, ◌++◌}
use lib.ListN.{length, take, drop, length-append, length-drop}
use lib.Seq.{sets, drop-drop, drop-append_seam, take-append_seam}
use Rattle.words.specs.Words.{part}
use Rattle.words.proofs.Lists.{length_part, length_between}
use Rattle.types.specs.inside.layout.Structs.{pairs}
use Rattle.types.specs.layout.Structs.{named, names_of, rows_of, dint_at, data_of, string_parts, ctl_at, status_at}
use Rattle.types.specs.layout.Structs.{status_parts, control_parts}
use Rattle.types.specs.tables.Defs.{Part}
use Rattle.types.specs.declared.tables.member.Member.{Member}
use Rattle.types.proofs.layout.StoreLaws.{one_name, rows_then, names_then}

-- one part whose name has k bytes, and then others
pub rows_on : (t : List ℕ) (row at : ℕ) (n : List ℕ) (m : Member) (k : ℕ) (ps : List Part) → length n ≡ k
    → sets t (8 * row) (rows_of at (named n m ∷ ps))
    ≡ sets (sets t (8 * row) (rows_of at (named n m ∷ []))) (8 * (row + 1)) (rows_of (at + k) ps)
rows_on t row at n m k ps l =
    let e : k ≡ length (names_of (named n m ∷ [])) = sym l ∙ ap length (one_name n m) in
    rw e (rows_then t row at (named n m ∷ []) ps)

pub names_on : (t : List ℕ) (at : ℕ) (n : List ℕ) (m : Member) (k : ℕ) (ps : List Part) → length n ≡ k
    → sets t at (names_of (named n m ∷ ps)) ≡ sets (sets t at (names_of (named n m ∷ []))) (at + k) (names_of ps)
names_on t at n m k ps l =
    let e : k ≡ length (names_of (named n m ∷ [])) = sym l ∙ ap length (one_name n m) in
    rw e (names_then t at (named n m ∷ []) ps)

-- ---- strings

abbrev pub len_name : List ℕ
len_name = 76 ∷ 69 ∷ 78 ∷ []

abbrev pub data_name : List ℕ
data_name = 68 ∷ 65 ∷ 84 ∷ 65 ∷ []

-- the row of LEN and then that of DATA are a string's rows
pub string_rows : (t : List ℕ) (row at c : ℕ)
    → sets (sets t (8 * row) (rows_of at (named len_name (dint_at 0) ∷ []))) (8 * (row + 1))
    (rows_of (at + 3) (named data_name (data_of c) ∷ []))
    ≡ sets t (8 * row) (rows_of at (string_parts c))
unfolding string_parts
string_rows t row at c = sym (rows_on t row at len_name (dint_at 0) 3 (named data_name (data_of c) ∷ []) refl)

-- the name LEN and then DATA are a string's names
pub string_names : (t : List ℕ) (at c : ℕ)
    → sets (sets t at (names_of (named len_name (dint_at 0) ∷ []))) (at + 3)
    (names_of (named data_name (data_of c) ∷ []))
    ≡ sets t at (names_of (string_parts c))
unfolding string_parts
string_names t at c = sym (names_on t at len_name (dint_at 0) 3 (named data_name (data_of c) ∷ []) refl)

-- ---- status bits

pairs_cons : (s : List ℕ) (n i : ℕ) → i < n → pairs s i (n - i) ≡ part s (2 * i) 2 ∷ pairs s (i + 1) (n - (i + 1))
unfolding pairs
pairs_cons s n i l =
    let e : n - i ≡ suc (n - (i + 1)) = omega arith in
    rw e

pairs_none : (s : List ℕ) (n i : ℕ) → n ≤ i → pairs s i (n - i) ≡ []
unfolding pairs
pairs_none s n i l =
    let e : n - i ≡ 0 = omega arith in
    rw e

-- the next name of two bytes, and those after it
module _ (bits name rest : List ℕ) (i : ℕ) (e : drop (2 * i) bits ≡ name ++ rest) (l : length name ≡ 2) where
  -- it lies inside the names
  pub next_inside : 2 * i + 2 ≤ length bits
  next_inside = omega (arith, length-drop (2 * i) bits, ap length e, length-append name rest, l)

  -- it is the i-th
  pub next_name : name ≡ part bits (2 * i) 2
  unfolding part
  next_name = sym (rw (e, ← l) (take-append_seam name rest))

  -- those after it are those from the next on
  pub next_rest : rest ≡ drop (2 * (i + 1)) bits
  next_rest =
      let f : 2 * (i + 1) ≡ 2 * i + length name = omega (arith, l) in
      sym (rw f (sym (drop-drop (length name) (2 * i) bits) ∙ rw e (drop-append_seam name rest)))

-- what is kept from one status bit to the next: all stand once those that are left are stored after the others
pub record PuttingBits (bits m₀ t₀ : List ℕ) (row place n : ℕ) (m t : List ℕ) (i : ℕ) : Type 0 where
  pub done : i ≤ n
  pub rows : sets m₀ (8 * row) (rows_of place (status_parts 0 (pairs bits 0 n)))
      ≡ sets m (8 * (row + i)) (rows_of (place + 2 * i) (status_parts i (pairs bits i (n - i))))
  pub names : sets t₀ place (names_of (status_parts 0 (pairs bits 0 n)))
      ≡ sets t (place + 2 * i) (names_of (status_parts i (pairs bits i (n - i))))

module _ {bits m₀ t₀ m t : List ℕ} {row place n i : ℕ} (s : PuttingBits bits m₀ t₀ row place n m t i) where
  -- after the last status bit the rows of all are stored
  pub bits_rows : n ≤ i → m ≡ sets m₀ (8 * row) (rows_of place (status_parts 0 (pairs bits 0 n)))
  unfolding status_parts rows_of
  bits_rows l = sym (rw (pairs_none bits n i l) at s.rows)

  -- after the last status bit the names of all are stored
  pub bits_names : n ≤ i → t ≡ sets t₀ place (names_of (status_parts 0 (pairs bits 0 n)))
  unfolding status_parts names_of
  bits_names l = sym (rw (pairs_none bits n i l) at s.names)

  module _ (l : i < n) (h : 2 * i + 2 ≤ length bits) where
    abbrev rest : List Part
    rest = status_parts (i + 1) (pairs bits (i + 1) (n - (i + 1)))

    split : status_parts i (pairs bits i (n - i)) ≡ named (part bits (2 * i) 2) (status_at i) ∷ rest
    unfolding status_parts
    split = rw (pairs_cons bits n i l)

    -- where the i-th status bit was stored, it is so at the next
    pub bits_on : {m' t' : List ℕ}
        → m' ≡ sets m (8 * (row + i)) (rows_of (place + 2 * i) (named (part bits (2 * i) 2) (status_at i) ∷ []))
        → t' ≡ sets t (place + 2 * i) (names_of (named (part bits (2 * i) 2) (status_at i) ∷ []))
        → PuttingBits bits m₀ t₀ row place n m' t' (i + 1)
    bits_on v w =
        let name = part bits (2 * i) 2 in
        let e : row + (i + 1) ≡ row + i + 1 = omega arith in
        let f : place + 2 * (i + 1) ≡ place + 2 * i + 2 = omega arith in
        let k = length_part bits (2 * i) 2 h in
        record {
          done = omega arith;
          rows = s.rows ∙ rw (split, e, f, v) (rows_on m (row + i) (place + 2 * i) name (status_at i) 2 rest k);
          names = s.names ∙ rw (split, f, w) (names_on t (place + 2 * i) name (status_at i) 2 rest k);
        }

-- ---- control types

abbrev pub ctl_name : List ℕ
ctl_name = 67 ∷ 84 ∷ 76 ∷ []

module _ (words : List ℕ) (l : length words ≡ 6) (bits : List (List ℕ)) (t : List ℕ) where
  abbrev one : List ℕ
  one = take 3 words

  abbrev two : List ℕ
  two = take 3 (drop 3 words)

  -- the rows of CTL, of the two words and of the status bits, one after the other, are a control type's
  pub control_rows : (row at : ℕ)
      → sets
      (sets
      (sets (sets t (8 * row) (rows_of at (named ctl_name ctl_at ∷ []))) (8 * (row + 1))
      (rows_of (at + 3) (named one (dint_at 4) ∷ [])))
      (8 * (row + 2)) (rows_of (at + 6) (named two (dint_at 8) ∷ [])))
      (8 * (row + 3)) (rows_of (at + 9) (status_parts 0 bits))
      ≡ sets t (8 * row) (rows_of at (control_parts (part words 0 3) (part words 3 3) bits))
  unfolding control_parts part
  control_rows row at =
      let e : row + 2 ≡ row + 1 + 1 = omega arith in
      let f : row + 3 ≡ row + 1 + 1 + 1 = omega arith in
      let g : at + 6 ≡ at + 3 + 3 = omega arith in
      let h : at + 9 ≡ at + 3 + 3 + 3 = omega arith in
      rw (e, f, g, h)
      (sym (rows_on t row at ctl_name ctl_at 3 _ refl
      ∙ rows_on _ (row + 1) (at + 3) one (dint_at 4) 3 _ (length_between words 0 3 (omega arith))
      ∙ rows_on _ (row + 1 + 1) (at + 3 + 3) two (dint_at 8) 3 _ (length_between words 3 3 (omega arith))))

  -- the names of CTL, of the two words and of the status bits, one after the other, are a control type's
  pub control_names : (at : ℕ)
      → sets
      (sets
      (sets (sets t at (names_of (named ctl_name ctl_at ∷ []))) (at + 3) (names_of (named one (dint_at 4) ∷ [])))
      (at + 6) (names_of (named two (dint_at 8) ∷ [])))
      (at + 9) (names_of (status_parts 0 bits))
      ≡ sets t at (names_of (control_parts (part words 0 3) (part words 3 3) bits))
  unfolding control_parts part
  control_names at =
      let g : at + 6 ≡ at + 3 + 3 = omega arith in
      let h : at + 9 ≡ at + 3 + 3 + 3 = omega arith in
      rw (g, h)
      (sym (names_on t at ctl_name ctl_at 3 _ refl
      ∙ names_on _ (at + 3) one (dint_at 4) 3 _ (length_between words 0 3 (omega arith))
      ∙ names_on _ (at + 3 + 3) two (dint_at 8) 3 _ (length_between words 3 3 (omega arith))))
