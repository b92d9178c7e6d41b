-- Laws of stored parts: the rows and names of one part and of parts one after the other, and of the parts that are
-- left.
use Prim.Native.Nat.{ℕ, ◌+◌, ◌*◌}
use native.Mathlib.Omega.{arith}
use mathlib.Core.Path.{◌≡◌, refl, sym, ap}
use mathlib.Core.List.{List, [], ◌∷◌, ◌++◌, append-nil, append_assoc}
use lib.ListN.{length, length-append}
use lib.Seq.{sets}
use Rattle.words.proofs.Lists.{sets_append}
use Rattle.types.specs.layout.Structs.{named, names_of, rows_of}
use Rattle.types.specs.tables.Defs.{Part}
use Rattle.types.specs.tables.Lent.{member_row}
use Rattle.types.specs.declared.tables.member.Member.{Member}

-- the rows of one part are its member's row
pub one_row : (at : ℕ) (n : List ℕ) (m : Member)
    → member_row (record { at = at; long = length n }) m ≡ rows_of at (named n m ∷ [])
unfolding rows_of
one_row at n m = sym (append-nil _)

-- the same where the name's length is known under another name
pub one_row_of : (at : ℕ) (n : List ℕ) (m : Member) {long : ℕ} → long ≡ length n
    → member_row (record { at = at; long = long }) m ≡ rows_of at (named n m ∷ [])
one_row_of at n m {long} e = rw e (one_row at n m)

-- the names of one part are its name
pub one_name : (n : List ℕ) (m : Member) → n ≡ names_of (named n m ∷ [])
unfolding names_of
one_name n m = sym (append-nil n)

-- the rows of some parts have eight words for each
pub row_long : (at : ℕ) (ps : List Part) → length (rows_of at ps) ≡ 8 * length ps
unfolding rows_of member_row
row_long at [] = refl
row_long at (p ∷ ps) = simp length-append (omega (arith, row_long (at + length p.name) ps))

-- parts one after the other
pub rows_append : (at : ℕ) (ps qs : List Part)
    → rows_of at (ps ++ qs) ≡ rows_of at ps ++ rows_of (at + length (names_of ps)) qs
unfolding rows_of names_of
rows_append at [] qs = ap (λ (k : ℕ). rows_of k qs) (omega arith)
rows_append at (p ∷ ps) qs =
    let e : at + length (p.name ++ names_of ps) ≡ at + length p.name + length (names_of ps) =
    omega (arith, length-append p.name (names_of ps)) in
    rw (e, append_assoc) (ap (λ (l : List ℕ). member_row (record { at = at; long = length p.name }) p.member ++ l)
    (rows_append (at + length p.name) ps qs))

-- the names of parts one after the other are the names of the first ones, then of the others
pub names_append : (ps qs : List Part) → names_of (ps ++ qs) ≡ names_of ps ++ names_of qs
unfolding names_of
names_append [] qs = refl
names_append (p ∷ ps) qs = rw append_assoc (ap (λ (l : List ℕ). p.name ++ l) (names_append ps qs))

-- the rows of some parts, and of others from the next row on, are the rows of all; and so the names
pub rows_then : (t : List ℕ) (row at : ℕ) (ps qs : List Part)
    → sets t (8 * row) (rows_of at (ps ++ qs))
    ≡ sets (sets t (8 * row) (rows_of at ps)) (8 * (row + length ps)) (rows_of (at + length (names_of ps)) qs)
rows_then t row at ps qs =
    let e : 8 * (row + length ps) ≡ 8 * row + length (rows_of at ps) = omega (arith, row_long at ps) in
    rw (rows_append at ps qs, e) (sets_append t (8 * row) (rows_of at ps) _)

-- the names of some parts stored, then those of others right after them, are the names of all
pub names_then : (t : List ℕ) (at : ℕ) (ps qs : List Part)
    → sets t at (names_of (ps ++ qs)) ≡ sets (sets t at (names_of ps)) (at + length (names_of ps)) (names_of qs)
names_then t at ps qs = rw (names_append ps qs) (sets_append t at (names_of ps) (names_of qs))
