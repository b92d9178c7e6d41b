-- Template ids (document 01, "Ids" and refusals 4 to 6): a given id, or the lowest id in 0x100..0xEFF that no type
-- holds.
use Rattle.std.specs.Prelude.{ℕ, zero, suc, ◌+◌, ◌*◌, Bool, false, cond, ◌&&◌, ◌||◌, List, [], ◌∷◌, eqb, leb, get_or}
use Rattle.std.specs.Prelude.{Result, Ok, Err}
use Rattle.types.specs.declared.adding.ids.IdFault.{IdFault}
use Rattle.types.specs.declared.adding.ids.IdFault.TheVariants.{OutsideRange, InUse, NoneFree}

-- the id in a row
abbrev pub id_word : List ℕ → ℕ → ℕ
id_word types i = get_or types (8 * i + 2) 0

-- ---- over the list of the ids that are held

unfoldable pub in_use : ℕ → List ℕ → Bool
in_use id [] = false
in_use id (x ∷ xs) = eqb x id || in_use id xs

-- the first of m ids from k on that is free, if one is
unfoldable pub lowest_from : List ℕ → ℕ → ℕ → Result ℕ IdFault
lowest_from ids k zero = Err NoneFree
lowest_from ids k (suc m) = cond (in_use k ids) (lowest_from ids (k + 1) m) (Ok k)

-- of the ids 0x100..0xEFF
unfoldable pub lowest_free : List ℕ → Result ℕ IdFault
lowest_free ids = lowest_from ids 0x100 0xE00

-- the refusal's number of a fault
abbrev pub id_number : IdFault → ℕ
id_number OutsideRange = 4
id_number InUse = 5
id_number NoneFree = 6

-- a given id is outside 0x100..0xEFF (4) or in use (5); where none is given, none is free (6)
unfoldable pub id_for : List ℕ → Bool → ℕ → Result ℕ IdFault
id_for ids given id =
    cond given (cond (leb 0x100 id && leb id 0xEFF) (cond (in_use id ids) (Err InUse) (Ok id)) (Err OutsideRange))
    (lowest_free ids)
