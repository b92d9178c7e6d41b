-- An image made normal in place (document 01, "Normal image"): what each step of it does to the image's bits. A
-- structure's BOOLs are kept aside, its other visible members are made normal in their order and all between them is
-- cleared, and the BOOLs are put back.
use Rattle.std.specs.Prelude.{ℕ, zero, suc, ◌+◌, ◌-◌, ◌*◌, ◌<◌, ◌≤◌, Bool, true, false, cond, not, List, [], ◌∷◌, ◌≡◌}
use Rattle.std.specs.Prelude.{Option, None}
use Rattle.words.specs.Bits.{Bits, flat, from, inside, stamp}
use Rattle.types.specs.layout.Laid.{first_bit, has_bit}
use Rattle.types.specs.tables.Lent.{member_at}
use Rattle.types.specs.tables.Limits.{most_members}
use Rattle.types.specs.declared.tables.member.Member.{Member}
use Rattle.values.specs.inside.reading.Walkable.{RowOf}
use Rattle.values.specs.inside.writing.Rows.{MemberHere, member_tree}
use Rattle.values.specs.normal_image.Normal.{normal}
use Rattle.values.specs.reading.Tree.{Tree, items, span}
use Rattle.values.specs.writing.Writing.{no_bits}

-- ---- bits

-- n bits from p on cleared
abbrev pub cleared : ℕ → ℕ → Bits → Bits
cleared p n x = stamp p n no_bits x

-- the bits of a tree from bit p on made normal, every other bit as it stands
unfoldable pub made : Tree → ℕ → Bits → Bits
made t p x k = cond (inside p (span t) k) (normal (items t p) x k) (x k)

-- n times f, from bit p on, w bits apart
unfoldable pub each_made : ℕ → (ℕ → Bits → Bits) → ℕ → ℕ → Bits → Bits
each_made zero f w p x = x
each_made (suc n) f w p x = each_made n f w (p + w) (f p x)

-- ---- a structure's members

-- the bit of a visible BOOL of a host
abbrev pub flag_bit : Member → Option ℕ
flag_bit m = cond m.hidden None m.bit

-- a visible BOOL of a host
unfoldable pub is_flag : Member → Bool
is_flag m = has_bit (flag_bit m)

-- any other visible member
unfoldable pub is_plain : Member → Bool
is_plain m = cond m.hidden false (not (has_bit m.bit))

module _ (trees : ℕ → Tree) where
  -- the bit after a member
  abbrev pub past_tree : Member → ℕ
  past_tree m = first_bit m + span (member_tree trees m)

  -- where the structure begins at bit p: a plain member made normal, and what is between bit c and it cleared
  unfoldable pub onward : ℕ → Member → ℕ → Bits → Bits
  onward p m c x = made (member_tree trees m) (p + first_bit m) (cleared (p + c) (first_bit m - c) x)

  -- the plain members from bit c on, and then what is left up to the size
  unfoldable pub swept : ℕ → ℕ → List Member → ℕ → Bits → Bits
  swept p size [] c x = cleared (p + c) (size - c) x
  swept p size (m ∷ ms) c x = cond (is_plain m) (swept p size ms (past_tree m) (onward p m c x)) (swept p size ms c x)

-- bit j of b is put in for the BOOL with number j
unfoldable pub flagged : Bits → ℕ → ℕ → List Member → Bits → Bits
flagged b p j [] x = x
flagged b p j (m ∷ ms) x =
    flagged b p (suc j) ms (cond (is_flag m) (stamp (p + first_bit m) 1 (from j b) x) x)

-- ---- what the steps ask

-- n rows from a row on, whose structure begins at a byte of the image
pub record RowsHere (members : List ℕ) (first n base : ℕ) (image : List ℕ) : Type 0 where
  pub rows : first + n ≤ most_members
  pub sizes : ℕ → ℕ
  pub each : (k : ℕ) → k < n → MemberHere sizes (member_at members (first + k)) base image

-- a plain member in a row of structure i, which begins at or after byte c of it
pub record PlainRow (types members : List ℕ) (i row c : ℕ) : Type 0 where
  pub row_of : RowOf types members i row
  pub plain : is_plain (member_at members row) ≡ true
  pub after : 8 * c ≤ first_bit (member_at members row)

-- ---- and what they leave

-- a plain member of a structure that begins at byte `base`, from byte c of it on; r is the byte after it
pub record OnwardTo (trees : ℕ → Tree) (base c : ℕ) (m : Member) (image new : List ℕ) (r : ℕ) : Type 0 where
  pub next : 8 * r ≡ past_tree trees m
  pub bits : flat new ≡ onward trees (8 * base) m (8 * c) (flat image)
