-- A structure that is there, in tables as our own calls left them (document 01, "What promises shut out"): what a call
-- by a type's number counts on.
use Prim.Native.Nat.{ℕ, ◌<◌}
use mathlib.Core.Path.{◌≡◌, sym, ap, ◌∙◌}
use mathlib.Core.Bool.{true, not, true≢false}
use mathlib.Core.List.{List}
use lib.Dec.{eqb, ltb}
use borrow.Author.Tests.{eq-eqb, ltb-true}
use Rattle.words.proofs.TestLaws.{and_left, and_right}
use Rattle.types.specs.listing.Lines.{has_member}
use Rattle.types.specs.tables.Kept.{Kept}
use Rattle.types.specs.tables.Lent.{type_at}
use Rattle.types.specs.tables.Limits.{most_types}
use Rattle.types.specs.templates.Template.{has_template}
use Rattle.types.specs.declared.tables.member.Ty.TheVariants.{Struct}
use Rattle.types.proofs.tables.KeptLaws.{TypeRow, kept_used}

-- a structure that is there is a row of the table
pub there_below : (types : List ℕ) {n : ℕ} → has_template types (Struct n) ≡ true → n < most_types
there_below types {n} e = ltb-true _ _ (and_left (ltb n most_types) (not (eqb (type_at types n).id 0)) e)

-- in kept tables a structure that is there is a type, with all that is known of one
pub kept_there : {types members names : List ℕ} → Kept types members names → (n : ℕ)
    → has_template types (Struct n) ≡ true → TypeRow types members names n
kept_there {types} k n e =
    let used = and_right (ltb n most_types) (not (eqb (type_at types n).id 0)) e in
    kept_used k n (λ z. true≢false (sym used ∙ ap not (eq-eqb _ _ z)))

-- a member that is there is one of its type's
pub member_there : (types : List ℕ) (i : ℕ) {k : ℕ} → has_member types i k ≡ true
    → (has_template types (Struct i) ≡ true) × (k < (type_at types i).count)
unfolding has_member
member_there types i {k} e = (
  and_left (has_template types (Struct i)) (ltb k (type_at types i).count) e,
  ltb-true _ _ (and_right (has_template types (Struct i)) (ltb k (type_at types i).count) e),
)
