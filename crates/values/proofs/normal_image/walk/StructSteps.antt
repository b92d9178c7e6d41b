-- A structure made normal, step by step (document 01, "Normal image"), where its row was read from the tables: a string
-- is its leaf, and any other its BOOLs kept, its plain members swept, and the BOOLs put back.
use Prim.Native.Nat.{ℕ, ◌+◌, ◌*◌, ◌/◌, ◌<◌, ◌≤◌}
use native.Mathlib.Omega.{arith}
use mathlib.Core.Path.{◌≡◌, sym, ap, ap₂, ◌∙◌}
use mathlib.Core.Bool.{Bool, true, false}
use mathlib.Core.List.{List}
use lib.ListN.{length}
use Rattle.words.specs.Bits.{Bits, flat}
use Rattle.types.specs.layout.Laid.{first_bit}
use Rattle.types.specs.tables.Lent.{member_at, type_at}
use Rattle.types.specs.tables.Limits.{most_members}
use Rattle.types.specs.tables.Sizes.{sizes_in}
use Rattle.types.specs.declared.tables.member.Member.{Member}
use Rattle.types.specs.declared.tables.member.StructDef.{StructDef}
use Rattle.values.specs.inside.normal_image.InPlace.{RowsHere, flagged, is_flag, made, swept}
use Rattle.values.specs.inside.normal_image.Placed.{Sweepable}
use Rattle.values.specs.inside.reading.Walkable.{IsString, Walkable}
use Rattle.values.specs.inside.writing.Rows.{Here, tree_in}
use Rattle.values.specs.reading.Leaf.{str}
use Rattle.values.specs.reading.Texts.{capacity_at}
use Rattle.values.specs.reading.Tree.{Tree, leaf}
use Rattle.values.specs.reading.Trees.{is_string_kind, members_at}
use Rattle.values.proofs.normal_image.SweepableLaws.{sweepable_branches, sweepable_rows, sweepable_walkable}
use Rattle.values.proofs.normal_image.walk.FlagLaws.{same_rows}
use Rattle.values.proofs.normal_image.walk.StructMade.{struct_made}
use Rattle.values.proofs.writing.BranchLaws.{string_tree, members_tree}

-- an image as long as another has the structure in the same place
pub here_after : {types : List ℕ} {i base : ℕ} {image : List ℕ} {new : List ℕ} → Here types i base image
    → length new ≡ length image → Here types i base new
here_after {new} here e = record { low = here.low; inside = omega (arith, here.inside) }

module _ {types members : List ℕ} (s : Sweepable types members) {i base : ℕ} {image : List ℕ}
    (here : Here types i base image) {d : StructDef} (is : d ≡ type_at types i) where
  walkable : Walkable types members
  walkable = sweepable_walkable s

  module _ {first : ℕ} (f : first ≡ d.first) where
    first_row_is : first ≡ (type_at types i).first
    first_row_is = f ∙ ap (λ (x : StructDef). x.first) is

    -- ---- a string

    module _ {b : Bool} (test : b ≡ is_string_kind d.kind) (string : b ≡ true) where
      kind_is : is_string_kind (type_at types i).kind ≡ true
      kind_is = ap (λ (x : StructDef). is_string_kind x.kind) (sym is) ∙ sym test ∙ string

      type_string : IsString members (type_at types i)
      type_string = (walkable.each i here.low).string kind_is

      module _ {capacity : ℕ} (q : capacity ≡ capacity_at members first) where
        capacity_is : capacity ≡ capacity_at members (type_at types i).first
        capacity_is = q ∙ ap (capacity_at members) first_row_is

        -- its bytes are in the image
        pub string_fits : base + (4 + 4 * ((capacity + 3) / 4)) ≤ length image
        string_fits = omega (arith, capacity_is, here.inside, type_string.size)

        -- a string's leaf made normal is its structure made normal
        pub string_made : {new : Bits} → new ≡ made (leaf (str capacity)) (8 * base) (flat image)
            → new ≡ made (tree_in types members i) (8 * base) (flat image)
        string_made e =
            e ∙ ap (λ (n : ℕ). made (leaf (str n)) (8 * base) (flat image)) capacity_is
            ∙ ap (λ (t : Tree). made t (8 * base) (flat image))
            (sym (string_tree types members walkable i here.low kind_is))

    -- ---- any other

    module _ {count : ℕ} (n : count ≡ d.count) where
      count_is : count ≡ (type_at types i).count
      count_is = n ∙ ap (λ (x : StructDef). x.count) is

      members_are : members_at members first count
          ≡ members_at members (type_at types i).first (type_at types i).count
      members_are = ap₂ (members_at members) first_row_is count_is

      -- its rows lie in the image
      pub rows_here : RowsHere members first count base image
      rows_here = rw (first_row_is, count_is) (sweepable_rows s i here.low base image here)

      -- a structure has at most 2,000 rows, so that a bit for each is enough
      pub rows_few : count ≤ most_members
      rows_few = omega (arith, count_is, (walkable.each i here.low).rows)

      -- BOOLs kept, plain members swept and BOOLs put back are the structure made normal
      pub members_made : {b : Bool} → b ≡ is_string_kind d.kind → b ≡ false → {kept clean new : Bits}
          → ((k : ℕ) → k < count → is_flag (member_at members (first + k)) ≡ true
          → kept k ≡ flat image (8 * base + first_bit (member_at members (first + k))))
          → clean
          ≡ swept (tree_in types members) (8 * base) (8 * sizes_in types i)
          (members_at members (type_at types i).first (type_at types i).count) 0 (flat image)
          → new ≡ flagged kept (8 * base) 0 (members_at members first count) clean
          → new ≡ made (tree_in types members i) (8 * base) (flat image)
      members_made test e {kept} keeps sweeps puts =
          let kind : is_string_kind (type_at types i).kind ≡ false
          = ap (λ (x : StructDef). is_string_kind x.kind) (sym is) ∙ sym test ∙ e in
          let ms : List Member = members_at members (type_at types i).first (type_at types i).count in
          puts ∙ ap₂ (flagged kept (8 * base) 0) members_are sweeps
          ∙ struct_made (tree_in types members) (8 * base) (8 * sizes_in types i) ms (s.stairs i here.low)
          (sweepable_branches s i here.low kind) kept (flat image)
          (rw members_are at (same_rows kept (flat image) (8 * base) members first count keeps))
          ∙ ap (λ (t : Tree). made t (8 * base) (flat image))
          (sym (members_tree types members walkable i here.low kind))
