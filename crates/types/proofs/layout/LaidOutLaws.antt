-- What is laid out (document 01, "Layout") is what the code's two passes give: the parts that are stored, and how far
-- they were measured to come.
use Rattle.std.specs.Prelude.{Result, Ok, Err}
use Prim.Native.Nat.{ℕ, ◌+◌}
use mathlib.Core.Path.{◌≡◌, refl, ap, ◌∙◌}
use mathlib.Core.Bool.{Bool, true, false}
use mathlib.Core.List.{List, [], ◌∷◌, ◌++◌}
use lib.ListN.{length}
use Rattle.types.specs.inside.layout.Passes.{then_parts, parts_from, then_measure, measured, udt_parts, aoi_parts}
use Rattle.types.specs.inside.layout.Passes.{Measured}
use Rattle.types.specs.inside.layout.Passes.{parts_of, measured_aoi, measured_of}
use Rattle.types.specs.layout.HostNames.{host_name}
use Rattle.types.specs.layout.Placing.{placed}
use Rattle.types.specs.layout.Structs.{names_of, named, LaidOut, laid, stopped, after, then_laid, layout_from}
use Rattle.types.specs.layout.Structs.{udt_start, udt_layout, aoi_hosts, host_parts, aoi_start, enable_parts}
use Rattle.types.specs.layout.Structs.{aoi_layout}
use Rattle.types.specs.layout.Structs.{layout_of}
use Rattle.types.specs.tables.Defs.{Part}
use Rattle.types.specs.declared.layout.placing.Cursor.{Cursor}
use Rattle.types.specs.declared.layout.placing.Decl.{Decl}
use Rattle.types.specs.declared.layout.placing.LayoutFault.{LayoutFault}
use Rattle.types.specs.declared.layout.placing.LayoutFault.TheVariants.{AccessWrong, TooFar}
use Rattle.types.specs.declared.layout.placing.Placed.{Placed}
use Rattle.types.specs.declared.layout.placing.Placed.TheVariants.{Hosted, One}

-- parts, and how far they come, as one
abbrev pub both : List Part → Measured → LaidOut
both parts (Ok (c, n)) = laid parts c
both parts (Err AccessWrong) = stopped 11
both parts (Err TooFar) = stopped 12

after_both : (ps qs : List Part) (m : Measured) → after ps (both qs m) ≡ both (ps ++ qs) m
after_both ps qs (Ok (c, n)) = refl
after_both ps qs (Err AccessWrong) = refl
after_both ps qs (Err TooFar) = refl

module _ (name : Decl → List ℕ) (host : ℕ → List ℕ) where
  -- so many bytes of names may come before
  from_passes : (c : Cursor) (n : ℕ) (ds : List Decl)
      → layout_from name host c ds ≡ both (parts_from name host c ds) (measured host c n ds)
  unfolding layout_from parts_from measured
  from_passes c n [] = refl
  from_passes c n (d ∷ ds) = go (placed c d) (λ c' n'. from_passes c' n' ds)
    where
      go : (p : Result Placed LayoutFault)
          → ((c' : Cursor) (n' : ℕ)
          → layout_from name host c' ds ≡ both (parts_from name host c' ds) (measured host c' n' ds))
          → then_laid p (host c.members) (name d) (λ c'. layout_from name host c' ds)
          ≡ both (then_parts p (host c.members) (name d) (λ c'. parts_from name host c' ds))
          (then_measure p (length (host c.members)) d.name.long n (λ c' n'. measured host c' n' ds))
      go (Ok (Hosted h m c')) rest =
          let long = n + length (host c.members) + d.name.long in
          let ps = named (host c.members) h ∷ named (name d) m ∷ [] in
          ap (after ps) (rest c' long) ∙ after_both ps (parts_from name host c' ds) (measured host c' long ds)
      go (Ok (One m c')) rest =
          let long = n + d.name.long in
          let ps = named (name d) m ∷ [] in
          ap (after ps) (rest c' long) ∙ after_both ps (parts_from name host c' ds) (measured host c' long ds)
      go (Err AccessWrong) rest = refl
      go (Err TooFar) rest = refl

-- the layout of a UDT or an AOI is its parts, and how far they come, as one
pub laid_passes : (aoi : Bool) (name : Decl → List ℕ) (type : List ℕ) (ds : List Decl)
    → layout_of aoi name type ds ≡ both (parts_of aoi name type ds) (measured_of aoi type ds)
unfolding aoi_layout aoi_parts measured_aoi udt_layout udt_parts
laid_passes true name type ds =
    let h = aoi_hosts ds in
    let long = length (names_of (host_parts 0 h)) + 17 in
    let rest = parts_from name (host_name type) (aoi_start h) ds in
    let m = measured (host_name type) (aoi_start h) long ds in
    ap (λ (l : LaidOut). after (host_parts 0 h) (after enable_parts l))
    (from_passes name (host_name type) (aoi_start h) long ds)
    ∙ ap (after (host_parts 0 h)) (after_both enable_parts rest m)
    ∙ after_both (host_parts 0 h) (enable_parts ++ rest) m
laid_passes false name type ds = from_passes name (host_name type) udt_start 0 ds
