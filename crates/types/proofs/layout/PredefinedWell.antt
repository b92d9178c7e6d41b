-- The predefined types are laid out well (document 01, "Layout", Predefined).
use native.Mathlib.Omega.{arith}
use mathlib.Core.Path.{refl}
use mathlib.Core.List.{[]}
use Rattle.types.specs.adding.Add.{new_def}
use Rattle.types.specs.layout.Placing.{align_up}
use Rattle.types.specs.layout.Predefined.{with_timer, with_counter, with_control, predefined}
use Rattle.types.specs.layout.Structs.{timer_parts, counter_parts, control_type_parts, string_size}
use Rattle.types.specs.declared.layout.predefined.PredefinedIds.{PredefinedIds}
use Rattle.types.specs.declared.tables.member.StructKind.TheVariants.{Predefined}
use Rattle.types.proofs.layout.LaidLaws.{control_laid, string_laid}
use Rattle.types.proofs.layout.StringLaws.{string_is, other_kind}
use Rattle.types.proofs.tables.WellLaws.{Well, sizes_of, well_none, well_more}

module _ (ids : PredefinedIds) where
  timer_well : Well (with_timer ids)
  unfolding with_timer new_def timer_parts
  timer_well =
      well_more [] _ well_none
      (record {
        laid = control_laid (sizes_of []) 0 _ _ _ (omega arith);
        most = omega arith;
        string = other_kind Predefined refl;
      })

  counter_well : Well (with_counter ids)
  unfolding with_counter new_def counter_parts
  counter_well =
      well_more (with_timer ids) _ timer_well
      (record {
        laid = control_laid (sizes_of (with_timer ids)) _ _ _ _ (omega arith);
        most = omega arith;
        string = other_kind Predefined refl;
      })

  control_well : Well (with_control ids)
  unfolding with_control new_def control_type_parts
  control_well =
      well_more (with_counter ids) _ counter_well
      (record {
        laid = control_laid (sizes_of (with_counter ids)) _ _ _ _ (omega arith);
        most = omega arith;
        string = other_kind Predefined refl;
      })

  -- each of the four predefined types is well made
  pub predefined_well : Well (predefined ids)
  unfolding predefined new_def string_size align_up
  predefined_well =
      well_more (with_control ids) _ control_well
      (record {
        laid = string_laid (sizes_of (with_control ids)) _ 82 (omega arith);
        most = omega arith;
        string = λ k. string_is 82;
      })
