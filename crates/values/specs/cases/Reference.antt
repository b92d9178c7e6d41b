-- The reference cases that document 01 marks P ("Reference cases"), in its order, as one proved table: a field for each
-- thing that a line says. Each is computed where its definitions stand; here they stand together.
use mathlib.Core.List.{[], ◌∷◌, get_last?}
use Rattle.std.proofs.Math.Option.{some}
use Rattle.std.specs.Prelude.{◌≡◌, length, replicate}
use Rattle.types.specs.cases.Layouts.{aoi, bool, bool_dim, declared_as, hosts_at, parts_if, sint, size_if, udt, visible}
use Rattle.types.specs.cases.Layouts as layouts
use Rattle.types.specs.layout.Placing.{bool_at, other_at}
use Rattle.types.specs.layout.Structs.{string_size}
use Rattle.types.specs.templates.Handle.{fold_from}
use Rattle.types.specs.declared.atomics.atomic.Atomic.TheVariants.{DWord}
use Rattle.types.specs.declared.tables.member.Ty.TheVariants.{Struct}
use Rattle.values.specs.cases.Normal.{chan_normal}
use Rattle.values.specs.cases.Reading.{chan, chan_eight, chan_image, chan_tree_lem, entries, long_image, string82}
use Rattle.values.specs.cases.Reading.{string_entries, tree}
use Rattle.values.specs.normal_image.Normal.{normal_image}
use Rattle.values.specs.stream.Stream.{text}

pub record Reference : Type 0 where
  -- no members: size 0
  pub no_members : size_if (udt []) ≡ some 0
  -- eight BOOLs: one host; nine: hosts at 0 and 1, 11 members, size 4
  pub eight_bools : hosts_at (udt (replicate 8 bool)) ≡ 0 ∷ []
  pub nine_bools : hosts_at (udt (replicate 9 bool)) ≡ 0 ∷ 1 ∷ []
  pub nine_members : length (parts_if (udt (replicate 9 bool))) ≡ 11
  pub nine_size : size_if (udt (replicate 9 bool)) ≡ some 4
  -- BOOL, SINT, BOOL: hosts at 0 and 2, SINT at 1
  pub between_hosts : hosts_at (udt (bool ∷ sint ∷ bool ∷ [])) ≡ 0 ∷ 2 ∷ []
  pub between : visible (udt (bool ∷ sint ∷ bool ∷ [])) ≡ bool_at bool 0 0 ∷ other_at sint 1 ∷ bool_at bool 2 0 ∷ []
  -- BOOL dim 32: one DWORD; dim 33: two, size 8
  pub dim_32 : visible (udt (bool_dim 32 ∷ [])) ≡ other_at (declared_as DWord 1) 0 ∷ []
  pub dim_33 : visible (udt (bool_dim 33 ∷ [])) ≡ other_at (declared_as DWord 2) 0 ∷ []
  pub dim_33_size : size_if (udt (bool_dim 33 ∷ [])) ≡ some 8
  -- AOI with 30 BOOLs: one host, last at byte 3 bit 7; with 31: two, last at byte 4 bit 0
  pub thirty_bools : hosts_at (aoi (replicate 30 bool)) ≡ 0 ∷ []
  pub thirty_last : get_last? (visible (aoi (replicate 30 bool))) ≡ some (bool_at bool 3 7)
  pub thirty_one_bools : hosts_at (aoi (replicate 31 bool)) ≡ 0 ∷ 4 ∷ []
  pub thirty_one_last : get_last? (visible (aoi (replicate 31 bool))) ≡ some (bool_at bool 4 0)
  -- capacity 82: size 88; LEN FFFFFFFF reads 82 bytes
  pub string_size_lem : string_size 82 ≡ 88
  pub string_text : entries string82 (Struct 0) 0 long_image ≡ text (replicate 82 65) ∷ []
  -- fold of one zero byte: 0xE1C5
  pub zero_byte : fold_from 0x1D0F (0 ∷ []) ≡ 0xE1C5
  -- image 03 7F FE FF gives 8 entries and normal image 03 00 FE FF
  pub chan_entries : length (entries chan (Struct 0) 0 chan_image) ≡ 8
  pub chan_image_normal : normal_image (tree chan (Struct 0) 0) chan_image ≡ 0x03 ∷ 0x00 ∷ 0xFE ∷ 0xFF ∷ []

pub reference : Reference
reference =
    record {
      no_members = layouts.no_members;
      eight_bools = layouts.eight_bools;
      nine_bools = layouts.nine_bools;
      nine_members = layouts.nine_members;
      nine_size = layouts.nine_size;
      between_hosts = layouts.between_hosts;
      between = layouts.between;
      dim_32 = layouts.dim_32;
      dim_33 = layouts.dim_33;
      dim_33_size = layouts.dim_33_size;
      thirty_bools = layouts.thirty_bools;
      thirty_last = layouts.thirty_last;
      thirty_one_bools = layouts.thirty_one_bools;
      thirty_one_last = layouts.thirty_one_last;
      string_size_lem = layouts.string_size_lem;
      string_text = string_entries;
      zero_byte = layouts.zero_byte;
      chan_entries = chan_eight;
      chan_image_normal = rw chan_tree_lem chan_normal;
    }
