-- Which entries an atomic takes, as the code tests it (document 01, "Writing"): the one kind of BOOL, REAL and LREAL;
-- for whole numbers the greatest, and the greatest that is too low, as 64 bits. That it is what `Effects` says is one
-- law over the width.
use Rattle.std.specs.Prelude.{ℕ, cond, eqb, leb, ltb, Option, None, Some}
use Rattle.types.specs.declared.atomics.atomic.Atomic.{Atomic}
use Rattle.types.specs.declared.atomics.atomic.Atomic.TheVariants as atomic
use Rattle.values.specs.declared.writing.limits.Limits.{Limits}
use Rattle.values.specs.declared.writing.limits.Misfit.{Misfit}
use Rattle.values.specs.declared.writing.limits.Misfit.TheVariants.{Kind, Range}

abbrev pub one_kind : ℕ → Limits
one_kind kind = record { kind = kind; under = 0; most = 0 }

abbrev pub wholes : ℕ → ℕ → Limits
wholes under most = record { kind = 2; under = under; most = most }

abbrev pub limits_of : Atomic → Limits
limits_of atomic.Bool = one_kind 1
limits_of atomic.SInt = wholes 0xFFFFFFFFFFFFFF7F 0x7F
limits_of atomic.Int = wholes 0xFFFFFFFFFFFF7FFF 0x7FFF
limits_of atomic.DInt = wholes 0xFFFFFFFF7FFFFFFF 0x7FFFFFFF
limits_of atomic.LInt = wholes 0x7FFFFFFFFFFFFFFF 0x7FFFFFFFFFFFFFFF
limits_of atomic.USInt = wholes 0xFFFFFFFFFFFFFFFF 0xFF
limits_of atomic.UInt = wholes 0xFFFFFFFFFFFFFFFF 0xFFFF
limits_of atomic.UDInt = wholes 0xFFFFFFFFFFFFFFFF 0xFFFFFFFF
limits_of atomic.ULInt = wholes 0xFFFFFFFFFFFFFFFF 0xFFFFFFFFFFFFFFFF
limits_of atomic.Real = one_kind 4
limits_of atomic.LReal = one_kind 5
limits_of atomic.Byte = wholes 0xFFFFFFFFFFFFFF7F 0xFF
limits_of atomic.Word = wholes 0xFFFFFFFFFFFF7FFF 0xFFFF
limits_of atomic.DWord = wholes 0xFFFFFFFF7FFFFFFF 0xFFFFFFFF
limits_of atomic.LWord = wholes 0x7FFFFFFFFFFFFFFF 0xFFFFFFFFFFFFFFFF

-- a number that is not negative, and one of kind 2
unfoldable pub above_misfit : Limits → ℕ → Option Misfit
above_misfit f x = cond (leb x f.most) None (Some Range)

unfoldable pub signed_misfit : Limits → ℕ → Option Misfit
signed_misfit f x =
    cond (leb 0x8000000000000000 x) (cond (ltb f.under x) None (Some Range)) (above_misfit f x)

unfoldable pub whole_misfit : Limits → ℕ → ℕ → Option Misfit
whole_misfit f kind x = cond (eqb kind 2) (signed_misfit f x) (cond (eqb kind 3) (above_misfit f x) (Some Kind))

-- why an entry of a kind and a payload is not taken, where it is not
unfoldable pub misfit : Limits → ℕ → ℕ → Option Misfit
misfit f kind x =
    cond (eqb kind 0) None (cond (eqb f.kind 2) (whole_misfit f kind x) (cond (eqb kind f.kind) None (Some Kind)))
