-- Numbers as the code widens them (document 01, "Reading"): the kind, the first negative number and what then stands
-- above it, for each atomic but BOOL. That it is what the atomic's leaf gives is one law over the width.
use Rattle.std.specs.Prelude.{ℕ, ◌+◌, ◌*◌, ◌≤◌, cond, List, ◌≡◌, ltb, length}
use Rattle.types.specs.atomics.Atomic.{size_of}
use Rattle.types.specs.declared.atomics.atomic.Atomic.{Atomic}
use Rattle.types.specs.declared.atomics.atomic.Atomic.TheVariants as atomic
use Rattle.values.specs.declared.reading.numbers.Form.{Form}

abbrev pub plain_form : ℕ → Form
plain_form kind = record { kind = kind; half = 0; fill = 0 }

abbrev pub signed_form : ℕ → ℕ → Form
signed_form half fill = record { kind = 2; half = half; fill = fill }

abbrev pub form_of : Atomic → Form
form_of atomic.Bool = plain_form 1
form_of atomic.SInt = signed_form 0x80 0xFFFFFFFFFFFFFF00
form_of atomic.Int = signed_form 0x8000 0xFFFFFFFFFFFF0000
form_of atomic.DInt = signed_form 0x80000000 0xFFFFFFFF00000000
form_of atomic.LInt = plain_form 2
form_of atomic.USInt = plain_form 3
form_of atomic.UInt = plain_form 3
form_of atomic.UDInt = plain_form 3
form_of atomic.ULInt = plain_form 3
form_of atomic.Real = plain_form 4
form_of atomic.LReal = plain_form 5
form_of atomic.Byte = plain_form 3
form_of atomic.Word = plain_form 3
form_of atomic.DWord = plain_form 3
form_of atomic.LWord = plain_form 3

-- a number in a form
unfoldable pub extended : Form → ℕ → ℕ
extended f x = cond (ltb x f.half) x (x + f.fill)

-- n numbers of w bytes each, in some bytes
pub record NumberRun (a : Atomic) (w n : ℕ) (s : List ℕ) : Type 0 where
  pub number : a ≡ atomic.Bool → ⊥
  pub size : size_of a ≡ w
  pub long : w * n ≤ length s
