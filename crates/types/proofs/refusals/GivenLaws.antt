-- Laws of bytes given into a caller's buffer (document 01, "Refusal numbers": 15, then 16).
use Rattle.std.specs.Prelude.{Result, Ok, Err}
use Prim.Native.Nat.{ℕ, ◌^◌, ◌≤◌, ◌<◌}
use native.Mathlib.Omega.{arith}
use mathlib.Core.Path.{◌≡◌, refl}
use mathlib.Core.Bool.{Bool, true, false}
use mathlib.Core.List.{List}
use borrow.Author.Tests.{le-leb, lt-leb}
use lib.ListN.{length, take}
use lib.Seq.{sets, sets-eq, take_at, length-sets}
use Rattle.types.specs.inside.listing.Lines.{Lined}
use Rattle.types.specs.refusals.Given.{Given, buffer_left, length_given}
use Rattle.types.specs.declared.refusals.refusal.Refusal.{Refusal}
use Rattle.types.specs.declared.refusals.refusal.Refusal.TheVariants.{NoRoom, NoSuchType}

-- ---- the ways out

module _ {s out : List ℕ} where
  -- where the buffer has room, the bytes are put at its start and their length is answered
  pub given_room : length s ≤ length out → Given true s out (Ok (length s)) (sets out 0 s)
  unfolding length_given buffer_left
  given_room h =
      let e = le-leb (length s) (length out) h in
      record { is = simp e; bytes = simp e }

  -- the way out with 16, where the buffer is too short: it stays as it was
  pub given_none : length out < length s → Given true s out (Err NoRoom) out
  unfolding length_given buffer_left
  given_none h =
      let e = lt-leb (length s) (length out) h in
      record { is = simp e; bytes = simp e }

  -- the way out with 15, where there is nothing to give: the buffer stays as it was
  pub given_absent : {there : Bool} → there ≡ false → Given there s out (Err NoSuchType) out
  unfolding length_given buffer_left
  given_absent e = record { is = rw e; bytes = rw e }

-- ---- a line in a buffer of its own

module _ {s out left : List ℕ} {n : ℕ} (l : Lined s out n left) where
  same_long : length left ≡ length out
  same_long = rw l.bytes (length-sets out 0 s)

  -- it lies inside the buffer
  pub line_inside : n ≤ length left
  line_inside = omega (arith, l.long, l.room, same_long)

  -- it is the buffer's first part
  pub line_part : take n left ≡ s
  line_part =
      rw (l.bytes, l.long)
      (rw (sets-eq s out 0 (omega (arith, l.room))) (take_at s _ (length s) refl))

  -- that part is as long as was answered
  pub line_long : n ≡ length (take n left)
  line_long = rw line_part l.long

  -- a line of a buffer below 2^32 bytes can be given
  pub line_short : length out < 2 ^ 32 → length (take n left) < 2 ^ 32
  line_short h = omega (arith, line_long, l.long, l.room)

  -- giving that part is giving the line, where there is one
  pub line_given : {there : Bool} {buffer given : List ℕ} {r : Result ℕ Refusal} → there ≡ true
      → Given true (take n left) buffer r given → Given there s buffer r given
  line_given e g = rw (e, ← line_part) g
