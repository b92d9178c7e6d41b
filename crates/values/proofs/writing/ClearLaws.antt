-- Zero bytes stored in an image (document 01, "Writing": text zeroes the rest of DATA; "Normal image"): their bits are
-- cleared.
use Prim.Native.Nat.{ℕ, ◌+◌, ◌*◌, ◌/◌, ◌%◌, ◌<◌, ◌≤◌}
use native.Mathlib.Omega.{arith}
use mathlib.Core.Bool.{false}
use mathlib.Core.List.{List}
use mathlib.Core.Path.{◌≡◌, ap, ◌∙◌}
use lib.ListN.{length, replicate, get_or-replicate, length-replicate}
use lib.Seq.{sets}
use Rattle.words.specs.Bits.{bit_of, flat, stamp}
use Rattle.words.proofs.BitLaws.{bit_none}
use Rattle.words.proofs.StampLaws.{stamp_ext, flat_sets}
use Rattle.values.specs.inside.normal_image.InPlace.{cleared}
use Rattle.values.specs.writing.Writing.{no_bits}

-- zeros stored from a place on clear the bits there
pub zeros_cleared : (image : List ℕ) (at n : ℕ) → at + n ≤ length image
    → flat (sets image at (replicate n 0)) ≡ cleared (8 * at) (8 * n) (flat image)
zeros_cleared image at n l =
    let long : length {A = ℕ} (replicate n 0) ≡ n = length-replicate {A = ℕ} n 0 in
    flat_sets image at (replicate n 0) (omega arith)
    ∙ ap (λ (k : ℕ). stamp (8 * at) (8 * k) (flat (replicate n 0)) (flat image)) long
    ∙ stamp_ext (8 * at) (8 * n) (flat (replicate n 0)) no_bits (flat image) bit
  where
    bit : (k : ℕ) → k < 8 * n → flat (replicate n 0) k ≡ false
    bit k h =
        unfold flat in
        ap (λ (x : ℕ). bit_of x (k % 8)) (get_or-replicate {A = ℕ} n (k / 8) 0 0 (omega arith)) ∙ bit_none (k % 8)
