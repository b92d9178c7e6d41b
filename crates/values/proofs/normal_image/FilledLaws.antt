-- A part of an image filled with zeros (document 01, "Normal image"): they are stored from the part's first byte on.
use Rattle.std.proofs.Common.{arith, ℕ, ◌+◌, ◌-◌, ◌≤◌, ◌≡◌, List, length, replicate, take, drop, sym}
use Rattle.std.proofs.lemmas.List.Edits.{sets, sets-eq}
use borrow.Rule.Slice.PartMut.{mid_len, mid_of, put_mid}
use lib.ListN.{length-replicate}
use lib.Seq.{drop-drop}
use mathlib.Core.List.{append_assoc}

-- n bytes from a up to e filled with zeros
pub zeros_filled : (image : List ℕ) {part : List ℕ} (a e n : ℕ) → a + n ≡ e → e ≤ length image
    → part ≡ replicate (length (mid_of a (e - a) image)) 0 → put_mid a (e - a) image part ≡ sets image a (replicate n 0)
zeros_filled image {part} a e n h l f =
    let m : e - a ≡ n = omega arith in
    let long : length {A = ℕ} (replicate n 0) ≡ n = length-replicate {A = ℕ} n 0 in
    rw (f, mid_len a e image l, m, sets-eq (replicate n 0) image a (omega arith), long, drop-drop n a image)
    (sym (append_assoc (take a image) (replicate n 0) (drop (a + n) image)))
