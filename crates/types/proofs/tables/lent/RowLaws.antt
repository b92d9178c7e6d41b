-- Rows of a table, eight words each (document 01, "Declaration book": the tables): what is copied over a row's words is
-- stored from its first word on.
use Prim.Native.Nat.{ℕ, ◌+◌, ◌-◌, ◌≤◌}
use Rattle.std.proofs.lemmas.List.Edits.{sets-eq}
use borrow.Rule.Slice.PartMut.{put_mid}
use native.Mathlib.Omega.{arith}
use mathlib.Core.Path.{◌≡◌, sym}
use mathlib.Core.List.{List, append_assoc}
use lib.ListN.{length, take, drop}
use lib.Seq.{sets, drop-drop}

-- eight words that replace those from a place on are stored there
pub row_put : (t s : List ℕ) (a : ℕ) → a + 8 ≤ length t → length s ≡ 8 → put_mid a (a + 8 - a) t s ≡ sets t a s
row_put t s a h e =
    let k : a + 8 - a ≡ 8 = omega arith in
    let r : a + length s ≤ length t = omega arith in
    rw (k, sets-eq s t a r, e, drop-drop 8 a t) (sym (append_assoc (take a t) s (drop (a + 8) t)))
