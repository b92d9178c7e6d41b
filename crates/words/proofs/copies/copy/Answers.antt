-- `words::copy` meets its contract: what stands after a write to a part of a slice is what was stored there.
use Rattle.std.proofs.Common.{arith, ◌+◌, ◌-◌, ◌≡◌, length, take, drop}
use Rattle.std.proofs.lemmas.List.Edits.{sets-eq}
use lib.Seq.{drop-drop}
use mathlib.Core.List.{append_assoc}
use mathlib.Core.Path.{sym}
use Rattle.words.proofs.copies.copy.Goals as goal

pub returns : goal.returns
returns c =
    let a = c.args in
    let e : a.at + length a.s.now - a.at ≡ length a.s.now = omega arith in
    rw (
      c.copy_from_slice.ensures.after,
      e,
      sets-eq a.s.now a.out.now a.at c.requires,
      drop-drop (length a.s.now) a.at
          a.out.now,
    )
    (sym (append_assoc (take a.at a.out.now) a.s.now (drop (a.at + length a.s.now) a.out.now)))
