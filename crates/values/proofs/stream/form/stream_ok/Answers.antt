-- `values::stream_ok` meets its contract.
use Rattle.std.proofs.Common.{ℕ, ◌+◌, ◌*◌, ◌∙◌, ap, arith}
use borrow.Author.Tests.{lt-leb}
use Rattle.values.specs.stream.Form.{formed}
use Rattle.values.proofs.stream.FormLaws.{too_short, too_long, too_many, all_ok}
use Rattle.values.proofs.stream.form.stream_ok.Goals as goal
use Rattle.values.proofs.stream.form.stream_ok.Goals.{then-s-lt4-via-then-s-lt4}
use Rattle.values.proofs.stream.form.stream_ok.Goals.{then-s-lt4-via-else-s-lt4+then-s-gt-MOST_BYTES}

pub returns-then-s-lt4 : goal.returns-then-s-lt4
returns-then-s-lt4 c =
    let s = c.args.s.now in
    elim c.then-s-lt4.branch [
      | then-s-lt4-via-then-s-lt4 w ↦ too_short s w.if-s-lt4.true
      | then-s-lt4-via-else-s-lt4+then-s-gt-MOST_BYTES w ↦ too_long s w.if-s-gt-MOST_BYTES.true
    ]

pub returns-then-base-s : goal.returns-then-base-s
returns-then-base-s c =
    let s = c.args.s.now in
    c.entries_ok.ensures ∙ ap (λ (k : ℕ). formed s (4 + 12 * k) 0 k 0) c.load-n.ensures
    ∙ all_ok s c.if-s-gt-MOST_BYTES.false

pub returns-else-base-s : goal.returns-else-base-s
returns-else-base-s c =
    lt-leb _ _ c.if-base-s.false ∙ too_many c.args.s.now (omega (arith, c.load-n.ensures))
