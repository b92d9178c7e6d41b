-- `types::resolved` meets its contract: one BOOL, an array of them, or any other.
use Rattle.std.proofs.Common.{◌≡◌, ◌+◌, ◌-◌, ◌/◌, sym, ◌∙◌, arith}
use Rattle.std.specs.Int.{div_ceil}
use Rattle.types.proofs.book.DeclLaws.{one_bool, bool_array_lem, no_bool}
use Rattle.types.proofs.book.decls.resolved.Goals as goal
use Rattle.types.proofs.book.decls.resolved.Goals.{then-is_bool+then-dim-ne0, else-is_bool}
use Rattle.types.proofs.book.decls.resolved.Goals.{else-is_bool-via-then-is_bool+else-dim-ne0}
use Rattle.types.proofs.book.decls.resolved.Goals.{else-is_bool-via-else-is_bool}

pub returns : goal.returns
returns c =
    let a = c.args in
    c.plain.ensures ∙ elim c.if-is_bool.branch [
      | then-is_bool+then-dim-ne0 w ↦
          let ceil : div_ceil a.dim 32 ≡ (a.dim - 1) / 32 + 1 = omega (arith, w.if-dim-ne0.true) in
          rw (w.ty-is, w.div_ceil.ensures, ceil)
          (bool_array_lem _ a.ty a.dim a.name a.local a.access
          (sym c.is_bool.ensures ∙ w.if-is_bool.true) w.if-dim-ne0.true)
      | else-is_bool w ↦
          rw w.ty-is
          (elim w.else-is_bool.branch [
            | else-is_bool-via-then-is_bool+else-dim-ne0 v ↦
                one_bool _ a.ty a.dim a.name a.local a.access
                (sym c.is_bool.ensures ∙ v.if-is_bool.true) v.if-dim-ne0.false
            | else-is_bool-via-else-is_bool v ↦
                no_bool _ a.ty a.dim a.name a.local a.access
                (sym c.is_bool.ensures ∙ v.if-is_bool.false)
          ])
    ]
