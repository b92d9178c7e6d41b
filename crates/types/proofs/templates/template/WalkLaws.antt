-- Laws of the walk over a structure's template (document 01, "Template and handle"): what is left after each of its
-- pieces, and that its length is small.
use Prim.Native.Nat.{ℕ, ◌+◌, ◌*◌, ◌^◌, ◌≤◌}
use native.Mathlib.Omega.{arith}
use mathlib.Core.Path.{◌≡◌, refl, ap, ◌∙◌}
use mathlib.Core.Bool.{Bool, true, false, cond}
use mathlib.Core.List.{List, [], ◌∷◌, ◌++◌, append-nil}
use lib.ListN.{length, length-append}
use Rattle.words.proofs.Lists.{part_most}
use Rattle.types.specs.inside.tables.Defs.{Readable}
use Rattle.types.specs.inside.templates.Pieces.{infos_in, shown_in, names_in, front_in}
use Rattle.types.specs.inside.templates.Sink.{SinkRoom, Emitted}
use Rattle.types.specs.tables.Defs.{name_in, parts_at, def_of}
use Rattle.types.specs.tables.TypeWord.{ids_in}
use Rattle.types.specs.templates.Template.{user_id, padding, member_ids, front_of, template_of, template_in}
use Rattle.types.specs.declared.tables.member.StructDef.{StructDef}
use Rattle.types.specs.declared.templates.sink.Sink.{Sink}
use Rattle.types.proofs.templates.SinkLaws.{PiecesLeft, left_all, left_room, left_on}
use Rattle.types.proofs.templates.TemplateLaws.{infos_any, parts_long, infos_long, names_long, shown_long}
use Rattle.types.proofs.templates.TemplateLaws.{padding_long, ids_long}

module _ (types members names : List ℕ) (d : StructDef) where
  -- ---- the pieces of a template

  -- what every template has is the infos, the shown name and 0, then the member names
  pub front_is : front_in types members names d
      ≡ infos_in types members d ++ (shown_in names d ++ (0 ∷ names_in members names d))
  unfolding front_of def_of
  front_is = rw (infos_any (ids_in types) members names [] d.first d.count)

  -- what ids 0x100..0xEFF have after that
  tail : Bool → List ℕ
  tail user = cond user (padding (length (front_in types members names d)) ++ member_ids 0 d.count) []

  template_is : template_in types members names d ≡ front_in types members names d ++ tail (user_id d.id)
  unfolding template_of def_of tail
  template_is = rw (parts_long members names d.first d.count)

  -- a sink that can take the template can take the part that every template has
  pub front_room : {k : Sink} {out : List ℕ} → SinkRoom (template_in types members names d) k out
      → SinkRoom (front_in types members names d) k out
  front_room h = left_room _ (tail (user_id d.id)) template_is (left_all h)

  -- a user's type: the padding and the member ids are left
  pub front_user : {user : Bool} {k m : Sink} {out left : List ℕ} → user ≡ user_id d.id → user ≡ true → k.at ≡ 0
      → SinkRoom (template_in types members names d) k out → Emitted (front_in types members names d) k out m left
      → PiecesLeft (template_in types members names d) k out (padding m.at ++ member_ids 0 d.count) m left
  front_user {user} {k} {m} p q z h e =
      let at : m.at ≡ length (front_in types members names d) = omega (arith, e.at) in
      left_on _ (template_is ∙ rw (← p, q, at) (unfold tail in refl)) (left_all h) e

  -- any other: nothing is left
  pub front_bare : {user : Bool} {k m : Sink} {out left : List ℕ} → user ≡ user_id d.id → user ≡ false
      → Emitted (front_in types members names d) k out m left → Emitted (template_in types members names d) k out m left
  front_bare {user} p q e = rw (template_is, ← p, q) (unfold tail in rw append-nil e)

  -- ---- its length

  tail_small : (user : Bool) → length (tail user) ≤ 3 + 2 * d.count
  unfolding tail
  tail_small true =
      simp length-append (omega (arith, padding_long (length (front_in types members names d)), ids_long 0 d.count))
  tail_small false = omega arith

  -- the template of a structure that can be read has at most 2^31 bytes
  pub template_small : Readable members d → length (template_in types members names d) ≤ 2 ^ 31
  template_small r =
      let infos_are : length (infos_in types members d) ≡ 8 * d.count =
      infos_long (ids_in types) (parts_at members [] d.first d.count)
      ∙ ap (λ (n : ℕ). 8 * n) (parts_long members [] d.first d.count) in
      let names_are : length (names_in members names d) ≤ 32769 * d.count =
      names_long members names d.first d.count (λ k l. omega (arith, r.names k l)) in
      rw (template_is, front_is)
      (simp length-append
      (omega (
        arith,
        r.rows,
        r.name,
        infos_are,
        names_are,
        shown_long d.kind d.id (name_in names d.name),
        part_most names d.name.at d.name.long,
        tail_small (user_id d.id),
      )))

-- ---- the start of a walk

-- a sink at its start that does not write can take any bytes up to 2^31
pub quiet_room : {s out : List ℕ} {fold : ℕ} → length s ≤ 2 ^ 31
    → SinkRoom s (record { at = 0; fold = fold; writes = false }) out
quiet_room {s} {out} {fold} h =
    record {
      small = omega arith;
      room = λ w.
          let z : ◌≡◌ {A = ℕ} 0 1 = cc in
          omega arith;
    }

-- a sink at its start that writes can take up to 2^31 bytes that the buffer has room for
pub writing_room : {s out : List ℕ} {fold : ℕ} → length s ≤ 2 ^ 31 → length s ≤ length out
    → SinkRoom s (record { at = 0; fold = fold; writes = true }) out
writing_room {s} {out} {fold} h l = record { small = omega arith; room = λ w. omega arith }
