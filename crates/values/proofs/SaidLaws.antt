-- What is said tells the answer (document 01, "What promises shut out"): the answer of each call on values is the only
-- one, and so is what it leaves.
use denote.Bor.{Bor}
use Rattle.types.specs.refusals.Said.{done}
use Rattle.std.specs.Prelude.{Option, Result, Ok, Err}
use Prim.Native.Nat.{ℕ}
use mathlib.Core.Path.{◌≡◌, sym, ap, ap₂, ◌∙◌}
use mathlib.Core.List.{List}
use Rattle.types.specs.declared.refusals.refusal.Refusal.{Refusal}
use Rattle.types.specs.declared.tables.member.Ty.{Ty}
use Rattle.types.proofs.Face.{said_same, why_same}
use Rattle.values.specs.normal_image.Normalised.{MadeNormal}
use Rattle.values.specs.reading.Read.{Answered}
use Rattle.values.specs.reading.Texts.{Stored, VeryPart}
use Rattle.values.specs.declared.stream.entry.Entry.{Entry}
use Rattle.values.specs.stream.Entry.{LoadedFits, entry_at, said_by as loaded_says}
use Rattle.values.specs.writing.Written.{Done}
use Rattle.values.proofs.stream.EntryLaws.{loaded_same}

module _ {types members : List ℕ} {t : Ty} {n : ℕ} {new new' : List ℕ} where
  -- `read`, `write` and `normal` have one answer, and leave one buffer or image
  pub read_only_one : {image out : List ℕ} {r s : Result ℕ Refusal} → Answered types members t n image out r new
      → Answered types members t n image out s new' → (r ≡ s) × (new ≡ new')
  read_only_one {image} {out} {r} {s} a b =
      (said_same r s (a.answer ∙ sym b.answer), a.leaves ∙ sym b.leaves)

  pub write_only_one : {s image : List ℕ} {r q : Result (Unit {0}) Refusal} → Done types members t n s image r new
      → Done types members t n s image q new' → (r ≡ q) × (new ≡ new')
  write_only_one {s} {image} {r} {q} a b =
      (said_same r q (a.answer ∙ sym b.answer), a.leaves ∙ sym b.leaves)

  pub normal_only_one : {image : List ℕ} {r q : Result (Unit {0}) Refusal} → MadeNormal types members t n image r new
      → MadeNormal types members t n image q new' → (r ≡ q) × (new ≡ new')
  normal_only_one {image} {r} {q} a b =
      (said_same r q (a.answer ∙ sym b.answer), a.leaves ∙ sym b.leaves)

same_part : {image p q : Bor (List ℕ)} → done p.now ≡ done q.now → VeryPart image p → VeryPart image q → p ≡ q
same_part {p = p} {q = q} e a b =
    let bytes : p.now ≡ q.now = cc in
    let place : p.ref_ptr ≡ q.ref_ptr =
    ap₂ (λ (m n : ℕ). (m, n)) (a.block ∙ sym b.block) (a.start ∙ sym b.start) in
    ap₂ (λ (m : ℕ × ℕ) (n : List ℕ). record { ref_ptr = m; now = n }) place bytes

-- `text` has one answer: one refusal, or one part at one place
pub text_only_one : {types members : List ℕ} {t : Ty} {image : Bor (List ℕ)} (r q : Result (Bor (List ℕ)) Refusal)
    → Stored types members t image r → Stored types members t image q → r ≡ q
text_only_one (Ok p) (Ok q) a b = ap Ok (same_part (a.answer ∙ sym b.answer) a.place b.place)
text_only_one (Ok p) (Err w) a b = cc (a.answer ∙ sym b.answer)
text_only_one (Err w) (Ok q) a b = cc (a.answer ∙ sym b.answer)
text_only_one (Err w) (Err v) a b = ap Err (why_same w v (a.answer ∙ sym b.answer))

-- `entry_at` has one answer
pub entry_only_one : (s : List ℕ) (at : ℕ) (r q : Option Entry) → LoadedFits r → LoadedFits q
    → loaded_says r ≡ entry_at s at → loaded_says q ≡ entry_at s at → r ≡ q
entry_only_one s at r q f g a b = loaded_same r q f g (a ∙ sym b)
