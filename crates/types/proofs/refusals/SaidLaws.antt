-- What is said tells the answer (document 01, "Refusal numbers"): a refusal is the only one with its number and place,
-- so that two answers that say the same are the same.
use Rattle.std.specs.Prelude.{Option, Some, None, Result, Ok, Err}
use Prim.Native.Nat.{ℕ, ◌-◌}
use native.Mathlib.Omega.{arith}
use mathlib.Core.Path.{◌≡◌, refl, sym, ap, ap₂, ◌∙◌}
use mathlib.Core.List.{List, [], ◌∷◌}
use lib.ListN.{get_or}
use Rattle.types.specs.atomics.Lookup.{word_of, said_by as found_says}
use Rattle.types.specs.layout.Placing.{said_by as end_says}
use Rattle.types.specs.refusals.Refusal.{number_of, place_of}
use Rattle.types.specs.refusals.Said.{said_by, why}
use Rattle.types.specs.declared.refusals.refusal.Refusal.{Refusal}
use Rattle.types.specs.declared.refusals.refusal.Refusal.TheVariants as refusal
use Rattle.types.specs.declared.tables.member.Ty.{Ty}
use Rattle.types.specs.declared.tables.member.Ty.TheVariants.{Atomic, Struct}
use Rattle.types.proofs.atomics.AtomicLaws.{code_same}
use Rattle.types.proofs.shape.ShapeLaws.{code_below}

-- the refusals with a place, from number 1 on
abbrev refusals : ℕ → List Refusal
refusals p =
    refusal.BookMalformed ∷ refusal.NameOutsideRule p ∷ refusal.NameKnown p ∷ refusal.IdOutsideRange p
    ∷ refusal.IdInUse p ∷ refusal.NoIdFree p ∷ refusal.StringWrong p ∷ refusal.MemberTwice p
    ∷ refusal.LocalOutsideAoi p ∷ refusal.TypesUnknown p ∷ refusal.AccessWrong p ∷ refusal.MemberTooFar p
    ∷ refusal.TablesFull p ∷ refusal.ImageLength ∷ refusal.NoSuchType ∷ refusal.NoRoom ∷ refusal.StreamMalformed
    ∷ refusal.EntryMisfit p ∷ refusal.NumberOutOfRange p ∷ refusal.PastLastPlace p ∷ refusal.TextTooLong p
    ∷ refusal.PredefinedIds ∷ refusal.LengthsWrong ∷ refusal.TagTooLarge ∷ []

abbrev refusal_at : ℕ → ℕ → Refusal
refusal_at number p = get_or (refusals p) (number - 1) refusal.BookMalformed

back : (r : Refusal) → refusal_at (number_of r) (place_of r) ≡ r
back refusal.BookMalformed = refl
back (refusal.NameOutsideRule p) = refl
back (refusal.NameKnown p) = refl
back (refusal.IdOutsideRange p) = refl
back (refusal.IdInUse p) = refl
back (refusal.NoIdFree p) = refl
back (refusal.StringWrong p) = refl
back (refusal.MemberTwice p) = refl
back (refusal.LocalOutsideAoi p) = refl
back (refusal.TypesUnknown p) = refl
back (refusal.AccessWrong p) = refl
back (refusal.MemberTooFar p) = refl
back (refusal.TablesFull p) = refl
back refusal.ImageLength = refl
back refusal.NoSuchType = refl
back refusal.NoRoom = refl
back refusal.StreamMalformed = refl
back (refusal.EntryMisfit p) = refl
back (refusal.NumberOutOfRange p) = refl
back (refusal.PastLastPlace p) = refl
back (refusal.TextTooLong p) = refl
back refusal.PredefinedIds = refl
back refusal.LengthsWrong = refl
back refusal.TagTooLarge = refl

pub refusal_same : (r s : Refusal) → number_of r ≡ number_of s → place_of r ≡ place_of s → r ≡ s
refusal_same r s e f = sym (back r) ∙ ap₂ refusal_at e f ∙ back s

-- refusals that say the same number and place are the same
pub why_same : {A : Type 0} (r s : Refusal) → why {A = A} r ≡ why s → r ≡ s
why_same r s e =
    let number : number_of r ≡ number_of s = cc in
    let place : place_of r ≡ place_of s = cc in
    refusal_same r s number place

-- an answer is the only one that says what it says
pub said_same : {A : Type 0} (r s : Result A Refusal) → said_by r ≡ said_by s → r ≡ s
said_same (Ok n) (Ok m) e = cc
said_same (Ok n) (Err s) e = cc
said_same (Err r) (Ok m) e = cc
said_same (Err r) (Err s) e = let f = why_same r s e in cc

-- a type's word tells the type
word_same : (a b : Ty) → word_of a ≡ word_of b → a ≡ b
word_same (Atomic a) (Atomic b) e = ap Atomic (code_same a b e)
word_same (Atomic a) (Struct n) e = absurd (let z : ⊥ = omega (arith, code_below a) in z)
word_same (Struct n) (Atomic b) e = absurd (let z : ⊥ = omega (arith, code_below b) in z)
word_same (Struct n) (Struct m) e = ap Struct (omega arith)

pub found_same : (r s : Option Ty) → found_says r ≡ found_says s → r ≡ s
found_same (Some a) (Some b) e =
    let w : word_of a ≡ word_of b = cc in
    ap Some (word_same a b w)
found_same (Some a) None e = cc
found_same None (Some b) e = cc
found_same None None e = refl

pub end_same : (r s : Option ℕ) → end_says r ≡ end_says s → r ≡ s
end_same (Some n) (Some m) e = cc
end_same (Some n) None e = cc
end_same None (Some m) e = cc
end_same None None e = refl
