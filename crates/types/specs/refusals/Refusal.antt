-- Refusals (document 01, "Refusal numbers"): the number and the place of each case.
use Rattle.std.specs.Prelude.{ℕ}
use Rattle.types.specs.declared.refusals.refusal.Refusal.{Refusal}
use Rattle.types.specs.declared.refusals.refusal.Refusal.TheVariants.{BookMalformed, NameOutsideRule, NameKnown}
use Rattle.types.specs.declared.refusals.refusal.Refusal.TheVariants.{IdOutsideRange, IdInUse, NoIdFree}
use Rattle.types.specs.declared.refusals.refusal.Refusal.TheVariants.{StringWrong, MemberTwice, LocalOutsideAoi}
use Rattle.types.specs.declared.refusals.refusal.Refusal.TheVariants.{TypesUnknown, AccessWrong, MemberTooFar}
use Rattle.types.specs.declared.refusals.refusal.Refusal.TheVariants.{TablesFull, ImageLength, NoSuchType}
use Rattle.types.specs.declared.refusals.refusal.Refusal.TheVariants.{NoRoom, StreamMalformed, EntryMisfit}
use Rattle.types.specs.declared.refusals.refusal.Refusal.TheVariants.{NumberOutOfRange, PastLastPlace}
use Rattle.types.specs.declared.refusals.refusal.Refusal.TheVariants.{TextTooLong, PredefinedIds, LengthsWrong}
use Rattle.types.specs.declared.refusals.refusal.Refusal.TheVariants.{TagTooLarge}

abbrev pub number_of : Refusal → ℕ
number_of BookMalformed = 1
number_of (NameOutsideRule p) = 2
number_of (NameKnown p) = 3
number_of (IdOutsideRange p) = 4
number_of (IdInUse p) = 5
number_of (NoIdFree p) = 6
number_of (StringWrong p) = 7
number_of (MemberTwice p) = 8
number_of (LocalOutsideAoi p) = 9
number_of (TypesUnknown p) = 10
number_of (AccessWrong p) = 11
number_of (MemberTooFar p) = 12
number_of (TablesFull p) = 13
number_of ImageLength = 14
number_of NoSuchType = 15
number_of NoRoom = 16
number_of StreamMalformed = 17
number_of (EntryMisfit p) = 18
number_of (NumberOutOfRange p) = 19
number_of (PastLastPlace p) = 20
number_of (TextTooLong p) = 21
number_of PredefinedIds = 22
number_of LengthsWrong = 23
number_of TagTooLarge = 24

-- a type's number in the book (2 to 13), an entry's in the stream (18 to 21), else 0
abbrev pub place_of : Refusal → ℕ
place_of BookMalformed = 0
place_of (NameOutsideRule p) = p
place_of (NameKnown p) = p
place_of (IdOutsideRange p) = p
place_of (IdInUse p) = p
place_of (NoIdFree p) = p
place_of (StringWrong p) = p
place_of (MemberTwice p) = p
place_of (LocalOutsideAoi p) = p
place_of (TypesUnknown p) = p
place_of (AccessWrong p) = p
place_of (MemberTooFar p) = p
place_of (TablesFull p) = p
place_of ImageLength = 0
place_of NoSuchType = 0
place_of NoRoom = 0
place_of StreamMalformed = 0
place_of (EntryMisfit p) = p
place_of (NumberOutOfRange p) = p
place_of (PastLastPlace p) = p
place_of (TextTooLong p) = p
place_of PredefinedIds = 0
place_of LengthsWrong = 0
place_of TagTooLarge = 0
