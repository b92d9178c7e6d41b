-- What `{}` prints of a refusal (document 01, "Refusal numbers"): what went wrong, in a few words, after the type's
-- number in the book or the entry's in the stream where it has one.
use Rattle.std.specs.Prelude.{ℕ, ◌++◌, List, codes, decimal}
use Rattle.types.specs.declared.refusals.refusal.Refusal.{Refusal}
use Rattle.types.specs.declared.refusals.refusal.Refusal.TheVariants.{BookMalformed, NameOutsideRule, NameKnown}
use Rattle.types.specs.declared.refusals.refusal.Refusal.TheVariants.{IdOutsideRange, IdInUse, NoIdFree}
use Rattle.types.specs.declared.refusals.refusal.Refusal.TheVariants.{StringWrong, MemberTwice, LocalOutsideAoi}
use Rattle.types.specs.declared.refusals.refusal.Refusal.TheVariants.{TypesUnknown, AccessWrong, MemberTooFar}
use Rattle.types.specs.declared.refusals.refusal.Refusal.TheVariants.{TablesFull, ImageLength, NoSuchType}
use Rattle.types.specs.declared.refusals.refusal.Refusal.TheVariants.{NoRoom, StreamMalformed, EntryMisfit}
use Rattle.types.specs.declared.refusals.refusal.Refusal.TheVariants.{NumberOutOfRange, PastLastPlace}
use Rattle.types.specs.declared.refusals.refusal.Refusal.TheVariants.{TextTooLong, PredefinedIds, LengthsWrong}
use Rattle.types.specs.declared.refusals.refusal.Refusal.TheVariants.{TagTooLarge}

abbrev pub words_of : Refusal → List ℕ
words_of BookMalformed = codes "the book is malformed"
words_of (NameOutsideRule p) = codes "type " ++ decimal p ++ codes ": a name breaks the rule of names"
words_of (NameKnown p) = codes "type " ++ decimal p ++ codes ": its name is known already"
words_of (IdOutsideRange p) = codes "type " ++ decimal p ++ codes ": its id is outside 0x100..0xEFF"
words_of (IdInUse p) = codes "type " ++ decimal p ++ codes ": its id is in use"
words_of (NoIdFree p) = codes "type " ++ decimal p ++ codes ": no id is free"
words_of (StringWrong p) = codes "type " ++ decimal p ++ codes ": a string type that cannot be one"
words_of (MemberTwice p) = codes "type " ++ decimal p ++ codes ": a member name comes twice"
words_of (LocalOutsideAoi p) = codes "type " ++ decimal p ++ codes ": a local member outside an AOI"
words_of (TypesUnknown p) = codes "type " ++ decimal p ++ codes ": unknown or circular member types"
words_of (AccessWrong p) = codes "type " ++ decimal p ++ codes ": an access that is not 0, 2 or 3"
words_of (MemberTooFar p) = codes "type " ++ decimal p ++ codes ": a member ends above 2^26 bytes"
words_of (TablesFull p) = codes "type " ++ decimal p ++ codes ": the tables are full"
words_of ImageLength = codes "the image has another length than the value"
words_of NoSuchType = codes "no such type, or it lacks what was asked for"
words_of NoRoom = codes "the buffer is too short"
words_of StreamMalformed = codes "the value stream is malformed"
words_of (EntryMisfit p) = codes "entry " ++ decimal p ++ codes ": misfit, missing or left over"
words_of (NumberOutOfRange p) = codes "entry " ++ decimal p ++ codes ": a whole number is out of range"
words_of (PastLastPlace p) = codes "entry " ++ decimal p ++ codes ": after an array's last place"
words_of (TextTooLong p) = codes "entry " ++ decimal p ++ codes ": a text is longer than the capacity"
words_of PredefinedIds = codes "the predefined ids are wrong"
words_of LengthsWrong = codes "a tag's lengths are wrong"
words_of TagTooLarge = codes "the tag is too large"
