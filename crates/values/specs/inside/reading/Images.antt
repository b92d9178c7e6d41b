-- What reading, writing and making normal ask first (document 01, "Reading", "Refusal numbers"): 15 where there is no
-- such type, 14 where the image has not the length of its value.
use Rattle.std.specs.Prelude.{ℕ, ◌*◌, cond, List, eqb}
use Rattle.types.specs.layout.Placing.{times}
use Rattle.types.specs.refusals.Said.{Said, done, refused}
use Rattle.types.specs.tables.Sizes.{size_in, sizes_in}
use Rattle.types.specs.tables.There.{is_there}
use Rattle.types.specs.declared.tables.member.Ty.{Ty}

unfoldable pub said_of_image : List ℕ → Ty → ℕ → ℕ → Said (Unit {0})
said_of_image types t n long =
    cond (is_there types t)
    (cond (eqb long (size_in (sizes_in types) t * times n)) (done tt) (refused 14 0))
    (refused 15 0)
