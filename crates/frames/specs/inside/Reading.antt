-- What is promised of the next frame: its bytes lie in the room that was lent for them.
use Rattle.std.specs.Prelude.{ℕ, ◌≤◌, Option, Some, None, Result, Ok, Err}
use Rattle.frames.specs.declared.reading.BrokenFrame.{BrokenFrame}

abbrev pub NextIn : ℕ → Option ℕ → Type 0
NextIn room (Some n) = n ≤ room
NextIn room None = Unit {0}

-- a frame, if there is one, is not longer than a room
abbrev pub FrameIn : ℕ → Result (Option ℕ) BrokenFrame → Type 0
FrameIn room (Ok next) = NextIn room next
FrameIn room (Err broken) = Unit {0}
