-- Laws for document 01, "Order of building": member types that are known, turns, rounds, the whole build.
pub mod BuildWays
pub mod OneRoundLaws
pub mod OrderBook
pub mod OrderLaws
pub mod ResolveLaws
pub mod RoundLaws
pub mod RoundsKeep
pub mod RunLaws
pub mod SearchLaws
pub mod StandLaws
pub mod WaitLaws
