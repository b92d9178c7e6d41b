-- Laws for document 01, "Layout": where members go; UDTs, AOIs, strings, the predefined types.
pub mod BoundLaws
pub mod DigitLaws
pub mod FoundLaws
pub mod FreeLaws
pub mod HostNames
pub mod LaidLaws
pub mod LaidOutLaws
pub mod LayoutLaws
pub mod MeasureLaws
pub mod Measuring
pub mod PartLaws
pub mod PlaceLaws
pub mod PredefinedIds
pub mod PredefinedLaws
pub mod PredefinedWell
pub mod StoreLaws
pub mod StringLaws
