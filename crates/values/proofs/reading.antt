-- Laws for document 01, "Reading": a tag's bytes become a value stream; stored texts.
pub mod ImageLaws
pub mod KeptWalkable
pub mod LeafLaws
pub mod Meaning
pub mod MemberLaws
pub mod PartLaws
pub mod ReadingLaws
pub mod SpanLaws
pub mod StoredLaws
pub mod TextStreamed
pub mod TreeLaws
pub mod UpLaws
pub mod WalkLaws
