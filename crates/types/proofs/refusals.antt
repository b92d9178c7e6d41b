-- Laws for document 01, "Refusal numbers": what a call says, by number and place.
pub mod GivenLaws
pub mod SaidLaws
