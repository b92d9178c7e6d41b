-- The laws that structures made normal use.
pub mod ElementsMade
pub mod FlagLaws
pub mod MemberMade
pub mod StructMade
pub mod StructSteps
pub mod SweepRows
pub mod SweptLaws
