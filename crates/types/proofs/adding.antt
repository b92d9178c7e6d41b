-- Laws for document 01, "Refusal numbers", one type of the book: ids, the checks of its members, its room, its rows.
pub mod AddLaidLaws
pub mod AddLaws
pub mod AddStoreLaws
pub mod AddTypeLaws
pub mod FaultLaws
pub mod IdLaws
pub mod RoomLaws
pub mod VerdictLaws
