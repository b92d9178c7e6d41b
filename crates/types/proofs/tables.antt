-- Laws for document 01, "Declaration book", the tables that hold what was built, and their rows.
pub mod AgreeLaws
pub mod CountLaws
pub mod DefLaws
pub mod GoodLaws
pub mod KeptLaws
pub mod ProperLaws
pub mod RegistryLaws
pub mod ShownLaws
pub mod TableLaws
pub mod ThereLaws
pub mod UniqueLaws
pub mod WellLaws
