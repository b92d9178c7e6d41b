-- The laws that setting structures uses.
pub mod SettingElements
pub mod SettingMembers
