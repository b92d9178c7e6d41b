-- The laws that AOIs use.
pub mod AoiLaws
pub mod AoiStoreLaws
