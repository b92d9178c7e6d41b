-- Laws for document 01, "Writing": a stream's values are set in a tag's bytes.
pub mod ApplyLaws
pub mod BranchLaws
pub mod ClearLaws
pub mod FitLaws
pub mod NumberedLaws
pub mod OnlyHeld
pub mod OutcomeLaws
pub mod RunInLaws
pub mod SettingLaws
pub mod StepLaws
pub mod WrittenHeld
pub mod WrittenLaws
