-- Laws for document 01, "Template and handle": a template's bytes and length, the handle, waste.
pub mod HandleLaws
pub mod SinkLaws
pub mod TemplateLaws
pub mod VisibleLaws
