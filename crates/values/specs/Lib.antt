-- What a value stream is, what reading gives, what writing does, the normal image: a folder for each paragraph of
-- document 01. What no promise of a public call stands on is under `inside`.
pub mod cases
pub mod inside
pub mod normal_image
pub mod reading
pub mod stream
pub mod writing
