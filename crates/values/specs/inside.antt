-- What only the code's own steps are proved against: nobody has to read it to know what a public call promises.
pub mod normal_image
pub mod reading
pub mod stream
pub mod writing
