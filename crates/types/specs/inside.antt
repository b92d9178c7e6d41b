-- What only the code's own steps are proved against: nobody has to read it to know what a public call promises.
pub mod adding
pub mod atomics
pub mod book
pub mod layout
pub mod listing
pub mod rounds
pub mod shape
pub mod tables
pub mod templates
