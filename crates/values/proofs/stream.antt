-- Laws for document 01, "Value stream": entries and their bytes, the form of a stream, how long it is.
pub mod CountLaws
pub mod CountLeaves
pub mod DecodeBack
pub mod DecodeLaws
pub mod EntryLaws
pub mod FormLaws
pub mod HeadLaws
pub mod LayingLaws
pub mod LeftLaws
pub mod PutLaws
pub mod SayLaws
pub mod StreamLaws
pub mod TextCountLaws
