-- Laws for document 01, "Normal image": an image that holds the same values and nothing else.
pub mod ArrayMade
pub mod CharLaws
pub mod DisjointLaws
pub mod FilledLaws
pub mod FlagRows
pub mod ItemLaws
pub mod KeptPlaced
pub mod MadeLaws
pub mod NormalLaws
pub mod OverLaws
pub mod PlacedLaws
pub mod PutBack
pub mod SameAnswers
pub mod SameStream
pub mod SweepableLaws
pub mod WriteBack
pub mod WrittenBack
