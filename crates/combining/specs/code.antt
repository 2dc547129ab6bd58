-- What the contracts of the code need to say, and no definition of document 01 rests on.
pub mod AddIndex
pub mod AgreedIndex
pub mod CheckIndex
pub mod CombineIndex
pub mod JoinedIndex
pub mod WriteIndex
