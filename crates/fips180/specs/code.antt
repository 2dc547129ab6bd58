-- What the contracts of the code need to say, and no definition of document 01 rests on.
pub mod StateWords
