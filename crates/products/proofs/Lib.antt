-- `Numbers`: the numbers of bytes of the library are those of the documents.
pub mod Numbers
