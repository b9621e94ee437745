pub mod Bytes
pub mod Front
pub mod Lexed
pub mod Reserved
pub mod Signs
pub mod Tokens
