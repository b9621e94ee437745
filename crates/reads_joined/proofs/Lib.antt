pub mod KeyRows
pub mod Sounding
pub mod Stating
pub mod Imaging
pub mod Answering
pub mod ReaderTables
pub mod Reader
