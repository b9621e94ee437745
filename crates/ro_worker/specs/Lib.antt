pub mod Kinds
pub mod Laws
pub mod Reads
pub mod Serving
pub mod Selects
pub mod States
pub mod Wishes
pub mod WorkerLaws
