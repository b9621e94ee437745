pub mod Free
pub mod Slab
pub mod Slabs
