pub mod FieldLaws
pub mod FieldOrder
