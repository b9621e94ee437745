pub mod FieldParts
pub mod InnerLaws
pub mod LeafLaws
pub mod SearchLaws
pub mod StampLaws
pub mod UndoLaws
