pub mod CatalogLaws
pub mod ContentLaws
pub mod KindLaws
