pub mod ItemLaws
pub mod EntryLaws
pub mod HoldLaws
pub mod ReadLaws
pub mod CatalogLaws
pub mod RowLaws
pub mod TableLaws
pub mod PlaceLaws
