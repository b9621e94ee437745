pub mod ForestLaws
pub mod PageLaws
pub mod WayLaws
pub mod WalkLaws
pub mod ChangeLaws
pub mod ItemLaws
pub mod OpenedLaws
