pub mod CountLaws
pub mod MarkLaws
pub mod WalkLaws
pub mod TieLaws
pub mod FreeLaws
pub mod ClassLaws
pub mod PutLaws
pub mod PhaseLaws
