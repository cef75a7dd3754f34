pub mod CellFits
pub mod FitLaws
pub mod FitChanges
pub mod RestLaws
pub mod StartLaws
