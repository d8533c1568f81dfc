pub mod RestLaws
pub mod LearnedLaws
pub mod MeetLaws
pub mod SolutionLaws
pub mod KeepLaws
pub mod TruthLaws
mod DifferenceLaws
mod SortLaws
mod PigeonLaws
mod AlikeLaws
mod NewnessLaws
pub mod CountingLaws
