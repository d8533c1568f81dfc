pub mod Schedules
pub mod TimeTable
pub mod Refusals
pub mod UsageLaws
pub mod TimeTableLaws
pub mod Profiles
