pub mod Args
pub mod Globals
pub mod Meaning
pub mod Satisfies
pub mod Sums
pub mod Schedules
pub mod Tests
