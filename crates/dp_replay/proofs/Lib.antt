pub mod EntryLemmas
pub mod LeadLemmas
pub mod StepLemmas
pub mod ReplayLemmas
pub mod TextLemmas
