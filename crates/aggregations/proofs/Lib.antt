pub mod BucketLemmas
pub mod EntryLemmas
pub mod HistogramLemmas
pub mod MergeLemmas
pub mod OrderLemmas
pub mod IndexLemmas
mod Measures
pub mod RankLemmas
pub mod TableLemmas
pub mod ValueLemmas
