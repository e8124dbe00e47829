pub mod BatchLemmas
pub mod EntriesLemmas
pub mod NodesLemmas
pub mod SearchLemmas
pub mod SpanLemmas
pub mod SpansLemmas
