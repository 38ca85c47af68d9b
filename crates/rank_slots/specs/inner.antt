-- What private clauses alone say.
pub mod Pieces
pub mod Slots
pub mod SpanDeals
pub mod SpanJoins
pub mod SpanLists
pub mod Spans
