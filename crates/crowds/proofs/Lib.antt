pub mod Spans
pub mod Overload
pub mod Edges
pub mod Laws
