-- What clauses of private functions say.
pub mod Ends
