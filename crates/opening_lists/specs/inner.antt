-- What clauses of private functions say.
pub mod CsvRecords
pub mod Rows
