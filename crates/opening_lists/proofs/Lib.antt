-- Lemmas.
pub mod CsvSteps
pub mod OpeningRows
