-- Lemmas.
pub mod Alike
pub mod Fronts
pub mod GrownQueues
pub mod ItemKeysStay
pub mod Lists
pub mod Numbered
pub mod ReceiptOrder
pub mod SaleKeys
