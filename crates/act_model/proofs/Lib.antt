-- Lemmas.
pub mod CreationOrder
pub mod CreationRanks
pub mod ApplicantFilings
pub mod ConsenterLemmas
pub mod CureOrder
mod DerivedEquality
pub mod DocumentKeys
pub mod DocumentRoom
pub mod EarlierRights
pub mod FiledDocuments
pub mod FirstCures
mod FolioLemmas
mod ItemEquality
pub mod IndexLemmas
pub mod ItemIndexLemmas
pub mod JournalLemmas
mod KeyLemmas
pub mod KeyOrder
pub mod KeysStay
pub mod PlainConsenters
pub mod PlainForms
pub mod ReadyLemmas
