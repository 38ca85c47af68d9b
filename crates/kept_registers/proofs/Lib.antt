-- Lemmas.
pub mod KeptOrder
pub mod PlaceDays
pub mod PlaceOrder
pub mod RankOrder
pub mod RightPlaces
pub mod WellFiled
