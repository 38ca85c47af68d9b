-- What contracts cite.
pub mod Claims
pub mod ClassLines
pub mod Computable
pub mod Interest
pub mod LowestBid
pub mod PayableClaims
pub mod SaleClaims
pub mod Sales
pub mod inner
