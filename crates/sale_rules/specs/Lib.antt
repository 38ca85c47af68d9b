-- What contracts cite.
pub mod SaleEntries
pub mod SaleGrounds
pub mod SaleMoney
pub mod SaleParts
pub mod ScratchRoom
pub mod inner
