-- How many receipts, owners, documents, folios, creating acts and days of an extension there are at most, and the greatest rate.
use Rattle.std.specs.Prelude.{ℕ}

-- the most receipts of a journal
abbrev pub most_receipts : ℕ
most_receipts = 200000

-- the most owners of a folio
abbrev pub most_owners : ℕ
most_owners = 4

-- the most documents of a filing or a cure
abbrev pub most_docs : ℕ
most_docs = 32

-- the most folios that the acts of a filing name
abbrev pub most_folios : ℕ
most_folios = 2

-- the most creating acts of a folio, whatever became of their filings
abbrev pub most_creations : ℕ
most_creations = 256

-- the most days by which one item extends a deadline
abbrev pub most_extension_days : ℕ
most_extension_days = 90

-- the greatest number of a group of rights
abbrev pub most_groups : ℕ
most_groups = 8

-- the highest interest, 20 percent a year, in hundredths of a percent
abbrev pub highest_rate : ℕ
highest_rate = 2000

-- the greatest area of a parcel, in square metres
abbrev pub greatest_area : ℕ
greatest_area = 1000000000
