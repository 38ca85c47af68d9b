-- What holds of the places and of the waiting filings of a register that comes about (BGB § 879, GBO § 18).
-- Why so: docs/DECISIONS.md, "A filing that waits names rights of earlier filings".
use Rattle.std.specs.Prelude.{◌≡◌, ℕ, ◌<◌, Bool, true, false, ◌==◌, List, All, AllPairs, Contains, IsTrue, IsSome}
use Rattle.gb_base.specs.declared.keys.Key.{Key}
use Rattle.gb_base.specs.declared.keys.Key.TheVariants.{Title}
use Rattle.act_model.specs.declared.filing_acts.Act.{Act}
use Rattle.act_model.specs.declared.receipts.Receipt.{Receipt}
use Rattle.act_model.specs.Touches.{acts_of, keys_of_filing}
use Rattle.act_model.specs.WellFormed.{rights_named}
use Rattle.act_model.specs.Divisions.{create_in_division, creates_there}
use Rattle.folio_sections.specs.Places.{own_place, places}
use Rattle.folio_sections.specs.Waiting.{is_pending, pending}
use Rattle.folio_sections.specs.declared.entries.Entry.{Entry}
use Rattle.folio_sections.specs.declared.entries.What.{What}
use Rattle.folio_sections.specs.declared.entries.What.TheVariants as what

-- a place says in which divisions its filing creates rights in the folio
abbrev pub SaysDivisions : List Receipt → ℕ → What → Type 0
SaysDivisions journal folio (what.Placed filing second third) =
    (second ≡ create_in_division false folio (acts_of journal filing)) × (third ≡ create_in_division true folio (acts_of journal filing))
SaysDivisions journal folio other = Unit {0}

-- the content is the place of filing m, set as it was entered
abbrev pub is_placed : ℕ → What → Bool
is_placed m (what.Placed filing second third) = filing == m
is_placed m other = false

-- filing m has a place in the folio
abbrev pub HasPlace : List Receipt → (Key → List Entry) → ℕ → ℕ → Type 0
HasPlace journal at folio m = IsSome (own_place m (places journal at folio))

-- In each folio places stand in ascending order of their filings. A filing that waits there has no place but by its notice.
-- Where a later filing has a place, one that waits has a place too if it creates a right there.
pub record PlacesAscend (journal : List Receipt) (at : Key → List Entry) : Type 0 where
  pub ascend : (folio : ℕ) → AllPairs (λ p later. p.filing < later.filing) (places journal at folio)
  pub divisions : (folio : ℕ) → All (λ e. SaysDivisions journal folio e.what) (at (Title folio))
  pub by_notice : (folio m : ℕ) → IsTrue (is_pending m (at (Title folio))) → All (λ e. is_placed m e.what ≡ false) (at (Title folio))
  pub noticed : (folio m n : ℕ) → HasPlace journal at folio m → n < m → IsTrue (is_pending n (at (Title folio)))
      → IsTrue (creates_there journal folio n) → HasPlace journal at folio n

-- each right that an act names is of an earlier filing than m
abbrev pub NamesEarlier : ℕ → Act → Type 0
NamesEarlier m act = All (λ right. right.receipt < m) (rights_named act)

-- A filing waits at all its keys until one day, or at none. While it waits, its acts name rights of earlier filings alone.
pub record PendingEverywhere (journal : List Receipt) (at : Key → List Entry) : Type 0 where
  pub everywhere : (m : ℕ) (k l : Key) → Contains (keys_of_filing journal m) k → Contains (keys_of_filing journal m) l
      → pending m (at k) ≡ pending m (at l)
  pub names_earlier : (m : ℕ) (k : Key) → Contains (keys_of_filing journal m) k → IsTrue (is_pending m (at k))
      → All (NamesEarlier m) (acts_of journal m)
