-- The indexes of a journal by what its items say.
use Rattle.std.specs.Prelude.{◌≡◌, ℕ, ◌+◌, ◌<◌, ◌&&◌, nat_lt, if◌then◌else◌, List, [], ◌∷◌, filter_map, Option, Some}
use Rattle.std.specs.List.{enumerate_from}
use Rattle.std.specs.Ordering.{nat_cmp}
use Rattle.gb_base.specs.RightNo.{RightNo}
use Rattle.act_model.specs.declared.filing_acts.Act.{Act}
use Rattle.act_model.specs.declared.items.Item.{Item}
use Rattle.act_model.specs.declared.item_indexes.ItemIndexes.{ItemIndexes}
use Rattle.act_model.specs.declared.receipts.Receipt.{Receipt}
use Rattle.act_model.specs.Creations.{creation_in, creations_in, creations_of_item}
use Rattle.act_model.specs.Cures.{cures, cures_of}
use Rattle.act_model.specs.Filings.{filings_of, is_filed_by}
use Rattle.act_model.specs.inner.CureDocuments.{AreDocumentsOf, HasRoomForItem, KeepsDocuments}
use Rattle.act_model.specs.inner.Lists.{HasRoom, listed, Widens}

-- what item n adds to the cures of filing m
abbrev pub cures_by : ℕ → Item → ℕ → List ℕ
cures_by n item m = if nat_lt m n && cures m item then n ∷ [] else []

-- what item n adds to the filings of the applicant
abbrev pub filings_by : ℕ → Item → ℕ → List ℕ
filings_by n item person = if is_filed_by person item then n ∷ [] else []

-- what item n adds to the creating acts of the folio
abbrev pub creations_by : ℕ → Item → ℕ → List RightNo
creations_by n item folio = creations_of_item folio n item

-- what acts a, a + 1, .. of filing n add to the creating acts of the folio
abbrev pub creations_by_acts : ℕ → ℕ → List Act → ℕ → List RightNo
creations_by_acts n a acts folio = filter_map (creation_in folio n) (enumerate_from a acts)

-- the indexes have the cures, the creating acts, the filings and the documents of cures of all receipts, and no other
pub record AreIndexesOf (indexes : ItemIndexes) (journal : List Receipt) : Type 0 where
  pub cures : (m : ℕ) → listed nat_cmp indexes.cures m ≡ cures_of journal m
  pub creations : (folio : ℕ) → listed nat_cmp indexes.creations folio ≡ creations_in journal folio
  pub filings : (person : ℕ) → listed nat_cmp indexes.filings person ≡ filings_of journal person
  pub documents : AreDocumentsOf indexes.documents journal

-- the indexes have room for what item n adds to them
pub record HaveRoomFor (indexes : ItemIndexes) (n : ℕ) (item : Item) : Type 0 where
  pub cures : HasRoom nat_cmp indexes.cures (cures_by n item)
  pub creations : HasRoom nat_cmp indexes.creations (creations_by n item)
  pub filings : HasRoom nat_cmp indexes.filings (filings_by n item)
  pub documents : HasRoomForItem indexes.documents n item

-- the indexes say what they said before, and nowhere has room become less
pub record Widen (old new : ItemIndexes) : Type 0 where
  pub cures : Widens nat_cmp old.cures new.cures
  pub creations : Widens nat_cmp old.creations new.creations
  pub filings : Widens nat_cmp old.filings new.filings
  pub documents : KeepsDocuments old.documents new.documents

-- A journal that is ready for an item: no receipt waits for the index by sender and reference. There is room for a receipt of
-- the item in the list and in the indexes by what items say.
pub record IsReadyFor (item : Item) (indexes : ItemIndexes) (indexed count capacity : ℕ) : Type 0 where
  pub none_waits : indexed ≡ count
  pub room_for_one : count < capacity
  pub room : HaveRoomFor indexes (count + 1) item

-- a journal is ready for the item for which it says that room is kept
abbrev pub IsReady : Option Item → ItemIndexes → ℕ → ℕ → ℕ → Type 0
IsReady ready_for indexes indexed count capacity =
    (item : Item) → ready_for ≡ Some item → IsReadyFor item indexes indexed count capacity
