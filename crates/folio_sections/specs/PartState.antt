-- What is seen of a part.
use Rattle.std.specs.Prelude.{ℕ, List}
use Rattle.gb_base.specs.declared.keys.Key.{Key}
use Rattle.folio_sections.specs.declared.entries.Entry.{Entry}

-- the key that it stands for, its entries in order, and how many more it has room for
pub record PartState : Type 0 where
  pub key : Key
  pub entries : List Entry
  pub room : ℕ
