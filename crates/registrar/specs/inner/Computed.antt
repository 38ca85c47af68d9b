-- In whose sale an item computes a lowest bid.
use Rattle.std.specs.Prelude.{ℕ, Option, Some, None}
use Rattle.act_model.specs.declared.items.Item.{Item}
use Rattle.act_model.specs.declared.items.Item.TheVariants as item

-- the folio in which it calls to bid or awards
abbrev pub folio_computed : Item → Option ℕ
folio_computed (item.OpenBids folio costs) = Some folio
folio_computed (item.Award folio buyer bid) = Some folio
folio_computed other = None
