-- The keys that an item touches (GBO § 17). They follow from the receipts up to it alone, whatever became of these receipts.
use Rattle.std.specs.Prelude.{ℕ, nat_lt, if◌then◌else◌, List, [], ◌∷◌}
use Rattle.std.specs.Option.{option_map_or}
use Rattle.gb_base.specs.declared.keys.Key.{Key}
use Rattle.gb_base.specs.declared.keys.Key.TheVariants.{Case}
use Rattle.act_model.specs.Receiving.{receipt_at}
use Rattle.act_model.specs.SaleKeys.{keys_of_sale}
use Rattle.act_model.specs.Subjects.{subject_of}
use Rattle.act_model.specs.Touches.{keys_of_filing}
use Rattle.act_model.specs.declared.items.Item.{Item}
use Rattle.act_model.specs.declared.items.Subject.{Subject}
use Rattle.act_model.specs.declared.items.Subject.TheVariants as about
use Rattle.act_model.specs.declared.receipts.Receipt.{Receipt}

-- the keys of filing m, as item i names it: none where m is not before i
abbrev pub keys_of_named : List Receipt → ℕ → ℕ → List Key
keys_of_named journal i m = if nat_lt m i then keys_of_filing journal m else []

-- the keys of item i, which is about this
abbrev pub keys_by_subject : List Receipt → ℕ → Subject → List Key
keys_by_subject journal i about.Itself = keys_of_filing journal i
keys_by_subject journal i (about.Filing m) = keys_of_named journal i m
keys_by_subject journal i (about.Sale folio) = keys_of_sale journal i folio
keys_by_subject journal i (about.Claims folio) = Case folio ∷ []

-- the keys of item i
abbrev pub keys_by_item : List Receipt → ℕ → Item → List Key
keys_by_item journal i w = keys_by_subject journal i (subject_of w)

-- the keys of receipt i; none where there is no such receipt
abbrev pub keys_of_item : List Receipt → ℕ → List Key
keys_of_item journal i = option_map_or (λ r. keys_by_item journal i r.item) (receipt_at journal i) []
