-- What a receipt after the openings becomes in the folio that is drawn for it, by the kind that is drawn: its item, and
-- what the generator keeps of the folio after it.
use Rattle.std.specs.Prelude.{ℕ, ◌+◌, ◌-◌, ◌/◌, ◌==◌, if◌then◌else◌, [], ◌∷◌, Option, Some, None}
use Rattle.act_model.specs.declared.documents.Form.TheVariants as form
use Rattle.act_model.specs.declared.items.Item.{Item}
use Rattle.act_model.specs.declared.items.Item.TheVariants as item
use Rattle.act_model.specs.declared.sales.Basis.TheVariants as basis
use Rattle.sample_journals.specs.declared.folio_notes.FolioNotes.{FolioNotes}
use Rattle.sample_journals.specs.declared.folio_notes.KnownRight.{KnownRight}
use Rattle.sample_journals.specs.declared.folio_notes.SaleStep.{SaleStep}
use Rattle.sample_journals.specs.declared.folio_notes.SaleStep.TheVariants as sale
use Rattle.sample_journals.specs.Draws.{state_after}
use Rattle.sample_journals.specs.SampleFilings.{cancellation, certified_by, charge_drawn, creation, exchange, transfer}

-- the day of receipt k: 64 receipts a day, from 2024-01-01 on
abbrev pub day_of_receipt : ℕ → ℕ
day_of_receipt k = 19723 + k / 64

-- what is kept of folio f at first: its owner is person f
abbrev pub first_notes : ℕ → FolioNotes
first_notes f = record { owner = f; newest = None; second = None; uncertified = None; next = sale.Seizure }

-- a turn of the generator: the item, what is kept of the folio after it, and the state of the draws after it
pub record Turn : Type 0 where
  pub item : Item
  pub notes : FolioNotes
  pub state : ℕ

-- the right that receipt k creates for this holder
abbrev pub right_created_by : ℕ → ℕ → KnownRight
right_created_by k holder = record { right = record { receipt = k; act = 1 }; holder = holder }

-- a land charge is created, with the certified consent of the owner; it is then the newest right, and the one that was the newest is the second
abbrev pub creates : ℕ → ℕ → FolioNotes → ℕ → Turn
creates k folio notes x = record {
  item = creation folio notes.owner form.Certified (charge_drawn x);
  notes = record notes { newest = Some (right_created_by k (charge_drawn x).holder); second = notes.newest };
  state = state_after (state_after x);
}

-- a land charge is created with a consent in plain form, which does not suffice, so that the filing waits
abbrev pub creates_in_plain_form : ℕ → ℕ → FolioNotes → ℕ → Turn
creates_in_plain_form k folio notes x = record {
  item = creation folio notes.owner form.Plain (charge_drawn x);
  notes = record notes { uncertified = Some k };
  state = state_after (state_after x);
}

-- the land goes to person 2000000 + k
abbrev pub transfers : ℕ → ℕ → FolioNotes → ℕ → Turn
transfers k folio notes x =
    record { item = transfer folio notes.owner (2000000 + k); notes = record notes { owner = 2000000 + k }; state = x }

-- the filing whose consent was in plain form is cured by a certified one of the owner; where there is none, a land charge is created
abbrev pub cures : Option ℕ → ℕ → ℕ → FolioNotes → ℕ → Turn
cures (Some filing) k folio notes x =
    record { item = item.Cure filing (certified_by notes.owner ∷ []); notes = record notes { uncertified = None }; state = x }
cures None k folio notes x = creates k folio notes x

-- the second right recedes behind the newest; where there are no two, a land charge is created
abbrev pub exchanges : Option KnownRight → Option KnownRight → ℕ → ℕ → FolioNotes → ℕ → Turn
exchanges (Some second) (Some newest) k folio notes x =
    record { item = exchange folio notes.owner second.right second.holder newest.right; notes = notes; state = x }
exchanges (Some second) None k folio notes x = creates k folio notes x
exchanges None newest k folio notes x = creates k folio notes x

-- the newest right is cancelled, and the second is then the newest; where there is none, a land charge is created
abbrev pub cancels : Option KnownRight → ℕ → ℕ → FolioNotes → ℕ → Turn
cancels (Some newest) k folio notes x = record {
  item = cancellation folio notes.owner newest.right newest.holder;
  notes = record notes { newest = notes.second; second = None };
  state = x;
}
cancels None k folio notes x = creates k folio notes x

-- the item of a step of the folio's forced sale: a personal creditor's seizure for 10,000 euros, served 40 days before; the
-- call to bid with costs of 100 euros; the award to person 3000000 + k for 10,000,000 euros; the distribution
abbrev pub sale_item : SaleStep → ℕ → ℕ → Item
sale_item sale.Seizure k folio = item.Seize folio (basis.Personal 5000000 1000000) (day_of_receipt k - 40)
sale_item sale.Call k folio = item.OpenBids folio 10000
sale_item sale.Award k folio = item.Award folio (3000000 + k) 1000000000
sale_item sale.Distribution k folio = item.Distribute folio

-- what is kept after a step of the sale: the step that is next, and after an award its buyer as the owner
abbrev pub notes_after_sale : SaleStep → ℕ → FolioNotes → FolioNotes
notes_after_sale sale.Seizure k notes = record notes { next = sale.Call }
notes_after_sale sale.Call k notes = record notes { next = sale.Award }
notes_after_sale sale.Award k notes = record notes { owner = 3000000 + k; next = sale.Distribution }
notes_after_sale sale.Distribution k notes = record notes { next = sale.Seizure }

-- the next step of the folio's forced sale
abbrev pub sells : ℕ → ℕ → FolioNotes → ℕ → Turn
sells k folio notes x =
    record { item = sale_item notes.next k folio; notes = notes_after_sale notes.next k notes; state = x }

-- the turn of kind 0 to 10 for receipt k: kinds 0 to 4 create a land charge, and each other kind has a turn of its own
unfoldable pub turn : ℕ → ℕ → ℕ → FolioNotes → ℕ → Turn
turn op k folio notes x =
    if op == 5 then transfers k folio notes x
    else if op == 6 then creates_in_plain_form k folio notes x
    else if op == 7 then cures notes.uncertified k folio notes x
    else if op == 8 then exchanges notes.second notes.newest k folio notes x
    else if op == 9 then cancels notes.newest k folio notes x
    else if op == 10 then sells k folio notes x
    else creates k folio notes x
