-- What a judge may rely on where an item has a filing judged.
use Rattle.std.specs.Prelude.{◌≡◌, ℕ, List}
use Rattle.gb_base.specs.declared.keys.Key.{Key}
use Rattle.act_model.specs.Subjects.{subject_of}
use Rattle.act_model.specs.declared.items.Item.{Item}
use Rattle.act_model.specs.declared.items.Subject.{Subject}
use Rattle.act_model.specs.declared.items.Subject.TheVariants as about
use Rattle.act_model.specs.declared.receipts.Receipt.{Receipt}
use Rattle.consent_rules.specs.Judging.{KnowsExchanges}
use Rattle.folio_sections.specs.declared.entries.Entry.{Entry}
use Rattle.interim_orders.specs.Orders.{state_of}
use Rattle.interim_orders.specs.declared.states.FilingState.TheVariants.{Pending}

-- a judge knows the exchanges of the filing that item i, which is about this, is itself, or that it names and finds waiting
abbrev pub KnowsExchangesOf : List Receipt → ℕ → (Key → List Entry) → Subject → Type 0
KnowsExchangesOf journal i at about.Itself = KnowsExchanges journal i at
KnowsExchangesOf journal i at (about.Filing m) = (until : ℕ) → state_of journal m i at ≡ Pending until → KnowsExchanges journal m at
KnowsExchangesOf journal i at other = Unit {0}

-- a judge knows the exchanges of the filing that item i is, or of the one that it names and finds waiting
abbrev pub KnowsItsExchanges : List Receipt → ℕ → (Key → List Entry) → Item → Type 0
KnowsItsExchanges journal i at w = KnowsExchangesOf journal i at (subject_of w)
