-- What an item is about: itself, where it is a filing; the filing that it names; a forced sale, or its claims alone. Its keys
-- follow from this (`keys_by_subject` of conflict_queue).
use Rattle.std.specs.Prelude.{ℕ, Option, Some, None}
use Rattle.act_model.specs.declared.items.Item.{Item}
use Rattle.act_model.specs.declared.items.Item.TheVariants as item
use Rattle.act_model.specs.declared.items.Subject.{Subject}
use Rattle.act_model.specs.declared.items.Subject.TheVariants as about

-- what an item is about
abbrev pub subject_of : Item → Subject
subject_of (item.Filing f) = about.Itself
subject_of (item.Cure m docs) = about.Filing m
subject_of (item.Lapse m) = about.Filing m
subject_of (item.Seize folio basis served) = about.Sale folio
subject_of (item.Register folio registered) = about.Claims folio
subject_of (item.OpenBids folio costs) = about.Sale folio
subject_of (item.Award folio buyer bid) = about.Sale folio
subject_of (item.Distribute folio) = about.Sale folio
subject_of (item.Extend m days) = about.Filing m

-- the filing that a subject is, where an item names it
abbrev pub filing_about : Subject → Option ℕ
filing_about (about.Filing m) = Some m
filing_about other = None

-- the filing that an item names; none where it is a filing itself, or of a forced sale
abbrev pub named_filing : Item → Option ℕ
named_filing w = filing_about (subject_of w)
