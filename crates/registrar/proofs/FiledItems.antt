-- Items that are about a filing, and items of a forced sale. Each item is one of either kind, by its subject.
use Rattle.act_model.specs.Subjects.{subject_of}
use Rattle.act_model.specs.declared.items.Item.{Item}
use Rattle.act_model.specs.declared.items.Subject.{Subject}
use Rattle.act_model.specs.declared.items.Subject.TheVariants as about

-- a filing: the item itself, or one that it names
abbrev pub IsOfFiling : Subject → Type 0
IsOfFiling about.Itself = Unit {0}
IsOfFiling (about.Filing m) = Unit {0}
IsOfFiling other = ⊥

-- a forced sale, or its claims
abbrev pub IsSold : Subject → Type 0
IsSold (about.Sale folio) = Unit {0}
IsSold (about.Claims folio) = Unit {0}
IsSold other = ⊥

-- the item is none of a forced sale
abbrev pub IsFiled : Item → Type 0
IsFiled w = IsOfFiling (subject_of w)
