-- Which parts an act needs to be judged.
use Rattle.std.specs.Prelude.{◌≡◌, Bool, true, List, IsTrue}
use Rattle.gb_base.specs.declared.keys.Key.{Key}
use Rattle.gb_base.specs.declared.keys.Key.TheVariants.{Title, Right}
use Rattle.act_model.specs.declared.filing_acts.Act.{Act}
use Rattle.act_model.specs.declared.filing_acts.Act.TheVariants.{Open, Transfer, Create, NoticeFor, Convert, Assign, Cancel, Exchange, Exercise}
use Rattle.consent_rules.specs.Persons.{stands_in_division_three}
use Rattle.folio_sections.specs.declared.entries.Entry.{Entry}

-- the title and a right of the folio are held
pub record TitleAndRight (t r : Bool) : Type 0 where
  pub title : IsTrue t
  pub right : IsTrue r

-- two rights are held, and the title where it is wanted
pub record TwoRights (r s wanted t : Bool) : Type 0 where
  pub recede : IsTrue r
  pub rise : IsTrue s
  pub title : wanted ≡ true → IsTrue t

-- the parts at which the act is judged are held
abbrev pub HasParts : (Key → Bool) → (Key → List Entry) → Act → Type 0
HasParts holds at (Open folio inventory owners) = IsTrue (holds (Title folio))
HasParts holds at (Transfer folio owners) = IsTrue (holds (Title folio))
HasParts holds at (Create folio spec reserve) = IsTrue (holds (Title folio))
HasParts holds at (NoticeFor folio spec) = IsTrue (holds (Title folio))
HasParts holds at (Convert folio right) = TitleAndRight (holds (Title folio)) (holds (Right folio right))
HasParts holds at (Assign folio right holder) = IsTrue (holds (Right folio right))
HasParts holds at (Cancel folio right) = TitleAndRight (holds (Title folio)) (holds (Right folio right))
HasParts holds at (Exchange folio recede rise) =
    TwoRights (holds (Right folio recede)) (holds (Right folio rise)) (stands_in_division_three at folio recede) (holds (Title folio))
HasParts holds at (Exercise folio behind spec) = TitleAndRight (holds (Title folio)) (holds (Right folio behind))
