-- The rights of a line without exchanges are the live ones.
use Rattle.std.proofs.Common.{◌≡◌, Bool, true, false, ◌||◌, [], refl}
use Rattle.folio_sections.specs.Rights.{is_live}
use Rattle.folio_line.specs.FolioSlots.{stands_on_line}
use Rattle.folio_line.specs.FolioRights.{is_live_with}

alone : (b : Bool) → (b || false) ≡ b
alone true = refl
alone false = refl

pub none_recedes : stands_on_line [] ≡ is_live_with
none_recedes = λ i id entries. alone (is_live entries) i
