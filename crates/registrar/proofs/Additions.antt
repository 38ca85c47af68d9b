-- What two calls add, one after the other.
use Rattle.std.proofs.Common.{◌≡◌, ℕ, List, subst}
use Rattle.gb_base.specs.declared.keys.Key.{Key}
use Rattle.act_model.specs.declared.receipts.Receipt.{Receipt}
use Rattle.folio_sections.specs.Adding.{AddsList}
use Rattle.entry_rules.specs.Entering.{entered}
use Rattle.registrar.specs.Enters.{enters}
use Rattle.interim_orders.specs.Notices.{notices_brought, with_notices}
use Rattle.folio_sections.specs.declared.entries.Entry.{Entry}
use Rattle.folio_sections.proofs.Additions.{adds_then}

-- the official notices are added first, and then the entry of the filing to the register that has them: together they are what `enters` says
pub entered_behind : (journal : List Receipt) (m i : ℕ) (at0 at1 at2 : Key → List Entry) (room0 room1 room2 : Key → ℕ) → AddsList at0 at1 room0 room1 (notices_brought journal m i at0)
    → AddsList at1 at2 room1 room2 (entered journal m i at1) → AddsList at0 at2 room0 room2 (enters journal m i at0)
entered_behind journal m i at0 at1 at2 room0 room1 room2 notices entry =
    let noticed : at1 ≡ with_notices journal m i at0 = λ j k. notices.there k j in
    adds_then at0 at1 at2 room0 room1 room2 (notices_brought journal m i at0) (entered journal m i (with_notices journal m i at0)) notices
    (subst (λ at. AddsList at1 at2 room1 room2 (entered journal m i at)) noticed entry)
