use Rattle.std.proofs.Common.{IsTrue, sym, ap, subst, ◌∙◌}
use Rattle.std.specs.List.{AllByRecursion}
use Rattle.gb_base.specs.declared.keys.Key.TheVariants.{Case, Title}
use Rattle.act_model.specs.SaleKeys.{earlier_rights}
use Rattle.folio_sections.specs.Entries.{entry_by}
use Rattle.folio_sections.specs.declared.entries.Entry.{Entry}
use Rattle.folio_sections.specs.declared.entries.What.TheVariants as what
use Rattle.sale_rules.specs.inner.RightsLeft.{CanBeLeft}
use Rattle.sale_rules.proofs.AwardEntered.{award_added, both_leave, can_still, title_room}
use Rattle.sale_rules.proofs.Brought.{one_fits}
use Rattle.sale_rules.proofs.FoundAsKept.{title_key}
use Rattle.sale_rules.proofs.awards.enter_award.Goals as goal

pub add-requires-2-clause-held : goal.add-requires-2-clause-held
add-requires-2-clause-held g c =
    subst (λ (e : Entry). IsTrue (g.P.Parts.holds c.add.new.parts e.key)) (sym c.entry_by-2.ensures)
    (subst (λ h. IsTrue (h (Title c.args.left.now.folio))) (sym c.add.ensures.held) (c.requires.held (Title c.args.left.now.folio) (title_key c.args.left.now.journal.now.receipts c.args.left.now.item c.args.left.now.folio)))

pub add-requires-2-clause-room : goal.add-requires-2-clause-room
add-requires-2-clause-room g c =
    one_fits (g.P.Parts.room c.add.new.parts) c.entry_by-2.result (Title c.args.left.now.folio) (ap (λ e. e.key) c.entry_by-2.ensures)
    (title_room c.args.left.now.folio (g.P.Parts.at c.args.parts.now) (g.P.Parts.at c.add.new.parts) (g.P.Parts.room c.args.parts.now) (g.P.Parts.room c.add.new.parts) c.entry_by.result
    (ap (λ e. e.key) c.entry_by.ensures) c.add.ensures.added (c.requires.room (Title c.args.left.now.folio) (title_key c.args.left.now.journal.now.receipts c.args.left.now.item c.args.left.now.folio)))

pub enter_rights_left-requires-clause-rights : goal.enter_rights_left-requires-clause-rights
enter_rights_left-requires-clause-rights g c =
    let at0 = g.P.Parts.at c.args.parts.now in
    let at2 = g.P.Parts.at c.add-2.new.parts in
    let room0 = g.P.Parts.room c.args.parts.now in
    let room2 = g.P.Parts.room c.add-2.new.parts in
    subst (AllByRecursion (CanBeLeft c.args.left.now.claims.now.claimed c.args.left.now.cover c.args.left.now.folio (g.P.Parts.holds c.add-2.new.parts) room2)) (sym c.rights_filed-ids.ensures.value)
    (can_still c.args.left.now.claims.now.claimed c.args.left.now.cover c.args.left.now.folio at0 at2 room0 room2 (g.P.Parts.holds c.args.parts.now) (g.P.Parts.holds c.add-2.new.parts)
    (earlier_rights c.args.left.now.journal.now.receipts c.args.left.now.item c.args.left.now.folio)
    (both_leave c.args.left.now.folio at0 (g.P.Parts.at c.add.new.parts) at2 room0 (g.P.Parts.room c.add.new.parts) room2 c.entry_by.result c.entry_by-2.result
    (ap (λ e. e.key) c.entry_by.ensures) (ap (λ e. e.key) c.entry_by-2.ensures) c.add.ensures.added c.add-2.ensures.added)
    (c.add-2.ensures.held ∙ c.add.ensures.held) c.requires.rights)

pub returns-clause-added : goal.returns-clause-added
returns-clause-added g c =
    let journal = c.args.left.now.journal.now.receipts in
    let at0 = g.P.Parts.at c.args.parts.now in
    let at1 = g.P.Parts.at c.add.new.parts in
    let at2 = g.P.Parts.at c.add-2.new.parts in
    let room0 = g.P.Parts.room c.args.parts.now in
    let room1 = g.P.Parts.room c.add.new.parts in
    let room2 = g.P.Parts.room c.add-2.new.parts in
    award_added journal c.args.left.now.item c.args.left.now.folio c.args.left.now.claims.now.claimed c.args.left.now.cover at0 at1 at2 (g.P.Parts.at c.enter_rights_left.new.parts) room0 room1 room2 (g.P.Parts.room c.enter_rights_left.new.parts)
    c.entry_by.result c.entry_by-2.result (entry_by journal c.args.left.now.item (Case c.args.left.now.folio) (what.Awarded c.args.buyer c.args.bid)) (entry_by journal c.args.left.now.item (Title c.args.left.now.folio) (what.AwardOwner c.args.buyer))
    c.rights_filed-ids.result.now (earlier_rights journal c.args.left.now.item c.args.left.now.folio) c.entry_by.ensures c.entry_by-2.ensures c.rights_filed-ids.ensures.value
    (both_leave c.args.left.now.folio at0 at1 at2 room0 room1 room2 c.entry_by.result c.entry_by-2.result
    (ap (λ e. e.key) c.entry_by.ensures) (ap (λ e. e.key) c.entry_by-2.ensures) c.add.ensures.added c.add-2.ensures.added)
    c.add.ensures.added c.add-2.ensures.added c.enter_rights_left.ensures.added
