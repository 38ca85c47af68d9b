use Rattle.std.proofs.Common.{◌≡◌, ◌+◌, ◌∷◌, [], IsTrue, drop, flat_map, map, sym, subst, ◌∙◌}
use Rattle.std.proofs.lemmas.List.{drop_all}
use Rattle.gb_base.specs.declared.keys.Key.{Key}
use Rattle.act_model.specs.Touches.{keys_in_order}
use Rattle.folio_sections.specs.Adding.{AddsList, HasRoom}
use Rattle.folio_sections.specs.Entries.{entry_by}
use Rattle.folio_sections.specs.declared.entries.Entry.{Entry}
use Rattle.folio_sections.proofs.ListLemmas.{drop_next}
use Rattle.folio_sections.proofs.Progress.{Progress, ends, goes_on, has_room, key_held}
use Rattle.interim_orders.specs.inner.Marks.{mark}
use Rattle.interim_orders.proofs.Marking.{IsAny, each_marked, entry_is, mark_at, marks_apart}
use Rattle.interim_orders.proofs.orders.enter_waiting.Goals as goal

pub add-requires-clause-held : goal.add-requires-clause-held
add-requires-clause-held g c =
    subst (λ (e : Entry). IsTrue (g.P.Parts.holds c.loop-key.parts e.key)) (sym c.entry_by.ensures)
    (key_held c.args.journal.now.receipts c.args.filing c.as_slice-key-items.result.now c.loop-key.key-index c.key-item.result (g.P.Parts.holds c.args.parts.now) (g.P.Parts.holds c.loop-key.parts)
    (c.as_slice-key-items.ensures.value ∙ c.filing_keys-keys.ensures) c.loop-key-test.true c.key-item.is c.loop-key.invariant.held c.requires.held)

pub add-requires-clause-room : goal.add-requires-clause-room
add-requires-clause-room g c =
    let journal = c.args.journal.now.receipts in
    let i = c.args.item in
    let what = mark c.args.filing c.args.until in
    let items = c.as_slice-key-items.result.now in
    let key = c.key-item.result in
    let rest = drop (c.loop-key.key-index + 1) items in
    let at0 = g.P.Parts.at c.args.parts.now in
    let room0 = g.P.Parts.room c.args.parts.now in
    let holds0 = g.P.Parts.holds c.args.parts.now in
    let at1 = g.P.Parts.at c.loop-key.parts in
    let room1 = g.P.Parts.room c.loop-key.parts in
    let holds1 = g.P.Parts.holds c.loop-key.parts in
    let all : keys_in_order journal c.args.filing ≡ items = sym c.filing_keys-keys.ensures ∙ sym c.as_slice-key-items.ensures.value in
    let next : drop c.loop-key.key-index items ≡ key ∷ rest = drop_next Key items c.loop-key.key-index key c.loop-key-test.true c.key-item.is in
    let entry : c.entry_by.result ≡ entry_by journal i key what = entry_is journal i key c.mark.result what c.entry_by.result c.entry_by.ensures c.mark.ensures in
    subst (λ (e : Entry). HasRoom room1 (e ∷ [])) (sym entry)
    (has_room Key (mark_at journal i what) IsAny items key rest at0 at1 room0 room1 holds0 holds1 (marks_apart journal i what)
    (subst (λ ks. Progress Key (mark_at journal i what) IsAny items ks at0 at1 room0 room1 holds0 holds1) next c.loop-key.invariant)
    (subst (λ ks. HasRoom room0 (flat_map (mark_at journal i what at0) ks)) all
    (subst (λ es. HasRoom room0 es) (sym (each_marked journal i what at0 (keys_in_order journal c.args.filing))) c.requires.room)))

pub loop-key-preserved : goal.loop-key-preserved
loop-key-preserved g c =
    let journal = c.args.journal.now.receipts in
    let i = c.args.item in
    let what = mark c.args.filing c.args.until in
    let items = c.as_slice-key-items.result.now in
    let key = c.key-item.result in
    let rest = drop (c.loop-key.key-index + 1) items in
    let at0 = g.P.Parts.at c.args.parts.now in
    let room0 = g.P.Parts.room c.args.parts.now in
    let holds0 = g.P.Parts.holds c.args.parts.now in
    let at1 = g.P.Parts.at c.loop-key.parts in
    let room1 = g.P.Parts.room c.loop-key.parts in
    let holds1 = g.P.Parts.holds c.loop-key.parts in
    let after = c.add.new.parts in
    let next : drop c.loop-key.key-index items ≡ key ∷ rest = drop_next Key items c.loop-key.key-index key c.loop-key-test.true c.key-item.is in
    let entry : c.entry_by.result ≡ entry_by journal i key what = entry_is journal i key c.mark.result what c.entry_by.result c.entry_by.ensures c.mark.ensures in
    goes_on Key (mark_at journal i what) IsAny items key rest at0 at1 (g.P.Parts.at after) room0 room1 (g.P.Parts.room after) holds0 holds1 (g.P.Parts.holds after) (marks_apart journal i what)
    (subst (λ ks. Progress Key (mark_at journal i what) IsAny items ks at0 at1 room0 room1 holds0 holds1) next c.loop-key.invariant)
    (subst (λ (e : Entry). AddsList at1 (g.P.Parts.at after) room1 (g.P.Parts.room after) (e ∷ [])) entry c.add.ensures.added)
    c.add.ensures.held

pub returns-clause-added : goal.returns-clause-added
returns-clause-added g c =
    let journal = c.args.journal.now.receipts in
    let i = c.args.item in
    let what = mark c.args.filing c.args.until in
    let items = c.as_slice-key-items.result.now in
    let at0 = g.P.Parts.at c.args.parts.now in
    let room0 = g.P.Parts.room c.args.parts.now in
    let at1 = g.P.Parts.at c.loop-key.parts in
    let room1 = g.P.Parts.room c.loop-key.parts in
    let all : items ≡ keys_in_order journal c.args.filing = c.as_slice-key-items.ensures.value ∙ c.filing_keys-keys.ensures in
    let over : drop c.loop-key.key-index items ≡ [] = drop_all c.loop-key.key-index items c.loop-key-test.false in
    subst (λ ks. AddsList at0 at1 room0 room1 (map (λ k. entry_by journal i k what) ks)) all
    (subst (λ es. AddsList at0 at1 room0 room1 es) (each_marked journal i what at0 items)
    (ends Key (mark_at journal i what) IsAny items at0 at1 room0 room1 (g.P.Parts.holds c.args.parts.now) (g.P.Parts.holds c.loop-key.parts)
    (subst (λ ks. Progress Key (mark_at journal i what) IsAny items ks at0 at1 room0 room1 (g.P.Parts.holds c.args.parts.now) (g.P.Parts.holds c.loop-key.parts)) over c.loop-key.invariant)))
