-- A notice stands at one key, so each key's notices are those of the parts as they stood.
use Rattle.std.proofs.Common.{◌≡◌, ◌+◌, ◌∷◌, drop, flat_map, sym, subst, ◌∙◌}
use Rattle.std.specs.List.Sorted.{IsStrictlySortedBy}
use Rattle.gb_base.specs.Keys.{key_cmp}
use Rattle.gb_base.specs.declared.keys.Key.{Key}
use Rattle.act_model.proofs.KeyOrder.{in_key_order_sorted}
use Rattle.act_model.specs.Touches.{keys_in_order, keys_of_filing}
use Rattle.folio_sections.specs.Adding.{HasRoom}
use Rattle.interim_orders.specs.Notices.{notices_at}
use Rattle.folio_sections.proofs.ListLemmas.{drop_next}
use Rattle.folio_sections.proofs.Progress.{Progress, key_held}
use Rattle.interim_orders.proofs.Noticing.{StandsApart, key_fits, key_noticed}
use Rattle.interim_orders.proofs.notices.enter_notices.Goals as goal

pub enter_notices_at-requires-clause-held : goal.enter_notices_at-requires-clause-held
enter_notices_at-requires-clause-held g c =
    key_held c.args.journal.now.receipts c.args.filing c.as_slice-key-items.result.now c.loop-key.key-index c.key-item.result (g.P.Parts.holds c.args.parts.now) (g.P.Parts.holds c.loop-key.parts)
    (c.as_slice-key-items.ensures.value ∙ c.filing_keys-keys.ensures) c.loop-key-test.true c.key-item.is c.loop-key.invariant.held c.requires.held

pub enter_notices_at-requires-clause-room : goal.enter_notices_at-requires-clause-room
enter_notices_at-requires-clause-room g c =
    let journal = c.args.journal.now.receipts in
    let m = c.args.filing in
    let i = c.args.item in
    let items = c.as_slice-key-items.result.now in
    let key = c.key-item.result in
    let rest = drop (c.loop-key.key-index + 1) items in
    let at0 = g.P.Parts.at c.args.parts.now in
    let room0 = g.P.Parts.room c.args.parts.now in
    let holds0 = g.P.Parts.holds c.args.parts.now in
    let at1 = g.P.Parts.at c.loop-key.parts in
    let room1 = g.P.Parts.room c.loop-key.parts in
    let holds1 = g.P.Parts.holds c.loop-key.parts in
    let all : keys_in_order journal m ≡ items = sym c.filing_keys-keys.ensures ∙ sym c.as_slice-key-items.ensures.value in
    let next : drop c.loop-key.key-index items ≡ key ∷ rest = drop_next Key items c.loop-key.key-index key c.loop-key-test.true c.key-item.is in
    key_fits journal m i items key rest at0 at1 room0 room1 holds0 holds1
    (subst (λ ks. Progress Key (notices_at journal m i) (StandsApart ks) items ks at0 at1 room0 room1 holds0 holds1) next c.loop-key.invariant)
    (subst (λ ks. HasRoom room0 (flat_map (notices_at journal m i at0) ks)) all c.requires.room)

pub loop-key-preserved : goal.loop-key-preserved
loop-key-preserved g c =
    let journal = c.args.journal.now.receipts in
    let m = c.args.filing in
    let i = c.args.item in
    let items = c.as_slice-key-items.result.now in
    let key = c.key-item.result in
    let rest = drop (c.loop-key.key-index + 1) items in
    let at0 = g.P.Parts.at c.args.parts.now in
    let room0 = g.P.Parts.room c.args.parts.now in
    let holds0 = g.P.Parts.holds c.args.parts.now in
    let at1 = g.P.Parts.at c.loop-key.parts in
    let room1 = g.P.Parts.room c.loop-key.parts in
    let holds1 = g.P.Parts.holds c.loop-key.parts in
    let after = c.enter_notices_at.new.parts in
    let all : keys_in_order journal m ≡ items = sym c.filing_keys-keys.ensures ∙ sym c.as_slice-key-items.ensures.value in
    let sorted : IsStrictlySortedBy key_cmp items = subst (IsStrictlySortedBy key_cmp) all (in_key_order_sorted (keys_of_filing journal m)) in
    let next : drop c.loop-key.key-index items ≡ key ∷ rest = drop_next Key items c.loop-key.key-index key c.loop-key-test.true c.key-item.is in
    key_noticed journal m i items c.loop-key.key-index key rest at0 at1 (g.P.Parts.at after) room0 room1 (g.P.Parts.room after) holds0 holds1 (g.P.Parts.holds after) sorted next
    (subst (λ ks. Progress Key (notices_at journal m i) (StandsApart ks) items ks at0 at1 room0 room1 holds0 holds1) next c.loop-key.invariant)
    c.enter_notices_at.ensures.added c.enter_notices_at.ensures.held
