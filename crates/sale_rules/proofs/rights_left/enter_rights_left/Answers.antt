use Rattle.std.proofs.Common.{◌≡◌, ◌+◌, ◌∷◌, [], drop, subst}
use Rattle.std.specs.List.{AllByRecursion}
use Rattle.std.proofs.lemmas.List.{drop_all}
use Rattle.gb_base.specs.RightNo.{RightNo}
use Rattle.folio_sections.proofs.ListLemmas.{drop_next}
use Rattle.folio_sections.proofs.Progress.{Progress, ends}
use Rattle.folio_line.specs.AllRights.{AscendByNumber}
use Rattle.sale_rules.specs.inner.RightsLeft.{CanBeLeft, left_at}
use Rattle.sale_rules.proofs.RightsInTurn.{IsApart, all_dropped, ascend_dropped, left_next, still_left}
use Rattle.sale_rules.proofs.rights_left.enter_rights_left.Goals as goal

pub enter_right_left-requires-clause-right : goal.enter_right_left-requires-clause-right
enter_right_left-requires-clause-right g c =
    let f = left_at c.args.left.now.journal.now.receipts c.args.left.now.item c.args.left.now.folio c.args.left.now.claims.now.claimed c.args.left.now.cover in
    let ids = c.args.ids.now in
    let id = c.id-item.result in
    let rest = drop (c.loop-id.id-index + 1) ids in
    let at0 = g.P.Parts.at c.args.parts.now in
    let room0 = g.P.Parts.room c.args.parts.now in
    let holds0 = g.P.Parts.holds c.args.parts.now in
    let at1 = g.P.Parts.at c.loop-id.parts in
    let room1 = g.P.Parts.room c.loop-id.parts in
    let holds1 = g.P.Parts.holds c.loop-id.parts in
    let next : drop c.loop-id.id-index ids ≡ id ∷ rest = drop_next RightNo ids c.loop-id.id-index id c.loop-id-test.true c.id-item.is in
    let can = subst (AllByRecursion (CanBeLeft c.args.left.now.claims.now.claimed c.args.left.now.cover c.args.left.now.folio holds0 room0)) next
    (all_dropped (CanBeLeft c.args.left.now.claims.now.claimed c.args.left.now.cover c.args.left.now.folio holds0 room0) c.loop-id.id-index ids c.requires.rights) in
    still_left f c.args.left.now.claims.now.claimed c.args.left.now.cover c.args.left.now.folio ids id rest at0 at1 room0 room1 holds0 holds1
    (subst (λ ks. Progress RightNo f (IsApart c.args.left.now.folio ks) ids ks at0 at1 room0 room1 holds0 holds1) next c.loop-id.invariant) can.0

pub loop-id-preserved : goal.loop-id-preserved
loop-id-preserved g c =
    let f = left_at c.args.left.now.journal.now.receipts c.args.left.now.item c.args.left.now.folio c.args.left.now.claims.now.claimed c.args.left.now.cover in
    let ids = c.args.ids.now in
    let id = c.id-item.result in
    let rest = drop (c.loop-id.id-index + 1) ids in
    let at0 = g.P.Parts.at c.args.parts.now in
    let room0 = g.P.Parts.room c.args.parts.now in
    let holds0 = g.P.Parts.holds c.args.parts.now in
    let at1 = g.P.Parts.at c.loop-id.parts in
    let room1 = g.P.Parts.room c.loop-id.parts in
    let holds1 = g.P.Parts.holds c.loop-id.parts in
    let after = c.enter_right_left.new.parts in
    let next : drop c.loop-id.id-index ids ≡ id ∷ rest = drop_next RightNo ids c.loop-id.id-index id c.loop-id-test.true c.id-item.is in
    left_next c.args.left.now.journal.now.receipts c.args.left.now.item c.args.left.now.folio c.args.left.now.claims.now.claimed c.args.left.now.cover ids id rest at0 at1 (g.P.Parts.at after) room0 room1 (g.P.Parts.room after) holds0 holds1 (g.P.Parts.holds after)
    (subst AscendByNumber next (ascend_dropped c.loop-id.id-index ids c.requires.ascend))
    (subst (λ ks. Progress RightNo f (IsApart c.args.left.now.folio ks) ids ks at0 at1 room0 room1 holds0 holds1) next c.loop-id.invariant)
    c.enter_right_left.ensures.added c.enter_right_left.ensures.held

pub returns-clause-added : goal.returns-clause-added
returns-clause-added g c =
    let f = left_at c.args.left.now.journal.now.receipts c.args.left.now.item c.args.left.now.folio c.args.left.now.claims.now.claimed c.args.left.now.cover in
    let ids = c.args.ids.now in
    let at0 = g.P.Parts.at c.args.parts.now in
    let room0 = g.P.Parts.room c.args.parts.now in
    let holds0 = g.P.Parts.holds c.args.parts.now in
    let at1 = g.P.Parts.at c.loop-id.parts in
    let room1 = g.P.Parts.room c.loop-id.parts in
    let holds1 = g.P.Parts.holds c.loop-id.parts in
    let over : drop c.loop-id.id-index ids ≡ [] = drop_all c.loop-id.id-index ids c.loop-id-test.false in
    ends RightNo f (IsApart c.args.left.now.folio []) ids at0 at1 room0 room1 holds0 holds1
    (subst (λ ks. Progress RightNo f (IsApart c.args.left.now.folio ks) ids ks at0 at1 room0 room1 holds0 holds1) over c.loop-id.invariant)
