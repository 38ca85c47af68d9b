-- What is read of the sale without its exchanges, and what it comes to.
use Rattle.std.proofs.Common.{◌≡◌, IsSome, Some, length, slice_get, sym, ap, subst, ◌∙◌, arith}
use Rattle.gb_base.specs.declared.keys.Key.TheVariants.{Case, Title}
use Rattle.folio_sections.specs.Cases.{seizure_numbers}
use Rattle.folio_line.specs.AllRights.{AreAllRights}
use Rattle.auction_classes.specs.SaleClaims.{ClaimsState}
use Rattle.auction_classes.specs.Computable.{filled_of}
use Rattle.auction_classes.proofs.NoClaims.{emptied_payable, emptied_computable}
use Rattle.auction_classes.proofs.RoomKept.{room_for_fewer, room_kept}
use Rattle.auction_classes.proofs.SalesHeld.{can_be_read, can_find_case, held_rise, holds_sale, ids_are_all, ids_few, ids_in, reading_of, reads_in, sale_is_read, sale_live_as_read, sale_live_few}
use Rattle.auction_classes.proofs.WholeSales.{is_line_with, line_with, whole_lowest, whole_sums}
use Rattle.auction_classes.proofs.claims.Claims.compute_whole.Goals as goal

pub case_below-case-requires : goal.case_below-case-requires
case_below-case-requires g c =
    let holds = g.P.Parts.holds c.args.parts.now in
    let at = g.P.Parts.at c.args.parts.now in
    let held = (holds_sale c.args.journal.now.receipts holds c.args.folio c.args.as_of c.requires.held).case in
    record {
      held = held;
      rise = held_rise c.args.journal.now.receipts c.requires.kept.register holds at (Case c.args.folio) c.requires.kept.kept c.requires.kept.stands held;
    }

pub title_below-title-requires : goal.title_below-title-requires
title_below-title-requires g c =
    let holds = g.P.Parts.holds c.args.parts.now in
    let at = g.P.Parts.at c.args.parts.now in
    let held = (holds_sale c.args.journal.now.receipts holds c.args.folio c.args.as_of c.requires.held).title in
    record {
      held = held;
      rise = held_rise c.args.journal.now.receipts c.requires.kept.register holds at (Title c.args.folio) c.requires.kept.kept c.requires.kept.stands held;
    }

pub read_live-requires : goal.read_live-requires
read_live-requires g c =
    let r = reading_of c.args.journal.now.receipts (g.P.Parts.holds c.args.parts.now) (g.P.Parts.at c.args.parts.now) c.args.folio c.args.as_of c.case_below-case.result c.read_before-before.result c.title_below-title.result in
    let is = sale_is_read r c.requires.kept c.is_a_journal.ensures.journal c.requires.held c.case_below-case.ensures c.read_before-before.ensures c.title_below-title.ensures in
    let ids : c.rights_filed-rights.result.now ≡ ids_in r = c.rights_filed-rights.ensures.value in
    let many = ap length ids in
    let few = ids_few r c.requires.kept.register is in
    let right_room = ap (λ (s : ClaimsState). s.right_room) c.self.view_is in
    record {
      read = can_be_read r.journal c.requires.kept.register r.holds r.at r.folio (Some r.before) is.kept is.stands;
      all = subst (λ xs. AreAllRights xs (reads_in r) r.folio) (sym ids) (ids_are_all r c.requires.kept.register is);
      rights = omega (arith, many, few, right_room, c.requires.rights, c.self.invariant.0.for_rights);
    }

pub fill-finding-requires : goal.fill-finding-requires
fill-finding-requires g c =
    let r = reading_of c.args.journal.now.receipts (g.P.Parts.holds c.args.parts.now) (g.P.Parts.at c.args.parts.now) c.args.folio c.args.as_of c.case_below-case.result c.read_before-before.result c.title_below-title.result in
    let is = sale_is_read r c.requires.kept c.is_a_journal.ensures.journal c.requires.held c.case_below-case.ensures c.read_before-before.ensures c.title_below-title.ensures in
    let runs = subst (λ es. IsSome (slice_get (seizure_numbers es) 0)) (sym c.case_below-case.ensures) c.requires.found.runs in
    let live = c.live-live.result.now in
    let of_line = is_line_with (reads_in r) r.folio live (c.live-live.ensures ∙ c.read_live.ensures.live) in
    let some = sale_live_few r c.requires.kept.register (line_with (reads_in r) r.folio live) is of_line in
    let few = ids_few r c.requires.kept.register is in
    let right_room = ap (λ (s : ClaimsState). s.right_room) c.self.view_is in
    record {
      find = can_find_case r c.requires.kept.register is runs;
      read = can_be_read r.journal c.requires.kept.register r.holds r.at r.folio (Some r.before) is.kept is.stands;
      live = sale_live_as_read r c.requires.kept.register (line_with (reads_in r) r.folio live) is of_line;
      room = room_for_fewer c.self.inside.right_room (length live) c.self.inside.lists c.self.invariant.0.for_claims (omega (arith, some, few, right_room, c.requires.rights));
    }

-- ---- what it comes to

pub whole_bid-lowest-requires-clause-sums : goal.whole_bid-lowest-requires-clause-sums
whole_bid-lowest-requires-clause-sums g c =
    let r = reading_of c.args.journal.now.receipts (g.P.Parts.holds c.args.parts.now) (g.P.Parts.at c.args.parts.now) c.args.folio c.args.as_of c.case_below-case.result c.read_before-before.result c.title_below-title.result in
    let is = sale_is_read r c.requires.kept c.is_a_journal.ensures.journal c.requires.held c.case_below-case.ensures c.read_before-before.ensures c.title_below-title.ensures in
    let runs = subst (λ es. IsSome (slice_get (seizure_numbers es) 0)) (sym c.case_below-case.ensures) c.requires.found.runs in
    whole_sums r c.requires.kept.register c.live-live.result.now c.fill-finding.result c.fill-finding.new.self is
    (record { living = c.live-live.ensures ∙ c.read_live.ensures.live; found = c.fill-finding.ensures.finding; claimed = c.fill-finding.ensures.claimed })
    runs c.fill-finding.ensures.few c.fill-finding.ensures.interest

pub returns-clause-value : goal.returns-clause-value
returns-clause-value g c register stands kept =
    let r = reading_of c.args.journal.now.receipts (g.P.Parts.holds c.args.parts.now) (g.P.Parts.at c.args.parts.now) c.args.folio c.args.as_of c.case_below-case.result c.read_before-before.result c.title_below-title.result in
    let is =
    sale_is_read r (record { register = register; stands = stands; kept = kept }) c.is_a_journal.ensures.journal c.requires.held c.case_below-case.ensures c.read_before-before.ensures c.title_below-title.ensures in
    c.whole_bid-lowest.ensures
    ∙ whole_lowest r register c.live-live.result.now c.fill-finding.result c.get.result c.fill-finding.new.self is
    (record { living = c.live-live.ensures ∙ c.read_live.ensures.live; found = c.fill-finding.ensures.finding; claimed = c.fill-finding.ensures.claimed })
    c.get.ensures.value (λ filled fills. record { long = c.whole_line.ensures.length filled fills; paid = λ right place. c.whole_line.ensures.paid filled right fills place })
    (c.requires.personal register stands kept)

pub invariant_of-self : goal.invariant_of-self
invariant_of-self g c =
    let room = c.self.invariant.0 in
    let lists = c.clear.new.self in
    let right_room = c.read_live.ensures.right_room in
    let exchange_room = c.read_live.ensures.exchange_room in
    let filled = room_kept c.self.inside.right_room c.self.inside.lists c.fill-finding.new.self room.for_claims c.fill-finding.ensures.room in (
      record {
        for_claims = room_kept c.self.inside.right_room c.fill-finding.new.self lists filled c.clear.ensures.room;
        for_rights = omega (arith, right_room, room.for_rights);
        for_exchanges = omega (arith, exchange_room, room.for_exchanges);
        in_four = room.in_four;
        in_six = room.in_six;
      },
      emptied_computable lists c.self.inside.costs (filled_of c.self.inside.line_four) (filled_of c.self.inside.line_six) c.clear.ensures.empty c.self.invariant.1.costs c.self.invariant.1.four c.self.invariant.1.six,
      emptied_payable lists c.self.inside.costs (filled_of c.self.inside.line_four) (filled_of c.self.inside.line_six) c.clear.ensures.empty,
    )
