-- What is read of the sale, and what is written from it.
use Rattle.std.proofs.Common.{◌≡◌, List, All, IsSome, Some, length, slice_get, ◌+◌, sym, ap, subst, ◌∙◌, arith}
use Rattle.gb_base.specs.declared.keys.Key.{Key}
use Rattle.gb_base.specs.declared.keys.Key.TheVariants.{Right, Title}
use Rattle.folio_sections.specs.Cases.{seizure_numbers}
use Rattle.folio_sections.specs.declared.entries.Entry.{Entry}
use Rattle.kept_registers.specs.Kept.{Kept}
use Rattle.kept_registers.specs.Standing.{StandsFor}
use Rattle.folio_line.specs.AllRights.{AreAllRights}
use Rattle.folio_line.specs.FolioLine.{all_rises}
use Rattle.folio_line.specs.declared.folio_rights.CreatedRight.{CreatedRight}
use Rattle.auction_classes.specs.SaleClaims.{ClaimsState}
use Rattle.auction_classes.specs.inner.CaseSales.{sale_of_case}
use Rattle.auction_classes.specs.inner.ClaimLists.{AreClaimedIn}
use Rattle.auction_classes.specs.inner.LinesRead.{IsLineWithin, line_read}
use Rattle.auction_classes.specs.inner.Readings.{IsReadAs}
use Rattle.auction_classes.proofs.BoundedLists.{lists_within}
use Rattle.auction_classes.proofs.EarlierRights.{filed_at_most}
use Rattle.auction_classes.proofs.LineFits.{line_fits}
use Rattle.auction_classes.proofs.RoomKept.{line_capacity_kept, line_room_kept, lists_capacity_kept, room_for_fewer, room_kept}
use Rattle.auction_classes.proofs.SalesFilled.{AreWritten, written_is, written_owned, written_payable, written_computable}
use Rattle.auction_classes.proofs.SalesHeld.{IsSaleRead, SaleReading, can_be_read, can_find_case, held_rise, holds_sale, ids_are_all, ids_few, ids_in, ids_rise, reading_of, reads_in, sale_is_read, sale_line_within, sale_live_as_read, sale_live_few}
use Rattle.auction_classes.proofs.claims.Claims.fill.Goals as goal

pub title_below-title-requires : goal.title_below-title-requires
title_below-title-requires g c =
    let holds = g.P.Parts.holds c.args.parts.now in
    let at = g.P.Parts.at c.args.parts.now in
    let held = (holds_sale c.args.journal.now.receipts holds c.args.folio c.args.as_of c.requires.held).title in
    record {
      held = held;
      rise = held_rise c.args.journal.now.receipts c.requires.kept.register holds at (Title c.args.folio) c.requires.kept.kept c.requires.kept.stands held;
    }

-- ---- the line of the folio

pub read-requires : goal.read-requires
read-requires g c =
    let r = reading_of c.args.journal.now.receipts (g.P.Parts.holds c.args.parts.now) (g.P.Parts.at c.args.parts.now) c.args.folio c.args.as_of c.case_below-case.result c.read_before-before.result c.title_below-title.result in
    let is = sale_is_read r c.requires.kept c.is_a_journal.ensures.journal c.requires.held c.case_below-case.ensures c.read_before-before.ensures c.title_below-title.ensures in
    let ids : c.rights_filed-rights.result.now ≡ ids_in r = c.rights_filed-rights.ensures.value in
    let many = ap length ids in
    let few = ids_few r c.requires.kept.register is in
    let right_room = ap (λ (s : ClaimsState). s.right_room) c.self.view_is in
    let rises = ap (λ xs. length (all_rises (reads_in r) r.folio xs)) ids in
    let fit = ids_rise r c.requires.kept.register is in
    let exchange_room = ap (λ (s : ClaimsState). s.exchange_room) c.self.view_is in
    record {
      read = can_be_read r.journal c.requires.kept.register r.holds r.at r.folio (Some r.before) is.kept is.stands;
      all = subst (λ xs. AreAllRights xs (reads_in r) r.folio) (sym ids) (ids_are_all r c.requires.kept.register is);
      rights = omega (arith, many, few, right_room, c.requires.rights, c.self.invariant.0.for_rights);
      exchanges = omega (arith, rises, fit, exchange_room, c.requires.exchanges, c.self.invariant.0.for_exchanges);
    }

-- ---- the lists

pub fill-finding-requires : goal.fill-finding-requires
fill-finding-requires g c =
    let r = reading_of c.args.journal.now.receipts (g.P.Parts.holds c.args.parts.now) (g.P.Parts.at c.args.parts.now) c.args.folio c.args.as_of c.case_below-case.result c.read_before-before.result c.title_below-title.result in
    let is = sale_is_read r c.requires.kept c.is_a_journal.ensures.journal c.requires.held c.case_below-case.ensures c.read_before-before.ensures c.title_below-title.ensures in
    let runs = subst (λ es. IsSome (slice_get (seizure_numbers es) 0)) (sym c.case_below-case.ensures) c.requires.found.runs in
    let living : c.live-live.result.now ≡ c.read.new.self.live = c.live-live.ensures in
    let many = ap length living in
    let live = sale_live_few r c.requires.kept.register c.read.new.self is c.read.ensures.line in
    let few = ids_few r c.requires.kept.register is in
    let right_room = ap (λ (s : ClaimsState). s.right_room) c.self.view_is in
    record {
      find = can_find_case r c.requires.kept.register is runs;
      read = can_be_read r.journal c.requires.kept.register r.holds r.at r.folio (Some r.before) is.kept is.stands;
      live = subst (All (IsReadAs (λ id. reads_in r (Right r.folio id)))) (sym living) (sale_live_as_read r c.requires.kept.register c.read.new.self is c.read.ensures.line);
      room = room_for_fewer c.self.inside.right_room (length c.live-live.result.now) c.self.inside.lists c.self.invariant.0.for_claims (omega (arith, many, live, few, right_room, c.requires.rights));
    }

-- ---- the lines of the classes

pub fill-requires-clause-read : goal.fill-requires-clause-read
fill-requires-clause-read g c =
    can_be_read c.args.journal.now.receipts c.requires.kept.register (g.P.Parts.holds c.args.parts.now) (g.P.Parts.at c.args.parts.now) c.args.folio (Some c.read_before-before.result) c.requires.kept.kept c.requires.kept.stands

pub fill-requires-clause-room : goal.fill-requires-clause-room
fill-requires-clause-room g c =
    let r = reading_of c.args.journal.now.receipts (g.P.Parts.holds c.args.parts.now) (g.P.Parts.at c.args.parts.now) c.args.folio c.args.as_of c.case_below-case.result c.read_before-before.result c.title_below-title.result in
    let is = sale_is_read r c.requires.kept c.is_a_journal.ensures.journal c.requires.held c.case_below-case.ensures c.read_before-before.ensures c.title_below-title.ensures in
    let right_room = ap (λ (s : ClaimsState). s.right_room) c.self.view_is in
    let exchange_room = ap (λ (s : ClaimsState). s.exchange_room) c.self.view_is in
    let within = sale_line_within r c.requires.kept.register c.read.new.self c.self.inside.right_room c.self.inside.exchange_room is c.read.ensures.line (omega (arith, right_room, c.requires.rights))
    (omega (arith, exchange_room, c.requires.exchanges)) in
    line_fits c.read.new.self c.self.inside.right_room c.self.inside.exchange_room c.self.inside.line_four within c.self.invariant.0.in_four

pub fill-requires-2-clause-read : goal.fill-requires-2-clause-read
fill-requires-2-clause-read g c =
    can_be_read c.args.journal.now.receipts c.requires.kept.register (g.P.Parts.holds c.args.parts.now) (g.P.Parts.at c.args.parts.now) c.args.folio (Some c.read_before-before.result) c.requires.kept.kept c.requires.kept.stands

pub fill-requires-2-clause-room : goal.fill-requires-2-clause-room
fill-requires-2-clause-room g c =
    let r = reading_of c.args.journal.now.receipts (g.P.Parts.holds c.args.parts.now) (g.P.Parts.at c.args.parts.now) c.args.folio c.args.as_of c.case_below-case.result c.read_before-before.result c.title_below-title.result in
    let is = sale_is_read r c.requires.kept c.is_a_journal.ensures.journal c.requires.held c.case_below-case.ensures c.read_before-before.ensures c.title_below-title.ensures in
    let right_room = ap (λ (s : ClaimsState). s.right_room) c.self.view_is in
    let exchange_room = ap (λ (s : ClaimsState). s.exchange_room) c.self.view_is in
    let within = sale_line_within r c.requires.kept.register c.read.new.self c.self.inside.right_room c.self.inside.exchange_room is c.read.ensures.line (omega (arith, right_room, c.requires.rights))
    (omega (arith, exchange_room, c.requires.exchanges)) in
    line_fits c.read.new.self c.self.inside.right_room c.self.inside.exchange_room c.self.inside.line_six within c.self.invariant.0.in_six

-- ---- what is claimed

-- the sale as it was read
abbrev read_so : (g : _) (c : goal.After-fill-2 g) → SaleReading
read_so g c = reading_of c.args.journal.now.receipts (g.P.Parts.holds c.args.parts.now) (g.P.Parts.at c.args.parts.now) c.args.folio c.args.as_of c.case_below-case.result c.read_before-before.result c.title_below-title.result

-- the sale is read of any kept register for which the parts stand
is_read : (g : _) (c : goal.After-fill-2 g) (register : Key → List Entry) → StandsFor (g.P.Parts.holds c.args.parts.now) (g.P.Parts.at c.args.parts.now) register → Kept c.args.journal.now.receipts register
    → IsSaleRead (read_so g c) register
is_read g c register stands kept =
    sale_is_read (read_so g c) (record { register = register; stands = stands; kept = kept }) c.is_a_journal.ensures.journal c.requires.held c.case_below-case.ensures c.read_before-before.ensures c.title_below-title.ensures

-- what was written from the sale
are_written : (g : _) (c : goal.After-fill-2 g) → AreWritten (read_so g c) c.read.new.self c.fill-finding.result c.get-self-inside.result c.fill-finding.new.self c.fill.new.self c.fill-2.new.self
are_written g c =
    let r = read_so g c in
    let seized = c.fill-finding.result.seized in
    record {
      of_line = c.read.ensures.line;
      found = c.fill-finding.ensures.finding;
      named = c.get-self-inside.ensures.value;
      claimed = subst (λ xs. AreClaimedIn (sale_of_case r.journal r.entries r.item) (λ id. reads_in r (Right r.folio id)) r.title xs c.fill-finding.new.self) c.live-live.ensures c.fill-finding.ensures.claimed;
      in_four = c.fill.ensures.filled ∙ ap (λ xs. line_read (record { seized = seized; number = 4 }) (reads_in r) r.folio xs c.read.new.self) c.deref.ensures.value;
      in_six = c.fill-2.ensures.filled ∙ ap (λ xs. line_read (record { seized = seized; number = 6 }) (reads_in r) r.folio xs c.read.new.self) c.deref-2.ensures.value;
    }

pub returns-clause-claimed : goal.returns-clause-claimed
returns-clause-claimed g c register stands kept =
    written_is (read_so g c) register c.read.new.self c.fill-finding.result c.get-self-inside.result c.fill-finding.new.self c.fill.new.self c.fill-2.new.self (is_read g c register stands kept) (are_written g c)

-- ---- the lines are no more than there is room for

-- the folio's line is no more than there is room for
line_is_within : (g : _) (c : goal.After-fill-2 g) → IsLineWithin c.self.inside.right_room c.self.inside.exchange_room c.read.new.self
line_is_within g c =
    let right_room = ap (λ (s : ClaimsState). s.right_room) c.self.view_is in
    let exchange_room = ap (λ (s : ClaimsState). s.exchange_room) c.self.view_is in
    sale_line_within (read_so g c) c.requires.kept.register c.read.new.self c.self.inside.right_room c.self.inside.exchange_room (is_read g c c.requires.kept.register c.requires.kept.stands c.requires.kept.kept) c.read.ensures.line
    (omega (arith, right_room, c.requires.rights)) (omega (arith, exchange_room, c.requires.exchanges))

pub returns-clause-places_four : goal.returns-clause-places_four
returns-clause-places_four g c = omega (arith, c.fill.ensures.places, (line_is_within g c).placed)

pub returns-clause-swaps_four : goal.returns-clause-swaps_four
returns-clause-swaps_four g c = omega (arith, c.fill.ensures.swaps, (line_is_within g c).swapped)

pub returns-clause-places_six : goal.returns-clause-places_six
returns-clause-places_six g c = omega (arith, c.fill-2.ensures.places, (line_is_within g c).placed)

pub returns-clause-swaps_six : goal.returns-clause-swaps_six
returns-clause-swaps_six g c = omega (arith, c.fill-2.ensures.swaps, (line_is_within g c).swapped)

-- ---- and there is as much room as before

pub returns-clause-memory : goal.returns-clause-memory
returns-clause-memory g c =
    let lists = lists_capacity_kept c.self.inside.lists c.fill-finding.new.self c.fill-finding.ensures.room in
    let four = line_capacity_kept c.self.inside.line_four c.fill.new.self c.fill.ensures.room in
    let six = line_capacity_kept c.self.inside.line_six c.fill-2.new.self c.fill-2.ensures.room in
    let line = c.read.ensures.memory in
    let before = ap (λ (s : ClaimsState). s.capacity) c.self.view_is in
    (λ i. lists i + (four i + (six i + line i))) ∙ before

pub invariant_of-self : goal.invariant_of-self
invariant_of-self g c =
    let r = read_so g c in
    let register = c.requires.kept.register in
    let is = is_read g c register c.requires.kept.stands c.requires.kept.kept in
    let are = are_written g c in
    let line = c.read.new.self in
    let lists = c.fill-finding.new.self in
    let runs = subst (λ es. IsSome (slice_get (seizure_numbers es) 0)) (sym c.case_below-case.ensures) c.requires.found.runs in
    let living = ap (λ (xs : List CreatedRight). length xs) c.live-live.ensures in
    let live = sale_live_few r register line is c.read.ensures.line in
    let most = filed_at_most r.journal r.folio r.before in
    let within = lists_within r.journal r.entries r.item (λ id. reads_in r (Right r.folio id)) r.title line.live lists is.received (can_find_case r register is runs) are.claimed (omega (arith, c.fill-finding.ensures.few, living))
    (omega (arith, live, most)) in
    let right_room = c.read.ensures.right_room in
    let exchange_room = c.read.ensures.exchange_room in (
      record {
        for_claims = room_kept c.self.inside.right_room c.self.inside.lists lists c.self.invariant.0.for_claims c.fill-finding.ensures.room;
        for_rights = omega (arith, right_room, c.self.invariant.0.for_rights);
        for_exchanges = omega (arith, exchange_room, c.self.invariant.0.for_exchanges);
        in_four = line_room_kept c.self.inside.right_room c.self.inside.exchange_room c.self.inside.line_four c.fill.new.self c.self.invariant.0.in_four c.fill.ensures.room;
        in_six = line_room_kept c.self.inside.right_room c.self.inside.exchange_room c.self.inside.line_six c.fill-2.new.self c.self.invariant.0.in_six c.fill-2.ensures.room;
      },
      written_computable r register line c.fill-finding.result c.get-self-inside.result lists c.fill.new.self c.fill-2.new.self is are (omega (arith, c.get-self-inside.ensures.in_range)) within,
      written_payable r register line c.fill-finding.result c.get-self-inside.result lists c.fill.new.self c.fill-2.new.self is are (c.fill-finding.ensures.owned (written_owned r register line is c.read.ensures.line runs)),
    )
