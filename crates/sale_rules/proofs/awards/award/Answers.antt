use Rattle.std.proofs.Common.{◌≡◌, [], Some, None, rules, sym, subst}
use Rattle.std.specs.Option.{option_map_or}
use Rattle.std.specs.Result.{result_err}
use Rattle.act_model.specs.SaleKeys.{earlier_rights}
use Rattle.folio_sections.specs.Adding.{AddsList}
use Rattle.auction_classes.specs.SaleClaims.{claimed_in}
use Rattle.auction_classes.specs.Sales.{sale_at}
use Rattle.sale_rules.specs.SaleEntries.{award_entries, unless_refused}
use Rattle.sale_rules.specs.SaleGrounds.{lowest, refusal_of_award}
use Rattle.sale_rules.specs.inner.LowestFound.{IsAward}
use Rattle.sale_rules.proofs.AwardGiven.{award_given}
use Rattle.sale_rules.proofs.AwardedRights.{can_be_left, earlier_ascend, rights_left_are}
use Rattle.sale_rules.proofs.Brought.{brings_all, brings_none}
use Rattle.sale_rules.proofs.ViewedSales.{of_view}
use Rattle.sale_rules.proofs.awards.award.Goals.{in-Ok, in-Err}
use Rattle.sale_rules.proofs.awards.award.Goals as goal

pub lowest_for_award-requires-clause-award : goal.lowest_for_award-requires-clause-award
lowest_for_award-requires-clause-award g c = subst IsAward (sym c.new-sale.ensures.sale) (c.args.buyer, c.args.bid, c.requires.award)

pub enter_award-requires-clause-ascend : goal.enter_award-requires-clause-ascend
enter_award-requires-clause-ascend g c =
    earlier_ascend c.args.journal.now.receipts c.requires.parts.kept.register c.args.folio c.args.item c.requires.parts.kept.kept

pub enter_award-requires-clause-rights : goal.enter_award-requires-clause-rights
enter_award-requires-clause-rights g c =
    let journal = c.args.journal.now.receipts in
    let k = c.requires.parts.kept in
    can_be_left journal (g.P.Parts.holds c.args.parts.now) (g.P.Parts.at c.args.parts.now) k.register (g.P.Parts.room c.args.parts.now) c.args.folio c.args.item
    c.lowest_for_award.new.claims.claimed c.in-Ok.lowest.cover
    (record { received = c.is_a_journal.ensures.journal; stands = k.stands; kept = k.kept; held = c.requires.parts.held; earlier = c.requires.parts.earlier })
    c.requires.parts.has_room
    (of_view g.P.Parts.holds g.P.Parts.at (λ s. c.lowest_for_award.new.claims.claimed ≡ claimed_in s) c.new-sale.ensures.made c.in-Ok.ensures.claimed k.register k.stands k.kept)

pub returns-clause-answer : goal.returns-clause-answer
returns-clause-answer g c register stands kept =
    let answer = of_view g.P.Parts.holds g.P.Parts.at (λ s. result_err c.lowest_for_award.result ≡ refusal_of_award s c.args.bid) c.new-sale.ensures.made c.lowest_for_award.ensures.answer register stands kept in
    search rules

pub returns-clause-added : goal.returns-clause-added
returns-clause-added g c register stands kept =
    let journal = c.args.journal.now.receipts in
    let s = sale_at journal register c.args.folio c.args.item in
    let at0 = g.P.Parts.at c.args.parts.now in
    let room0 = g.P.Parts.room c.args.parts.now in
    let brought = option_map_or (award_entries s c.args.buyer c.args.bid) (lowest s) [] in
    elim c.match-lowest_for_award.branch [
      | in-Ok w ↦
          let claims = c.lowest_for_award.new.claims.claimed in
          let left = rights_left_are journal (g.P.Parts.holds c.args.parts.now) at0 register c.args.folio c.args.item claims w.in-Ok.lowest.cover
          (record { received = c.is_a_journal.ensures.journal; stands = stands; kept = kept; held = c.requires.parts.held; earlier = c.requires.parts.earlier })
          (of_view g.P.Parts.holds g.P.Parts.at (λ s. claims ≡ claimed_in s) c.new-sale.ensures.made w.in-Ok.ensures.claimed register stands kept) in
          let least = of_view g.P.Parts.holds g.P.Parts.at (λ s. lowest s ≡ Some w.in-Ok.lowest) c.new-sale.ensures.made w.in-Ok.ensures.lowest register stands kept in
          let given = of_view g.P.Parts.holds g.P.Parts.at (λ s. None ≡ refusal_of_award s c.args.bid) c.new-sale.ensures.made w.in-Ok.ensures.answer register stands kept in
          let entered = award_given journal c.args.item c.args.folio c.args.buyer c.args.bid w.in-Ok.lowest claims register (lowest s) (earlier_rights journal c.args.item c.args.folio)
          at0 (g.P.Parts.at w.enter_award.new.parts) room0 (g.P.Parts.room w.enter_award.new.parts) least left w.enter_award.ensures.added in
          subst (λ p. AddsList at0 (g.P.Parts.at p) room0 (g.P.Parts.room p) (unless_refused (refusal_of_award s c.args.bid) brought)) (sym w.parts-is)
          (brings_all at0 (g.P.Parts.at w.enter_award.new.parts) room0 (g.P.Parts.room w.enter_award.new.parts) (refusal_of_award s c.args.bid) brought given entered)
      | in-Err w ↦
          subst (λ p. AddsList at0 (g.P.Parts.at p) room0 (g.P.Parts.room p) (unless_refused (refusal_of_award s c.args.bid) brought)) (sym w.parts-is)
          (brings_none at0 room0 (refusal_of_award s c.args.bid) w.in-Err.refusal brought
          (of_view g.P.Parts.holds g.P.Parts.at (λ s. Some w.in-Err.refusal ≡ refusal_of_award s c.args.bid) c.new-sale.ensures.made w.in-Err.ensures.answer register stands kept))
    ]
