-- The seizures as they are read are those of the sale.
use Rattle.std.proofs.Common.{IsSome, Some, map, refl, slice_get, sym, ap, subst, ◌∙◌}
use Rattle.gb_base.specs.declared.keys.Key.TheVariants.{Right, Title}
use Rattle.folio_sections.specs.Cases.{seizure_numbers}
use Rattle.folio_sections.specs.Fronts.{below}
use Rattle.auction_classes.specs.inner.Findings.{seized_with}
use Rattle.auction_classes.specs.inner.WholeBids.{are_personal}
use Rattle.auction_classes.specs.declared.findings.Finding.{Finding}
use Rattle.auction_classes.proofs.SalesHeld.{can_be_read, can_find_case, reading_of, reads_in, sale_is_read}
use Rattle.auction_classes.proofs.WholeSales.{seized_as_read}
use Rattle.auction_classes.proofs.computed.is_of_persons.Goals as goal

pub find_sale-sale-requires : goal.find_sale-sale-requires
find_sale-sale-requires g c =
    let at = g.P.Parts.at c.args.parts.now in
    let r = reading_of c.args.journal.now.receipts (g.P.Parts.holds c.args.parts.now) at c.args.folio c.args.as_of c.case_below-case.result c.read_before.result (below c.read_before.result (at (Title c.args.folio))) in
    let is = sale_is_read r c.requires.kept c.is_a_journal.ensures.journal c.requires.held c.case_below-case.ensures c.read_before.ensures refl in
    can_find_case r c.requires.kept.register is (subst (λ es. IsSome (slice_get (seizure_numbers es) 0)) (sym c.case_below-case.ensures) c.requires.found.runs)

pub seizures_found-requires : goal.seizures_found-requires
seizures_found-requires g c =
    let at = g.P.Parts.at c.args.parts.now in
    let r = reading_of c.args.journal.now.receipts (g.P.Parts.holds c.args.parts.now) at c.args.folio c.args.as_of c.case_below-case.result c.read_before.result (below c.read_before.result (at (Title c.args.folio))) in
    let is = sale_is_read r c.requires.kept c.is_a_journal.ensures.journal c.requires.held c.case_below-case.ensures c.read_before.ensures refl in
    can_find_case r c.requires.kept.register is (subst (λ es. IsSome (slice_get (seizure_numbers es) 0)) (sym c.case_below-case.ensures) c.requires.found.runs)

pub are_personal-requires : goal.are_personal-requires
are_personal-requires g c = record {
  read = can_be_read c.args.journal.now.receipts c.requires.kept.register (g.P.Parts.holds c.args.parts.now) (g.P.Parts.at c.args.parts.now) c.args.folio (Some c.read_before.result) c.requires.kept.kept c.requires.kept.stands;
}

pub returns : goal.returns
returns g c register stands kept =
    let at = g.P.Parts.at c.args.parts.now in
    let r = reading_of c.args.journal.now.receipts (g.P.Parts.holds c.args.parts.now) at c.args.folio c.args.as_of c.case_below-case.result c.read_before.result (below c.read_before.result (at (Title c.args.folio))) in
    let is =
    sale_is_read r (record { register = register; stands = stands; kept = kept }) c.is_a_journal.ensures.journal c.requires.held c.case_below-case.ensures c.read_before.ensures refl in
    let sale = ap (λ (f : Finding). f.sale) c.find_sale-sale.ensures.value in
    let seizures = c.deref.ensures.0 ∙ c.seizures_found.ensures in
    c.are_personal.ensures
    ∙ (λ i. are_personal (map (seized_with (sale i) (λ id. reads_in r (Right r.folio id))) (seizures i)))
    ∙ ap are_personal (seized_as_read r register is)
