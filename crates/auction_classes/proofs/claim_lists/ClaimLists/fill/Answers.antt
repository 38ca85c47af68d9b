-- Each list is written from those before it, and the first of them from what is found of the sale.
use Rattle.std.proofs.Common.{map, ap, ◌∙◌}
use Rattle.auction_classes.specs.Claims.{claims_by, in_order, in_row}
use Rattle.auction_classes.specs.SaleClaims.{of_class_four}
use Rattle.auction_classes.specs.inner.Findings.{right_with, seized_with}
use Rattle.auction_classes.specs.inner.Readings.{rights_read}
use Rattle.auction_classes.specs.declared.findings.Finding.{Finding}
use Rattle.auction_classes.proofs.claim_lists.ClaimLists.fill.Goals as goal

pub returns-clause-claimed : goal.returns-clause-claimed
returns-clause-claimed g c =
    let read = rights_read g.P.Parts.holds g.P.Parts.at c.args.reading.now in
    let finding = c.find_sale-finding.ensures.value in
    let registrations = c.deref.ensures.0 ∙ c.registrations_found-registrations.ensures in
    let again = c.deref-2.ensures.0 ∙ c.registrations_found-registrations.ensures in
    let seizures = c.deref-3.ensures.0 ∙ c.seizures_found-seizures.ensures in
    let served = c.deref-8.ensures.0 ∙ c.seizures_found-seizures.ensures in
    let found = c.write_rights.ensures.items ∙ (λ i. map (λ x. right_with (finding i) (registrations i) x (read x.id)) c.args.live.now) in
    let rights = c.deref-4.ensures.value ∙ found in
    let claims = c.deref-5.ensures.value ∙ c.write_claims.ensures.claims ∙ (λ i. claims_by (ap (λ (f : Finding). f.year) finding i) (again i) (seizures i) (rights i)) in
    record {
      items = c.write_row.ensures.items ∙ ap in_row (c.deref-6.ensures.value ∙ c.write_in_order.ensures.claims ∙ ap in_order claims);
      owners = c.write_owners.ensures.items;
      seizures = c.write_seizures.ensures.items ∙ (λ i. map (seized_with (ap (λ (f : Finding). f.sale) finding i) read) (served i));
      rights = c.write_right_claims.ensures.items ∙ ap of_class_four (c.deref-7.ensures.value ∙ found);
      found = found;
    }
