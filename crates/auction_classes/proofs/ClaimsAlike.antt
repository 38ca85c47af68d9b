-- Two registers that agree at the case and at the title, and read the rights of the folio alike, have the same claims in its sale.
use Rattle.std.proofs.Common.{◌≡◌, ℕ, inl, List, map, refl, sym, ◌∙◌}
use Rattle.gb_base.specs.declared.keys.Key.{Key}
use Rattle.gb_base.specs.declared.keys.Key.TheVariants.{Case, Title}
use Rattle.act_model.specs.declared.receipts.Receipt.{Receipt}
use Rattle.folio_line.specs.Exchanges.{counted_exchanges, counted_exercises}
use Rattle.folio_line.specs.FolioLine.{LineState}
use Rattle.folio_line.specs.FolioRights.{live_rights, rights_where}
use Rattle.folio_line.specs.FolioSlots.{stands_on_line}
use Rattle.folio_sections.specs.Fronts.{below}
use Rattle.folio_sections.specs.declared.entries.Entry.{Entry}
use Rattle.auction_classes.specs.Claims.{at_right, claims_by, in_order, in_row, owners_named, right_found, rights_found}
use Rattle.auction_classes.specs.ClassLines.{line_of_class}
use Rattle.auction_classes.specs.SaleClaims.{claimed_in, of_class_four, seized_for}
use Rattle.auction_classes.specs.Sales.{read, registrations_found, sale_at, sale_day, seizures_found}
use Rattle.auction_classes.specs.inner.CaseSales.{sale_of_case}
use Rattle.auction_classes.specs.inner.Findings.{finding_of, right_with, seized_with}
use Rattle.auction_classes.specs.inner.LinesRead.{line_read}
use Rattle.auction_classes.proofs.LinesAsRead.{line_as_read}
use Rattle.auction_classes.proofs.ReadAlike.{ReadAlike}
use Rattle.auction_classes.proofs.SalesAsRead.{same_rights, same_seizures}

-- the line of a folio as it is read
abbrev the_line : (Key → List Entry) → ℕ → LineState
the_line reads folio = record {
  rights = rights_where (stands_on_line (counted_exchanges reads folio)) reads folio;
  live = live_rights reads folio;
  exchanges = counted_exchanges reads folio;
  exercises = counted_exercises reads folio;
  right_room = 0;
  exchange_room = 0;
  capacity = 0;
}

-- The rights are read alike by both sales.
pub claimed_alike : (journal : List Receipt) (at0 at1 : Key → List Entry) (folio i : ℕ) → below i (at1 (Case folio)) ≡ below i (at0 (Case folio)) → below i (at1 (Title folio)) ≡ below i (at0 (Title folio))
    → ReadAlike folio (read (sale_at journal at0 folio i)) (read (sale_at journal at1 folio i))
    → claimed_in (sale_at journal at1 folio i) ≡ claimed_in (sale_at journal at0 folio i)
claimed_alike journal at0 at1 folio i case title alike =
    let s0 = sale_at journal at0 folio i in
    let s1 = sale_at journal at1 folio i in
    let finding : finding_of s1 ≡ finding_of s0 = λ j. finding_of (sale_of_case journal (case j) i) in
    let registrations : registrations_found s1 ≡ registrations_found s0 = λ j. registrations_found (sale_of_case journal (case j) i) in
    let seizures : seizures_found s1 ≡ seizures_found s0 = λ j. seizures_found (sale_of_case journal (case j) i) in
    let found : map (right_found s1) (rights_found s1) ≡ map (right_found s0) (rights_found s0) =
    (λ j. map (λ x. right_with (finding j) (registrations j) x (at_right s1 x.id)) (rights_found s1)) ∙ same_rights s0 (read s1) alike in
    let seized : map (seized_for s1) (seizures_found s1) ≡ map (seized_for s0) (seizures_found s0) =
    (λ j. map (seized_with (sale_day (sale_of_case journal (case j) i)) (at_right s1)) (seizures j)) ∙ same_seizures s0 (read s1) alike in
    let lines : (class : ℕ) → line_of_class s1 class ≡ line_of_class s0 class = λ class.
    sym (line_as_read s1 (read s1) class (the_line (read s1) folio) (map (right_found s1) (rights_found s1)) (λ id. inl refl) (record { rights = refl; live = refl; exchanges = refl; exercises = refl }) refl)
    ∙ (λ j. line_read (record { seized = (finding j).seized; number = class }) (read s1) folio (map (right_found s1) (rights_found s1)) (the_line (read s1) folio))
    ∙ line_as_read s0 (read s1) class (the_line (read s1) folio) (map (right_found s1) (rights_found s1)) alike (record { rights = refl; live = refl; exchanges = refl; exercises = refl }) found in
    λ j. record {
      items = in_row (in_order (claims_by (finding j).year (registrations j) (seizures j) (found j)));
      costs = (finding j).costs;
      owners = owners_named (below (finding j).before (title j));
      seizures = seized j;
      rights = of_class_four (found j);
      line_four = lines 4 j;
      line_six = lines 6 j;
    }
