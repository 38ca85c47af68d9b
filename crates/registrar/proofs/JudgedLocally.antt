-- The judgement of a filing follows from what stands at the filing's keys.
use Rattle.std.proofs.Common.{◌≡◌, ℕ, ◌+◌, not, ◌&&◌, ◌==◌, List, [], ◌∷◌, find, flat_map, map, Some, refl, ap}
use Rattle.std.specs.List.{AllByRecursion, enumerate_from, list_any}
use Rattle.std.proofs.lemmas.List.Elements.{recursion_from_All}
use Rattle.gb_base.specs.declared.keys.Key.{Key}
use Rattle.gb_base.specs.declared.keys.Key.TheVariants.{Title, Right}
use Rattle.gb_base.specs.declared.sections.Section.{Section}
use Rattle.gb_base.specs.declared.sections.Section.TheVariants as section
use Rattle.act_model.proofs.KeyOrder.{has_decides}
use Rattle.act_model.specs.Touches.{filing_at, keys_of_filing}
use Rattle.act_model.specs.declared.documents.Doc.{Doc}
use Rattle.act_model.specs.declared.filing_acts.Act.{Act}
use Rattle.act_model.specs.declared.filing_acts.Act.TheVariants.{Open, Transfer, Create, NoticeFor, Convert, Assign, Cancel, Exchange, Exercise}
use Rattle.act_model.specs.declared.items.Filing.{Filing}
use Rattle.act_model.specs.declared.receipts.Receipt.{Receipt}
use Rattle.consent_rules.proofs.HeldLemmas.{parts_of_filing}
use Rattle.consent_rules.specs.inner.Held.{HasParts}
use Rattle.act_model.specs.Documents.{documents, is_strangers_consent}
use Rattle.folio_sections.specs.Held.{is_given}
use Rattle.consent_rules.specs.Judging.{curables, defects_under, grounds, holds, is_defective, is_plain_among, is_rejected_under, is_silent_among, judged_filing, judgement_by, lacks_owner, lacks_owner_of_exchange, KnowsExchanges}
use Rattle.folio_sections.specs.declared.entries.Entry.{Entry}
use Rattle.consent_rules.specs.declared.judgements.Defect.{Defect}
use Rattle.folio_sections.proofs.Unchanged.{all_weaker}
use Rattle.folio_sections.proofs.FilteredLists.{filter_alike}
use Rattle.registrar.proofs.ActReads.{affected_locally, applicants_locally, assignment_locally, conversion_locally, exchange_locally, folio_locally, needed_locally, others_locally, owner_side_locally, reservation_locally, right_locally, ReadsSame}
pub use Rattle.registrar.proofs.Agreeing.{AgreesAt}
use Rattle.registrar.proofs.Agreeing.{any_same}

-- ---- an act

-- what an act needs is at the filing's keys
act_reads : (keys : List Key) (at0 at1 : Key → List Entry) (act : Act) → AgreesAt keys at0 at1 → HasParts (is_given keys) at0 act → ReadsSame at0 at1 act
act_reads keys at0 at1 (Open folio inventory owners) agrees parts = agrees (Title folio) ((has_decides (Title folio) keys).0 parts)
act_reads keys at0 at1 (Transfer folio owners) agrees parts = agrees (Title folio) ((has_decides (Title folio) keys).0 parts)
act_reads keys at0 at1 (Create folio spec reserve) agrees parts = agrees (Title folio) ((has_decides (Title folio) keys).0 parts)
act_reads keys at0 at1 (NoticeFor folio spec) agrees parts = agrees (Title folio) ((has_decides (Title folio) keys).0 parts)
act_reads keys at0 at1 (Convert folio right) agrees parts = record {
  title = agrees (Title folio) ((has_decides (Title folio) keys).0 parts.title);
  right = agrees (Right folio right) ((has_decides (Right folio right) keys).0 parts.right);
}
act_reads keys at0 at1 (Assign folio right holder) agrees parts = agrees (Right folio right) ((has_decides (Right folio right) keys).0 parts)
act_reads keys at0 at1 (Cancel folio right) agrees parts = record {
  title = agrees (Title folio) ((has_decides (Title folio) keys).0 parts.title);
  right = agrees (Right folio right) ((has_decides (Right folio right) keys).0 parts.right);
}
act_reads keys at0 at1 (Exchange folio recede rise) agrees parts = record {
  recede = agrees (Right folio recede) ((has_decides (Right folio recede) keys).0 parts.recede);
  rise = agrees (Right folio rise) ((has_decides (Right folio rise) keys).0 parts.rise);
  title = λ stands. agrees (Title folio) ((has_decides (Title folio) keys).0 (parts.title stands));
}
act_reads keys at0 at1 (Exercise folio behind spec) agrees parts = record {
  title = agrees (Title folio) ((has_decides (Title folio) keys).0 parts.title);
  right = agrees (Right folio behind) ((has_decides (Right folio behind) keys).0 parts.right);
}

-- so all acts of the filing read the same in both
acts_read : (journal : List Receipt) (m : ℕ) (f : Filing) (at0 at1 : Key → List Entry) → filing_at journal m ≡ Some f → KnowsExchanges journal m at0 → AgreesAt (keys_of_filing journal m) at0 at1 → AllByRecursion (ReadsSame at0 at1) f.acts
acts_read journal m f at0 at1 is known agrees =
    let keys = keys_of_filing journal m in
    all_weaker (HasParts (is_given keys) at0) (ReadsSame at0 at1) f.acts (λ act parts. act_reads keys at0 at1 act agrees parts)
    (recursion_from_All (HasParts (is_given keys) at0) f.acts
    (parts_of_filing (is_given keys) at0 journal m f is (λ k there. (has_decides k keys).1 there) known))

-- what holds of each act holds of each with its number
numbered : (P : Act → Type 0) (n : ℕ) (acts : List Act) → AllByRecursion P acts → AllByRecursion (λ (p : ℕ × Act). P p.1) (enumerate_from n acts)
numbered P n [] each = tt
numbered P n (act ∷ acts) each = (each.0, numbered P (n + 1) acts each.1)

-- ---- grounds for rejection

holds_locally : (journal : List Receipt) (m : ℕ) (f : Filing) (docs : List Doc) (at0 at1 : Key → List Entry) (s : Section) (a : ℕ) (act : Act) → ReadsSame at0 at1 act → holds journal m f docs at1 s a act ≡ holds journal m f docs at0 s a act
holds_locally journal m f docs at0 at1 section.Limit a act same = refl
holds_locally journal m f docs at0 at1 section.Gbo3 a act same = folio_locally at0 at1 f.acts a act same
holds_locally journal m f docs at0 at1 section.Bgb873 a act same = right_locally at0 at1 act same
holds_locally journal m f docs at0 at1 section.Bgb883 a act same = conversion_locally at0 at1 act same
holds_locally journal m f docs at0 at1 section.Bgb880 a act same = exchange_locally journal at0 at1 act same
holds_locally journal m f docs at0 at1 section.Bgb881 a act same = reservation_locally at0 at1 act same
holds_locally journal m f docs at0 at1 section.Bgb1059 a act same = assignment_locally at0 at1 act same
holds_locally journal m f docs at0 at1 section.Gbo13 a act same = ap (λ people. not (list_any (λ p. p == f.applicant) people)) (applicants_locally m at0 at1 f.acts a act same)
holds_locally journal m f docs at0 at1 section.Gbo20 a act same = refl
holds_locally journal m f docs at0 at1 section.Gbo19 a act same =
    λ j. is_silent_among docs a (affected_locally m docs at0 at1 f.acts a act same j)
    && not (list_any (is_strangers_consent a (needed_locally journal m docs at0 at1 f.acts a act same j)) docs)
holds_locally journal m f docs at0 at1 other a act same = refl

ground_locally : (journal : List Receipt) (m : ℕ) (f : Filing) (docs : List Doc) (at0 at1 : Key → List Entry) (s : Section) → AllByRecursion (λ (p : ℕ × Act). ReadsSame at0 at1 p.1) (enumerate_from 1 f.acts)
    → list_any (λ p. holds journal m f docs at1 s p.0 p.1) (enumerate_from 1 f.acts) ≡ list_any (λ p. holds journal m f docs at0 s p.0 p.1) (enumerate_from 1 f.acts)
ground_locally journal m f docs at0 at1 s same =
    any_same (λ (p : ℕ × Act). holds journal m f docs at1 s p.0 p.1) (λ (p : ℕ × Act). holds journal m f docs at0 s p.0 p.1) (enumerate_from 1 f.acts)
    (all_weaker (λ (p : ℕ × Act). ReadsSame at0 at1 p.1) (λ (p : ℕ × Act). holds journal m f docs at1 s p.0 p.1 ≡ holds journal m f docs at0 s p.0 p.1) (enumerate_from 1 f.acts)
    (λ p here. holds_locally journal m f docs at0 at1 s p.0 p.1 here) same)

rejected_locally : (journal : List Receipt) (m : ℕ) (f : Filing) (docs : List Doc) (at0 at1 : Key → List Entry) (s : Section) → AllByRecursion (λ (p : ℕ × Act). ReadsSame at0 at1 p.1) (enumerate_from 1 f.acts)
    → is_rejected_under journal m f docs at1 s ≡ is_rejected_under journal m f docs at0 s
rejected_locally journal m f docs at0 at1 section.Gbo16 same = refl
rejected_locally journal m f docs at0 at1 other same = ground_locally journal m f docs at0 at1 other same

-- ---- curable defects

lacks_owner_locally : (m : ℕ) (docs : List Doc) (at0 at1 : Key → List Entry) (acts : List Act) (a : ℕ) (act : Act) → ReadsSame at0 at1 act → lacks_owner m docs at1 acts a act ≡ lacks_owner m docs at0 acts a act
lacks_owner_locally m docs at0 at1 acts a (Cancel folio right) same =
    ap (λ people. is_silent_among docs a people) (owner_side_locally m docs at0 at1 acts a (Cancel folio right) same)
lacks_owner_locally m docs at0 at1 acts a other same = refl

lacks_owner_of_exchange_locally : (m : ℕ) (docs : List Doc) (at0 at1 : Key → List Entry) (acts : List Act) (a : ℕ) (act : Act) → ReadsSame at0 at1 act → lacks_owner_of_exchange m docs at1 acts a act ≡ lacks_owner_of_exchange m docs at0 acts a act
lacks_owner_of_exchange_locally m docs at0 at1 acts a (Exchange folio recede rise) same =
    ap (λ people. is_silent_among docs a people) (owner_side_locally m docs at0 at1 acts a (Exchange folio recede rise) same)
lacks_owner_of_exchange_locally m docs at0 at1 acts a other same = refl

defective_locally : (journal : List Receipt) (m : ℕ) (f : Filing) (docs : List Doc) (at0 at1 : Key → List Entry) (s : Section) (a : ℕ) (act : Act) → ReadsSame at0 at1 act → is_defective journal m f docs at1 s a act ≡ is_defective journal m f docs at0 s a act
defective_locally journal m f docs at0 at1 section.Gbo29 a act same =
    ap (λ people. is_plain_among docs a people) (needed_locally journal m docs at0 at1 f.acts a act same)
defective_locally journal m f docs at0 at1 section.Gbo39 a act same =
    λ j. is_silent_among docs a (affected_locally m docs at0 at1 f.acts a act same j)
    && list_any (is_strangers_consent a (needed_locally journal m docs at0 at1 f.acts a act same j)) docs
defective_locally journal m f docs at0 at1 section.Gbo27 a act same = lacks_owner_locally m docs at0 at1 f.acts a act same
defective_locally journal m f docs at0 at1 section.Bgb876 a act same =
    ap (λ people. is_silent_among docs a people) (others_locally journal m docs at0 at1 a act same)
defective_locally journal m f docs at0 at1 section.Bgb880 a act same = lacks_owner_of_exchange_locally m docs at0 at1 f.acts a act same
defective_locally journal m f docs at0 at1 section.Grest22 a act same = refl
defective_locally journal m f docs at0 at1 other a act same = refl

defects_locally : (journal : List Receipt) (m : ℕ) (f : Filing) (docs : List Doc) (at0 at1 : Key → List Entry) (s : Section) → AllByRecursion (λ (p : ℕ × Act). ReadsSame at0 at1 p.1) (enumerate_from 1 f.acts)
    → defects_under journal m f docs at1 s ≡ defects_under journal m f docs at0 s
defects_locally journal m f docs at0 at1 s same =
    ap (λ found. map {B = Defect} (λ p. record { section = s; act = p.0 }) found)
    (filter_alike (λ (p : ℕ × Act). is_defective journal m f docs at1 s p.0 p.1) (λ (p : ℕ × Act). is_defective journal m f docs at0 s p.0 p.1) (enumerate_from 1 f.acts)
    (all_weaker (λ (p : ℕ × Act). ReadsSame at0 at1 p.1) (λ (p : ℕ × Act). is_defective journal m f docs at1 s p.0 p.1 ≡ is_defective journal m f docs at0 s p.0 p.1) (enumerate_from 1 f.acts)
    (λ p here. defective_locally journal m f docs at0 at1 s p.0 p.1 here) same))

-- ---- the judgement

pub judged_locally : (journal : List Receipt) (m : ℕ) (f : Filing) (i : ℕ) (at0 at1 : Key → List Entry) → filing_at journal m ≡ Some f → KnowsExchanges journal m at0
    → AgreesAt (keys_of_filing journal m) at0 at1 → judged_filing journal m f i at1 ≡ judged_filing journal m f i at0
judged_locally journal m f i at0 at1 is known agrees =
    let docs = documents journal m f i in
    let same = numbered (ReadsSame at0 at1) 1 f.acts (acts_read journal m f at0 at1 is known agrees) in
    let rejected : is_rejected_under journal m f docs at1 ≡ is_rejected_under journal m f docs at0 = λ j s. rejected_locally journal m f docs at0 at1 s same j in
    let defective : defects_under journal m f docs at1 ≡ defects_under journal m f docs at0 = λ j s. defects_locally journal m f docs at0 at1 s same j in
    λ j. judgement_by (find (rejected j) grounds) (flat_map (defective j) curables)
