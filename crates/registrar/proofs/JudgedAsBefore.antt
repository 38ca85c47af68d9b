-- The judgement of a filing stays when more receipts come.
use Rattle.std.proofs.Common.{◌≡◌, ℕ, ◌≤◌, true, false, not, ◌&&◌, ◌||◌, cond, if◌then◌else◌, nat_lt, List, [], ◌∷◌, ◌++◌, filter, find, flat_map, length, map, Option, Some, None, IfSome, is_some, option_map, refl, ap, ◌∙◌}
use Rattle.std.specs.List.{AllByRecursion, cons_option, enumerate_from, filter_map, list_any}
use Rattle.std.specs.Option.{option_map_or}
use Rattle.std.proofs.lemmas.Bool.{false≢true}
use Rattle.std.proofs.lemmas.List.Elements.{recursion_from_All}
use Rattle.gb_base.specs.RightNo.{RightNo}
use Rattle.gb_base.specs.declared.keys.Key.{Key}
use Rattle.gb_base.specs.declared.keys.Key.TheVariants.{Right}
use Rattle.gb_base.specs.declared.sections.Section.{Section}
use Rattle.gb_base.specs.declared.sections.Section.TheVariants as section
use Rattle.act_model.specs.Documents.{documents, has_proof, is_strangers_consent}
use Rattle.act_model.specs.Groups.{shares_its_group}
use Rattle.act_model.specs.Limits.{most_creations}
use Rattle.act_model.specs.Touches.{applicant_of, new_right}
use Rattle.act_model.specs.declared.documents.Doc.{Doc}
use Rattle.act_model.specs.declared.filing_acts.Act.{Act}
use Rattle.act_model.specs.declared.filing_acts.Act.TheVariants.{Cancel, Exchange}
use Rattle.act_model.specs.declared.items.Filing.{Filing}
use Rattle.act_model.specs.declared.receipts.Receipt.{Receipt}
use Rattle.consent_rules.specs.Judging.{curables, defects, defects_under, exchanges_unfit_right, grounds, has_stranger, holds, is_barred_from_exchange, is_defective, is_plain_among, is_rejected_under, is_silent_among, judged_filing, judgement_by, lacks_consent, rejection}
use Rattle.consent_rules.specs.Persons.{affected, needed, others, owner_side, waiting_applicants}
use Rattle.consent_rules.specs.declared.judgements.Defect.{Defect}
use Rattle.folio_sections.proofs.Unchanged.{all_weaker}
use Rattle.folio_sections.specs.Rights.{created, is_conversion, is_full, is_full_form, live_right}
use Rattle.folio_sections.specs.Waiting.{waiting_before}
use Rattle.folio_sections.specs.declared.entries.Created.{Created}
use Rattle.folio_sections.specs.declared.entries.Entry.{Entry}
use Rattle.folio_sections.specs.declared.entries.RightForm.TheVariants as form
use Rattle.folio_sections.specs.declared.entries.What.{What}
use Rattle.folio_sections.specs.declared.entries.What.TheVariants as what
use Rattle.kept_registers.proofs.KeptOrder.{OfCreation, created_has}
use Rattle.registrar.proofs.LaterReceipts.{applicant_stays, documents_stay, group_stays, rank_stays}
use Rattle.registrar.proofs.NamedReceipts.{waiting_up_to}
use Rattle.registrar.specs.NamesUpTo.{AllNameUpTo, NamesUpTo}

-- two functions that give the same for each element give the same list
pub filter_map_alike : {X Y : Type 0} (f g : X → Option Y) (xs : List X) → AllByRecursion (λ x. f x ≡ g x) xs → filter_map f xs ≡ filter_map g xs
filter_map_alike f g [] all = refl
filter_map_alike f g (x ∷ xs) all = λ j. cons_option (all.0 j) (filter_map_alike f g xs all.1 j)

-- ---- the right that a register has

created_up_to : (n folio : ℕ) (right : RightNo) (w : What) → NamesUpTo n w (Right folio right) → OfCreation (λ made. right.receipt ≤ n) w
created_up_to n folio right (what.Created made) names = names
created_up_to n folio right other names = tt

of_creation : (n : ℕ) (right : RightNo) (es : List Entry) (o : Option Created) → IfSome o (λ made. right.receipt ≤ n)
    → is_full_form (option_map (λ made. if list_any (λ e. is_conversion e.what) es then form.Full else made.form) o) ≡ true → right.receipt ≤ n
of_creation n right es (Some made) names full = names
of_creation n right es None names full = absurd (false≢true full)

-- a right that is full in a register that names receipts up to n is of receipt n or an earlier one
full_up_to : (n folio : ℕ) (right : RightNo) (es : List Entry) → AllByRecursion (λ e. NamesUpTo n e.what (Right folio right)) es → is_full es ≡ true → right.receipt ≤ n
full_up_to n folio right es names full =
    of_creation n right es (created es)
    (created_has (λ made. right.receipt ≤ n) es (all_weaker (λ (e : Entry). NamesUpTo n e.what (Right folio right)) (λ e. OfCreation (λ made. right.receipt ≤ n) e.what) es (λ e is. created_up_to n folio right e.what is) names))
    full

-- ---- what later receipts leave

module _ (journal more : List Receipt) (stands : Key → List Entry) (named : AllNameUpTo (length journal) stands) where
  barred_stays : (folio : ℕ) (right : RightNo) → is_barred_from_exchange (journal ++ more) stands folio right ≡ is_barred_from_exchange journal stands folio right
  barred_stays folio right =
      let es = stands (Right folio right) in
      let bound = option_map_or (λ (made : Created). is_some made.reserve || is_some made.ahead_of) (live_right es) false in
      elim (is_full es) as (λ b. is_full es ≡ b → (not b || shares_its_group (journal ++ more) right || bound) ≡ (not b || shares_its_group journal right || bound)) [
        | true ↦ λ full. ap (λ shares. not true || shares || bound)
            (group_stays journal more right (full_up_to (length journal) folio right es (recursion_from_All (λ e. NamesUpTo (length journal) e.what (Right folio right)) es (named (Right folio right))) full))
        | false ↦ λ part. refl
      ] refl

  exchange_stays : (act : Act) → exchanges_unfit_right (journal ++ more) stands act ≡ exchanges_unfit_right journal stands act
  exchange_stays (Exchange folio recede rise) = λ j. barred_stays folio recede j || barred_stays folio rise j
  exchange_stays other = refl

  -- ---- persons

  waiting_stays : (m : ℕ) (es : List Entry) → m ≤ length journal → waiting_applicants (journal ++ more) m es ≡ waiting_applicants journal m es
  waiting_stays m es within =
      filter_map_alike (applicant_of (journal ++ more)) (applicant_of journal) (waiting_before m es)
      (all_weaker (λ n. n ≤ length journal) (λ n. applicant_of (journal ++ more) n ≡ applicant_of journal n) (waiting_before m es) (applicant_stays journal more) (waiting_up_to (length journal) m es within))

  others_stay : (m : ℕ) (docs : List Doc) (a : ℕ) (act : Act) → m ≤ length journal → others (journal ++ more) m docs stands a act ≡ others journal m docs stands a act
  others_stay m docs a (Cancel folio right) within = ap (λ people. cond (has_proof docs a) [] people) (waiting_stays m (stands (Right folio right)) within)
  others_stay m docs a other within = refl

  needed_stay : (m : ℕ) (docs : List Doc) (acts : List Act) (a : ℕ) (act : Act) → m ≤ length journal → needed (journal ++ more) m docs stands acts a act ≡ needed journal m docs stands acts a act
  needed_stay m docs acts a act within = ap (λ people. affected m docs stands acts a act ++ (owner_side m docs stands acts a act ++ people)) (others_stay m docs a act within)

  stranger_stays : (m : ℕ) (docs : List Doc) (acts : List Act) (a : ℕ) (act : Act) → m ≤ length journal → has_stranger (journal ++ more) m docs stands acts a act ≡ has_stranger journal m docs stands acts a act
  stranger_stays m docs acts a act within = ap (λ people. list_any (is_strangers_consent a people) docs) (needed_stay m docs acts a act within)

  -- ---- grounds for rejection

  holds_still : (m : ℕ) (f : Filing) (docs : List Doc) (s : Section) (a : ℕ) (act : Act) → m ≤ length journal → holds (journal ++ more) m f docs stands s a act ≡ holds journal m f docs stands s a act
  holds_still m f docs section.Limit a act within = ap (λ rank. option_map_or (nat_lt most_creations) rank false) (rank_stays journal more (new_right m a) within)
  holds_still m f docs section.Bgb880 a act within = exchange_stays act
  holds_still m f docs section.Gbo19 a act within = ap (λ stranger. lacks_consent m docs stands f.acts a act && not stranger) (stranger_stays m docs f.acts a act within)
  holds_still m f docs other a act within = refl

  rejected_still : (m : ℕ) (f : Filing) (docs : List Doc) (s : Section) → m ≤ length journal → is_rejected_under (journal ++ more) m f docs stands s ≡ is_rejected_under journal m f docs stands s
  rejected_still m f docs section.Gbo16 within = refl
  rejected_still m f docs other within = λ j. list_any (λ p. holds_still m f docs other p.0 p.1 within j) (enumerate_from 1 f.acts)

  -- ---- curable defects

  defective_still : (m : ℕ) (f : Filing) (docs : List Doc) (s : Section) (a : ℕ) (act : Act) → m ≤ length journal → is_defective (journal ++ more) m f docs stands s a act ≡ is_defective journal m f docs stands s a act
  defective_still m f docs section.Gbo29 a act within = ap (λ people. is_plain_among docs a people) (needed_stay m docs f.acts a act within)
  defective_still m f docs section.Gbo39 a act within = ap (λ stranger. lacks_consent m docs stands f.acts a act && stranger) (stranger_stays m docs f.acts a act within)
  defective_still m f docs section.Bgb876 a act within = ap (λ people. is_silent_among docs a people) (others_stay m docs a act within)
  defective_still m f docs other a act within = refl

  defects_stay : (m : ℕ) (f : Filing) (docs : List Doc) (s : Section) → m ≤ length journal → defects_under (journal ++ more) m f docs stands s ≡ defects_under journal m f docs stands s
  defects_stay m f docs s within = λ j. map {B = Defect} (λ p. record { section = s; act = p.0 }) (filter (λ p. defective_still m f docs s p.0 p.1 within j) (enumerate_from 1 f.acts))

  -- ---- the judgement

  pub judged_as_before : (m : ℕ) (f : Filing) (i : ℕ) → m ≤ length journal → i ≤ length journal → judged_filing (journal ++ more) m f i stands ≡ judged_filing journal m f i stands
  judged_as_before m f i filed within =
      let docs = documents journal m f i in
      ap (λ ds. judgement_by (rejection (journal ++ more) m f ds stands) (defects (journal ++ more) m f ds stands)) (documents_stay journal more m f i within)
      ∙ (λ j. judgement_by (find (λ s. rejected_still m f docs s filed j) grounds) (flat_map (λ s. defects_stay m f docs s filed j) curables))
