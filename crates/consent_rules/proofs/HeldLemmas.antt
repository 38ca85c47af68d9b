-- The parts at a filing's keys are all that its acts need.
use Rattle.std.proofs.Common.{◌≡◌, ℕ, ◌+◌, Bool, true, false, if◌then◌else◌, List, [], ◌∷◌, Some, None, Option, All, Contains, IsTrue, IfSome, refl, sym, ap, ◌∙◌, arith, suc, subst, rules}
use Rattle.std.specs.Option.{option_map_or, option_map}
use Rattle.std.proofs.lemmas.List.Elements.{All-cons, All-contains, All-nil, Contains-append_left, Contains-append_right, Contains-get_or}
use Rattle.std.proofs.lemmas.List.Sums.{AllPass-from_list_all, list_all-from_AllPass}
use Rattle.gb_base.specs.RightNo.{RightNo}
use Rattle.gb_base.specs.declared.keys.Key.{Key}
use Rattle.gb_base.specs.declared.keys.Key.TheVariants.{Title, Right}
use Rattle.act_model.specs.Acts.{is_in_division_three}
use Rattle.act_model.specs.Touches.{created_before, filing_at, keys_of_act, keys_of_acts, keys_of_filing, new_right, was_in_division_three}
use Rattle.act_model.specs.declared.filing_acts.Act.{Act}
use Rattle.act_model.specs.declared.filing_acts.Act.TheVariants.{Open, Transfer, Create, NoticeFor, Convert, Assign, Cancel, Exchange, Exercise}
use Rattle.act_model.specs.declared.items.Filing.{Filing}
use Rattle.act_model.specs.declared.receipts.Receipt.{Receipt}
use Rattle.consent_rules.specs.Judging.{defects, judged, judged_filing, judgement_by, rejection, IsKnownExchange, KnowsExchanges}
use Rattle.act_model.specs.Documents.{docs_of, documents}
use Rattle.act_model.specs.declared.matters.Matter.{Matter}
use Rattle.folio_sections.specs.Rights.{live_right}
use Rattle.folio_sections.specs.declared.entries.Created.{Created}
use Rattle.folio_sections.specs.declared.entries.Entry.{Entry}
use Rattle.consent_rules.specs.declared.judgements.Judgement.{Judgement}
use Rattle.act_model.specs.declared.documents.Doc.{Doc}
use Rattle.consent_rules.specs.inner.Held.{HasParts, TitleAndRight}

-- each of these keys is held
abbrev pub AreHeld : (Key → Bool) → List Key → Type 0
AreHeld holds keys = (k : Key) → Contains keys k → IsTrue (holds k)

first_held : (holds : Key → Bool) (k : Key) (ks : List Key) → AreHeld holds (k ∷ ks) → IsTrue (holds k)
first_held holds k ks held = held k (0, omega arith, refl)

rest_held : (holds : Key → Bool) (k : Key) (ks : List Key) → AreHeld holds (k ∷ ks) → AreHeld holds ks
rest_held holds j ks held k (i, lt, is) = held k (suc i, omega arith, is)

second_held : (holds : Key → Bool) (j k : Key) (ks : List Key) → AreHeld holds (j ∷ k ∷ ks) → IsTrue (holds k)
second_held holds j k ks held = first_held holds k ks (rest_held holds j (k ∷ ks) held)

-- the live receding right of division III is as an earlier act created it
was_there : (journal : List Receipt) (m folio : ℕ) (right : RightNo) (made : Option Created)
    → IfSome made (λ c. created_before journal m folio right ≡ Some c.spec)
    → option_map_or (λ c. is_in_division_three c.spec.kind) made false ≡ true
    → was_in_division_three journal m folio right ≡ true
was_there journal m folio right (Some made) is stands = rw is stands
was_there journal m folio right None is stands = search rules

-- the title of the folio, where it is wanted
abbrev title_if : Bool → ℕ → List Key
title_if wanted folio = if wanted then Title folio ∷ [] else []

title_and_right : (holds : Key → Bool) (folio : ℕ) (right : RightNo) (ks : List Key)
    → AreHeld holds (Title folio ∷ Right folio right ∷ ks) → TitleAndRight (holds (Title folio)) (holds (Right folio right))
title_and_right holds folio right ks held = record {
  title = first_held holds (Title folio) (Right folio right ∷ ks) held;
  right = second_held holds (Title folio) (Right folio right) ks held;
}

has_parts : (holds : Key → Bool) (at : Key → List Entry) (journal : List Receipt) (m a : ℕ) (act : Act)
    → AreHeld holds (keys_of_act journal m a act) → IsKnownExchange journal m at act → HasParts holds at act
has_parts holds at journal m a (Open folio inventory owners) held known = first_held holds (Title folio) [] held
has_parts holds at journal m a (Transfer folio owners) held known = first_held holds (Title folio) [] held
has_parts holds at journal m a (Create folio spec reserve) held known =
    first_held holds (Title folio) (Right folio (new_right m a) ∷ []) held
has_parts holds at journal m a (NoticeFor folio spec) held known =
    first_held holds (Title folio) (Right folio (new_right m a) ∷ []) held
has_parts holds at journal m a (Convert folio right) held known = title_and_right holds folio right [] held
has_parts holds at journal m a (Assign folio right holder) held known = first_held holds (Right folio right) [] held
has_parts holds at journal m a (Cancel folio right) held known = title_and_right holds folio right [] held
has_parts holds at journal m a (Exchange folio recede rise) held known = record {
  recede = first_held holds (Right folio recede) (Right folio rise ∷ title_if (was_in_division_three journal m folio recede) folio) held;
  rise = second_held holds (Right folio recede) (Right folio rise) (title_if (was_in_division_three journal m folio recede) folio) held;
  title = λ stands. first_held holds (Title folio) []
      (subst (λ b. AreHeld holds (title_if b folio)) (was_there journal m folio recede (live_right (at (Right folio recede))) known stands)
      (rest_held holds (Right folio rise) (title_if (was_in_division_three journal m folio recede) folio)
      (rest_held holds (Right folio recede) (Right folio rise ∷ title_if (was_in_division_three journal m folio recede) folio) held)));
}
has_parts holds at journal m a (Exercise folio behind spec) held known =
    title_and_right holds folio behind (Right folio (new_right m a) ∷ []) held

all_have_parts : (holds : Key → Bool) (at : Key → List Entry) (journal : List Receipt) (m a : ℕ) (acts : List Act)
    → AreHeld holds (keys_of_acts journal m a acts) → All (IsKnownExchange journal m at) acts → All (HasParts holds at) acts
all_have_parts holds at journal m a [] held known = All-nil _
all_have_parts holds at journal m a (act ∷ acts) held known =
    All-cons (HasParts holds at) act acts
    (has_parts holds at journal m a act (λ k there. held k (Contains-append_left (keys_of_act journal m a act) (keys_of_acts journal m (a + 1) acts) k there)) (known 0 act (omega arith)))
    (all_have_parts holds at journal m (a + 1) acts (λ k there. held k (Contains-append_right (keys_of_act journal m a act) (keys_of_acts journal m (a + 1) acts) k there)) (λ k d lt. known (suc k) d (omega arith)))

-- the parts at the keys of filing m are all that its acts need
pub parts_of_filing : (holds : Key → Bool) (at : Key → List Entry) (journal : List Receipt) (m : ℕ) (f : Filing)
    → filing_at journal m ≡ Some f → AreHeld holds (keys_of_filing journal m) → KnowsExchanges journal m at
    → All (HasParts holds at) f.acts
parts_of_filing holds at journal m f is held known =
    all_have_parts holds at journal m 1 f.acts
    (subst (λ o. AreHeld holds (option_map_or (λ g. keys_of_acts journal m 1 g.acts) o [])) is held)
    (subst (λ o. All (IsKnownExchange journal m at) (option_map_or (λ g. g.acts) o [])) is known)

-- the documents of a matter are those of its filing up to its item
pub docs_are : (matter : Matter) → docs_of matter ≡ documents matter.journal.now.receipts matter.number matter.filing.now matter.item
unfolding docs_of
docs_are matter = refl

-- the judgement of filing m, from the filing and its documents
pub judged_by : (journal : List Receipt) (m i : ℕ) (at : Key → List Entry) (f : Filing) (docs : List Doc) (result : Judgement)
    → filing_at journal m ≡ Some f → docs ≡ documents journal m f i
    → result ≡ judgement_by (rejection journal m f docs at) (defects journal m f docs at)
    → judged journal m i at ≡ Some result
judged_by journal m i at f docs result is docs_are result_is =
    ap (option_map (λ g. judged_filing journal m g i at)) is
    ∙ ap Some (sym (result_is ∙ ap (λ d. judgement_by (rejection journal m f d at) (defects journal m f d at)) docs_are))
