-- A reservation is used at most once: a filing names a right once, and uses no reservation that is spent.
use Rattle.std.proofs.Common.{◌≡◌, ℕ, ◌+◌, ◌≤◌, Bool, true, false, cond, not, eqb, ◌&&◌, List, [], ◌∷◌, ◌++◌, IsTrue, Some, length, flat_map, refl, sym, ap, subst, ◌∙◌, arith}
use Rattle.std.specs.List.{AllByRecursion, enumerate_from, list_all, list_any}
use Rattle.std.specs.Option.{option_map_or}
use Rattle.std.proofs.lemmas.Bool.{and_parts, or_parts, not-true}
use Rattle.std.proofs.lemmas.List.Concat.{flat_map-cons}
use Rattle.gb_base.specs.Keys.{same_key}
use Rattle.gb_base.specs.Limits.{is_between, most_acts}
use Rattle.gb_base.specs.RightNo.{RightNo, same_right}
use Rattle.gb_base.specs.declared.keys.Key.{Key}
use Rattle.gb_base.specs.declared.keys.Key.TheVariants.{Right}
use Rattle.gb_base.proofs.SameRights.{right_is, right_turned}
use Rattle.act_model.proofs.KeyOrder.{same_is}
use Rattle.act_model.specs.Touches.{filing_at, new_right}
use Rattle.act_model.specs.WellFormed.{are_different, gives_owners_once, is_act, is_doc, is_filing, keep_groups_apart, keeps_rules, names_few_folios, names_rights_once, rights_named}
use Rattle.act_model.specs.declared.documents.Doc.{Doc}
use Rattle.act_model.specs.declared.filing_acts.Act.{Act}
use Rattle.act_model.specs.declared.filing_acts.Act.TheVariants.{Open, Transfer, Create, NoticeFor, Convert, Assign, Cancel, Exchange, Exercise}
use Rattle.act_model.specs.declared.items.Filing.{Filing}
use Rattle.act_model.specs.declared.receipts.Receipt.{Receipt}
use Rattle.act_model.specs.Documents.{documents}
use Rattle.entry_rules.specs.Entering.{content, contents_brought, creation, places_brought}
use Rattle.registrar.specs.Enters.{enters}
use Rattle.interim_orders.specs.Notices.{notices_brought, with_notices}
use Rattle.folio_sections.specs.Entries.{entry_by, at}
use Rattle.consent_rules.specs.Judging.{lacks_reservation, reserves_less}
use Rattle.folio_sections.specs.Rights.{is_exercise, is_spent, live_right}
use Rattle.folio_sections.specs.declared.entries.Entry.{Entry}
use Rattle.folio_sections.specs.declared.entries.What.TheVariants as what
use Rattle.folio_sections.proofs.Additions.{at-append}
use Rattle.folio_sections.proofs.Unchanged.{all_at}
use Rattle.registrar.proofs.ExchangesStand.{exercises, exercises_both, exercises_first, none_exercised, tally}
use Rattle.registrar.proofs.LeavingRights.{LeavesRights, notices_leave_rights, places_leave_rights}
use Rattle.registrar.proofs.NewContents.{brought_is, standing}

-- ---- a right is named once

-- how often the right stands among these
abbrev named : RightNo → List RightNo → ℕ
named r [] = 0
named r (s ∷ ss) = tally (same_right r s) + named r ss

named_both : (r : RightNo) (rs ss : List RightNo) → named r (rs ++ ss) ≡ named r rs + named r ss
named_both r [] ss = omega arith
named_both r (s ∷ rs) ss = let rest = named_both r rs ss in omega arith

none_named : (r : RightNo) (rs : List RightNo) → list_any (same_right r) rs ≡ false → named r rs ≡ 0
none_named r [] none = refl
none_named r (s ∷ rs) none =
    let parts = or_parts (same_right r s) (list_any (same_right r) rs) none in
    let here : tally (same_right r s) ≡ 0 = ap tally parts.0 in
    let rest = none_named r rs parts.1 in
    omega arith

named_once : (r : RightNo) (rs : List RightNo) → are_different rs ≡ true → named r rs ≤ 1
named_once r [] differ = omega arith
named_once r (s ∷ rs) differ =
    let parts = and_parts (not (list_any (same_right s) rs)) (are_different rs) differ in
    elim (same_right r s) as (λ b. same_right r s ≡ b → tally b + named r rs ≤ 1) [
      | true ↦ λ same.
          let none = none_named r rs (subst (λ t. list_any (same_right t) rs ≡ false) (sym (right_is r s same)) (not-true (list_any (same_right s) rs) parts.0)) in
          omega arith
      | false ↦ λ other. let rest = named_once r rs parts.1 in omega arith
    ] refl

-- a well-formed filing names a right once
filing_names_once : (f : Filing) (r : RightNo) → IsTrue (is_filing f) → named r (flat_map rights_named f.acts) ≤ 1
filing_names_once f r well =
    let keeps = (and_parts (is_between 1 most_acts (length f.acts) && list_all is_act f.acts && list_all is_doc f.docs) (keeps_rules f.acts) well).1 in
    let first_three = (and_parts (names_few_folios f.acts && gives_owners_once f.acts && names_rights_once f.acts) (keep_groups_apart f.acts) keeps).0 in
    named_once r (flat_map rights_named f.acts) (and_parts (names_few_folios f.acts && gives_owners_once f.acts) (names_rights_once f.acts) first_three).1

-- ---- what an act uses

-- how many of these use the reservation at a key
abbrev uses : Key → List Entry → ℕ
uses k es = exercises (at es k)

uses_both : (k : Key) (xs ys : List Entry) → uses k (xs ++ ys) ≡ uses k xs + uses k ys
uses_both k xs ys = ap exercises (at-append xs ys k) ∙ exercises_both (at xs k) (at ys k)

none_exercise : (es : List Entry) → AllByRecursion (λ e. is_exercise e.what ≡ false) es → exercises es ≡ 0
none_exercise [] all = refl
none_exercise (e ∷ es) all =
    let first : tally (is_exercise e.what) ≡ 0 = ap tally all.0 in
    let rest = none_exercise es all.1 in
    let both = exercises_first e es in
    omega arith

none_used : (k : Key) (es : List Entry) → AllByRecursion (λ e. is_exercise e.what ≡ false) es → uses k es ≡ 0
none_used k es all = none_exercise (at es k) (all_at (λ e. is_exercise e.what ≡ false) es k all)

-- how many may use the reservation of a right: none where it is spent, else one for each time that the right is named
abbrev bound : Bool → RightNo → List RightNo → ℕ
bound spent r rs = cond spent 0 (named r rs)

bound_both : (spent : Bool) (r : RightNo) (rs ss : List RightNo) → bound spent r (rs ++ ss) ≡ bound spent r rs + bound spent r ss
bound_both true r rs ss = omega arith
bound_both false r rs ss = named_both r rs ss

-- an act whose entries use no reservation is within any bound
no_use : (journal : List Receipt) (m i : ℕ) (acts : List Act) (docs : List Doc) (at1 : Key → List Entry) (k : Key) (a : ℕ) (act : Act) (most : ℕ) → AllByRecursion (λ e. is_exercise e.what ≡ false) (content journal m acts docs i at1 a act) → uses k (content journal m acts docs i at1 a act) ≤ most
no_use journal m i acts docs at1 k a act most all = let none = none_used k (content journal m acts docs i at1 a act) all in omega arith

-- the entry that uses the reservation of a right is within that right's bound
used : (journal : List Receipt) (m i a g folio : ℕ) (b r : RightNo) (at0 : Key → List Entry) → is_spent (at0 (Right g b)) ≡ false
    → uses (Right folio r) (entry_by journal i (Right g b) (what.Exercised (new_right m a)) ∷ []) ≤ bound (is_spent (at0 (Right folio r))) r (b ∷ [])
used journal m i a g folio b r at0 unspent =
    let e = entry_by journal i (Right g b) (what.Exercised (new_right m a)) in
    elim (same_key (Right g b) (Right folio r)) as (λ t. same_key (Right g b) (Right folio r) ≡ t → exercises (cond t (e ∷ []) []) ≤ bound (is_spent (at0 (Right folio r))) r (b ∷ [])) [
      | true ↦ λ same.
          let left : is_spent (at0 (Right folio r)) ≡ false = subst (λ k. is_spent (at0 k) ≡ false) (same_is (Right g b) (Right folio r) same) unspent in
          let own : same_right r b ≡ true = right_turned b r (and_parts (eqb g folio) (same_right b r) same).1 in
          let one : bound (is_spent (at0 (Right folio r))) r (b ∷ []) ≡ 1 = λ j. cond (left j) 0 (tally (own j) + 0) in
          omega arith
      | false ↦ λ other. omega arith
    ] refl

by_act : (journal : List Receipt) (m i : ℕ) (acts : List Act) (docs : List Doc) (at0 at1 : Key → List Entry) (folio : ℕ) (r : RightNo) (a : ℕ) (act : Act) → lacks_reservation at0 act ≡ false
    → uses (Right folio r) (content journal m acts docs i at1 a act) ≤ bound (is_spent (at0 (Right folio r))) r (rights_named act)
by_act journal m i acts docs at0 at1 folio r a (Exercise g b spec) left =
    let k = Right folio r in
    let new = creation journal m acts i at1 a (Exercise g b spec) in
    let e = entry_by journal i (Right g b) (what.Exercised (new_right m a)) in
    let unspent = (or_parts (is_spent (at0 (Right g b))) (option_map_or (λ made. reserves_less made.reserve spec.capital) (live_right (at0 (Right g b))) true) left).0 in
    let both = uses_both k new (e ∷ []) in
    let none = none_used k new (refl, tt) in
    let one = used journal m i a g folio b r at0 unspent in
    omega arith
by_act journal m i acts docs at0 at1 folio r a (Open g inventory owners) left = no_use journal m i acts docs at1 (Right folio r) a (Open g inventory owners) _ (refl, tt)
by_act journal m i acts docs at0 at1 folio r a (Transfer g owners) left = no_use journal m i acts docs at1 (Right folio r) a (Transfer g owners) _ (refl, tt)
by_act journal m i acts docs at0 at1 folio r a (Create g spec reserve) left = no_use journal m i acts docs at1 (Right folio r) a (Create g spec reserve) _ (refl, tt)
by_act journal m i acts docs at0 at1 folio r a (NoticeFor g spec) left = no_use journal m i acts docs at1 (Right folio r) a (NoticeFor g spec) _ (refl, tt)
by_act journal m i acts docs at0 at1 folio r a (Convert g right) left = no_use journal m i acts docs at1 (Right folio r) a (Convert g right) _ (refl, tt)
by_act journal m i acts docs at0 at1 folio r a (Assign g right holder) left = no_use journal m i acts docs at1 (Right folio r) a (Assign g right holder) _ (refl, tt)
by_act journal m i acts docs at0 at1 folio r a (Cancel g right) left = no_use journal m i acts docs at1 (Right folio r) a (Cancel g right) _ (refl, tt)
by_act journal m i acts docs at0 at1 folio r a (Exchange g recede rise) left = no_use journal m i acts docs at1 (Right folio r) a (Exchange g recede rise) _ (refl, (refl, tt))

-- ---- all acts

by_acts : (journal : List Receipt) (m i : ℕ) (f : Filing) (at0 at1 : Key → List Entry) (folio : ℕ) (r : RightNo) (a : ℕ) (acts : List Act) → AllByRecursion (λ act. lacks_reservation at0 act ≡ false) acts
    → uses (Right folio r) (flat_map (λ numbered. content journal m f.acts (documents journal m f i) i at1 numbered.0 numbered.1) (enumerate_from a acts)) ≤ bound (is_spent (at0 (Right folio r))) r (flat_map rights_named acts)
by_acts journal m i f at0 at1 folio r a [] left = omega arith
by_acts journal m i f at0 at1 folio r a (act ∷ acts) left =
    let k = Right folio r in
    let spent = is_spent (at0 k) in
    let brings : ℕ × Act → List Entry = λ numbered. content journal m f.acts (documents journal m f i) i at1 numbered.0 numbered.1 in
    let rest = flat_map brings (enumerate_from (a + 1) acts) in
    let all = ap (uses k) (flat_map-cons brings (a, act) (enumerate_from (a + 1) acts)) ∙ uses_both k (brings (a, act)) rest in
    let first = by_act journal m i f.acts (documents journal m f i) at0 at1 folio r a act left.0 in
    let others = by_acts journal m i f at0 at1 folio r (a + 1) acts left.1 in
    let names = ap (bound spent r) (flat_map-cons rights_named act acts) ∙ bound_both spent r (rights_named act) (flat_map rights_named acts) in
    omega arith

-- ---- together

-- notices and places use no reservation, so what the contents use is all
by_contents : (journal : List Receipt) (m : ℕ) (f : Filing) (i : ℕ) (at0 : Key → List Entry) (k : Key) → filing_at journal m ≡ Some f → uses k (enters journal m i at0) ≡ uses k (contents_brought journal m i (standing journal m i at0) f)
by_contents journal m f i at0 k filing =
    let before = with_notices journal m i at0 in
    let notices = notices_brought journal m i at0 in
    let places = places_brought journal m i before in
    let contents = contents_brought journal m i (standing journal m i at0) f in
    let all = ap (uses k) (brought_is journal m f i at0 filing) ∙ uses_both k notices (places ++ contents) in
    let inner = uses_both k places contents in
    let first = none_exercised (at notices k) (all_at (λ e. LeavesRights e.what) notices k (notices_leave_rights journal m i at0)) in
    let second = none_exercised (at places k) (all_at (λ e. LeavesRights e.what) places k (places_leave_rights journal m i before)) in
    omega arith

unspent_none : (es : List Entry) → is_spent es ≡ false → exercises es ≡ 0
unspent_none [] unspent = refl
unspent_none (e ∷ es) unspent =
    let parts = or_parts (is_exercise e.what) (is_spent es) unspent in
    let first : tally (is_exercise e.what) ≡ 0 = ap tally parts.0 in
    let rest = unspent_none es parts.1 in
    let both = exercises_first e es in
    omega arith

old_and_new : (es : List Entry) (new : ℕ) (r : RightNo) (rs : List RightNo) → exercises es ≤ 1 → new ≤ bound (is_spent es) r rs → named r rs ≤ 1 → exercises es + new ≤ 1
old_and_new es new r rs once few one =
    elim (is_spent es) as (λ b. is_spent es ≡ b → new ≤ bound b r rs → exercises es + new ≤ 1) [
      | true ↦ λ spent none. omega arith
      | false ↦ λ unspent some. let before = unspent_none es unspent in omega arith
    ] refl few

pub exercised_once : (journal : List Receipt) (m : ℕ) (f : Filing) (i : ℕ) (at0 : Key → List Entry) (folio : ℕ) (right : RightNo) → filing_at journal m ≡ Some f → IsTrue (is_filing f) → AllByRecursion (λ act. lacks_reservation at0 act ≡ false) f.acts → exercises (at0 (Right folio right)) ≤ 1
    → exercises (at0 (Right folio right)) + exercises (at (enters journal m i at0) (Right folio right)) ≤ 1
exercised_once journal m f i at0 folio right filing well left once =
    let same = by_contents journal m f i at0 (Right folio right) filing in
    let few = by_acts journal m i f at0 (standing journal m i at0) folio right 1 f.acts left in
    old_and_new (at0 (Right folio right)) (uses (Right folio right) (enters journal m i at0)) right (flat_map rights_named f.acts) once (omega arith) (filing_names_once f right well)
