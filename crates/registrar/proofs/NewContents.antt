-- What the entry of a filing brings, act by act.
use Rattle.std.proofs.Common.{◌≡◌, ℕ, suc, zero, ◌+◌, ◌-◌, ◌≤◌, ◌&&◌, cond, eqb, List, [], ◌∷◌, ◌++◌, length, Contains, IsTrue, Some, None, option_and_then, slice_get, refl, sym, ap, subst, ◌∙◌, append_assoc, arith}
use Rattle.std.specs.List.{AllByRecursion, enumerate_from, list_all}
use Rattle.std.specs.Option.{option_map_or}
use Rattle.std.proofs.lemmas.Bool.{and_parts, cond-false, ne_eqb}
use Rattle.std.proofs.lemmas.Bool.Decides.{nat_tests}
use Rattle.std.proofs.lemmas.List.Elements.{Contains-append_left, Contains-append_right}
use Rattle.std.proofs.lemmas.Option.{slice_get_within}
use Rattle.gb_base.specs.Limits.{is_between, most_acts}
use Rattle.gb_base.specs.declared.keys.Key.{Key}
use Rattle.act_model.specs.Touches.{act_at, filing_at, keys_of_act, keys_of_acts, keys_of_filing, new_right, act_of_right}
use Rattle.act_model.specs.WellFormed.{is_act, is_doc, is_filing, keeps_rules}
use Rattle.act_model.specs.declared.filing_acts.Act.{Act}
use Rattle.act_model.specs.declared.items.Filing.{Filing}
use Rattle.act_model.specs.declared.receipts.Receipt.{Receipt}
use Rattle.act_model.specs.Documents.{documents}
use Rattle.entry_rules.specs.Entering.{content, contents_brought, places_brought, with_places}
use Rattle.registrar.specs.Enters.{enters}
use Rattle.interim_orders.specs.Notices.{notices_brought, with_notices}
use Rattle.folio_sections.specs.Entries.{at, with_entries}
use Rattle.folio_sections.proofs.Additions.{at-append}
use Rattle.folio_sections.specs.declared.entries.Entry.{Entry}
use Rattle.folio_sections.proofs.Unchanged.{all_both, all_weaker}
use Rattle.registrar.proofs.ContainedParts.{all_at_numbers, all_joined, all_paired, all_themselves}
use Rattle.registrar.proofs.LeavingRights.{LeavesRights, notices_leave_rights, places_leave_rights}

-- ---- the three parts of what is brought

-- what stands once the notices and the places do
abbrev pub standing : List Receipt → ℕ → ℕ → (Key → List Entry) → Key → List Entry
standing journal m i at0 = with_places journal m i (with_notices journal m i at0)

pub brought_is : (journal : List Receipt) (m : ℕ) (f : Filing) (i : ℕ) (at0 : Key → List Entry) → filing_at journal m ≡ Some f
    → enters journal m i at0 ≡ notices_brought journal m i at0 ++ (places_brought journal m i (with_notices journal m i at0) ++ contents_brought journal m i (standing journal m i at0) f)
brought_is journal m f i at0 is =
    ap (λ o. notices_brought journal m i at0 ++ option_map_or (λ g. places_brought journal m i (with_notices journal m i at0) ++ contents_brought journal m i (standing journal m i at0) g) o []) is

-- entries that are added together are as if the second list were added after the first
pub with_both : (at0 : Key → List Entry) (xs ys : List Entry) → with_entries at0 (xs ++ ys) ≡ with_entries (with_entries at0 xs) ys
with_both at0 xs ys = λ j k. at_each k j
  where
    at_each : (k : Key) → at0 k ++ at (xs ++ ys) k ≡ (at0 k ++ at xs k) ++ at ys k
    at_each k = ap (λ zs. at0 k ++ zs) (at-append xs ys k) ∙ sym (append_assoc (at0 k) (at xs k) (at ys k))

-- the contents come last, on the register that has the notices and the places
pub contents_last : (journal : List Receipt) (m : ℕ) (f : Filing) (i : ℕ) (at0 : Key → List Entry) → filing_at journal m ≡ Some f
    → with_entries at0 (enters journal m i at0) ≡ with_entries (standing journal m i at0) (contents_brought journal m i (standing journal m i at0) f)
contents_last journal m f i at0 is =
    let before = with_notices journal m i at0 in
    let places = places_brought journal m i before in
    let contents = contents_brought journal m i (standing journal m i at0) f in
    ap (with_entries at0) (brought_is journal m f i at0 is)
    ∙ with_both at0 (notices_brought journal m i at0) (places ++ contents)
    ∙ with_both before places contents

-- what holds of each entry that leaves rights as they are, and of the contents, holds of all that is brought
pub all_brought : (P : Entry → Type 0) (journal : List Receipt) (m : ℕ) (f : Filing) (i : ℕ) (at0 : Key → List Entry) → filing_at journal m ≡ Some f → ((e : Entry) → LeavesRights e.what → P e)
    → AllByRecursion P (contents_brought journal m i (standing journal m i at0) f) → AllByRecursion P (enters journal m i at0)
all_brought P journal m f i at0 is leaving contents =
    let before = with_notices journal m i at0 in
    let notices = all_weaker (λ (e : Entry). LeavesRights e.what) P (notices_brought journal m i at0) leaving (notices_leave_rights journal m i at0) in
    let places = all_weaker (λ (e : Entry). LeavesRights e.what) P (places_brought journal m i before) leaving (places_leave_rights journal m i before) in
    subst (AllByRecursion P) (sym (brought_is journal m f i at0 is))
    (all_both P (notices_brought journal m i at0) (places_brought journal m i before ++ contents_brought journal m i (standing journal m i at0) f) notices
    (all_both P (places_brought journal m i before) (contents_brought journal m i (standing journal m i at0) f) places contents))

-- ---- the acts of a filing

-- the act stands in the filing under this number
pub record IsActOf (f : Filing) (a : ℕ) (act : Act) : Type 0 where
  pub place : ℕ
  pub number : 1 + place ≡ a
  pub there : slice_get f.acts place ≡ Some act

own_acts : (f : Filing) → AllByRecursion (λ numbered. IsActOf f numbered.0 numbered.1) (enumerate_from 1 f.acts)
own_acts f = all_at_numbers (IsActOf f) 1 f.acts (λ k act is. record { place = k; number = refl; there = is })

at_number : {A : Type 0} (xs : List A) (k : ℕ) (x : A) → slice_get xs k ≡ Some x → cond (eqb (1 + k) 0) None (slice_get xs (1 + k - 1)) ≡ Some x
at_number xs k x is =
    cond-false (eqb (1 + k) 0) None (slice_get xs (1 + k - 1)) (ne_eqb (1 + k) 0 (λ h. omega arith))
    ∙ subst (λ j. slice_get xs j ≡ Some x) (omega arith) is

pub act_is : (f : Filing) (a : ℕ) (act : Act) → IsActOf f a act → act_at f a ≡ Some act
act_is f a act own = subst (λ n. act_at f n ≡ Some act) own.number (at_number f.acts own.place act own.there)

-- the number of an act of a filing is one that an act may have
pub act_number : (f : Filing) (a : ℕ) (act : Act) → IsTrue (is_filing f) → IsActOf f a act → (1 ≤ a) × (a ≤ most_acts)
act_number f a act well own =
    let ranges = and_parts (is_between 1 most_acts (length f.acts) && list_all is_act f.acts && list_all is_doc f.docs) (keeps_rules f.acts) well in
    let acts = and_parts (is_between 1 most_acts (length f.acts) && list_all is_act f.acts) (list_all is_doc f.docs) ranges.0 in
    let few = (and_parts (is_between 1 most_acts (length f.acts)) (list_all is_act f.acts) acts.0).0 in
    let within = slice_get_within f.acts own.place act own.there in
    let number = own.number in
    (omega arith, grind (arith, nat_tests, few, within, number))

pub act_of_new_right : (journal : List Receipt) (m : ℕ) (f : Filing) (a : ℕ) (act : Act) → filing_at journal m ≡ Some f → IsActOf f a act → act_of_right journal (new_right m a) ≡ Some act
act_of_new_right journal m f a act filing own = ap (option_and_then (λ g. act_at g a)) filing ∙ act_is f a act own

-- what holds of all that an act brings, for each act of the filing of which so much is known, holds of all contents
pub all_contents : (P : Entry → Type 0) (Q : ℕ → Act → Type 0) (journal : List Receipt) (m i : ℕ) (at0 : Key → List Entry) (f : Filing)
    → ((a : ℕ) (act : Act) → IsActOf f a act → Q a act → Contains (enumerate_from 1 f.acts) (a, act) → AllByRecursion P (content journal m f.acts (documents journal m f i) i at0 a act))
    → AllByRecursion (λ numbered. Q numbered.0 numbered.1) (enumerate_from 1 f.acts) → AllByRecursion P (contents_brought journal m i at0 f)
all_contents P Q journal m i at0 f each known =
    let numbers = enumerate_from 1 f.acts in
    let Own : ℕ × Act → Type 0 = λ numbered. IsActOf f numbered.0 numbered.1 in
    let Known : ℕ × Act → Type 0 = λ numbered. Q numbered.0 numbered.1 in
    all_joined P (λ numbered. (Own numbered × Known numbered) × Contains numbers numbered)
    (λ numbered. content journal m f.acts (documents journal m f i) i at0 numbered.0 numbered.1) numbers
    (λ numbered facts. each numbered.0 numbered.1 facts.0.0 facts.0.1 facts.1)
    (all_paired (λ numbered. Own numbered × Known numbered) (Contains numbers) numbers (all_paired Own Known numbers (own_acts f) known) (all_themselves numbers))

-- the keys of an act are keys of its filing
keys_at : (journal : List Receipt) (m a : ℕ) (acts : List Act) (k : ℕ) (act : Act) (key : Key) → slice_get acts k ≡ Some act → Contains (keys_of_act journal m (a + k) act) key → Contains (keys_of_acts journal m a acts) key
keys_at journal m a [] k act key is has = absurd (cc is)
keys_at journal m a (x ∷ xs) zero act key is has =
    let same : x ≡ act = cc is in
    let number : a + 0 ≡ a = omega arith in
    Contains-append_left (keys_of_act journal m a x) (keys_of_acts journal m (a + 1) xs) key
    (subst (λ y. Contains (keys_of_act journal m a y) key) (sym same) (subst (λ n. Contains (keys_of_act journal m n act) key) number has))
keys_at journal m a (x ∷ xs) (suc k) act key is has =
    Contains-append_right (keys_of_act journal m a x) (keys_of_acts journal m (a + 1) xs) key
    (keys_at journal m (a + 1) xs k act key is (subst (λ n. Contains (keys_of_act journal m n act) key) (omega arith) has))

pub key_touched : (journal : List Receipt) (m : ℕ) (f : Filing) (a : ℕ) (act : Act) (key : Key) → filing_at journal m ≡ Some f → IsActOf f a act → Contains (keys_of_act journal m a act) key → Contains (keys_of_filing journal m) key
key_touched journal m f a act key is own has =
    subst (λ o. Contains (option_map_or (λ g. keys_of_acts journal m 1 g.acts) o []) key) (sym is)
    (keys_at journal m 1 f.acts own.place act key own.there (subst (λ n. Contains (keys_of_act journal m n act) key) (sym own.number) has))
