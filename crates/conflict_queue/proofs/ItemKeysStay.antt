-- The keys of an item do not change when more receipts come.
use Rattle.std.proofs.Common.{◌≡◌, ℕ, zero, suc, ◌+◌, ◌≤◌, Bool, true, false, cond, nat_lt, List, [], ◌∷◌, ◌++◌, filter, flat_map, length, map, take, Some, None, refl, ap, ◌∙◌, arith}
use Rattle.std.specs.List.{AllByRecursion, cons_option, enumerate_from, filter_map}
use Rattle.std.specs.Option.{option_map_or}
use Rattle.std.proofs.lemmas.Bool.Decides.{nat_tests}
use Rattle.std.proofs.lemmas.List.Concat.{flat_map-append}
use Rattle.gb_base.specs.RightNo.{RightNo}
use Rattle.gb_base.specs.declared.keys.Key.TheVariants.{Title, Right, Case}
use Rattle.act_model.specs.Creations.{creates_in, creation_in, creations_in, creations_of_item}
use Rattle.act_model.specs.Receiving.{receipt_at}
use Rattle.act_model.specs.Subjects.{subject_of}
use Rattle.act_model.specs.Touches.{keys_of_filing, new_right}
use Rattle.act_model.specs.declared.filing_acts.Act.{Act}
use Rattle.act_model.specs.declared.items.Item.{Item}
use Rattle.act_model.specs.declared.items.Item.TheVariants as item
use Rattle.act_model.specs.declared.items.Subject.{Subject}
use Rattle.act_model.specs.declared.items.Subject.TheVariants as about
use Rattle.act_model.specs.declared.receipts.Receipt.{Receipt}
use Rattle.act_model.proofs.KeysStay.{keys_of_filing_stay, receipt_stays}
use Rattle.act_model.specs.Limits.{most_creations}
use Rattle.conflict_queue.specs.ItemKeys.{keys_by_item, keys_by_subject, keys_of_item, keys_of_named}
use Rattle.act_model.specs.SaleKeys.{earlier_rights, keys_of_sale}

all_both : {X : Type 0} (P : X → Type 0) (xs ys : List X) → AllByRecursion P xs → AllByRecursion P ys → AllByRecursion P (xs ++ ys)
all_both P [] ys first second = second
all_both P (x ∷ xs) ys first second = (first.0, all_both P xs ys first.1 second)

-- ---- what later receipts create

-- the right is of item i or a later one
abbrev pub IsLater : ℕ → RightNo → Type 0
IsLater i right = nat_lt right.receipt i ≡ false

acts_later : (folio m i : ℕ) (numbered : List (ℕ × Act)) → i ≤ m → AllByRecursion (IsLater i) (filter_map (creation_in folio m) numbered)
acts_later folio m i [] within = tt
acts_later folio m i (act ∷ acts) within =
    elim (creates_in folio act.1) as (λ b. AllByRecursion (IsLater i) (cons_option (cond b (Some (new_right m act.0)) None) (filter_map (creation_in folio m) acts))) [
      | true ↦ (later m i within, acts_later folio m i acts within)
      | false ↦ acts_later folio m i acts within
    ]
  where
    later : (m i : ℕ) → i ≤ m → nat_lt m i ≡ false
    later m i within = grind (arith, nat_tests, within)

item_later : (folio m i : ℕ) (w : Item) → i ≤ m → AllByRecursion (IsLater i) (creations_of_item folio m w)
item_later folio m i (item.Filing f) within = acts_later folio m i (enumerate_from 1 f.acts) within
item_later folio m i other within = tt

pub receipts_later : (folio n i : ℕ) (more : List Receipt) → i ≤ n → AllByRecursion (IsLater i) (flat_map (λ p. creations_of_item folio p.0 p.1.item) (enumerate_from n more))
receipts_later folio n i [] within = tt
receipts_later folio n i (r ∷ rs) within =
    all_both (IsLater i) (creations_of_item folio n r.item) (flat_map (λ p. creations_of_item folio p.0 p.1.item) (enumerate_from (n + 1) rs))
    (item_later folio n i r.item within) (receipts_later folio (n + 1) i rs (omega arith))

pub numbered_both : (n : ℕ) (xs ys : List Receipt) → enumerate_from n (xs ++ ys) ≡ enumerate_from n xs ++ enumerate_from (n + length xs) ys
numbered_both n [] ys = ap (λ k. enumerate_from k ys) (omega arith)
numbered_both n (x ∷ xs) ys = ap (λ rest. (n, x) ∷ rest) (numbered_both (n + 1) xs ys ∙ ap (λ k. enumerate_from (n + 1) xs ++ enumerate_from k ys) (omega arith))

pub creations_both : (journal more : List Receipt) (folio : ℕ) → creations_in (journal ++ more) folio ≡ creations_in journal folio ++ flat_map (λ p. creations_of_item folio p.0 p.1.item) (enumerate_from (1 + length journal) more)
creations_both journal more folio =
    ap (λ numbered. flat_map (λ p. creations_of_item folio p.0 p.1.item) numbered) (numbered_both 1 journal more)
    ∙ flat_map-append (λ p. creations_of_item folio p.0 p.1.item) (enumerate_from 1 journal) (enumerate_from (1 + length journal) more)

-- ---- the first of the rights

none_pass : {X : Type 0} (p : X → Bool) (n : ℕ) (ys : List X) → AllByRecursion (λ y. p y ≡ false) ys → filter p (take n ys) ≡ []
none_pass p zero ys fail = refl
none_pass p (suc n) [] fail = refl
none_pass p (suc n) (y ∷ ys) fail = rw fail.0 (none_pass p n ys fail.1)

-- elements that do not pass, put after a list, change nothing of what passes among the first n
first_pass : {X : Type 0} (p : X → Bool) (n : ℕ) (xs ys : List X) → AllByRecursion (λ y. p y ≡ false) ys → filter p (take n (xs ++ ys)) ≡ filter p (take n xs)
first_pass p zero xs ys fail = refl
first_pass p (suc n) [] ys fail = none_pass p (suc n) ys fail
first_pass p (suc n) (x ∷ xs) ys fail = ap (λ rest. cond (p x) (x ∷ rest) rest) (first_pass p n xs ys fail)

rights_stay : (journal more : List Receipt) (i folio : ℕ) → i ≤ length journal → earlier_rights (journal ++ more) i folio ≡ earlier_rights journal i folio
rights_stay journal more i folio within =
    ap (λ rights. filter (λ right. nat_lt right.receipt i) (take most_creations rights)) (creations_both journal more folio)
    ∙ first_pass (λ right. nat_lt right.receipt i) most_creations (creations_in journal folio) (flat_map (λ p. creations_of_item folio p.0 p.1.item) (enumerate_from (1 + length journal) more))
    (receipts_later folio (1 + length journal) i more (omega arith))

-- ---- an item

sale_stays : (journal more : List Receipt) (i folio : ℕ) → i ≤ length journal → keys_of_sale (journal ++ more) i folio ≡ keys_of_sale journal i folio
sale_stays journal more i folio within = ap (λ rights. Case folio ∷ Title folio ∷ map (Right folio) rights) (rights_stay journal more i folio within)

named_stays : (journal more : List Receipt) (i m : ℕ) → i ≤ length journal → keys_of_named (journal ++ more) i m ≡ keys_of_named journal i m
named_stays journal more i m within =
    elim (nat_lt m i) as (λ b. nat_lt m i ≡ b → cond b (keys_of_filing (journal ++ more) m) [] ≡ cond b (keys_of_filing journal m) []) [
      | true ↦ λ earlier. keys_of_filing_stay journal more m (grind (arith, nat_tests, earlier, within))
      | false ↦ λ later. refl
    ] refl

keys_stay : (journal more : List Receipt) (i : ℕ) (s : Subject) → i ≤ length journal → keys_by_subject (journal ++ more) i s ≡ keys_by_subject journal i s
keys_stay journal more i about.Itself within = keys_of_filing_stay journal more i within
keys_stay journal more i (about.Filing m) within = named_stays journal more i m within
keys_stay journal more i (about.Sale folio) within = sale_stays journal more i folio within
keys_stay journal more i (about.Claims folio) within = refl

pub item_keys_stay : (journal more : List Receipt) (i : ℕ) → i ≤ length journal → keys_of_item (journal ++ more) i ≡ keys_of_item journal i
item_keys_stay journal more i within =
    ap (λ o. option_map_or (λ r. keys_by_item (journal ++ more) i r.item) o []) (receipt_stays journal more i within)
    ∙ elim (receipt_at journal i) as (λ o. option_map_or (λ r. keys_by_item (journal ++ more) i r.item) o [] ≡ option_map_or (λ r. keys_by_item journal i r.item) o []) [
      | Some r ↦ keys_stay journal more i (subject_of r.item) within
      | None ↦ refl
    ]
