-- The rights that are placed in a folio are among its creating acts: by filing and act they are those of the filings in turn.
use Rattle.std.proofs.Common.{◌≡◌, ℕ, zero, suc, ◌+◌, ◌-◌, ◌<◌, ◌≤◌, Bool, true, false, cond, eqb, ◌&&◌, List, [], ◌∷◌, ◌++◌, length, slice_get, map, filter_map, flat_map, All, IsSomeAnd, IsTrue, Option, Some, None, is_some, option_and_then, refl, sym, ap, subst, ◌∙◌, arith}
use Rattle.std.specs.List.{cons_option, enumerate_from, range_with_len}
use Rattle.std.proofs.lemmas.Bool.{cond-false, eq-eqb, false≢true, ne_eqb}
use Rattle.std.proofs.lemmas.List.Elements.{All-head, All-tail, filter_map-append}
use Rattle.std.proofs.lemmas.Option.{option_and_then_some}
use Rattle.gb_base.specs.Limits.{most_acts}
use Rattle.gb_base.specs.RightNo.{RightNo}
use Rattle.gb_base.specs.declared.keys.Key.{Key}
use Rattle.act_model.specs.Acts.{folio_of}
use Rattle.act_model.specs.Creations.{creates_in, creation_in, creations_in, creations_of_item}
use Rattle.act_model.specs.Receiving.{IsJournal, receipt_at}
use Rattle.act_model.specs.Touches.{act_at, filing_at, filing_in, new_right, act_of_right}
use Rattle.act_model.specs.WellFormed.{well_formed}
use Rattle.act_model.specs.declared.filing_acts.Act.{Act}
use Rattle.act_model.specs.declared.items.Filing.{Filing}
use Rattle.act_model.specs.declared.items.Item.{Item}
use Rattle.act_model.specs.declared.items.Item.TheVariants as item
use Rattle.act_model.specs.declared.receipts.Receipt.{Receipt}
use Rattle.folio_sections.specs.HeldRights.{receipt_numbers, rights_of_filing}
use Rattle.kept_registers.specs.KeptRights.{IsAsFiled}
use Rattle.folio_sections.specs.declared.entries.Created.{Created}
use Rattle.folio_sections.specs.declared.entries.Entry.{Entry}
use Rattle.folio_sections.proofs.ReceiptNumbers.{numbers_up_to}
use Rattle.folio_line.specs.FolioRights.{right_where, rights_of}
use Rattle.folio_line.specs.declared.folio_rights.CreatedRight.{CreatedRight}
use Rattle.folio_line.proofs.CreatedRights.{few_acts, numbered}
use Rattle.folio_line.proofs.PlacedOrder.{placed_at_made}
use Rattle.folio_line.proofs.RightsInOrder.{RightsInOrder, is_created_here}

-- ---- a placed right has its act

-- the act creates a right in the folio
abbrev CreatesHere : ℕ → Option Act → Type 0
CreatesHere folio o = IsSomeAnd o (λ act. creates_in folio act ≡ true)

creates_here : (folio : ℕ) (made : Created) (o : Option Act) → IsSomeAnd o (IsAsFiled folio made) → CreatesHere folio o
creates_here folio made None filed = absurd filed
creates_here folio made (Some act) filed = λ i. is_some (filed.spec i) && eq-eqb (folio_of act) folio filed.there i

placed_here : (holds : RightNo → List Entry → Bool) (journal : List Receipt) (at : Key → List Entry) (folio : ℕ) (id : RightNo) → RightsInOrder journal at → is_some (right_where holds at folio id) ≡ true → CreatesHere folio (act_of_right journal id)
placed_here holds journal at folio id kept some =
    elim (right_where holds at folio id) as (λ o. right_where holds at folio id ≡ o → is_some o ≡ true → CreatesHere folio (act_of_right journal id)) [
      | None ↦ λ _ none. absurd (false≢true none)
      | Some x ↦ λ is _. creates_here folio x.made (act_of_right journal id) (is_created_here journal at folio id x.made kept (placed_at_made holds at folio id x is)).filed
    ] refl some

-- ---- so the acts of a filing have all that are placed of it

none_of : {X : Type 0} (o : Option X) → (is_some o ≡ true → ⊥) → o ≡ None
none_of None never = refl
none_of (Some x) never = absurd (never refl)

-- each right of filing m from act a on that is placed is created in the folio by one of these acts
abbrev PlacedByActs : (RightNo → Option CreatedRight) → ℕ → ℕ → ℕ → List Act → Type 0
PlacedByActs placed folio m a acts = (i : ℕ) → is_some (placed (new_right m (a + i))) ≡ true → CreatesHere folio (slice_get acts i)

next_acts : (placed : RightNo → Option CreatedRight) (folio m a : ℕ) (act : Act) (acts : List Act) → PlacedByActs placed folio m a (act ∷ acts) → PlacedByActs placed folio m (a + 1) acts
next_acts placed folio m a act acts by i some = by (suc i) (subst (λ k. is_some (placed (new_right m k)) ≡ true) (omega arith) some)

first_act : (placed : RightNo → Option CreatedRight) (folio m a : ℕ) (acts : List Act) → PlacedByActs placed folio m a acts → is_some (placed (new_right m a)) ≡ true → CreatesHere folio (slice_get acts 0)
first_act placed folio m a acts by some = by 0 (subst (λ k. is_some (placed (new_right m k)) ≡ true) (omega arith) some)

acts_placed : (placed : RightNo → Option CreatedRight) (folio m a : ℕ) (acts : List Act) (k : ℕ) → length acts ≤ k → PlacedByActs placed folio m a acts
    → filter_map placed (filter_map (creation_in folio m) (enumerate_from a acts)) ≡ filter_map placed (map (new_right m) (range_with_len a k))
acts_placed placed folio m a [] zero few by = refl
acts_placed placed folio m a [] (suc k) few by =
    let rest = filter_map placed (map (new_right m) (range_with_len (a + 1) k)) in
    let none = none_of (placed (new_right m a)) (λ some. first_act placed folio m a [] by some) in
    acts_placed placed folio m (a + 1) [] k (omega arith) (λ i some. by (suc i) (subst (λ n. is_some (placed (new_right m n)) ≡ true) (omega arith) some))
    ∙ sym (ap (λ o. cons_option o rest) none)
acts_placed placed folio m a (act ∷ acts) zero few by = absurd (omega arith)
acts_placed placed folio m a (act ∷ acts) (suc k) few by =
    let more = filter_map (creation_in folio m) (enumerate_from (a + 1) acts) in
    let rest = filter_map placed (map (new_right m) (range_with_len (a + 1) k)) in
    let behind : filter_map placed more ≡ rest = acts_placed placed folio m (a + 1) acts k (omega arith) (next_acts placed folio m a act acts by) in
    elim (creates_in folio act) as (λ b. creates_in folio act ≡ b → filter_map placed (cons_option (cond b (Some (new_right m a)) None) more) ≡ cons_option (placed (new_right m a)) rest) [
      | true ↦ λ is. ap (λ xs. cons_option (placed (new_right m a)) xs) behind
      | false ↦ λ is. behind ∙ sym (ap (λ o. cons_option o rest) (none_of (placed (new_right m a)) (λ some. false≢true (sym is ∙ first_act placed folio m a (act ∷ acts) by some))))
    ] refl

-- ---- so the items of a journal have all that are placed

-- each right of this number that is placed is created in the folio by an act of this filing
abbrev PlacedByFiling : (RightNo → Option CreatedRight) → ℕ → ℕ → Option Filing → Type 0
PlacedByFiling placed folio m o = (a : ℕ) → is_some (placed (new_right m a)) ≡ true → CreatesHere folio (option_and_then (λ f. act_at f a) o)

-- the element at a number from 1
at_number : {A : Type 0} (xs : List A) (i : ℕ) → cond (eqb (1 + i) 0) None (slice_get xs (1 + i - 1)) ≡ slice_get xs i
at_number xs i =
    let before : 1 + i - 1 ≡ i = omega arith in
    cond-false (eqb (1 + i) 0) None (slice_get xs (1 + i - 1)) (ne_eqb (1 + i) 0 (λ h. omega arith)) ∙ ap (slice_get xs) before

no_filing : (placed : RightNo → Option CreatedRight) (folio m : ℕ) → PlacedByFiling placed folio m None → [] ≡ filter_map placed (rights_of_filing m)
no_filing placed folio m by = acts_placed placed folio m 1 [] 8 (omega arith) (λ i some. absurd (by (1 + i) some))

item_placed : (placed : RightNo → Option CreatedRight) (folio m : ℕ) (i : Item) → well_formed i ≡ true → PlacedByFiling placed folio m (filing_in i)
    → filter_map placed (creations_of_item folio m i) ≡ filter_map placed (rights_of_filing m)
item_placed placed folio m (item.Filing f) well by =
    acts_placed placed folio m 1 f.acts 8 (few_acts f well) (λ i some. subst (λ o. CreatesHere folio o) (at_number f.acts i) (by (1 + i) some))
item_placed placed folio m other well by = no_filing placed folio m by

receipts_placed : (placed : RightNo → Option CreatedRight) (folio n : ℕ) (rs : List Receipt) → All (λ r. IsTrue (well_formed r.item)) rs
    → ((j : ℕ) → PlacedByFiling placed folio (n + j) (option_and_then (λ (r : Receipt). filing_in r.item) (slice_get rs j)))
    → filter_map placed (flat_map (λ p. creations_of_item folio p.0 p.1.item) (enumerate_from n rs))
    ≡ flat_map (λ m. filter_map placed (rights_of_filing m)) (range_with_len n (length rs))
receipts_placed placed folio n [] well by = refl
receipts_placed placed folio n (r ∷ rs) well by =
    let here = creations_of_item folio n r.item in
    let behind = flat_map (λ p. creations_of_item folio p.0 p.1.item) (enumerate_from (n + 1) rs) in
    let first : filter_map placed here ≡ filter_map placed (rights_of_filing n) =
    item_placed placed folio n r.item (All-head (λ (q : Receipt). IsTrue (well_formed q.item)) r rs well) (subst (λ k. PlacedByFiling placed folio k (filing_in r.item)) (omega arith) (by 0)) in
    let others = receipts_placed placed folio (n + 1) rs (All-tail (λ (q : Receipt). IsTrue (well_formed q.item)) r rs well)
    (λ j. subst (λ k. PlacedByFiling placed folio k (option_and_then (λ (q : Receipt). filing_in q.item) (slice_get rs j))) (omega arith) (by (suc j))) in
    filter_map-append placed here behind ∙ (λ i. first i ++ others i)

-- ---- together

-- a number beyond the journal is of none of its filings
beyond : (journal : List Receipt) (m a : ℕ) → length journal < m → act_of_right journal (new_right m a) ≡ None
beyond journal m a above =
    none_of (act_of_right journal (new_right m a)) (λ some. by (act_of_right journal (new_right m a)) refl some)
  where
    by : (o : Option Act) → act_of_right journal (new_right m a) ≡ o → is_some o ≡ true → ⊥
    by None is some = false≢true some
    by (Some act) is some =
        option_and_then_some (λ f. act_at f a) (filing_at journal m) act is
        (λ f there acts. option_and_then_some (λ r. filing_in r.item) (receipt_at journal m) f there
        (λ r received filing. let within = (numbered journal m r received).to in omega (arith, above, within)))

-- so nothing is placed at a number beyond the journal
none_beyond : (holds : RightNo → List Entry → Bool) (journal : List Receipt) (at : Key → List Entry) (folio : ℕ) → RightsInOrder journal at → (m : ℕ) → length journal < m → rights_of holds at folio m ≡ []
none_beyond holds journal at folio kept m above = by (range_with_len 1 most_acts)
  where
    by : (acts : List ℕ) → filter_map (right_where holds at folio) (map (new_right m) acts) ≡ []
    by [] = refl
    by (a ∷ acts) =
        ap (λ o. cons_option o (filter_map (right_where holds at folio) (map (new_right m) acts)))
        (none_of (right_where holds at folio (new_right m a)) (λ some. subst (CreatesHere folio) (beyond journal m a above) (placed_here holds journal at folio (new_right m a) kept some)))
        ∙ by acts

pub placed_creations : (holds : RightNo → List Entry → Bool) (journal : List Receipt) (at : Key → List Entry) (folio : ℕ) → RightsInOrder journal at → IsJournal journal
    → filter_map (right_where holds at folio) (creations_in journal folio) ≡ flat_map (rights_of holds at folio) receipt_numbers
placed_creations holds journal at folio kept is =
    let few = is.few in
    receipts_placed (right_where holds at folio) folio 1 journal is.items
    (λ j a some. subst (λ o. CreatesHere folio (option_and_then (λ f. act_at f a) (option_and_then (λ (r : Receipt). filing_in r.item) o))) (at_number journal j) (placed_here holds journal at folio (new_right (1 + j) a) kept some))
    ∙ sym (numbers_up_to (rights_of holds at folio) (length journal) (omega (arith, few)) (none_beyond holds journal at folio kept))
