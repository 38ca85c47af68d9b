-- Each creating act of a journal has a place among those of its folio.
use Rattle.std.proofs.Common.{◌≡◌, ℕ, ◌+◌, ◌-◌, ◌<◌, Bool, true, false, cond, not, eqb, ltb, ◌&&◌, ◌||◌, List, [], ◌∷◌, length, Option, Some, None, zero, suc, sym, subst, ap, ◌∙◌, refl, arith}
use Rattle.std.specs.Option.{is_some, option_and_then, option_map}
use Rattle.std.specs.List.{cons_option, enumerate_from, flat_map, list_any, position, prefix_len, slice_get}
use Rattle.std.proofs.lemmas.Bool.{and_from, cond-false, cond-true, eq-eqb, false≢true, ne_eqb}
use Rattle.std.proofs.lemmas.Bool.Decides.{nat_tests}
use Rattle.std.proofs.lemmas.List.Folds.{list_any-append}
use Rattle.std.proofs.lemmas.Option.{option_and_then_some}
use Rattle.gb_base.specs.RightNo.{RightNo, same_right}
use Rattle.act_model.specs.declared.filing_acts.Act.{Act}
use Rattle.act_model.specs.declared.items.Filing.{Filing}
use Rattle.act_model.specs.declared.items.Item.{Item}
use Rattle.act_model.specs.declared.items.Item.TheVariants as item
use Rattle.act_model.specs.declared.receipts.Receipt.{Receipt}
use Rattle.act_model.specs.Acts.{folio_of, right_created}
use Rattle.act_model.specs.Creations.{creates_in, creating_rank, creations_in, creations_of_item, folio_of_creation, folio_of_right}
use Rattle.act_model.specs.Receiving.{receipt_at}
use Rattle.act_model.specs.Touches.{act_at, filing_at, filing_in, new_right}
use Rattle.act_model.specs.inner.ItemIndexes.{creations_by_acts}

prefix_below : {X : Type 0} (p : X → Bool) (xs : List X) → list_any p xs ≡ true → prefix_len (λ x. not (p x)) xs < length xs
prefix_below p [] h = absurd (false≢true h)
prefix_below p (x ∷ xs) h = first (p x) h (prefix_below p xs)
  where
    first : (b : Bool) → (b || list_any p xs) ≡ true → (list_any p xs ≡ true → prefix_len (λ y. not (p y)) xs < length xs) → cond (not b) (1 + prefix_len (λ y. not (p y)) xs) 0 < length (x ∷ xs)
    first true h others = omega arith
    first false h others = let below = others h in omega (arith, below)

-- a list with an element that passes has a first one
has_position : {X : Type 0} (p : X → Bool) (xs : List X) → list_any p xs ≡ true → is_some (option_map (λ i. i + 1) (position p xs)) ≡ true
has_position p xs h =
    let n = prefix_len (λ x. not (p x)) xs in
    let below = prefix_below p xs h in
    let test : ltb n (length xs) ≡ true = grind (arith, nat_tests, below) in
    ap (λ o. is_some (option_map (λ i. i + 1) o)) (cond-true (ltb n (length xs)) (Some n) None test)

or_right : (b c : Bool) → c ≡ true → (b || c) ≡ true
or_right true c h = refl
or_right false c h = h

or_left : (b c : Bool) → b ≡ true → (b || c) ≡ true
or_left true c h = refl
or_left false c h = absurd (false≢true h)

-- what the acts of filing n create in the folio has the right of each act that creates there
acts_have : (folio n a : ℕ) (acts : List Act) (i : ℕ) (act : Act) (right : RightNo) → slice_get acts i ≡ Some act → creates_in folio act ≡ true → same_right right (new_right n (a + i)) ≡ true → list_any (same_right right) (creations_by_acts n a acts folio) ≡ true
acts_have folio n a [] i act right at creates same = absurd (cc at)
acts_have folio n a (x ∷ xs) zero act right at creates same =
    let here : creates_in folio x ≡ true = subst (λ o. some_creates o ≡ true) (sym at) creates in
    let this : same_right right (new_right n a) ≡ true = subst (λ k. same_right right (new_right n k) ≡ true) (omega arith) same in
    rw here (or_left (same_right right (new_right n a)) (list_any (same_right right) (creations_by_acts n (a + 1) xs folio)) this)
  where
    some_creates : Option Act → Bool
    some_creates None = false
    some_creates (Some y) = creates_in folio y
acts_have folio n a (x ∷ xs) (suc i) act right at creates same =
    behind (creates_in folio x) (creations_by_acts n (a + 1) xs folio)
    (acts_have folio n (a + 1) xs i act right at creates (subst (λ k. same_right right (new_right n k) ≡ true) (omega arith) same))
  where
    behind : (b : Bool) (rs : List RightNo) → list_any (same_right right) rs ≡ true → list_any (same_right right) (cons_option (cond b (Some (new_right n a)) None) rs) ≡ true
    behind true rs h = or_right (same_right right (new_right n a)) (list_any (same_right right) rs) h
    behind false rs h = h

item_has : (folio n : ℕ) (i : Item) (f : Filing) → filing_in i ≡ Some f → creations_of_item folio n i ≡ creations_by_acts n 1 f.acts folio
item_has folio n (item.Filing g) f is = ap (λ o. acts_of o) is
  where
    acts_of : Option Filing → List RightNo
    acts_of None = []
    acts_of (Some h) = creations_by_acts n 1 h.acts folio
item_has folio n other f is = absurd (cc is)

receipts_have : (folio n : ℕ) (journal : List Receipt) (i : ℕ) (r : Receipt) (right : RightNo) → slice_get journal i ≡ Some r → list_any (same_right right) (creations_of_item folio (n + i) r.item) ≡ true → list_any (same_right right) (flat_map (λ p. creations_of_item folio p.0 p.1.item) (enumerate_from n journal)) ≡ true
receipts_have folio n [] i r right at has = absurd (cc at)
receipts_have folio n (q ∷ qs) zero r right at has =
    let this : list_any (same_right right) (creations_of_item folio n r.item) ≡ true = subst (λ k. list_any (same_right right) (creations_of_item folio k r.item) ≡ true) (omega arith) has in
    list_any-append (same_right right) (creations_of_item folio n q.item) (flat_map (λ p. creations_of_item folio p.0 p.1.item) (enumerate_from (n + 1) qs))
    ∙ or_left _ _ (ap (λ o. list_any (same_right right) (created_by o)) at ∙ this)
  where
    created_by : Option Receipt → List RightNo
    created_by None = []
    created_by (Some s) = creations_of_item folio n s.item
receipts_have folio n (q ∷ qs) (suc i) r right at has =
    let behind : list_any (same_right right) (creations_of_item folio (n + 1 + i) r.item) ≡ true = subst (λ k. list_any (same_right right) (creations_of_item folio k r.item) ≡ true) (omega arith) has in
    list_any-append (same_right right) (creations_of_item folio n q.item) (flat_map (λ p. creations_of_item folio p.0 p.1.item) (enumerate_from (n + 1) qs))
    ∙ or_right _ _ (receipts_have folio (n + 1) qs i r right at behind)

in_folio : (act : Act) (folio : ℕ) → folio_of_creation act ≡ Some folio → creates_in folio act ≡ true
in_folio act folio is = by (is_some (right_created act)) (folio_of act) is
  where
    by : (b : Bool) (k : ℕ) → cond b (Some k) None ≡ Some folio → (b && eqb k folio) ≡ true
    by true k e = eq-eqb k folio (cc e)
    by false k e = absurd (cc e)

-- the element at a number from 1
at_number : {A : Type 0} (xs : List A) (i : ℕ) (x : A) → cond (eqb (suc i) 0) None (slice_get xs (suc i - 1)) ≡ Some x → slice_get xs i ≡ Some x
at_number xs i x e =
    let before : suc i - 1 ≡ i = omega arith in
    subst (λ k. slice_get xs k ≡ Some x) before (sym (cond-false (eqb (suc i) 0) None (slice_get xs (suc i - 1)) (ne_eqb (suc i) 0 (λ h. omega arith))) ∙ e)

-- the creating acts of a folio have each right that the journal creates in it
folio_has : (journal : List Receipt) (right : RightNo) (folio : ℕ) → folio_of_right journal right ≡ Some folio → list_any (same_right right) (creations_in journal folio) ≡ true
folio_has journal right folio is =
    option_and_then_some folio_of_creation (option_and_then (λ f. act_at f right.act) (filing_at journal right.receipt)) folio is
    (λ act there creates. option_and_then_some (λ f. act_at f right.act) (filing_at journal right.receipt) act there
    (λ f filed acts. option_and_then_some (λ r. filing_in r.item) (receipt_at journal right.receipt) f filed
    (λ r received filing. numbered right.receipt right.act refl refl act f r received filing acts (in_folio act folio creates))))
  where
    numbered : (m a : ℕ) → m ≡ right.receipt → a ≡ right.act → (act : Act) (f : Filing) (r : Receipt) → receipt_at journal m ≡ Some r → filing_in r.item ≡ Some f → act_at f a ≡ Some act → creates_in folio act ≡ true → list_any (same_right right) (creations_in journal folio) ≡ true
    numbered zero a m_is a_is act f r received filing acts creates = absurd (cc received)
    numbered (suc i) zero m_is a_is act f r received filing acts creates = absurd (cc acts)
    numbered (suc i) (suc j) m_is a_is act f r received filing acts creates =
        let same : same_right right (new_right (1 + i) (1 + j)) ≡ true = and_from _ _ (eq-eqb right.receipt (1 + i) (omega arith)) (eq-eqb right.act (1 + j) (omega arith)) in
        receipts_have folio 1 journal i r right (at_number journal i r received)
        (ap (list_any (same_right right)) (item_has folio (1 + i) r.item f filing)
        ∙ acts_have folio (1 + i) 1 f.acts j act right (at_number f.acts j act acts) creates same)

-- there is a rank just where there is a creating act
pub has_rank : (journal : List Receipt) (right : RightNo) → is_some (creating_rank journal right) ≡ is_some (folio_of_right journal right)
has_rank journal right = by (folio_of_right journal right) refl
  where
    by : (o : Option ℕ) → folio_of_right journal right ≡ o → is_some (option_and_then (λ folio. option_map (λ i. i + 1) (position (same_right right) (creations_in journal folio))) o) ≡ is_some o
    by None is = refl
    by (Some folio) is = has_position (same_right right) (creations_in journal folio) (folio_has journal right folio is)
