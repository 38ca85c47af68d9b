-- Items that touch the same keys.
use Rattle.std.proofs.Common.{◌≡◌, ℕ, ◌+◌, ◌<◌, ◌≤◌, true, false, cond, nat_lt, List, [], ◌∷◌, ◌++◌, length, map, Option, Some, None, is_some, refl, sym, ap, subst, ◌∙◌, arith}
use Rattle.std.specs.BTreeMap.{BTreeMap, get, Updates}
use Rattle.std.specs.Ordering.{is_eq, nat_cmp}
use Rattle.std.specs.Option.{option_and_then, option_map, option_map_or, IfSome}
use Rattle.std.proofs.lemmas.Bool.{false≢true}
use Rattle.std.proofs.lemmas.Bool.Decides.{nat_tests}
use Rattle.std.proofs.lemmas.List.{length-map}
use Rattle.gb_base.specs.RightNo.{RightNo}
use Rattle.gb_base.specs.declared.keys.Key.{Key}
use Rattle.gb_base.specs.declared.keys.Key.TheVariants.{Title, Right, Case}
use Rattle.act_model.specs.Receiving.{receipt_at}
use Rattle.act_model.specs.Touches.{filing_at, filing_in, in_key_order, keys_of_filing}
use Rattle.act_model.specs.declared.items.Filing.{Filing}
use Rattle.act_model.specs.declared.items.Item.{Item}
use Rattle.act_model.specs.declared.items.Item.TheVariants as item
use Rattle.act_model.specs.declared.receipts.Receipt.{Receipt}
use Rattle.conflict_queue.specs.Dockets.{keys_touched}
use Rattle.conflict_queue.specs.ItemKeys.{keys_by_item, keys_of_item, keys_of_named}
use Rattle.act_model.specs.SaleKeys.{earlier_rights, keys_of_sale}
use Rattle.conflict_queue.specs.inner.Sales.{AreSales, IsAhead, IsOfSale, TouchesSame}
use Rattle.conflict_queue.proofs.Numbered.{some_is}
use Rattle.act_model.proofs.EarlierRights.{as_many, earlier_rise}
use Rattle.conflict_queue.proofs.SaleKeys.{sale_in_order}

no_value : {X : Type 0} (x : X) → None ≡ Some x → ⊥
no_value x e = false≢true (ap is_some e)

pub if_some : {X : Type 0} (o : Option X) (P Q : X → Type 0) → ((x : X) → P x → Q x) → IfSome o P → IfSome o Q
if_some (Some x) P Q f p = f x p
if_some None P Q f p = tt

-- the keys of a receipt are those of the item that it holds
pub item_touches : (journal : List Receipt) (n : ℕ) (w : Item) → option_map (λ r. r.item) (receipt_at journal n) ≡ Some w → keys_of_item journal n ≡ keys_by_item journal n w
item_touches journal n w is = held (receipt_at journal n) is
  where
    held : (o : Option Receipt) → option_map (λ r. r.item) o ≡ Some w → option_map_or (λ r. keys_by_item journal n r.item) o [] ≡ keys_by_item journal n w
    held (Some r) e = ap (keys_by_item journal n) (some_is r.item w e)
    held None e = absurd (no_value w e)

-- ---- a filing and what names it

by_filing : (journal : List Receipt) (m : ℕ) (f : Filing) (w : Item) → filing_in w ≡ Some f → keys_by_item journal m w ≡ keys_of_filing journal m
by_filing journal m f (item.Filing g) is = refl
by_filing journal m f other is = absurd (no_value f is)

filing_touches : (journal : List Receipt) (m : ℕ) (f : Filing) → filing_at journal m ≡ Some f → keys_of_item journal m ≡ keys_of_filing journal m
filing_touches journal m f is = held (receipt_at journal m) is
  where
    held : (o : Option Receipt) → option_and_then (λ r. filing_in r.item) o ≡ Some f → option_map_or (λ r. keys_by_item journal m r.item) o [] ≡ keys_of_filing journal m
    held (Some r) e = by_filing journal m f r.item e
    held None e = absurd (no_value f e)

pub named_ahead : (journal : List Receipt) (n m : ℕ) (f : Filing) → m < n → nat_lt m n ≡ true → filing_at journal m ≡ Some f → IsAhead journal n m (keys_of_named journal n m)
named_ahead journal n m f less earlier is = record {
  earlier = less;
  touched = ap in_key_order (filing_touches journal m f is) ∙ ap in_key_order (sym (ap (λ b. cond b (keys_of_filing journal m) []) earlier));
}

-- ---- two items of a sale

sale_len : (folio : ℕ) (journal : List Receipt) (n : ℕ) → length (in_key_order (keys_of_sale journal n folio)) ≡ length (earlier_rights journal n folio) + 2
sale_len folio journal n =
    let rights = earlier_rights journal n folio in
    ap length (sym (sale_in_order folio rights (earlier_rise journal n folio))) ∙ count rights
  where
    both : (ks : List Key) (k : Key) → length (ks ++ k ∷ []) ≡ length ks + 1
    both [] k = refl
    both (j ∷ js) k = let rest = both js k in omega arith

    count : (rights : List RightNo) → length (Title folio ∷ (map (Right folio) rights ++ Case folio ∷ [])) ≡ length rights + 2
    count rights =
        let rest = both (map (Right folio) rights) (Case folio) in
        let same = length-map rights (Right folio) in
        omega arith

-- an earlier item of a sale that touches as many rights as item n finds touches the keys of item n
pub sale_ahead : (journal : List Receipt) (n j folio : ℕ) (touched : List Key) → j < n → keys_of_item journal j ≡ keys_of_sale journal j folio
    → touched ≡ keys_touched journal j → length touched ≡ length (earlier_rights journal n folio) + 2 → IsAhead journal n j (keys_of_sale journal n folio)
sale_ahead journal n j folio touched less of_sale is many =
    let ours = ap in_key_order of_sale in
    let count = ap length (is ∙ ours) ∙ sale_len folio journal j in
    let same = as_many journal j n folio (omega arith) in
    record {
      earlier = less;
      touched = ours ∙ ap (λ rights. in_key_order (Case folio ∷ Title folio ∷ map (Right folio) rights)) same;
    }

-- ---- an item and one before it

pub alike : (journal : List Receipt) (n : ℕ) (w : Item) (ks : List Key) → option_map (λ r. r.item) (receipt_at journal n) ≡ Some w → keys_by_item journal n w ≡ ks
    → (o : Option ℕ) → IfSome o (λ j. IsAhead journal n j ks) → IfSome o (λ j. TouchesSame journal n j)
alike journal n w ks held is o ahead = if_some o (λ j. IsAhead journal n j ks) (λ j. TouchesSame journal n j)
    (λ j here. record { earlier = here.earlier; keys = here.touched ∙ ap in_key_order (sym (item_touches journal n w held ∙ is)) }) ahead

-- ---- the last item of each sale

wider : (journal : List Receipt) (n i folio j : ℕ) → n ≤ i → IsOfSale journal n folio j → IsOfSale journal i folio j
wider journal n i folio j more here =
    let within = here.within in
    record { within = omega arith; keys = here.keys }

pub later_sales : (journal : List Receipt) (n i : ℕ) (sales : BTreeMap ℕ ℕ) → n ≤ i → AreSales journal n sales → AreSales journal i sales
later_sales journal n i sales more are = λ folio j there. wider journal n i folio j more (are folio j there)

-- the last items of sales, once item i is the last one of its sale
pub with_sale : (journal : List Receipt) (n i folio : ℕ) (old new : BTreeMap ℕ ℕ) → n ≤ i → AreSales journal n old → keys_of_item journal i ≡ keys_of_sale journal i folio
    → Updates nat_cmp old new folio (Some i) → AreSales journal i new
with_sale journal n i folio old new more are of_sale updates = λ q j there.
    elim (is_eq (nat_cmp folio q)) as (λ b. is_eq (nat_cmp folio q) ≡ b → cond b (Some i) (get nat_cmp old q) ≡ Some j → IsOfSale journal i q j) [
      | true ↦ λ tied e.
          let same : folio ≡ q = grind (arith, nat_tests, tied) in
          let here : IsOfSale journal i folio i = record { within = omega arith; keys = of_sale } in
          subst (λ f. IsOfSale journal i f j) same (subst (IsOfSale journal i folio) (some_is i j e) here)
      | false ↦ λ other e. wider journal n i q j more (are q j e)
    ] refl (sym (updates.0 q) ∙ there)
