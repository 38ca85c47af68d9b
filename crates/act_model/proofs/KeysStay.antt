-- What a filing's keys follow from does not change when more receipts come.
use Rattle.std.proofs.Common.{◌≡◌, ℕ, zero, suc, ◌+◌, ◌-◌, ◌<◌, ◌≤◌, false, cond, eqb, List, [], ◌∷◌, ◌++◌, length, nat_lt, slice_get, Option, Some, None, option_and_then, refl, sym, ap, ap₂, subst, ◌∙◌, ⊎_elim, arith}
use Rattle.std.specs.Option.{option_map_or}
use Rattle.std.proofs.lemmas.Bool.{cases_Bool, cases_eq, ltb-true}
use Rattle.gb_base.specs.RightNo.{RightNo}
use Rattle.gb_base.specs.declared.keys.Key.{Key}
use Rattle.gb_base.specs.declared.keys.Key.TheVariants.{Title, Right}
use Rattle.act_model.specs.declared.filing_acts.Act.{Act}
use Rattle.act_model.specs.declared.filing_acts.Act.TheVariants.{Open, Transfer, Create, NoticeFor, Convert, Assign, Cancel, Exchange, Exercise}
use Rattle.act_model.specs.declared.items.Filing.{Filing}
use Rattle.act_model.specs.declared.receipts.Receipt.{Receipt}
use Rattle.act_model.specs.Receiving.{receipt_at}
use Rattle.act_model.specs.Acts.{is_in_division_three}
use Rattle.act_model.specs.Touches.{filing_in, filing_at, act_at, created_in, created_before, keys_of_act, keys_of_acts, keys_of_filing}

slice_get_front : (journal more : List Receipt) (i : ℕ) → i < length journal → slice_get (journal ++ more) i ≡ slice_get journal i
slice_get_front [] more i within = absurd (omega arith)
slice_get_front (r ∷ rs) more zero within = refl
slice_get_front (r ∷ rs) more (suc i) within = slice_get_front rs more i (omega arith)

module _ (journal more : List Receipt) where
  pub receipt_stays : (n : ℕ) → n ≤ length journal → receipt_at (journal ++ more) n ≡ receipt_at journal n
  receipt_stays n within = ⊎_elim
      (λ none. subst (λ k. receipt_at (journal ++ more) k ≡ receipt_at journal k) (sym none) refl)
      (λ some. ap (λ (r : Option Receipt). cond (eqb n 0) None r) (slice_get_front journal more (n - 1) (omega arith)))
      (cases_eq n 0)

  filing_stays : (n : ℕ) → n ≤ length journal → filing_at (journal ++ more) n ≡ filing_at journal n
  filing_stays n within = ap (option_and_then (λ r. filing_in r.item)) (receipt_stays n within)

  created_stays : (m folio : ℕ) (right : RightNo) → m ≤ length journal → created_before (journal ++ more) m folio right ≡ created_before journal m folio right
  created_stays m folio right within = ⊎_elim
      (λ earlier. ap (λ found. cond (nat_lt right.receipt m) (option_and_then (created_in folio) (option_and_then (λ f. act_at f right.act) found)) None)
      (filing_stays right.receipt (omega (arith, ltb-true right.receipt m earlier, within))))
      (λ later. rw later refl)
      (cases_Bool (nat_lt right.receipt m))

  act_keys_stay : (m a : ℕ) (act : Act) → m ≤ length journal → keys_of_act (journal ++ more) m a act ≡ keys_of_act journal m a act
  act_keys_stay m a (Open folio inventory owners) within = refl
  act_keys_stay m a (Transfer folio owners) within = refl
  act_keys_stay m a (Create folio spec reserve) within = refl
  act_keys_stay m a (NoticeFor folio spec) within = refl
  act_keys_stay m a (Convert folio right) within = refl
  act_keys_stay m a (Assign folio right holder) within = refl
  act_keys_stay m a (Cancel folio right) within = refl
  act_keys_stay m a (Exchange folio recede rise) within =
      ap (λ created. Right folio recede ∷ Right folio rise ∷ cond (option_map_or (λ s. is_in_division_three s.kind) created false) (Title folio ∷ []) []) (created_stays m folio recede within)
  act_keys_stay m a (Exercise folio behind spec) within = refl

  acts_keys_stay : (m a : ℕ) (acts : List Act) → m ≤ length journal → keys_of_acts (journal ++ more) m a acts ≡ keys_of_acts journal m a acts
  acts_keys_stay m a [] within = refl
  acts_keys_stay m a (act ∷ acts) within = ap₂ (λ (x y : List Key). x ++ y) (act_keys_stay m a act within) (acts_keys_stay m (a + 1) acts within)

  of_filing : (m : ℕ) (found : Option Filing) → m ≤ length journal
      → option_map_or (λ f. keys_of_acts (journal ++ more) m 1 f.acts) found [] ≡ option_map_or (λ f. keys_of_acts journal m 1 f.acts) found []
  of_filing m (Some f) within = acts_keys_stay m 1 f.acts within
  of_filing m None within = refl

  pub keys_of_filing_stay : (m : ℕ) → m ≤ length journal → keys_of_filing (journal ++ more) m ≡ keys_of_filing journal m
  keys_of_filing_stay m within =
      ap (λ found. option_map_or (λ f. keys_of_acts (journal ++ more) m 1 f.acts) found []) (filing_stays m within) ∙ of_filing m (filing_at journal m) within
