-- Filings, their acts and the rights that these create, as the journal has them; and the keys that a filing touches. These
-- follow from the receipts up to the filing alone (law keys_stay), whatever became of it.
use Rattle.std.specs.Prelude.{ℕ, ◌+◌, ◌-◌, Bool, false, ◌==◌, nat_lt, if◌then◌else◌, List, [], ◌∷◌, ◌++◌, map, slice_get, Option, Some, None, option_and_then, option_map}
use Rattle.std.specs.Option.{option_map_or}
use Rattle.std.specs.FinMap.{from_entries, keys}
use Rattle.gb_base.specs.RightNo.{RightNo}
use Rattle.gb_base.specs.Keys.{key_cmp}
use Rattle.gb_base.specs.declared.keys.Key.{Key}
use Rattle.gb_base.specs.declared.keys.Key.TheVariants.{Title, Right}
use Rattle.act_model.specs.declared.rights.RightSpec.{RightSpec}
use Rattle.act_model.specs.declared.filing_acts.Act.{Act}
use Rattle.act_model.specs.declared.filing_acts.Act.TheVariants.{Open, Transfer, Create, NoticeFor, Convert, Assign, Cancel, Exchange, Exercise}
use Rattle.act_model.specs.declared.items.Filing.{Filing}
use Rattle.act_model.specs.declared.items.Item.{Item}
use Rattle.act_model.specs.declared.receipts.Receipt.{Receipt}
use Rattle.act_model.specs.Acts.{folio_of, right_created, is_in_division_three}
use Rattle.act_model.specs.Receiving.{receipt_at}
use Rattle.act_model.specs.declared.items.Item.TheVariants as item

-- ---- filings and their acts

-- the filing that an item is; none where it is another item
abbrev pub filing_in : Item → Option Filing
filing_in (item.Filing f) = Some f
filing_in other = None

-- filing m; none where receipt m is no filing
abbrev pub filing_at : List Receipt → ℕ → Option Filing
filing_at journal m = option_and_then (λ r. filing_in r.item) (receipt_at journal m)

-- the applicant of filing n; none where receipt n is no filing
abbrev pub applicant_of : List Receipt → ℕ → Option ℕ
applicant_of journal n = option_map (λ f. f.applicant) (filing_at journal n)

-- the acts of filing m; none where receipt m is no filing
abbrev pub acts_of : List Receipt → ℕ → List Act
acts_of journal m = option_map_or (λ f. f.acts) (filing_at journal m) []

-- act a of a filing, from 1
abbrev pub act_at : Filing → ℕ → Option Act
act_at f a = if a == 0 then None else slice_get f.acts (a - 1)

-- ---- the rights that acts create

-- the number of the right that act a of filing m creates
abbrev pub new_right : ℕ → ℕ → RightNo
new_right m a = record { receipt = m; act = a }

-- the act that a right is numbered by: act `right.act` of filing `right.receipt`; none where the journal has no such act
abbrev pub act_of_right : List Receipt → RightNo → Option Act
act_of_right journal right = option_and_then (λ f. act_at f right.act) (filing_at journal right.receipt)

-- the description of the right that an act creates in this folio; none where it creates none there
abbrev pub created_in : ℕ → Act → Option RightSpec
created_in folio act = if folio_of act == folio then right_created act else None

-- the right of this number as a filing before filing m creates it in this folio
abbrev pub created_before : List Receipt → ℕ → ℕ → RightNo → Option RightSpec
created_before journal m folio right =
    if nat_lt right.receipt m
    then option_and_then (created_in folio) (option_and_then (λ f. act_at f right.act) (filing_at journal right.receipt))
    else None

-- a filing before filing m creates this right, in division III of this folio
abbrev pub was_in_division_three : List Receipt → ℕ → ℕ → RightNo → Bool
was_in_division_three journal m folio right = option_map_or (λ s. is_in_division_three s.kind) (created_before journal m folio right) false

-- ---- the keys of a filing

-- the keys of act a of filing m
abbrev pub keys_of_act : List Receipt → ℕ → ℕ → Act → List Key
keys_of_act journal m a (Open folio inventory owners) = Title folio ∷ []
keys_of_act journal m a (Transfer folio owners) = Title folio ∷ []
keys_of_act journal m a (Create folio spec reserve) = Title folio ∷ Right folio (new_right m a) ∷ []
keys_of_act journal m a (NoticeFor folio spec) = Title folio ∷ Right folio (new_right m a) ∷ []
keys_of_act journal m a (Convert folio right) = Title folio ∷ Right folio right ∷ []
keys_of_act journal m a (Assign folio right holder) = Right folio right ∷ []
keys_of_act journal m a (Cancel folio right) = Title folio ∷ Right folio right ∷ []
keys_of_act journal m a (Exchange folio recede rise) =
    Right folio recede ∷ Right folio rise ∷ (if was_in_division_three journal m folio recede then Title folio ∷ [] else [])
keys_of_act journal m a (Exercise folio behind spec) = Title folio ∷ Right folio behind ∷ Right folio (new_right m a) ∷ []

-- the keys of acts a, a + 1, .. of filing m
abbrev pub keys_of_acts : List Receipt → ℕ → ℕ → List Act → List Key
keys_of_acts journal m a [] = []
keys_of_acts journal m a (act ∷ acts) = keys_of_act journal m a act ++ keys_of_acts journal m (a + 1) acts

-- the keys of filing m; none where receipt m is no filing
abbrev pub keys_of_filing : List Receipt → ℕ → List Key
keys_of_filing journal m = option_map_or (λ f. keys_of_acts journal m 1 f.acts) (filing_at journal m) []

-- these keys in ascending order, each once: the keys of the map that has each of them
abbrev pub in_key_order : List Key → List Key
in_key_order ks = keys (from_entries {X = Unit {0}} {R = key_cmp} (map (λ k. (k, tt)) ks))

-- the keys of filing m in ascending order, each once
abbrev pub keys_in_order : List Receipt → ℕ → List Key
keys_in_order journal m = in_key_order (keys_of_filing journal m)
