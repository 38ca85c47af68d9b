-- A filing whose state is Pending is one, and it waits at one of its keys.
use Rattle.std.proofs.Common.{◌≡◌, ℕ, ◌<◌, Bool, true, false, cond, nat_lt, List, [], ◌∷◌, Contains, IsSome, Option, Some, None, option_and_then, is_some, refl, ap, subst, arith}
use Rattle.std.specs.List.{slice_get}
use Rattle.std.specs.Option.{option_map_or}
use Rattle.std.proofs.lemmas.Bool.{false≢true}
use Rattle.std.proofs.lemmas.Bool.Decides.{nat_tests}
use Rattle.gb_base.specs.declared.keys.Key.{Key}
use Rattle.act_model.proofs.KeyOrder.{in_key_order_members}
use Rattle.act_model.specs.Touches.{filing_at, keys_in_order, keys_of_acts, keys_of_filing}
use Rattle.act_model.specs.declared.receipts.Receipt.{Receipt}
use Rattle.folio_sections.specs.Waiting.{pending}
use Rattle.folio_sections.specs.declared.entries.Entry.{Entry}
use Rattle.interim_orders.specs.Orders.{state_by, state_of, waits_until}
use Rattle.interim_orders.specs.declared.states.FilingState.{FilingState}
use Rattle.interim_orders.specs.declared.states.FilingState.TheVariants.{NotPending, Pending}

abbrev is_waiting : FilingState → Bool
is_waiting (Pending until) = true
is_waiting NotPending = false

abbrev last_day : FilingState → ℕ
last_day (Pending until) = until
last_day NotPending = 0

-- the day of a state
day_is : (o : Option ℕ) (until : ℕ) → state_by o ≡ Pending until → o ≡ Some until
day_is (Some day) until is = ap (λ s. Some (last_day s)) is
day_is None until is = absurd (false≢true (ap is_waiting is))

-- filing m waits until this day at one of its keys
pub record WaitsAtAKey (journal : List Receipt) (m : ℕ) (at : Key → List Entry) (until : ℕ) : Type 0 where
  pub key : Key
  pub there : Contains (keys_of_filing journal m) key
  pub waits : pending m (at key) ≡ Some until

first_key : (journal : List Receipt) (m : ℕ) (at : Key → List Entry) (until : ℕ) (keys : List Key) → keys ≡ keys_in_order journal m → option_and_then (λ k. pending m (at k)) (slice_get keys 0) ≡ Some until → WaitsAtAKey journal m at until
first_key journal m at until [] all is = absurd (false≢true (ap is_some is))
first_key journal m at until (k ∷ ks) all is = record {
  key = k;
  there = (in_key_order_members (keys_of_filing journal m) k).0 (subst (λ ks. Contains ks k) all (0, omega arith, refl));
  waits = is;
}

-- Filing m is earlier than item i, and waits until this day at one of its keys.
pub record IsFoundWaiting (journal : List Receipt) (m i : ℕ) (at : Key → List Entry) (until : ℕ) : Type 0 where
  pub earlier : m < i
  pub waits : WaitsAtAKey journal m at until

pub found_waiting : (journal : List Receipt) (m i : ℕ) (at : Key → List Entry) (until : ℕ) → state_of journal m i at ≡ Pending until → IsFoundWaiting journal m i at until
found_waiting journal m i at until =
    elim (nat_lt m i) as (λ b. nat_lt m i ≡ b → state_by (cond b (waits_until journal m at) None) ≡ Pending until → IsFoundWaiting journal m i at until) [
      | true ↦ λ less is. record {
        earlier = grind (arith, nat_tests, less);
        waits = first_key journal m at until (keys_in_order journal m) refl (day_is (waits_until journal m at) until is);
      }
      | false ↦ λ later is. absurd (false≢true (ap is_waiting is))
    ] refl

-- a receipt that has a key as a filing is a filing
pub is_a_filing : (journal : List Receipt) (m : ℕ) (key : Key) → Contains (keys_of_filing journal m) key → IsSome (filing_at journal m)
is_a_filing journal m key =
    elim (filing_at journal m) as (λ o. Contains (option_map_or (λ f. keys_of_acts journal m 1 f.acts) o []) key → IsSome o) [
      | Some f ↦ λ there. refl
      | None ↦ λ there. absurd (omega (arith, there.1))
    ]

pub waiting_is_a_filing : (journal : List Receipt) (m i : ℕ) (at : Key → List Entry) (until : ℕ) → state_of journal m i at ≡ Pending until → IsSome (filing_at journal m)
waiting_is_a_filing journal m i at until is =
    let waits = (found_waiting journal m i at until is).waits in
    is_a_filing journal m waits.key waits.there
