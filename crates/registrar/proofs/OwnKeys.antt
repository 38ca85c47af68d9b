-- Each entry that an item brings stands at a key that it touches.
use Rattle.std.proofs.Common.{◌≡◌, ⊎_elim, ℕ, Bool, true, false, cond, List, [], ◌∷◌, Contains, All, Some, None, option_map, refl, arith}
use Rattle.std.specs.List.{AllByRecursion}
use Rattle.std.specs.Option.{option_map_or}
use Rattle.std.proofs.lemmas.Bool.{cases_Bool}
use Rattle.std.proofs.lemmas.List.Elements.{All-from_recursion}
use Rattle.gb_base.specs.Keys.{same_key}
use Rattle.gb_base.specs.declared.keys.Key.{Key}
use Rattle.act_model.proofs.KeyOrder.{has, has_decides, itself}
use Rattle.act_model.specs.Receiving.{IsJournal, receipt_at}
use Rattle.act_model.specs.declared.receipts.Receipt.{Receipt}
use Rattle.conflict_queue.specs.ItemKeys.{keys_by_item, keys_of_item}
use Rattle.folio_sections.specs.Entries.{at}
use Rattle.folio_sections.specs.declared.entries.Entry.{Entry}
use Rattle.kept_registers.specs.Kept.{Kept}
use Rattle.registrar.proofs.Elsewhere.{nothing_elsewhere}
use Rattle.registrar.specs.Brings.{brings, brought_by_item, nothing_pending}

-- at a key that receipt i does not touch it brings nothing; where there is no receipt, nothing anywhere
pub brings_nothing_elsewhere : (journal : List Receipt) (i : ℕ) (register : Key → List Entry) (k : Key) → IsJournal journal → Kept journal register
    → has k (keys_of_item journal i) ≡ false → at (brings journal i register).entries k ≡ []
brings_nothing_elsewhere journal i register k stands kept =
    elim (receipt_at journal i) as (λ o. receipt_at journal i ≡ o → has k (option_map_or (λ r. keys_by_item journal i r.item) o []) ≡ false
    → at (option_map_or (λ r. brought_by_item journal i register r.item) o nothing_pending).entries k ≡ []) [
      | Some r ↦ λ is lacks. nothing_elsewhere journal i register r.item k stands kept (λ j. option_map (λ x. x.item) (is j)) lacks
      | None ↦ λ is lacks. refl
    ] refl

-- ---- a list of entries

first_there : (b : Bool) (e : Entry) (es : List Entry) → b ≡ true → cond b (e ∷ es) es ≡ [] → ⊥
first_there true e es is none = absurd (grind arith)
first_there false e es is none = absurd (grind arith)

none_behind : (b : Bool) (e : Entry) (es : List Entry) → cond b (e ∷ es) es ≡ [] → es ≡ []
none_behind true e es none = absurd (grind arith)
none_behind false e es none = none

-- a list that has nothing at keys other than these has entries at these keys alone
keys_among : (keys : List Key) (es : List Entry) → ((k : Key) → has k keys ≡ false → at es k ≡ []) → AllByRecursion (λ e. Contains keys e.key) es
keys_among keys [] elsewhere = tt
keys_among keys (e ∷ es) elsewhere = (
  ⊎_elim
      (λ there. (has_decides e.key keys).0 there)
      (λ lacks. absurd (first_there (same_key e.key e.key) e (at es e.key) (itself e.key) (elsewhere e.key lacks)))
      (cases_Bool (has e.key keys)),
  keys_among keys es (λ k lacks. none_behind (same_key e.key k) e (at es k) (elsewhere k lacks)),
)

pub own_keys : (journal : List Receipt) (i : ℕ) (register : Key → List Entry) → IsJournal journal → Kept journal register
    → All (λ e. Contains (keys_of_item journal i) e.key) (brings journal i register).entries
own_keys journal i register stands kept =
    All-from_recursion (λ e. Contains (keys_of_item journal i) e.key) (brings journal i register).entries
    (keys_among (keys_of_item journal i) (brings journal i register).entries (λ k lacks. brings_nothing_elsewhere journal i register k stands kept lacks))
