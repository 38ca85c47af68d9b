-- On a kept register a judge knows the rights whose ranks a filing exchanges.
use Rattle.std.proofs.Common.{◌≡◌, ℕ, ◌+◌, ◌<◌, eqb, true, false, cond, nat_lt, List, [], ◌∷◌, All, Contains, IsSomeAnd, IfSome, IsTrue, Some, None, option_and_then, refl, sym, subst, arith}
use Rattle.std.specs.List.{AllByRecursion}
use Rattle.std.specs.Option.{option_map_or}
use Rattle.std.proofs.lemmas.Bool.Decides.{nat_tests}
use Rattle.std.proofs.lemmas.List.Elements.{All-from_recursion, All-nil, Contains-append_left, Contains-append_right, recursion_from_All}
use Rattle.gb_base.specs.RightNo.{RightNo}
use Rattle.gb_base.specs.declared.keys.Key.{Key}
use Rattle.gb_base.specs.declared.keys.Key.TheVariants.{Right}
use Rattle.act_model.specs.Acts.{folio_of, right_created}
use Rattle.act_model.specs.Touches.{acts_of, created_before, created_in, filing_at, keys_of_act, keys_of_acts, keys_of_filing, act_of_right}
use Rattle.act_model.specs.declared.filing_acts.Act.{Act}
use Rattle.act_model.specs.declared.filing_acts.Act.TheVariants.{Exchange}
use Rattle.act_model.specs.declared.receipts.Receipt.{Receipt}
use Rattle.consent_rules.specs.Judging.{IsKnownExchange, KnowsExchanges}
use Rattle.kept_registers.specs.Kept.{Kept}
use Rattle.kept_registers.specs.KeptEntries.{IsCreatedInTime}
use Rattle.kept_registers.specs.KeptPlaces.{NamesEarlier}
use Rattle.kept_registers.specs.KeptRights.{EntersAsFiled, IsAsFiled}
use Rattle.folio_sections.specs.Rights.{created, is_live, live_right}
use Rattle.folio_sections.specs.Waiting.{is_pending}
use Rattle.folio_sections.specs.declared.entries.Created.{Created}
use Rattle.folio_sections.specs.declared.entries.Entry.{Entry}
use Rattle.folio_sections.specs.declared.entries.What.{What}
use Rattle.folio_sections.specs.declared.entries.What.TheVariants as what
use Rattle.kept_registers.proofs.KeptOrder.{OfCreation, created_has}

live_created : (F : Created → Type 0) (es : List Entry) → AllByRecursion (λ e. OfCreation F e.what) es → IfSome (live_right es) F
live_created F es all =
    elim (is_live es) as (λ b. IfSome (cond b (created es) None) F) [
      | true ↦ created_has F es all
      | false ↦ tt
    ]

-- the right is created by an act of a filing below m, in the folio, as it is entered
abbrev IsKnown : List Receipt → ℕ → ℕ → RightNo → Created → Type 0
IsKnown journal m folio right made = created_before journal m folio right ≡ Some made.spec

created_there : (folio : ℕ) (made : Created) (act : Act) → IsAsFiled folio made act → created_in folio act ≡ Some made.spec
created_there folio made act filed =
    let there : eqb (folio_of act) folio ≡ true = grind (arith, nat_tests, filed.there) in
    subst (λ b. cond b (right_created act) None ≡ Some made.spec) (sym there) filed.spec

known_by_act : (journal : List Receipt) (m folio : ℕ) (right : RightNo) (made : Created) → right.receipt < m → IsSomeAnd (act_of_right journal right) (IsAsFiled folio made) → IsKnown journal m folio right made
known_by_act journal m folio right made earlier filed =
    let less : nat_lt right.receipt m ≡ true = grind (arith, nat_tests, earlier) in
    let there : option_and_then (created_in folio) (act_of_right journal right) ≡ Some made.spec =
    elim (act_of_right journal right) as (λ o. IsSomeAnd o (IsAsFiled folio made) → option_and_then (created_in folio) o ≡ Some made.spec) [
      | Some act ↦ λ filed. created_there folio made act filed
      | None ↦ λ none. absurd none
    ] filed in
    subst (λ b. cond b (option_and_then (created_in folio) (act_of_right journal right)) None ≡ Some made.spec) (sym less) there

-- each entry at a right that creates it says that the right is of an earlier filing than m
abbrev CreatesEarlier : ℕ → RightNo → List Entry → Type 0
CreatesEarlier m right es = AllByRecursion (λ e. OfCreation (λ made. right.receipt < m) e.what) es

known_here : (journal : List Receipt) (at : Key → List Entry) (m folio : ℕ) (right : RightNo) (w : What) (receipt : ℕ) → EntersAsFiled journal at folio right receipt w → OfCreation (λ made. right.receipt < m) w → OfCreation (IsKnown journal m folio right) w
known_here journal at m folio right (what.Created made) receipt filed earlier = known_by_act journal m folio right made earlier filed.filed
known_here journal at m folio right other receipt filed earlier = tt

all_known : (journal : List Receipt) (at : Key → List Entry) (m folio : ℕ) (right : RightNo) (es : List Entry) → AllByRecursion (λ e. EntersAsFiled journal at folio right e.receipt e.what) es
    → CreatesEarlier m right es → AllByRecursion (λ e. OfCreation (IsKnown journal m folio right) e.what) es
all_known journal at m folio right [] filed earlier = tt
all_known journal at m folio right (e ∷ es) filed earlier =
    (known_here journal at m folio right e.what e.receipt filed.0 earlier.0, all_known journal at m folio right es filed.1 earlier.1)

-- so the receding right is known, where it is live
known_at : (journal : List Receipt) (at : Key → List Entry) (m folio : ℕ) (right : RightNo) → Kept journal at → CreatesEarlier m right (at (Right folio right)) → IfSome (live_right (at (Right folio right))) (IsKnown journal m folio right)
known_at journal at m folio right kept earlier =
    live_created (IsKnown journal m folio right) (at (Right folio right))
    (all_known journal at m folio right (at (Right folio right)) (recursion_from_All _ (at (Right folio right)) (kept.created_as_filed.filed folio right)) earlier)

-- ---- all Created are of earlier filings

by_number : (m : ℕ) (right : RightNo) (w : What) → right.receipt < m → OfCreation (λ made. right.receipt < m) w
by_number m right (what.Created made) earlier = earlier
by_number m right other earlier = tt

all_by_number : (m : ℕ) (right : RightNo) (es : List Entry) → right.receipt < m → CreatesEarlier m right es
all_by_number m right [] earlier = tt
all_by_number m right (e ∷ es) earlier = (by_number m right e.what earlier, all_by_number m right es earlier)

by_receipt : (m folio receipt : ℕ) (right : RightNo) (w : What) → receipt < m → IsCreatedInTime receipt (Right folio right) w → OfCreation (λ made. right.receipt < m) w
by_receipt m folio receipt right (what.Created made) earlier created = omega arith
by_receipt m folio receipt right other earlier created = tt

all_by_receipt : (m folio : ℕ) (right : RightNo) (es : List Entry) → AllByRecursion (λ e. e.receipt < m) es → AllByRecursion (λ e. IsCreatedInTime e.receipt (Right folio right) e.what) es → CreatesEarlier m right es
all_by_receipt m folio right [] earlier created = tt
all_by_receipt m folio right (e ∷ es) earlier created = (by_receipt m folio e.receipt right e.what earlier.0 created.0, all_by_receipt m folio right es earlier.1 created.1)

-- ---- the acts of a filing

-- the receding right of an act that exchanges is of a filing earlier than m
abbrev RecedesEarlier : ℕ → (Key → List Entry) → Act → Type 0
RecedesEarlier m at (Exchange folio recede rise) = CreatesEarlier m recede (at (Right folio recede))
RecedesEarlier m at other = Unit {0}

act_known : (journal : List Receipt) (at : Key → List Entry) (m : ℕ) (act : Act) → Kept journal at → RecedesEarlier m at act → IsKnownExchange journal m at act
act_known journal at m (Exchange folio recede rise) kept earlier = known_at journal at m folio recede kept earlier
act_known journal at m other kept earlier = tt

acts_known : (journal : List Receipt) (at : Key → List Entry) (m : ℕ) (acts : List Act) → Kept journal at → AllByRecursion (RecedesEarlier m at) acts → AllByRecursion (IsKnownExchange journal m at) acts
acts_known journal at m [] kept earlier = tt
acts_known journal at m (act ∷ acts) kept earlier = (act_known journal at m act kept earlier.0, acts_known journal at m acts kept earlier.1)

-- while a filing waits, its acts name rights of earlier filings
waits_earlier : (at : Key → List Entry) (m : ℕ) (act : Act) → NamesEarlier m act → RecedesEarlier m at act
waits_earlier at m (Exchange folio recede rise) named = all_by_number m recede (at (Right folio recede)) (named 0 recede (omega arith))
waits_earlier at m other named = tt

all_wait_earlier : (at : Key → List Entry) (m : ℕ) (acts : List Act) → AllByRecursion (NamesEarlier m) acts → AllByRecursion (RecedesEarlier m at) acts
all_wait_earlier at m [] named = tt
all_wait_earlier at m (act ∷ acts) named = (waits_earlier at m act named.0, all_wait_earlier at m acts named.1)

-- a judge knows the exchanges of a filing that waits at one of its keys
pub known_while_waiting : (journal : List Receipt) (at : Key → List Entry) (m : ℕ) (k : Key) → Kept journal at → Contains (keys_of_filing journal m) k → IsTrue (is_pending m (at k)) → KnowsExchanges journal m at
known_while_waiting journal at m k kept there waits =
    All-from_recursion _ (acts_of journal m) (acts_known journal at m (acts_of journal m) kept
    (all_wait_earlier at m (acts_of journal m) (recursion_from_All _ (acts_of journal m) (kept.pending_everywhere.names_earlier m k there waits))))

-- the receding right of an act is of an earlier filing, where all that stands at the act's keys is by earlier items
earlier_act : (journal : List Receipt) (at : Key → List Entry) (m a : ℕ) (act : Act) → Kept journal at → ((k : Key) → Contains (keys_of_act journal m a act) k → All (λ e. e.receipt < m) (at k)) → RecedesEarlier m at act
earlier_act journal at m a (Exchange folio recede rise) kept earlier =
    let here = at (Right folio recede) in
    all_by_receipt m folio recede here (recursion_from_All _ here (earlier (Right folio recede) (0, omega arith, refl)))
    (recursion_from_All _ here (kept.receipts_rise.created (Right folio recede)))
earlier_act journal at m a other kept earlier = tt

earlier_acts : (journal : List Receipt) (at : Key → List Entry) (m a : ℕ) (acts : List Act) → Kept journal at → ((k : Key) → Contains (keys_of_acts journal m a acts) k → All (λ e. e.receipt < m) (at k)) → AllByRecursion (RecedesEarlier m at) acts
earlier_acts journal at m a [] kept earlier = tt
earlier_acts journal at m a (act ∷ acts) kept earlier = (
  earlier_act journal at m a act kept (λ k there. earlier k (Contains-append_left (keys_of_act journal m a act) (keys_of_acts journal m (a + 1) acts) k there)),
  earlier_acts journal at m (a + 1) acts kept (λ k there. earlier k (Contains-append_right (keys_of_act journal m a act) (keys_of_acts journal m (a + 1) acts) k there)),
)

pub known_when_filed : (journal : List Receipt) (at : Key → List Entry) (m : ℕ) → Kept journal at → ((k : Key) → Contains (keys_of_filing journal m) k → All (λ e. e.receipt < m) (at k)) → KnowsExchanges journal m at
known_when_filed journal at m kept =
    elim (filing_at journal m) as (λ o. ((k : Key) → Contains (option_map_or (λ f. keys_of_acts journal m 1 f.acts) o []) k → All (λ e. e.receipt < m) (at k)) → All (IsKnownExchange journal m at) (option_map_or (λ f. f.acts) o [])) [
      | Some f ↦ λ earlier. All-from_recursion _ f.acts (acts_known journal at m f.acts kept (earlier_acts journal at m 1 f.acts kept earlier))
      | None ↦ λ earlier. All-nil (IsKnownExchange journal m at)
    ]
