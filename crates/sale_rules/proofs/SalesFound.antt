-- When an item finds a sale whose lowest bid can be computed.
use Rattle.std.proofs.Common.{◌≡◌, ℕ, Bool, true, false, cond, not, ◌==◌, ◌+◌, length, ◌||◌, List, [], ◌∷◌, filter, map, slice_get, IsSome, IsTrue, Option, Some, None, is_none, option_and_then, refl, sym, ap, subst, ◌∙◌}
use Rattle.std.specs.List.{list_any}
use Rattle.std.specs.Option.{option_map_or}
use Rattle.std.proofs.lemmas.Bool.{eq-eqb, false≢true}
use Rattle.gb_base.specs.declared.keys.Key.{Key}
use Rattle.gb_base.specs.declared.keys.Key.TheVariants.{Case}
use Rattle.act_model.specs.Receiving.{item_at}
use Rattle.act_model.specs.declared.items.Item.TheVariants as item
use Rattle.act_model.specs.declared.receipts.Receipt.{Receipt}
use Rattle.folio_sections.specs.Cases.{call, case, is_running, is_seizure, seizure_numbers}
use Rattle.folio_sections.specs.Fronts.{below}
use Rattle.folio_sections.specs.declared.entries.Entry.{Entry}
use Rattle.auction_classes.specs.Sales.{IsFound, costs_named, is_of_sale, sale_at}
use Rattle.sale_rules.specs.inner.SalesRead.{found_at}

-- where some entry passes there is a first that does
some_first : (test : Entry → Bool) (of : Entry → ℕ) (es : List Entry) → list_any test es ≡ true → IsSome (slice_get (map of (filter test es)) 0)
some_first test of [] there = absurd (false≢true there)
some_first test of (e ∷ es) there =
    elim (test e) as (λ b. (b || list_any test es) ≡ true → IsSome (slice_get (map of (cond b (e ∷ filter test es) (filter test es))) 0)) [
      | true ↦ λ _. refl
      | false ↦ λ more. some_first test of es more
    ] there

-- a case that runs has a first seizure
runs_first : (es : List Entry) → is_running es ≡ true → IsSome (slice_get (seizure_numbers es) 0)
runs_first es runs = some_first (λ e. is_seizure e.what) (λ e. e.receipt) (case es) runs

is_not : (b : Bool) → not b ≡ false → b ≡ true
is_not true is = refl
is_not false is = absurd (false≢true (sym is))

is_there : {X : Type 0} (o : Option X) → is_none o ≡ false → IsSome o
is_there (Some x) is = refl
is_there None is = absurd (false≢true (sym is))

-- at a key that is held an item finds the entries by earlier items
found_there : (holds : Key → Bool) (at : Key → List Entry) (item : ℕ) (k : Key) → IsTrue (holds k) → found_at holds at item k ≡ below item (at k)
found_there holds at item k held = ap (λ b. below item (cond b (at k) [])) held

case_runs : (holds : Key → Bool) (at : Key → List Entry) (folio item : ℕ) → IsTrue (holds (Case folio)) → not (is_running (found_at holds at item (Case folio))) ≡ false
    → IsSome (slice_get (seizure_numbers (below item (at (Case folio)))) 0)
case_runs holds at folio item held runs =
    runs_first (below item (at (Case folio))) (ap is_running (sym (found_there holds at item (Case folio) held)) ∙ is_not (is_running (found_at holds at item (Case folio))) runs)

-- a call to bid finds a sale that runs
pub call_finds : (journal : List Receipt) (holds : Key → Bool) (at : Key → List Entry) (folio a costs : ℕ) → item_at journal a ≡ Some (item.OpenBids folio costs) → IsTrue (holds (Case folio))
    → not (is_running (found_at holds at a (Case folio))) ≡ false → IsFound (sale_at journal at folio a)
call_finds journal holds at folio a costs is held runs = record {
  item = subst (λ o. IsTrue (option_map_or (is_of_sale folio) o (a == length journal + 1))) (sym is) (eq-eqb folio folio refl);
  runs = case_runs holds at folio a held runs;
  called = subst (λ o. IsSome (option_map_or (λ (cents : ℕ). Some a) (option_and_then costs_named o) (call (below a (at (Case folio)))))) (sym is) refl;
}

-- an award after a call to bid finds a sale that runs
pub award_finds : (journal : List Receipt) (holds : Key → Bool) (at : Key → List Entry) (folio a buyer bid : ℕ) → item_at journal a ≡ Some (item.Award folio buyer bid) → IsTrue (holds (Case folio))
    → not (is_running (found_at holds at a (Case folio))) ≡ false → is_none (call (found_at holds at a (Case folio))) ≡ false → IsFound (sale_at journal at folio a)
award_finds journal holds at folio a buyer bid is held runs called = record {
  item = subst (λ o. IsTrue (option_map_or (is_of_sale folio) o (a == length journal + 1))) (sym is) (eq-eqb folio folio refl);
  runs = case_runs holds at folio a held runs;
  called =
      subst (λ o. IsSome (option_map_or (λ (cents : ℕ). Some a) (option_and_then costs_named o) (call (below a (at (Case folio)))))) (sym is)
      (is_there (call (below a (at (Case folio)))) (ap (λ es. is_none (call es)) (sym (found_there holds at a (Case folio) held)) ∙ called));
}
