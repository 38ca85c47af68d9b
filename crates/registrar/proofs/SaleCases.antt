-- What an item of a forced sale adds to its case goes with it.
use Rattle.std.proofs.Common.{◌≡◌, ⊎_elim, inl, inr, ℕ, ◌<◌, ◌≤◌, nat_lt, Bool, true, false, cond, not, ◌&&◌, ◌||◌, List, [], ◌∷◌, ◌++◌, Any, filter, map, slice_get, IfSome, IsSome, IsSomeAnd, IsTrue, Option, Some, None, is_some, option_and_then, option_map, refl, sym, ap, subst, ◌∙◌, arith}
use Rattle.std.specs.List.{AllByRecursion, list_any}
use Rattle.std.specs.Option.{option_map_or}
use Rattle.std.proofs.lemmas.Bool.{and_parts, cases_lt, false≢true}
use Rattle.std.proofs.lemmas.Bool.Decides.{nat_tests}
use Rattle.std.proofs.lemmas.List.Elements.{recursion_from_All}
use Rattle.gb_base.specs.RightNo.{RightNo, same_right}
use Rattle.gb_base.specs.declared.keys.Key.{Key}
use Rattle.gb_base.specs.declared.keys.Key.TheVariants.{Case, Right, Title}
use Rattle.gb_base.proofs.Members.{In}
use Rattle.gb_base.proofs.SameRights.{others_turned, right_is}
use Rattle.act_model.specs.Acts.{is_in_division_three}
use Rattle.act_model.specs.Receiving.{IsJournal, item_at, receipt_at}
use Rattle.act_model.specs.Touches.{act_at, act_of_right, filing_at, filing_in}
use Rattle.act_model.specs.declared.items.Item.{Item}
use Rattle.act_model.specs.declared.items.Item.TheVariants as item
use Rattle.act_model.specs.declared.receipts.Receipt.{Receipt}
use Rattle.act_model.specs.declared.sales.Basis.{Basis}
use Rattle.act_model.specs.declared.sales.Basis.TheVariants as basis
use Rattle.act_model.specs.declared.sales.Registration.{Registration}
use Rattle.act_model.specs.declared.sales.Registration.TheVariants as registration
use Rattle.auction_classes.specs.Sales.{sale_at}
use Rattle.auction_classes.proofs.KeptSales.{all_of_case, below_twice, created_here}
use Rattle.auction_classes.proofs.PartsRead.{among_filed}
use Rattle.folio_line.specs.AllRights.{is_among}
use Rattle.folio_sections.specs.Cases.{case, is_registration, is_seizure, registrations, seizures}
use Rattle.folio_sections.specs.Entries.{entry_by}
use Rattle.folio_sections.specs.Fronts.{below}
use Rattle.folio_sections.specs.Rights.{created, is_full, is_live, live_right}
use Rattle.folio_sections.specs.Titles.{is_opening}
use Rattle.folio_sections.specs.declared.entries.Created.{Created}
use Rattle.folio_sections.specs.declared.entries.Entry.{Entry}
use Rattle.folio_sections.specs.declared.entries.What.{What}
use Rattle.folio_sections.specs.declared.entries.What.TheVariants as what
use Rattle.folio_sections.proofs.FilteredLists.{all_in, in_all, of_any, of_filter}
use Rattle.kept_registers.specs.Kept.{Kept}
use Rattle.kept_registers.specs.KeptCases.{IsItsItem, IsOpenedBefore, SeizesFromOlder, StandsByItem, arrears_of, register_same_arrears, seized_right}
use Rattle.kept_registers.specs.KeptRights.{IsAsFiled}
use Rattle.registrar.proofs.CasesPushed.{GoesWith}
use Rattle.registrar.proofs.ContainedParts.{any_of, contains_first, contains_later}
use Rattle.registrar.proofs.SaleGroundsFail.{IsRegistrationLetIn, IsSeizureLetIn}
use Rattle.sale_rules.specs.SaleGrounds.{is_filed_later, is_seizable, lacks_case, lacks_right, registers_arrears, repeats_arrears}

-- ---- lists and tests

or_fails : (a b : Bool) → (a || b) ≡ false → (a ≡ false) × (b ≡ false)
or_fails true b fails = absurd (false≢true (sym fails))
or_fails false b fails = (refl, fails)

never : (o : Option RightNo) → option_map_or (λ (r : RightNo). false) o false ≡ false
never None = refl
never (Some r) = refl

not_false : (b : Bool) → not b ≡ false → b ≡ true
not_false true is = refl
not_false false is = absurd (false≢true (sym is))

and_between : (a b c : Bool) → b ≡ false → (a && b && c) ≡ false
and_between true b c is = ap (λ x. x && c) is
and_between false b c is = refl

and_last : (a b c : Bool) → c ≡ false → (a && b && c) ≡ false
and_last true true c is = is
and_last true false c is = refl
and_last false b c is = refl

each_first : (P : Entry → Type 0) (xs : List Entry) (e : Entry) → ((first : Entry) → P first) → IfSome (slice_get (xs ++ e ∷ []) 0) P
each_first P [] e each = each e
each_first P (x ∷ xs) e each = each x

some_first : (p : Entry → Bool) (xs : List Entry) → list_any p xs ≡ true → IsSome (slice_get xs 0)
some_first p [] any = absurd (false≢true any)
some_first p (x ∷ xs) any = refl

each_entry : (P : Entry → Type 0) (xs : List Entry) → ((d : Entry) → P d) → AllByRecursion P xs
each_entry P [] each = tt
each_entry P (x ∷ xs) each = (each x, each_entry P xs each)

-- what stands in a list it contains
any_from : {X : Type 0} (P : X → Type 0) (xs : List X) (x : X) → In x xs → P x → Any P xs
any_from P (y ∷ ys) x there has =
    ⊎_elim (λ first. any_of P (y ∷ ys) y (contains_first y ys) (subst P (sym first) has))
    (λ later. let rest = any_from P ys x later has in any_of P (y ∷ ys) rest.1 (contains_later y ys rest.1 (rest.0, rest.2, rest.3)) rest.4) there
any_from P [] x there has = absurd there

-- ---- no content but a seizure seizes, none but a registration registers

-- an entry that is no registration registers no arrears again
quiet_arrears : (journal : List Receipt) (xs : List Entry) (e : Entry) → is_registration e.what ≡ false → AllByRecursion (λ d. register_same_arrears journal d e ≡ false) xs
quiet_arrears journal xs e none = each_entry (λ d. register_same_arrears journal d e ≡ false) xs (λ d. and_between (is_registration d.what) (is_registration e.what) _ none)

-- an entry that is neither a seizure nor a registration goes with a case that runs
goes_where_running : (journal : List Receipt) (xs : List Entry) (e : Entry) → is_seizure e.what ≡ false → list_any (λ d. is_seizure d.what) xs ≡ true
    → is_registration e.what ≡ false → GoesWith journal xs e
goes_where_running journal xs e none runs unregistered = record {
  begins = inl (some_first (λ d. is_seizure d.what) xs runs);
  seizures = λ seizes. absurd (false≢true (sym none ∙ seizes));
  registrations = λ registers. absurd (false≢true (sym unregistered ∙ registers));
  arrears = quiet_arrears journal xs e unregistered;
  older = each_first (λ first. SeizesFromOlder journal first.receipt e) xs e (λ first seizes. absurd (false≢true (sym none ∙ seizes)));
}

-- ---- the right from which is seized

-- a live right was created before the item
created_of_live : (es : List Entry) → is_some (live_right es) ≡ true → IsSomeAnd (created es) (λ made. created es ≡ Some made)
created_of_live es some =
    elim (is_live es) as (λ b. is_some (cond b (created es) None) ≡ true → IsSomeAnd (created es) (λ made. created es ≡ Some made)) [
      | false ↦ λ none. absurd (false≢true none)
      | true ↦ λ there. elim (created es) as (λ o. created es ≡ o → is_some o ≡ true → IsSomeAnd o (λ made. created es ≡ Some made)) [
        | None ↦ λ _ none. absurd (false≢true none)
        | Some made ↦ λ is _. is
      ] refl there
    ] some

some_of_map : {X : Type 0} (f : X → Bool) (o : Option X) → option_map_or f o false ≡ true → is_some o ≡ true
some_of_map f None is = is
some_of_map f (Some x) is = refl

pub seizable_created : (es : List Entry) → is_seizable es ≡ true → IsSomeAnd (created es) (λ made. created es ≡ Some made)
seizable_created es is =
    created_of_live es (some_of_map (λ (made : Created). is_in_division_three made.spec.kind) (live_right es) (and_parts (is_full es) (option_map_or (λ (made : Created). is_in_division_three made.spec.kind) (live_right es) false) is).1)

-- each right that stays in a list by a test passes the test
among_passes : (p : RightNo → Bool) (xs : List RightNo) (id : RightNo) → is_among (filter p xs) id ≡ true → p id ≡ true
among_passes p xs id is =
    let found = of_any (same_right id) (filter p xs) is in
    ap p (right_is id found.0 found.2) ∙ (of_filter p xs found.0 found.1).1

-- no receipt is both a seizure and a filing
not_both : (folio : ℕ) (o : Option Receipt) → IsSomeAnd (option_map (λ (r : Receipt). r.item) o) (IsItsItem folio what.Seized) → is_some (option_and_then (λ (r : Receipt). filing_in r.item) o) ≡ true → ⊥
not_both folio None its some = absurd its
not_both folio (Some r) its some = by r.item its some
  where
    by : (w : Item) → IsItsItem folio what.Seized w → is_some (filing_in w) ≡ true → ⊥
    by (item.Seize f b served) same filed = absurd (false≢true filed)
    by other same filed = absurd same

filing_of_act : (journal : List Receipt) (right : RightNo) → is_some (act_of_right journal right) ≡ true → is_some (filing_at journal right.receipt) ≡ true
filing_of_act journal right some =
    elim (filing_at journal right.receipt) as (λ o. is_some (option_and_then (λ f. act_at f right.act) o) ≡ true → is_some o ≡ true) [
      | None ↦ λ none. none
      | Some f ↦ λ _. refl
    ] some

seized_by_item : (journal : List Receipt) (folio receipt : ℕ) (w : What) → StandsByItem journal folio receipt w → is_seizure w ≡ true → IsSomeAnd (item_at journal receipt) (IsItsItem folio what.Seized)
seized_by_item journal folio receipt what.Seized stands is = stands
seized_by_item journal folio receipt other stands is = absurd (false≢true is)

-- a right that is not of a later receipt than the first seizure, nor of the same, is older than it
older_than_first : (right : RightNo) (xs : List Entry) (e : Entry) → right.receipt < e.receipt → IfSome (slice_get xs 0) (λ d. IsTrue (is_seizure d.what))
    → option_map_or (λ first. nat_lt first right.receipt) (slice_get (map (λ (d : Entry). d.receipt) (filter (λ d. is_seizure d.what) xs)) 0) false ≡ false
    → AllByRecursion (λ d. is_seizure d.what ≡ true → d.receipt ≡ right.receipt → ⊥) xs
    → IfSome (slice_get (xs ++ e ∷ []) 0) (λ first. right.receipt < first.receipt)
older_than_first right [] e less begins behind apart = less
older_than_first right (x ∷ xs) e less begins behind apart =
    let numbers : List Entry → List ℕ = λ ys. map (λ (d : Entry). d.receipt) ys in
    let rest = filter (λ d. is_seizure d.what) xs in
    let first : nat_lt x.receipt right.receipt ≡ false = sym (ap (λ b. option_map_or (λ n. nat_lt n right.receipt) (slice_get (numbers (cond b (x ∷ rest) rest)) 0) false) begins) ∙ behind in
    let up : right.receipt ≤ x.receipt = grind (arith, nat_tests, first) in
    ⊎_elim (λ before. before) (λ from. absurd (apart.0 begins (omega (arith, up, from)))) (cases_lt right.receipt x.receipt)

-- ---- what is read of the receipts before the item is what stands

module _ (journal : List Receipt) (register : Key → List Entry) (folio i : ℕ) (kept : Kept journal register) (stands : IsJournal journal)
    (whole : below i (register (Case folio)) ≡ register (Case folio)) where
  running : lacks_case (sale_at journal register folio i) ≡ false → list_any (λ d. is_seizure d.what) (case (register (Case folio))) ≡ true
  running fails = ap (λ es. list_any (λ (d : Entry). is_seizure d.what) (case es)) (sym whole) ∙ not_false _ fails

  -- a call to bid and an award go with a case that runs
  pub goes_on : (e : Entry) → is_seizure e.what ≡ false → is_registration e.what ≡ false → lacks_case (sale_at journal register folio i) ≡ false
      → GoesWith journal (case (register (Case folio))) e
  goes_on e seizes registers fails = goes_where_running journal (case (register (Case folio))) e seizes (running fails) registers

  -- ---- registrations

  -- arrears that no registration of the case registers
  arrears_apart : (r : Registration) (late : Entry) → item_at journal late.receipt ≡ Some (item.Register folio r) → repeats_arrears (sale_at journal register folio i) r ≡ false
      → (d : Entry) → In d (case (register (Case folio))) → register_same_arrears journal d late ≡ false
  arrears_apart (registration.Arrears right from until) late is again d there =
      elim (is_registration d.what) as (λ b. is_registration d.what ≡ b → (b && is_registration late.what && option_map_or (λ r. option_map_or (same_right r) (option_and_then arrears_of (item_at journal late.receipt)) false) (option_and_then arrears_of (item_at journal d.receipt)) false) ≡ false) [
        | false ↦ λ _. refl
        | true ↦ λ registers.
            let among = in_numbers registers in
            and_last true (is_registration late.what) _
            (subst (λ o. option_map_or (λ r. option_map_or (same_right r) (option_and_then arrears_of o) false) (option_and_then arrears_of (item_at journal d.receipt)) false ≡ false) (sym is)
            (turned (option_and_then arrears_of (item_at journal d.receipt)) among))
      ] refl
    where
      turned : (o : Option RightNo) → option_map_or (same_right right) o false ≡ false → option_map_or (λ r. same_right r right) o false ≡ false
      turned None apart = refl
      turned (Some r) apart = others_turned right r apart

      none_of : (p : ℕ → Bool) (xs : List Entry) → list_any p (map (λ (y : Entry). y.receipt) (filter (λ y. is_registration y.what) xs)) ≡ false
          → In d xs → is_registration d.what ≡ true → p d.receipt ≡ false
      none_of p (x ∷ xs) none here registers =
          let numbers : List Entry → List ℕ = λ ys. map (λ (y : Entry). y.receipt) ys in
          let rest = filter (λ (y : Entry). is_registration y.what) xs in
          elim (is_registration x.what) as (λ b. is_registration x.what ≡ b → list_any p (numbers (cond b (x ∷ rest) rest)) ≡ false → p d.receipt ≡ false) [
            | true ↦ λ _ fails.
                let both = or_fails (p x.receipt) (list_any p (numbers rest)) fails in
                ⊎_elim (λ first. ap (λ (y : Entry). p y.receipt) (sym first) ∙ both.0) (λ later. none_of p xs both.1 later registers) here
            | false ↦ λ other fails. ⊎_elim (λ first. absurd (false≢true (sym other ∙ ap (λ (y : Entry). is_registration y.what) first ∙ registers))) (λ later. none_of p xs fails later registers) here
          ] refl none
      none_of p [] none here registers = absurd here

      in_numbers : is_registration d.what ≡ true → option_map_or (same_right right) (option_and_then arrears_of (item_at journal d.receipt)) false ≡ false
      in_numbers registers =
          none_of (registers_arrears (sale_at journal register folio i) right) (case (register (Case folio)))
          (ap (λ es. list_any (registers_arrears (sale_at journal register folio i) right) (map (λ (y : Entry). y.receipt) (filter (λ y. is_registration y.what) (case es)))) (sym whole) ∙ again)
          there registers
  arrears_apart (registration.Advance person amount) late is again d there =
      and_last (is_registration d.what) (is_registration late.what) _
      (subst (λ o. option_map_or (λ r. option_map_or (same_right r) (option_and_then arrears_of o) false) (option_and_then arrears_of (item_at journal d.receipt)) false ≡ false) (sym is)
      (never (option_and_then arrears_of (item_at journal d.receipt))))
  arrears_apart (registration.PublicCharge person amount due) late is again d there =
      and_last (is_registration d.what) (is_registration late.what) _
      (subst (λ o. option_map_or (λ r. option_map_or (same_right r) (option_and_then arrears_of o) false) (option_and_then arrears_of (item_at journal d.receipt)) false ≡ false) (sym is)
      (never (option_and_then arrears_of (item_at journal d.receipt))))

  pub registration_goes : (r : Registration) → item_at journal i ≡ Some (item.Register folio r) → IsRegistrationLetIn (sale_at journal register folio i) r
      → GoesWith journal (case (register (Case folio))) (entry_by journal i (Case folio) what.Registered)
  registration_goes r is let_in =
      let e = entry_by journal i (Case folio) what.Registered in
      let count : registrations (below i (register (Case folio))) ≡ registrations (register (Case folio)) = ap registrations whole in
      let many = let_in.many in
      record {
        begins = inl (some_first (λ d. is_seizure d.what) (case (register (Case folio))) (running let_in.runs));
        seizures = λ seizes. absurd (false≢true seizes);
        registrations = λ _. grind (arith, nat_tests, many, count);
        arrears = all_in (λ d. register_same_arrears journal d e ≡ false) (case (register (Case folio))) (λ d there. arrears_apart r e is let_in.again d there);
        older = each_first (λ first. SeizesFromOlder journal first.receipt e) (case (register (Case folio))) e (λ first seizes. absurd (false≢true seizes));
      }

  -- ---- seizures

  -- the right from which is seized is of an earlier filing, and of no seizure's receipt
  pub right_of_filing : (right : RightNo) (made : Created) → created (below i (register (Right folio right))) ≡ Some made → (right.receipt < i) × (is_some (filing_at journal right.receipt) ≡ true)
  right_of_filing right made is =
      let once = ap created (below_twice i i (register (Right folio right)) (omega arith)) in
      let among = among_filed journal register folio i i right made kept stands (omega arith) (once ∙ is) in
      let less = among_passes (λ id. nat_lt id.receipt i) _ right among in
      let here = created_here journal register folio i i right made kept (once ∙ is) in
      (grind (arith, nat_tests, less), filing_of_act journal right (there_act (IsAsFiled folio made) (act_of_right journal right) here.filed))
    where
      there_act : {X : Type 0} (P : X → Type 0) (o : Option X) → IsSomeAnd o P → is_some o ≡ true
      there_act P (Some x) has = refl
      there_act P None none = absurd none

  seized_apart : (right : RightNo) → is_some (filing_at journal right.receipt) ≡ true → (d : Entry) → In d (case (register (Case folio))) → is_seizure d.what ≡ true → d.receipt ≡ right.receipt → ⊥
  seized_apart right filed d there seizes same =
      let items = recursion_from_All (λ (e : Entry). StandsByItem journal folio e.receipt e.what) (case (register (Case folio))) (all_of_case (λ e. StandsByItem journal folio e.receipt e.what) (register (Case folio)) (kept.case_in_order.items folio)) in
      let stand = in_all (λ (e : Entry). StandsByItem journal folio e.receipt e.what) (case (register (Case folio))) d items there in
      let by = subst (λ n. IsSomeAnd (item_at journal n) (IsItsItem folio what.Seized)) same (seized_by_item journal folio d.receipt d.what stand seizes) in
      not_both folio (receipt_at journal right.receipt) by filed

  older_right : (b : Basis) → lacks_right (sale_at journal register folio i) b ≡ false → is_filed_later (sale_at journal register folio i) b ≡ false
      → (served : ℕ) → item_at journal i ≡ Some (item.Seize folio b served)
      → IfSome (slice_get (case (register (Case folio)) ++ entry_by journal i (Case folio) what.Seized ∷ []) 0) (λ first. SeizesFromOlder journal first.receipt (entry_by journal i (Case folio) what.Seized))
  older_right (basis.Personal creditor claim) right behind served is =
      each_first (λ first. SeizesFromOlder journal first.receipt (entry_by journal i (Case folio) what.Seized)) (case (register (Case folio))) (entry_by journal i (Case folio) what.Seized)
      (λ first _. subst (λ o. IfSome (option_and_then seized_right o) (λ id. id.receipt < first.receipt)) (sym is) tt)
  older_right (basis.FromRight id) right behind served is =
      let e = entry_by journal i (Case folio) what.Seized in
      let es = below i (register (Right folio id)) in
      let found = seizable_created es (not_false (is_seizable es) right) in
      elim (created es) as (λ o. created es ≡ o → IsSomeAnd o (λ made. created es ≡ Some made) → IfSome (slice_get (case (register (Case folio)) ++ e ∷ []) 0) (λ first. SeizesFromOlder journal first.receipt e)) [
        | None ↦ λ _ none. absurd none
        | Some made ↦ λ there _.
            let its = right_of_filing id made there in
            let least : IfSome (slice_get (case (register (Case folio))) 0) (λ d. IsTrue (is_seizure d.what)) =
            subst (λ xs. IfSome (slice_get (case xs) 0) (λ (d : Entry). IsTrue (is_seizure d.what))) whole (kept.case_in_order.begins folio i) in
            let first = older_than_first id (case (register (Case folio))) e its.0 least
            (ap (λ xs. option_map_or (λ n. nat_lt n id.receipt) (slice_get (map (λ (d : Entry). d.receipt) (filter (λ d. is_seizure d.what) (case xs))) 0) false) (sym whole) ∙ behind)
            (all_in (λ d. is_seizure d.what ≡ true → d.receipt ≡ id.receipt → ⊥) (case (register (Case folio))) (λ d here. seized_apart id its.1 d here)) in
            weaker (slice_get (case (register (Case folio)) ++ e ∷ []) 0) first
      ] refl found
    where
      weaker : (o : Option Entry) → IfSome o (λ first. id.receipt < first.receipt) → IfSome o (λ first. SeizesFromOlder journal first.receipt (entry_by journal i (Case folio) what.Seized))
      weaker None less = tt
      weaker (Some first) less = λ _. subst (λ o. IfSome (option_and_then seized_right o) (λ r. r.receipt < first.receipt)) (sym is) less

  pub seizure_goes : (b : Basis) (served : ℕ) → item_at journal i ≡ Some (item.Seize folio b served) → IsSeizureLetIn (sale_at journal register folio i) b
      → GoesWith journal (case (register (Case folio))) (entry_by journal i (Case folio) what.Seized)
  seizure_goes b served is let_in =
      let e = entry_by journal i (Case folio) what.Seized in
      let count : seizures (below i (register (Case folio))) ≡ seizures (register (Case folio)) = ap seizures whole in
      let many = let_in.many in
      record {
        begins = inr refl;
        seizures = λ _. grind (arith, nat_tests, many, count);
        registrations = λ registers. absurd (false≢true registers);
        arrears = quiet_arrears journal (case (register (Case folio))) e refl;
        older = older_right b let_in.right let_in.behind served is;
      }

  -- the folio was opened before it
  pub seizure_opened : (b : Basis) → IsSeizureLetIn (sale_at journal register folio i) b → IsOpenedBefore i (register (Title folio))
  seizure_opened b let_in =
      let found = of_any (λ (o : Entry). is_opening o.what) (below i (register (Title folio))) (not_false _ let_in.folio) in
      let from = of_filter (λ (o : Entry). nat_lt o.receipt i) (register (Title folio)) found.0 found.1 in
      let earlier = from.1 in
      any_from (λ o. IsTrue (is_opening o.what) × (o.receipt < i)) (register (Title folio)) found.0 from.0 (found.2, grind (arith, nat_tests, earlier))
