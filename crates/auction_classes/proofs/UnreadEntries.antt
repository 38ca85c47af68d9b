-- Entries that come to a right and say nothing of it, such as the end of a filing's waiting, change nothing of what is claimed in a sale.
use Rattle.std.proofs.Common.{◌≡◌, ℕ, ◌+◌, Bool, false, cond, not, ◌&&◌, ◌||◌, ◌==◌, nat_le, List, [], ◌∷◌, ◌++◌, filter, filter_map, find, flat_map, fold, map, Option, Some, None, is_some, option_and_then, option_map, refl, ap, subst, sym, ◌∙◌}
use Rattle.std.specs.List.{AllByRecursion, cons_option, list_any}
use Rattle.std.specs.Option.{option_map_or, option_or}
use Rattle.std.proofs.lemmas.List.Elements.{filter-append}
use Rattle.std.proofs.lemmas.List.Sums.{fold-append}
use Rattle.gb_base.specs.RightNo.{RightNo, same_right}
use Rattle.gb_base.specs.declared.keys.Key.{Key}
use Rattle.gb_base.specs.declared.keys.Key.TheVariants.{Case, Right, Title}
use Rattle.act_model.specs.declared.receipts.Receipt.{Receipt}
use Rattle.act_model.specs.declared.sales.Basis.{Basis}
use Rattle.act_model.specs.declared.sales.Basis.TheVariants as basis
use Rattle.folio_line.specs.Exchanges.{counted_exchanges, counted_exercises, in_turn, is_cancellation_by_consent, is_spent_on, keeps_cents, rise_by}
use Rattle.folio_line.specs.FolioRights.{by_group, in_groups, live_by_act, live_rights}
use Rattle.folio_line.specs.FolioSlots.{filled_by, recedes}
use Rattle.folio_line.specs.declared.exchanges.Exchange.{Exchange}
use Rattle.folio_line.specs.declared.folio_rights.CreatedRight.{CreatedRight}
use Rattle.rank_slots.specs.declared.places.Knot.{Knot}
use Rattle.folio_sections.specs.Fronts.{below}
use Rattle.folio_sections.specs.HeldRights.{receipt_numbers, rights_of_filing}
use Rattle.folio_sections.specs.Rights.{capital, created, created_by, entered_by, entered_on, holder, is_conversion, is_full, is_full_form, is_live, live_by, new_holder_by, remaining_by}
use Rattle.folio_sections.specs.declared.entries.Created.{Created}
use Rattle.folio_sections.specs.declared.entries.Entry.{Entry}
use Rattle.folio_sections.specs.declared.entries.RightForm.TheVariants as form
use Rattle.folio_sections.specs.declared.entries.What.{What}
use Rattle.folio_sections.specs.declared.entries.What.TheVariants as what
use Rattle.folio_sections.proofs.FilteredLists.{all_filtered}
use Rattle.auction_classes.specs.Claims.{at_right, claims_by, in_order, in_row, owners_named, right_found, rights_found}
use Rattle.auction_classes.specs.ClassLines.{claim_in_class, exchanges_of_class, exercises_of_class, groups_of_class, line_of_class}
use Rattle.auction_classes.specs.Interest.{rate_of}
use Rattle.auction_classes.specs.SaleClaims.{claimed_in, is_basis_standing, of_class_four, seized_for}
use Rattle.auction_classes.specs.Sales.{Sale, read, read_before, registrations_found, sale_at, seizures_found}
use Rattle.auction_classes.specs.inner.Findings.{class_by, finding_of, right_by}
use Rattle.auction_classes.specs.declared.case_items.Seizure.{Seizure}
use Rattle.auction_classes.specs.inner.CaseSales.{sale_of_case}

-- ---- contents that say nothing of a right

-- the content neither creates, converts, assigns, cancels, exchanges or exercises the right, nor says what is left of it
abbrev pub IsUnread : What → Type 0
IsUnread (what.Created made) = ⊥
IsUnread what.Converted = ⊥
IsUnread (what.Holder person) = ⊥
IsUnread (what.Cancelled expired) = ⊥
IsUnread (what.Exchanged recede rise act) = ⊥
IsUnread (what.Exercised by) = ⊥
IsUnread (what.Remains capital) = ⊥
IsUnread what.Expired = ⊥
IsUnread other = Unit {0}

created_as_before : (before : Option Created) (w : What) → IsUnread w → created_by before w ≡ before
created_as_before before (what.Created made) unread = absurd unread
created_as_before before other unread = refl

entered_as_before : (day : ℕ) (before : Option ℕ) (w : What) → IsUnread w → entered_by day before w ≡ before
entered_as_before day before (what.Created made) unread = absurd unread
entered_as_before day before other unread = refl

live_as_before : (before : Bool) (w : What) → IsUnread w → live_by before w ≡ before
live_as_before before (what.Created made) unread = absurd unread
live_as_before before (what.Cancelled expired) unread = absurd unread
live_as_before before what.Expired unread = absurd unread
live_as_before before other unread = refl

holder_as_before : (before : Option ℕ) (w : What) → IsUnread w → new_holder_by before w ≡ before
holder_as_before before (what.Holder person) unread = absurd unread
holder_as_before before other unread = refl

capital_as_before : (before : Option ℕ) (w : What) → IsUnread w → remaining_by before w ≡ before
capital_as_before before (what.Remains capital) unread = absurd unread
capital_as_before before other unread = refl

no_conversion : (w : What) → IsUnread w → is_conversion w ≡ false
no_conversion what.Converted unread = absurd unread
no_conversion other unread = refl

no_cancellation : (w : What) → IsUnread w → is_cancellation_by_consent w ≡ false
no_cancellation (what.Cancelled expired) unread = absurd unread
no_cancellation other unread = refl

no_exercise : (id : RightNo) (w : What) → IsUnread w → is_spent_on id w ≡ false
no_exercise id (what.Exercised by) unread = absurd unread
no_exercise id other unread = refl

no_rise : (id : RightNo) (n : ℕ) (w : What) → IsUnread w → rise_by id n w ≡ None
no_rise id n (what.Exchanged recede rise act) unread = absurd unread
no_rise id n other unread = refl

-- ---- entries of such contents, behind others

abbrev pub AllUnread : List Entry → Type 0
AllUnread es = AllByRecursion (λ e. IsUnread e.what) es

-- such entries change nothing of a fold
folded : {A : Type 0} (f : A → Entry → A) (start : A) (xs ys : List Entry) → ((before : A) (e : Entry) → IsUnread e.what → f before e ≡ before) → AllUnread ys
    → fold f start (xs ++ ys) ≡ fold f start xs
folded {A} f start xs ys stays all = fold-append f start xs ys ∙ on (fold f start xs) ys all
  where
    on : (before : A) (zs : List Entry) → AllUnread zs → fold f before zs ≡ before
    on before [] unread = refl
    on before (z ∷ zs) unread = ap (λ b. fold f b zs) (stays before z unread.0) ∙ on before zs unread.1

-- such entries change nothing of whether a test holds of some entry
tested : (p : Entry → Bool) (xs ys : List Entry) → ((e : Entry) → IsUnread e.what → p e ≡ false) → AllUnread ys → list_any p (xs ++ ys) ≡ list_any p xs
tested p [] [] fails all = refl
tested p [] (y ∷ ys) fails all = λ j. fails y all.0 j || tested p [] ys fails all.1 j
tested p (x ∷ xs) ys fails all = ap (λ b. p x || b) (tested p xs ys fails all)

-- nothing is found in such entries
found : {X : Type 0} (f : Entry → Option X) (xs ys : List Entry) → ((e : Entry) → IsUnread e.what → f e ≡ None) → AllUnread ys → filter_map f (xs ++ ys) ≡ filter_map f xs
found f [] [] none all = refl
found f [] (y ∷ ys) none all = λ j. cons_option (none y all.0 j) (found f [] ys none all.1 j)
found f (x ∷ xs) ys none all = ap (cons_option (f x)) (found f xs ys none all)

-- ---- a right that is read as before

-- all that a sale reads of the entries at a right
pub record IsReadSame (x y : List Entry) : Type 0 where
  pub made : created y ≡ created x
  pub live : is_live y ≡ is_live x
  pub full : is_full y ≡ is_full x
  pub person : holder y ≡ holder x
  pub cents : capital y ≡ capital x
  pub entered : entered_on y ≡ entered_on x
  pub kept : keeps_cents y ≡ keeps_cents x
  pub rises : (id : RightNo) → filter_map (λ e. rise_by id e.receipt e.what) y ≡ filter_map (λ e. rise_by id e.receipt e.what) x
  pub spent : (id : RightNo) → list_any (λ e. is_spent_on id e.what) y ≡ list_any (λ e. is_spent_on id e.what) x

pub read_same : (xs ys : List Entry) → AllUnread ys → IsReadSame xs (xs ++ ys)
read_same xs ys all =
    let made : created (xs ++ ys) ≡ created xs = folded (λ b (e : Entry). created_by b e.what) None xs ys (λ b e is. created_as_before b e.what is) all in
    let live : is_live (xs ++ ys) ≡ is_live xs = folded (λ b (e : Entry). live_by b e.what) false xs ys (λ b e is. live_as_before b e.what is) all in
    let converted = tested (λ (e : Entry). is_conversion e.what) xs ys (λ e is. no_conversion e.what is) all in
    let consented = tested (λ (e : Entry). is_cancellation_by_consent e.what) xs ys (λ e is. no_cancellation e.what is) all in
    let holders = folded (λ b (e : Entry). new_holder_by b e.what) None xs ys (λ b e is. holder_as_before b e.what is) all in
    let amounts = folded (λ b (e : Entry). remaining_by b e.what) None xs ys (λ b e is. capital_as_before b e.what is) all in
    record {
      made = made;
      live = live;
      full = λ j. is_full_form (option_map (λ m. cond (converted j) form.Full m.form) (made j));
      person = λ j. option_or (holders j) (option_map (λ m. m.spec.holder) (made j));
      cents = λ j. option_or (amounts j) (option_map (λ m. m.spec.capital) (made j));
      entered = folded (λ b (e : Entry). entered_by e.day b e.what) None xs ys (λ b e is. entered_as_before e.day b e.what is) all;
      kept = λ j. live j || (is_some (made j) && consented j);
      rises = λ id. found (λ (e : Entry). rise_by id e.receipt e.what) xs ys (λ e is. no_rise id e.receipt e.what is) all;
      spent = λ id. tested (λ (e : Entry). is_spent_on id e.what) xs ys (λ e is. no_exercise id e.what is) all;
    }

-- ---- a sale whose rights are read as before

-- the entries are those before, with some behind them that say nothing of a right
pub record GrowsUnread (x y : List Entry) : Type 0 where
  pub more : List Entry
  pub is : y ≡ x ++ more
  pub unread : AllUnread more

pub grown_same : (x y : List Entry) → GrowsUnread x y → IsReadSame x y
grown_same x y grows = subst (IsReadSame x) (sym grows.is) (read_same x grows.more grows.unread)

-- the entries before a receipt have grown so too
pub grown_below : (n : ℕ) (x y : List Entry) → GrowsUnread x y → GrowsUnread (below n x) (below n y)
grown_below n x y grows = record {
  more = below n grows.more;
  is = ap (below n) grows.is ∙ filter-append _ x grows.more;
  unread = all_filtered (λ (e : Entry). IsUnread e.what) _ grows.more grows.unread;
}

module _ (s0 s1 : Sale) (finding : finding_of s1 ≡ finding_of s0) (registrations : registrations_found s1 ≡ registrations_found s0) (seizures : seizures_found s1 ≡ seizures_found s0)
    (title : read s1 (Title s1.folio) ≡ read s0 (Title s0.folio)) (rights : (id : RightNo) → IsReadSame (at_right s0 id) (at_right s1 id)) where
  live_same : live_rights (read s1) s1.folio ≡ live_rights (read s0) s0.folio
  live_same = λ j. flat_map (λ m. by_group (filter_map (λ (id : RightNo). option_map (λ made. record { id = id; made = made }) (cond ((rights id).live j) ((rights id).made j) None)) (rights_of_filing m))) receipt_numbers

  acts_same : live_by_act (read s1) s1.folio ≡ live_by_act (read s0) s0.folio
  acts_same = λ j. flat_map (λ m. filter_map (λ (id : RightNo). option_map (λ made. record { id = id; made = made }) (cond ((rights id).live j) ((rights id).made j) None)) (rights_of_filing m)) receipt_numbers

  found_same : (x : CreatedRight) → right_found s1 x ≡ right_found s0 x
  found_same x = λ j.
      right_by
      (record {
        capital = option_map_or (λ c. c) ((rights x.id).cents j) 0;
        rate = rate_of x.made.spec.kind;
        entered = option_map_or (λ day. day) ((rights x.id).entered j) 0;
        sale = (finding j).sale;
        current_from = (finding j).current_from;
        arrears_from = (finding j).arrears_from;
      })
      (class_by (finding j).seized x.id) (option_map_or (λ p. p) ((rights x.id).person j) 0) (registrations j) x

  rights_same : map (right_found s1) (rights_found s1) ≡ map (right_found s0) (rights_found s0)
  rights_same = λ j. map (λ x. found_same x j) (live_same j)

  standing_same : (b : Basis) → is_basis_standing (at_right s1) b ≡ is_basis_standing (at_right s0) b
  standing_same (basis.Personal creditor claim) = refl
  standing_same (basis.FromRight right) = λ j. (rights right).live j && (rights right).full j

  seized_same : map (seized_for s1) (seizures_found s1) ≡ map (seized_for s0) (seizures_found s0)
  seized_same = λ j. map (λ (z : Seizure). record { basis = z.basis; served = nat_le (z.served + 28) (finding j).sale && standing_same z.basis j }) (seizures j)

  -- ---- the lines

  counted_same : counted_exchanges (read s1) s1.folio ≡ counted_exchanges (read s0) s0.folio
  counted_same = λ j. in_turn (flat_map (λ (x : CreatedRight). filter (λ (y : Exchange). (rights y.recede).kept j) ((rights x.id).rises x.id j)) (live_same j))

  exercised_same : counted_exercises (read s1) s1.folio ≡ counted_exercises (read s0) s0.folio
  exercised_same = λ j. filter_map (λ (x : CreatedRight). option_and_then (λ (id : RightNo). cond ((rights id).live j && (rights id).spent x.id j) (Some (record { reserved = id; exercised = x.id })) None) x.made.ahead_of) (acts_same j)

  exchanges_same : (class : ℕ) → exchanges_of_class s1 class ≡ exchanges_of_class s0 class
  exchanges_same class = λ j. filter (λ (x : Exchange). class_by (finding j).seized x.recede == class && class_by (finding j).seized x.rise == class) (counted_same j)

  exercises_same : (class : ℕ) → exercises_of_class s1 class ≡ exercises_of_class s0 class
  exercises_same class = λ j. filter (λ (k : Knot). class_by (finding j).seized k.reserved == class && class_by (finding j).seized k.exercised == class) (exercised_same j)

  groups_same : (class : ℕ) → groups_of_class s1 class ≡ groups_of_class s0 class
  groups_same class = λ j.
      flat_map (λ m. in_groups (filter_map (λ (id : RightNo). option_map (λ made. record { id = id; made = made })
      (cond (class_by (finding j).seized id == class && ((rights id).live j || recedes (exchanges_same class j) id)) ((rights id).made j) None)) (rights_of_filing m))) receipt_numbers

  claim_same : (class : ℕ) (id : RightNo) → claim_in_class s1 class id ≡ claim_in_class s0 class id
  claim_same class id = λ j.
      option_map_or (λ x. (found_same x j).interest) (find (λ (x : CreatedRight). same_right x.id id) (filter (λ (x : CreatedRight). class_by (finding j).seized x.id == class) (live_same j))) 0
      + option_map_or (λ c. c) ((rights id).cents j) 0

  line_same : (class : ℕ) → line_of_class s1 class ≡ line_of_class s0 class
  line_same class = λ j. filled_by (λ id. claim_same class id j) (λ id. not ((rights id).live j)) (groups_same class j) (exchanges_same class j) (exercises_same class j)

  -- all that is claimed
  claimed_same : claimed_in s1 ≡ claimed_in s0
  claimed_same = λ j. record {
    items = in_row (in_order (claims_by (finding j).year (registrations j) (seizures j) (rights_same j)));
    costs = (finding j).costs;
    owners = owners_named (title j);
    seizures = seized_same j;
    rights = of_class_four (rights_same j);
    line_four = line_same 4 j;
    line_six = line_same 6 j;
  }

-- So two registers have the same claims in the sale where they agree at the case and at the title, and the one has only such entries more
-- at the rights.
pub claimed_grown : (journal : List Receipt) (at0 at1 : Key → List Entry) (folio i : ℕ) → below i (at1 (Case folio)) ≡ below i (at0 (Case folio)) → below i (at1 (Title folio)) ≡ below i (at0 (Title folio))
    → ((id : RightNo) → GrowsUnread (below i (at0 (Right folio id))) (below i (at1 (Right folio id))))
    → claimed_in (sale_at journal at1 folio i) ≡ claimed_in (sale_at journal at0 folio i)
claimed_grown journal at0 at1 folio i case title grows =
    let s0 = sale_at journal at0 folio i in
    let s1 = sale_at journal at1 folio i in
    let finding : finding_of s1 ≡ finding_of s0 = λ j. finding_of (sale_of_case journal (case j) i) in
    let rights : (id : RightNo) → IsReadSame (at_right s0 id) (at_right s1 id) = λ id.
    subst (λ n. IsReadSame (at_right s0 id) (below n (below i (at1 (Right folio id))))) (sym (ap (λ f. f.before) finding))
    (grown_same (at_right s0 id) (below (read_before s0) (below i (at1 (Right folio id)))) (grown_below (read_before s0) _ _ (grows id))) in
    claimed_same s0 s1 finding (λ j. registrations_found (sale_of_case journal (case j) i)) (λ j. seizures_found (sale_of_case journal (case j) i))
    (λ j. below (finding j).before (title j)) rights
