-- Registrations that are late, as all after the call to bid are, change nothing of the lowest bid.
use Rattle.std.proofs.Common.{◌≡◌, ℕ, ◌+◌, ◌-◌, Bool, true, false, not, cond, ◌&&◌, ◌||◌, ◌==◌, List, [], ◌∷◌, ◌++◌, filter, filter_map, find, flat_map, length, map, min, nat_lt, sum_by, Option, Some, None, option_map, refl, sym, ap, ◌∙◌, arith}
use Rattle.std.specs.List.{AllByRecursion, cons_option, range_with_len}
use Rattle.std.specs.Option.{option_map_or}
use Rattle.std.proofs.lemmas.List.{append-nil}
use Rattle.std.proofs.lemmas.List.Elements.{filter-append, filter_map-append}
use Rattle.std.proofs.lemmas.List.Sums.{sum_by-append, sum_by-cons}
use Rattle.gb_base.specs.RightNo.{RightNo, same_right}
use Rattle.gb_base.specs.declared.keys.Key.{Key}
use Rattle.gb_base.specs.declared.keys.Key.TheVariants.{Right}
use Rattle.act_model.specs.Acts.{is_in_division_three}
use Rattle.act_model.specs.declared.sales.Basis.{Basis}
use Rattle.act_model.specs.declared.sales.Basis.TheVariants as basis
use Rattle.act_model.specs.declared.sales.Registration.{Registration}
use Rattle.act_model.specs.declared.sales.Registration.TheVariants as registration
use Rattle.folio_line.specs.Exchanges.{counted_exchanges, counted_exercises}
use Rattle.folio_line.specs.FolioRights.{groups_where, live_rights}
use Rattle.folio_line.specs.FolioSlots.{capital_at, filled_by, is_gone, stands_on_line}
use Rattle.folio_line.specs.declared.exchanges.Exchange.{Exchange}
use Rattle.folio_line.specs.declared.folio_rights.CreatedRight.{CreatedRight}
use Rattle.folio_sections.specs.declared.entries.Entry.{Entry}
use Rattle.folio_sections.proofs.FilteredLists.{filter_skips, filter_takes}
use Rattle.rank_slots.specs.Filled.{Filled, line}
use Rattle.rank_slots.specs.declared.places.Knot.{Knot}
use Rattle.auction_classes.specs.Claims.{are_both, arrears_found, arrears_named, by_class, claim_after, claim_of_person, claim_of_right, claim_registered, claims_by, claims_of_right, class_of_charge, in_order, in_row, is_claim, of_class, personal_claim}
use Rattle.auction_classes.specs.Interest.{arrears_in_class, current_interest}
use Rattle.auction_classes.specs.LowestBid.{cents_ahead, cover_of_base, lowest_bid, remaining_of}
use Rattle.auction_classes.specs.SaleClaims.{claimed_in, of_class_four, right_claimed}
use Rattle.auction_classes.specs.Sales.{Sale, read, registrations_found, seizures_found}
use Rattle.auction_classes.specs.inner.Findings.{accrual_by, class_by, finding_of, right_with, seized_with}
use Rattle.auction_classes.specs.declared.accruals.Accrual.{Accrual}
use Rattle.auction_classes.specs.declared.case_items.Registered.{Registered}
use Rattle.auction_classes.specs.declared.case_items.Seizure.{Seizure}
use Rattle.auction_classes.specs.declared.claim_items.Claim.{Claim}
use Rattle.auction_classes.specs.declared.claim_items.RightClaimed.{RightClaimed}
use Rattle.auction_classes.specs.declared.claim_items.SeizedFor.{SeizedFor}
use Rattle.auction_classes.specs.declared.findings.Finding.{Finding}
use Rattle.auction_classes.specs.declared.lowest_bids.Lowest.{Lowest}
use Rattle.auction_classes.specs.declared.rights_found.RightFound.{RightFound}
use Rattle.auction_classes.specs.inner.ClaimRows.{row_after}
use Rattle.auction_classes.proofs.ClaimsInRow.{row_is}

-- each of these registrations is late
abbrev pub AllLate : List Registered → Type 0
AllLate rs = AllByRecursion (λ (r : Registered). r.late ≡ true) rs

-- ---- claims ahead of the rights

-- a claim counts ahead of the rights: it is timely, and of class 1 or 3
abbrev counts : Claim → Bool
counts c = not c.late && (c.class == 1 || c.class == 3)

-- what the claims of a row add ahead of the rights is what those add that count
added_up : (before : Option Claim) (cs : List Claim) → sum_by cents_ahead (row_after before cs) ≡ sum_by (λ (c : Claim). c.capital) (filter counts cs)
added_up before [] = refl
added_up before (c ∷ cs) =
    let rest = row_after (Some c) cs in
    sum_by-cons cents_ahead (claim_after before c) rest
    ∙ elim (counts c) as (λ b. cond b c.capital 0 + sum_by cents_ahead rest ≡ sum_by (λ (d : Claim). d.capital) (cond b (c ∷ filter counts cs) (filter counts cs))) [
      | true ↦ ap (λ n. c.capital + n) (added_up (Some c) cs) ∙ sym (sum_by-cons (λ (d : Claim). d.capital) c (filter counts cs))
      | false ↦ (let none : 0 + sum_by cents_ahead rest ≡ sum_by cents_ahead rest = omega arith in none ∙ added_up (Some c) cs)
    ]

-- two filters in either order
in_turn : (p q : Claim → Bool) (cs : List Claim) → filter p (filter q cs) ≡ filter q (filter p cs)
in_turn p q [] = refl
in_turn p q (c ∷ cs) =
    let rest = in_turn p q cs in
    elim (p c) as (λ b. p c ≡ b → filter p (filter q (c ∷ cs)) ≡ filter q (cond b (c ∷ filter p cs) (filter p cs))) [
      | true ↦ λ is. elim (q c) as (λ b. filter p (cond b (c ∷ filter q cs) (filter q cs)) ≡ cond b (c ∷ filter q (filter p cs)) (filter q (filter p cs))) [
        | true ↦ filter_takes p c (filter q cs) is ∙ ap (λ ds. c ∷ ds) rest
        | false ↦ rest
      ]
      | false ↦ λ fails. elim (q c) as (λ b. filter p (cond b (c ∷ filter q cs) (filter q cs)) ≡ filter q (filter p cs)) [
        | true ↦ filter_skips p c (filter q cs) fails ∙ rest
        | false ↦ rest
      ]
    ] refl

by_classes : (late : Bool) (cs : List Claim) (ks : List ℕ) → filter counts (flat_map (of_class late cs) ks) ≡ flat_map (of_class late (filter counts cs)) ks
by_classes late cs [] = refl
by_classes late cs (k ∷ ks) =
    filter-append counts (of_class late cs k) (flat_map (of_class late cs) ks)
    ∙ (λ j. in_turn counts (λ c. are_both late c.late && c.class == k) cs j ++ by_classes late cs ks j)

-- the claims in order that count are those that count, in order
ordered : (cs : List Claim) → filter counts (in_order cs) ≡ in_order (filter counts cs)
ordered cs = filter-append counts (by_class false cs) (by_class true cs) ∙ (λ j. by_classes false cs (range_with_len 1 8) j ++ by_classes true cs (range_with_len 1 8) j)

-- no claim of a right counts, nor one of a personal creditor, nor a late one
rights_none : (f : Finding) (rs : List Registered) (reads : RightNo → List Entry) (xs : List CreatedRight)
    → filter counts (flat_map claims_of_right (map (λ x. right_with f rs x (reads x.id)) xs)) ≡ []
rights_none f rs reads [] = refl
rights_none f rs reads (x ∷ xs) =
    let own = right_with f rs x (reads x.id) in
    let rest = flat_map claims_of_right (map (λ (y : CreatedRight). right_with f rs y (reads y.id)) xs) in
    filter_skips counts (claim_of_right own own.class false own.interest own.capital)
    (claim_of_right own 8 false 0 own.old_arrears ∷ claim_of_right own 4 true 0 own.late_arrears ∷ claim_of_right own 8 true 0 own.late_old_arrears ∷ rest)
    (elim (nat_lt x.id.receipt f.seized) as (λ b. (cond {A = ℕ} b 4 6 == 1 || cond {A = ℕ} b 4 6 == 3) ≡ false) [ true ↦ refl | false ↦ refl ])
    ∙ rights_none f rs reads xs

persons_none : (zs : List Seizure) → filter counts (filter_map (λ (z : Seizure). personal_claim z.basis) zs) ≡ []
persons_none [] = refl
persons_none (z ∷ zs) = one z.basis (persons_none zs)
  where
    one : (b : Basis) → filter counts (filter_map (λ (y : Seizure). personal_claim y.basis) zs) ≡ []
        → filter counts (cons_option (personal_claim b) (filter_map (λ (y : Seizure). personal_claim y.basis) zs)) ≡ []
    one (basis.Personal creditor claim) rest = rest
    one (basis.FromRight right) rest = rest

late_none : (year : ℕ) (rs : List Registered) → AllLate rs → filter counts (filter_map (λ (r : Registered). claim_registered year r.late r.what) rs) ≡ []
late_none year [] all = refl
late_none year (r ∷ rs) all = one r.what (late_none year rs all.1)
  where
    one : (w : Registration) → filter counts (filter_map (λ (d : Registered). claim_registered year d.late d.what) rs) ≡ []
        → filter counts (cons_option (claim_registered year r.late w) (filter_map (λ (d : Registered). claim_registered year d.late d.what) rs)) ≡ []
    one (registration.Advance person amount) rest =
        filter_skips counts (claim_of_person 1 r.late person amount) (filter_map (λ (d : Registered). claim_registered year d.late d.what) rs) (ap (λ b. not b && true) all.0) ∙ rest
    one (registration.PublicCharge person amount due) rest =
        let class = class_of_charge year due in
        filter_skips counts (claim_of_person class r.late person amount) (filter_map (λ (d : Registered). claim_registered year d.late d.what) rs)
        (ap (λ b. not b && (class == 1 || class == 3)) all.0) ∙ rest
    one (registration.Arrears right from until) rest = rest

-- so the claims that count are those that are registered and count
counted : (f : Finding) (rs named : List Registered) (zs : List Seizure) (reads : RightNo → List Entry) (live : List CreatedRight)
    → filter counts (claims_by f.year rs zs (map (λ x. right_with f named x (reads x.id)) live))
    ≡ filter is_claim (filter counts (filter_map (λ (r : Registered). claim_registered f.year r.late r.what) rs))
counted f rs named zs reads live =
    let own = filter_map (λ (r : Registered). claim_registered f.year r.late r.what) rs in
    let persons = filter_map (λ (z : Seizure). personal_claim z.basis) zs in
    let rights = flat_map claims_of_right (map (λ x. right_with f named x (reads x.id)) live) in
    filter-append counts (filter is_claim own) (filter is_claim persons ++ filter is_claim rights)
    ∙ ap (λ cs. filter counts (filter is_claim own) ++ cs) (filter-append counts (filter is_claim persons) (filter is_claim rights))
    ∙ (λ j. in_turn counts is_claim own j ++ ((in_turn counts is_claim persons ∙ ap (filter is_claim) (persons_none zs)) j ++ (in_turn counts is_claim rights ∙ ap (filter is_claim) (rights_none f named reads live)) j))
    ∙ append-nil (filter is_claim (filter counts own))

ahead_same : (f : Finding) (rs more : List Registered) (zs : List Seizure) (reads : RightNo → List Entry) (live : List CreatedRight) → AllLate more
    → sum_by cents_ahead (in_row (in_order (claims_by f.year (rs ++ more) zs (map (λ x. right_with f (rs ++ more) x (reads x.id)) live))))
    ≡ sum_by cents_ahead (in_row (in_order (claims_by f.year rs zs (map (λ x. right_with f rs x (reads x.id)) live))))
ahead_same f rs more zs reads live late =
    let claim : Registered → Option Claim = λ r. claim_registered f.year r.late r.what in
    let registered : filter counts (filter_map claim (rs ++ more)) ≡ filter counts (filter_map claim rs) =
    ap (filter counts) (filter_map-append claim rs more) ∙ filter-append counts (filter_map claim rs) (filter_map claim more)
    ∙ ap (λ cs. filter counts (filter_map claim rs) ++ cs) (late_none f.year more late) ∙ append-nil (filter counts (filter_map claim rs)) in
    let sums : (cs : List Claim) → sum_by cents_ahead (in_row (in_order cs)) ≡ sum_by (λ (c : Claim). c.capital) (in_order (filter counts cs)) = λ cs.
    ap (sum_by cents_ahead) (row_is (in_order cs)) ∙ added_up None (in_order cs) ∙ ap (sum_by (λ (c : Claim). c.capital)) (ordered cs) in
    sums (claims_by f.year (rs ++ more) zs (map (λ x. right_with f (rs ++ more) x (reads x.id)) live))
    ∙ ap (λ cs. sum_by (λ (c : Claim). c.capital) (in_order cs))
    (counted f (rs ++ more) (rs ++ more) zs reads live ∙ ap (filter is_claim) registered ∙ sym (counted f rs rs zs reads live))
    ∙ sym (sums (claims_by f.year rs zs (map (λ x. right_with f rs x (reads x.id)) live)))

-- ---- rights

-- where all registrations are late, no arrears are timely
none_timely : (part : Accrual → ℕ → ℕ → ℕ) (a : Accrual) (id : RightNo) (rs : List Registered) → AllLate rs → arrears_found part false a id rs ≡ 0
none_timely part a id [] late = refl
none_timely part a id (r ∷ rs) late =
    sum_by-cons (λ (d : Registered). cond (are_both false d.late) (arrears_named part a id d.what) 0) r rs
    ∙ (λ j. cond (not (late.0 j)) (arrears_named part a id r.what) 0 + none_timely part a id rs late.1 j)

timely_same : (part : Accrual → ℕ → ℕ → ℕ) (a : Accrual) (id : RightNo) (rs more : List Registered) → AllLate more → arrears_found part false a id (rs ++ more) ≡ arrears_found part false a id rs
timely_same part a id rs more late =
    let both = sum_by-append (λ (d : Registered). cond (are_both false d.late) (arrears_named part a id d.what) 0) rs more in
    let none = none_timely part a id more late in
    omega (arith, both, none)

-- so late registrations change nothing of the interest of a right in its class
interest_same : (f : Finding) (rs more : List Registered) (x : CreatedRight) (entries : List Entry) → AllLate more
    → (right_with f (rs ++ more) x entries).interest ≡ (right_with f rs x entries).interest
interest_same f rs more x entries late =
    ap (λ n. current_interest (accrual_by f x entries) + n) (timely_same arrears_in_class (accrual_by f x entries) x.id rs more late)

four_same : (f : Finding) (rs more : List Registered) (reads : RightNo → List Entry) (xs : List CreatedRight) → AllLate more
    → of_class_four (map (λ x. right_with f (rs ++ more) x (reads x.id)) xs) ≡ of_class_four (map (λ x. right_with f rs x (reads x.id)) xs)
four_same f rs more reads [] late = refl
four_same f rs more reads (x ∷ xs) late =
    let all : List Registered → List RightFound = λ ds. map (λ (y : CreatedRight). right_with f ds y (reads y.id)) xs in
    let four : List RightFound → List RightFound = λ ys. filter (λ (y : RightFound). y.class == 4) ys in
    let rest = four_same f rs more reads xs late in
    elim (class_by f.seized x.id == 4) as (λ b.
    map right_claimed (cond b (right_with f (rs ++ more) x (reads x.id) ∷ four (all (rs ++ more))) (four (all (rs ++ more))))
    ≡ map right_claimed (cond b (right_with f rs x (reads x.id) ∷ four (all rs)) (four (all rs)))) [
      | true ↦ λ j. record { right = x.id; interest = interest_same f rs more x (reads x.id) late j; in_division_three = is_in_division_three x.made.spec.kind } ∷ rest j
      | false ↦ rest
    ]

-- ---- the lowest bid

-- the lowest bid, by costs, the claims ahead of the rights, the line of class 4, its rights, and the seizures
abbrev bid_of : ℕ → ℕ → Filled → List RightClaimed → List SeizedFor → Option Lowest
bid_of costs ahead four rights seizures =
    option_map
    (λ cover. record {
      total = costs + (ahead + cover);
      cash = costs + (ahead + cover) - sum_by (remaining_of four (min cover (length (line four)))) rights;
      cover = min cover (length (line four));
    })
    (cover_of_base four seizures)

-- the line of class 4 where this is read, and so much interest is claimed for each right
abbrev four_from : ℕ → (Key → List Entry) → ℕ → (CreatedRight → ℕ) → Filled
four_from folio reads seized interest =
    let exchanges = filter (λ (x : Exchange). class_by seized x.recede == 4 && class_by seized x.rise == 4) (counted_exchanges reads folio) in
    filled_by
    (λ id. option_map_or interest (find (λ x. same_right x.id id) (filter (λ x. class_by seized x.id == 4) (live_rights reads folio))) 0 + capital_at reads folio id)
    (is_gone reads folio)
    (groups_where (λ id entries. class_by seized id == 4 && stands_on_line exchanges id entries) reads folio)
    exchanges
    (filter (λ (k : Knot). class_by seized k.reserved == 4 && class_by seized k.exercised == 4) (counted_exercises reads folio))

-- the lowest bid, by what is read and found
abbrev lowest_from : ℕ → (Key → List Entry) → Finding → List Registered → List Seizure → Option Lowest
lowest_from folio reads f rs zs =
    let rights = map (λ (x : CreatedRight). right_with f rs x (reads (Right folio x.id))) (live_rights reads folio) in
    bid_of f.costs (sum_by cents_ahead (in_row (in_order (claims_by f.year rs zs rights))))
    (four_from folio reads f.seized (λ x. (right_with f rs x (reads (Right folio x.id))).interest)) (of_class_four rights)
    (map (seized_with f.sale (λ id. reads (Right folio id))) zs)

lowest_is : (s : Sale) → lowest_bid (claimed_in s) ≡ lowest_from s.folio (read s) (finding_of s) (registrations_found s) (seizures_found s)
lowest_is s = refl

late_add_nothing : (folio : ℕ) (reads : Key → List Entry) (f : Finding) (rs more : List Registered) (zs : List Seizure) → AllLate more
    → lowest_from folio reads f (rs ++ more) zs ≡ lowest_from folio reads f rs zs
late_add_nothing folio reads f rs more zs late = λ j.
    bid_of f.costs (ahead_same f rs more zs (λ id. reads (Right folio id)) (live_rights reads folio) late j)
    (four_from folio reads f.seized (λ x. interest_same f rs more x (reads (Right folio x.id)) late j))
    (four_same f rs more (λ id. reads (Right folio id)) (live_rights reads folio) late j)
    (map (seized_with f.sale (λ id. reads (Right folio id))) zs)

-- Two sales of a folio have one lowest bid where the same is read and found in both, but the one has more registrations, which are late.
pub lowest_behind_late : (s0 s1 : Sale) (more : List Registered) → s1.folio ≡ s0.folio → read s1 ≡ read s0 → finding_of s1 ≡ finding_of s0 → seizures_found s1 ≡ seizures_found s0
    → registrations_found s1 ≡ registrations_found s0 ++ more → AllLate more → lowest_bid (claimed_in s1) ≡ lowest_bid (claimed_in s0)
lowest_behind_late s0 s1 more folio reads finding seizures registrations late =
    lowest_is s1 ∙ (λ j. lowest_from (folio j) (reads j) (finding j) (registrations j) (seizures j))
    ∙ late_add_nothing s0.folio (read s0) (finding_of s0) (registrations_found s0) more (seizures_found s0) late ∙ sym (lowest_is s0)
