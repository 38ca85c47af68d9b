-- The filings of an applicant: they ascend, and are the receipts whose applicant is that person.
use Rattle.std.proofs.Common.{◌≡◌, ℕ, suc, ◌+◌, ◌-◌, Bool, true, false, cond, eqb, ◌&&◌, ◌||◌, nat_le, List, [], ◌∷◌, Option, Some, None, option_map, refl, sym, ap, ◌∙◌, arith}
use Rattle.std.specs.List.{cons_option, enumerate_from, filter_map, list_any, slice_get}
use Rattle.std.specs.Option.{option_and_then, option_map_or}
use Rattle.std.proofs.lemmas.Bool.Decides.{nat_tests}
use Rattle.gb_base.specs.Ascending.{AscendsBy}
use Rattle.gb_base.proofs.Ascending.{ascends_later}
use Rattle.act_model.specs.declared.items.Item.{Item}
use Rattle.act_model.specs.declared.items.Item.TheVariants as item
use Rattle.act_model.specs.declared.receipts.Receipt.{Receipt}
use Rattle.act_model.specs.Filings.{filing_of, filings_of, is_filed_by}
use Rattle.act_model.specs.Receiving.{receipt_at}
use Rattle.act_model.specs.Touches.{applicant_of, filing_in}

with_filing : (k : ℕ) (b : Bool) (ns : List ℕ) → AscendsBy (λ n. n) (k + 1) ns → AscendsBy (λ n. n) k (cons_option (cond b (Some k) None) ns)
with_filing k true ns up = (omega arith, up)
with_filing k false ns up = ascends_later (λ n. n) (k + 1) k ns (omega arith) up

ascend_from : (person k : ℕ) (rs : List Receipt) → AscendsBy (λ n. n) k (filter_map (filing_of person) (enumerate_from k rs))
ascend_from person k [] = tt
ascend_from person k (r ∷ rs) = with_filing k (is_filed_by person r.item) (filter_map (filing_of person) (enumerate_from (k + 1) rs)) (ascend_from person (k + 1) rs)

pub filings_ascend : (journal : List Receipt) (person : ℕ) → AscendsBy (λ n. n) 1 (filings_of journal person)
filings_ascend journal person = ascend_from person 1 journal

-- whether the receipt of this place is a filing of the applicant
abbrev filed_at : ℕ → List Receipt → ℕ → Bool
filed_at person rs i = option_map_or (λ r. is_filed_by person r.item) (slice_get rs i) false

pub nothing : (b : Bool) → false ≡ (b && false)
nothing true = refl
nothing false = refl

-- one number more at the front, which is the one that is asked for, or not
with_one : (k n : ℕ) (b e : Bool) (ns : List ℕ) → eqb k n ≡ e → list_any (λ j. eqb j n) (cons_option (cond b (Some k) None) ns) ≡ ((b && e) || list_any (λ j. eqb j n) ns)
with_one k n true e ns is = ap (λ c. c || list_any (λ j. eqb j n) ns) is
with_one k n false e ns is = refl

by_place : (person k n : ℕ) (r : Receipt) (rs : List Receipt) (any e : Bool) → eqb k n ≡ e → any ≡ (nat_le (k + 1) n && filed_at person rs (n - (k + 1)))
    → ((is_filed_by person r.item && e) || any) ≡ (nat_le k n && filed_at person (r ∷ rs) (n - k))
by_place person k n r rs any true is rest =
    let behind : nat_le (k + 1) n ≡ false = grind (arith, nat_tests, is) in
    let here : nat_le k n ≡ true = grind (arith, nat_tests, is) in
    let place : n - k ≡ 0 = grind (arith, nat_tests, is) in
    let none : any ≡ false = rest ∙ ap (λ c. c && filed_at person rs (n - (k + 1))) behind in
    (λ i. (is_filed_by person r.item && true) || none i) ∙ one (is_filed_by person r.item) ∙ (λ i. sym here i && filed_at person (r ∷ rs) (sym place i))
  where
    one : (b : Bool) → ((b && true) || false) ≡ b
    one true = refl
    one false = refl
by_place person k n r rs any false is rest = no_more (is_filed_by person r.item) ∙ rest ∙ later (nat_le (k + 1) n) refl
  where
    no_more : (b : Bool) → ((b && false) || any) ≡ any
    no_more true = refl
    no_more false = refl

    later : (t : Bool) → nat_le (k + 1) n ≡ t → (t && filed_at person rs (n - (k + 1))) ≡ (nat_le k n && filed_at person (r ∷ rs) (n - k))
    later true e =
        let here : nat_le k n ≡ true = grind (arith, nat_tests, e) in
        let place : n - k ≡ suc (n - (k + 1)) = grind (arith, nat_tests, e) in
        λ i. sym here i && filed_at person (r ∷ rs) (sym place i)
    later false e =
        let here : nat_le k n ≡ false = grind (arith, nat_tests, e, is) in
        ap (λ c. c && filed_at person (r ∷ rs) (n - k)) (sym here)

is_listed : (person n k : ℕ) (rs : List Receipt) → list_any (λ j. eqb j n) (filter_map (filing_of person) (enumerate_from k rs)) ≡ (nat_le k n && filed_at person rs (n - k))
is_listed person n k [] = nothing (nat_le k n)
is_listed person n k (r ∷ rs) =
    with_one k n (is_filed_by person r.item) (eqb k n) (filter_map (filing_of person) (enumerate_from (k + 1) rs)) refl
    ∙ by_place person k n r rs _ (eqb k n) refl (is_listed person n (k + 1) rs)

filed_is : (person : ℕ) (i : Item) → is_filed_by person i ≡ option_map_or (λ q. eqb q person) (option_map (λ f. f.applicant) (filing_in i)) false
filed_is person (item.Filing f) = refl
filed_is person other = refl

filed_option : (person : ℕ) (o : Option Receipt) → option_map_or (λ r. is_filed_by person r.item) o false ≡ option_map_or (λ q. eqb q person) (option_map (λ f. f.applicant) (option_and_then (λ r. filing_in r.item) o)) false
filed_option person (Some r) = filed_is person r.item
filed_option person None = refl

-- a receipt is listed just where its applicant is that person
pub listed_where_applied : (journal : List Receipt) (person n : ℕ) → list_any (λ j. eqb j n) (filings_of journal person) ≡ option_map_or (λ q. eqb q person) (applicant_of journal n) false
listed_where_applied journal person n = is_listed person n 1 journal ∙ by_number (eqb n 0) refl ∙ filed_option person (receipt_at journal n)
  where
    by_number : (b : Bool) → eqb n 0 ≡ b → (nat_le 1 n && filed_at person journal (n - 1)) ≡ option_map_or (λ r. is_filed_by person r.item) (cond b None (slice_get journal (n - 1))) false
    by_number true e =
        let none : nat_le 1 n ≡ false = grind (arith, nat_tests, e) in
        ap (λ c. c && filed_at person journal (n - 1)) none
    by_number false e =
        let some : nat_le 1 n ≡ true = grind (arith, nat_tests, e) in
        ap (λ c. c && filed_at person journal (n - 1)) some
