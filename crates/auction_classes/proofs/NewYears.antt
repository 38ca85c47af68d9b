-- The days of 1 January.
use Rattle.std.proofs.Common.{◌≡◌, ℕ, ◌+◌, ◌≤◌, true, ◌==◌, ◌&&◌, pos, sym, ap, ◌∙◌, subst, arith}
use Rattle.std.specs.List.{range_with_len}
use Rattle.std.specs.Option.{option_map_or}
use Rattle.std.proofs.lemmas.Bool.{and_from, and_parts, eq-eqb, eqb-true}
use Rattle.gb_base.specs.Calendar.{IsCivilDay, date_of}
use Rattle.gb_base.specs.Limits.{last_day}
use Rattle.gb_base.proofs.CivilDays.{date_numbered, only_date}
use Rattle.gb_base.proofs.Members.{find_complete, in_range, of_range}
use Rattle.auction_classes.specs.Interest.{new_year}

-- two days of one date are one
same_number : (year month day n m : ℕ) → IsCivilDay year month day n → IsCivilDay year month day m → m ≡ n
same_number year month day n m one other = let both : pos m ≡ pos n = sym other.number ∙ one.number in cc

-- a day with the date of 1 January has its number
numbered : (year n : ℕ) → n ≤ last_day → ((date_of n).year == year && ((date_of n).month == 1 && (date_of n).day == 1)) ≡ true → IsCivilDay year 1 1 n
numbered year n within is =
    let parts = and_parts _ _ is in
    let rest = and_parts _ _ parts.1 in
    let y = eqb-true _ _ parts.0 in
    let m = eqb-true _ _ rest.0 in
    let d = eqb-true _ _ rest.1 in
    subst (λ k. IsCivilDay k 1 1 n) y (subst (λ k. IsCivilDay (date_of n).year k 1 n) m (subst (λ k. IsCivilDay (date_of n).year (date_of n).month k n) d (date_numbered n within)))

-- 1 January of a year is the day with that date
pub new_year_is : (year n : ℕ) → n ≤ last_day → IsCivilDay year 1 1 n → n ≡ new_year year
unfolding new_year
new_year_is year n within civil =
    let date = only_date year 1 1 n civil within in
    let passes = and_from _ _ (eq-eqb _ _ (sym date.0)) (and_from _ _ (eq-eqb _ _ (sym date.1)) (eq-eqb _ _ (sym date.2))) in
    let found = find_complete (λ k. (date_of k).year == year && ((date_of k).month == 1 && (date_of k).day == 1)) (range_with_len 0 (last_day + 1)) n (in_range 0 (last_day + 1) n (omega arith) (omega arith)) passes in
    let few = of_range 0 (last_day + 1) found.item found.there in
    sym (same_number year 1 1 n found.item civil (numbered year found.item (omega (arith, few.1)) found.passes))
    ∙ sym (ap (λ k. option_map_or (λ n. n) k 0) found.is)
