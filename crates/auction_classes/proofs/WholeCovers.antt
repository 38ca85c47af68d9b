-- Where each served seizure is a personal creditor's, the first that is served has the least cover: the whole line, and what was seized for before it.
use Rattle.std.proofs.Common.{◌≡◌, ℕ, ◌+◌, ◌≤◌, Bool, true, false, cond, not, ◌||◌, List, [], ◌∷◌, Some, None, length, min, option_map, refl, sym, ap, ◌∙◌, arith}
use Rattle.std.proofs.Math.Nat.{min-eq_left}
use Rattle.std.proofs.lemmas.Bool.{and_parts, false≢true}
use Rattle.act_model.specs.declared.sales.Basis.{Basis}
use Rattle.act_model.specs.declared.sales.Basis.TheVariants as basis
use Rattle.rank_slots.specs.Filled.{Filled, line}
use Rattle.auction_classes.specs.LowestBid.{cover_of_base, least, personal_amount}
use Rattle.auction_classes.specs.inner.Covers.{cover_by, covers_from, least_from}
use Rattle.auction_classes.specs.inner.WholeBids.{are_personal, before_served, is_personal}
use Rattle.auction_classes.specs.declared.claim_items.SeizedFor.{SeizedFor}
use Rattle.auction_classes.proofs.EarlierSeizures.{covers_are}
use Rattle.auction_classes.proofs.LeastCovers.{least_found}

-- the cover of a personal creditor's seizure
personal_cover : (four : Filled) (before : ℕ) (b : Basis) → is_personal b ≡ true → cover_by four before b ≡ length (line four) + before
personal_cover four before (basis.Personal creditor claim) is = refl
personal_cover four before (basis.FromRight right) is = absurd (false≢true is)

-- a served seizure that passes is a personal creditor's
served_personal : (b : Bool) → (b || not true) ≡ true → b ≡ true
served_personal true is = refl
served_personal false is = absurd (false≢true is)

-- the covers that follow are none below the one before them
none_below : (four : Filled) (least before : ℕ) (zs : List SeizedFor) → are_personal zs ≡ true → least ≤ length (line four) + before → least_from (Some least) (covers_from four before zs) ≡ Some least
none_below four least before [] all within = refl
none_below four least before (z ∷ zs) all within =
    let both = and_parts (is_personal z.basis || not z.served) (are_personal zs) all in
    let rest = none_below four least (before + personal_amount z.basis) zs both.1 (omega (arith, within)) in
    let covers = covers_from four (before + personal_amount z.basis) zs in
    elim z.served as (λ b. (is_personal z.basis || not b) ≡ true → least_from (Some least) (cond b (cover_by four before z.basis ∷ covers) covers) ≡ Some least) [
      | true ↦ λ is.
          let cover = personal_cover four before z.basis (served_personal (is_personal z.basis) is) in
          let same : min least (cover_by four before z.basis) ≡ least = min-eq_left (omega (arith, cover, within)) in
          ap (λ n. least_from (Some n) covers) same ∙ rest
      | false ↦ λ _. rest
    ] both.0

first_covers : (four : Filled) (before : ℕ) (zs : List SeizedFor) → are_personal zs ≡ true → least_from None (covers_from four before zs) ≡ option_map (λ n. length (line four) + n) (before_served before zs)
first_covers four before [] all = refl
first_covers four before (z ∷ zs) all =
    let both = and_parts (is_personal z.basis || not z.served) (are_personal zs) all in
    let covers = covers_from four (before + personal_amount z.basis) zs in
    let later = before_served (before + personal_amount z.basis) zs in
    elim z.served as (λ b. (is_personal z.basis || not b) ≡ true → least_from None (cond b (cover_by four before z.basis ∷ covers) covers) ≡ option_map (λ n. length (line four) + n) (cond b (Some before) later)) [
      | true ↦ λ is.
          let cover = personal_cover four before z.basis (served_personal (is_personal z.basis) is) in
          none_below four (cover_by four before z.basis) (before + personal_amount z.basis) zs both.1 (omega (arith, cover)) ∙ ap Some cover
      | false ↦ λ _. first_covers four (before + personal_amount z.basis) zs both.1
    ] both.0

-- so the cover of the base is that of the first that is served
pub whole_cover : (four : Filled) (zs : List SeizedFor) → are_personal zs ≡ true → cover_of_base four zs ≡ option_map (λ n. length (line four) + n) (before_served 0 zs)
whole_cover four zs all = ap least (sym (covers_are four zs)) ∙ sym (least_found (covers_from four 0 zs)) ∙ first_covers four 0 zs all
