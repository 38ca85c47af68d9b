-- What personal creditors seized for before a seizure, as it is carried along, is what all seizures before it come to.
use Rattle.std.proofs.Common.{◌≡◌, ℕ, ◌+◌, true, false, cond, List, [], ◌∷◌, ◌++◌, filter, length, map, sum_by, take, refl, sym, ap, ◌∙◌, append_assoc, arith}
use Rattle.std.specs.List.{enumerate_from}
use Rattle.std.proofs.lemmas.List.{length-append, take_at}
use Rattle.std.proofs.lemmas.List.Sums.{sum_by-append, sum_by-cons}
use Rattle.act_model.specs.declared.sales.Basis.{Basis}
use Rattle.act_model.specs.declared.sales.Basis.TheVariants as basis
use Rattle.rank_slots.specs.Filled.{Filled, line}
use Rattle.auction_classes.specs.LowestBid.{cover_of, covers_served, personal_amount}
use Rattle.auction_classes.specs.inner.Covers.{cover_by, covers_from}
use Rattle.auction_classes.specs.declared.claim_items.SeizedFor.{SeizedFor}

-- what the seizures of personal creditors among these are for
abbrev amounts : List SeizedFor → ℕ
amounts zs = sum_by (λ z. personal_amount z.basis) zs

same_cover : (four : Filled) (earlier : List SeizedFor) (before : ℕ) (b : Basis) → amounts earlier ≡ before → cover_of four earlier b ≡ cover_by four before b
same_cover four earlier before (basis.Personal creditor claim) same = ap (λ n. length (line four) + n) same
same_cover four earlier before (basis.FromRight right) same = refl

-- the covers of the served ones among the seizures that are left of the whole
abbrev covers_left : Filled → List SeizedFor → ℕ → List SeizedFor → List ℕ
covers_left four whole n zs = map (λ (x : ℕ × SeizedFor). cover_of four (take x.0 whole) x.1.basis) (filter (λ (x : ℕ × SeizedFor). x.1.served) (enumerate_from n zs))

left_covered : (four : Filled) (whole done zs : List SeizedFor) (n before : ℕ) → whole ≡ done ++ zs → length done ≡ n → amounts done ≡ before
    → covers_left four whole n zs ≡ covers_from four before zs
left_covered four whole done [] n before is at sum = refl
left_covered four whole done (z ∷ zs) n before is at sum =
    let next : whole ≡ (done ++ z ∷ []) ++ zs = is ∙ sym (append_assoc done (z ∷ []) zs) in
    let size = length-append done (z ∷ []) in
    let both = sum_by-append (λ (y : SeizedFor). personal_amount y.basis) done (z ∷ []) in
    let own = sum_by-cons (λ (y : SeizedFor). personal_amount y.basis) z [] in
    let more : amounts (done ++ z ∷ []) ≡ before + personal_amount z.basis = omega (arith, both, own, sum) in
    let rest = left_covered four whole (done ++ z ∷ []) zs (n + 1) (before + personal_amount z.basis) next (omega (arith, size, at)) more in
    let earlier : take n whole ≡ done = ap (take n) is ∙ take_at done (z ∷ zs) n at in
    let here : cover_of four (take n whole) z.basis ≡ cover_by four before z.basis = same_cover four (take n whole) before z.basis (ap amounts earlier ∙ sum) in
    let served : List (ℕ × SeizedFor) = filter (λ (x : ℕ × SeizedFor). x.1.served) (enumerate_from (n + 1) zs) in
    let later : List ℕ = covers_from four (before + personal_amount z.basis) zs in
    elim z.served as (λ b. map (λ (x : ℕ × SeizedFor). cover_of four (take x.0 whole) x.1.basis) (cond b ((n, z) ∷ served) served) ≡ cond b (cover_by four before z.basis ∷ later) later) [
      | true ↦ λ k. here k ∷ rest k
      | false ↦ rest
    ]

pub covers_are : (four : Filled) (zs : List SeizedFor) → covers_from four 0 zs ≡ covers_served four zs
covers_are four zs = sym (left_covered four zs [] zs 0 0 refl refl refl)
