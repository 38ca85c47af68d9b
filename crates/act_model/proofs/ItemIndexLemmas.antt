-- What one more receipt adds to the indexes of a journal by what its items say.
use Rattle.std.proofs.Common.{◌≡◌, ℕ, ◌+◌, ◌-◌, ◌<◌, ◌≤◌, Bool, true, false, cond, eqb, ltb, ◌&&◌, Some, None, List, [], ◌∷◌, ◌++◌, length, take, drop, get_or, subst, ap, ◌∙◌, ⊎_elim, refl, arith}
use Rattle.std.proofs.lemmas.Bool.{cases_Bool, eqb-true}
use Rattle.std.proofs.lemmas.Grind.{flat_map-append}
use Rattle.std.proofs.lemmas.List.{append-nil, take_all}
use Rattle.std.proofs.lemmas.List.Elements.{filter_map-append}
use Rattle.std.specs.List.{enumerate_from, filter_map, flat_map, cons_option}
use Rattle.act_model.specs.declared.filing_acts.Act.{Act}
use Rattle.act_model.specs.Acts.{folio_of}
use Rattle.act_model.specs.declared.receipts.Receipt.{Receipt}
use Rattle.act_model.specs.Creations.{creations_in, creations_of_item}
use Rattle.act_model.specs.Cures.{cure_of, cures, cures_of}
use Rattle.act_model.specs.Filings.{filing_of, filings_of, is_filed_by}
use Rattle.act_model.specs.inner.ItemIndexes.{creations_by_acts, cures_by, filings_by}

-- no more rights are created than there are acts
pub creations_by_acts-few : (n a k : ℕ) (acts : List Act) → length (creations_by_acts n a acts k) ≤ length acts
creations_by_acts-few n a k [] = omega arith
creations_by_acts-few n a k (act ∷ acts) = grind (arith, creations_by_acts-few n (a + 1) k acts)

-- an act in another folio creates nothing in this one
creations_by_acts-elsewhere : (n a k : ℕ) (act : Act) (acts : List Act) → eqb (folio_of act) k ≡ false → creations_by_acts n a (act ∷ acts) k ≡ creations_by_acts n (a + 1) acts k
creations_by_acts-elsewhere n a k act acts h = grind (arith, h)

-- there is room for what all acts create, where there is room for what those after the first create, and in the first one's folio for as many values as there are acts
pub room_with_first : (n a k : ℕ) (acts : List Act) (act : Act) (before after : ℕ → ℕ) (folio : ℕ) → 0 < length acts → act ≡ get_or acts 0 act → folio ≡ folio_of act → length acts ≤ after folio → length (creations_by_acts n (a + 1) (take (length acts - 1) (drop 1 acts)) k) ≤ before k → before k ≤ after k → length (creations_by_acts n a acts k) ≤ after k
room_with_first n a k [] act before after folio some is here kept rest wider = absurd (omega arith)
room_with_first n a k (first ∷ acts) act before after folio some is here kept rest wider =
    let all : take (length (first ∷ acts) - 1) acts ≡ acts = take_all _ acts (omega arith) in
    let few = creations_by_acts-few n a k (first ∷ acts) in
    ⊎_elim
    (λ same.
    let there : folio ≡ k = here ∙ ap folio_of is ∙ eqb-true _ _ same in
    let roomy : length (first ∷ acts) ≤ after k = subst (λ f. length (first ∷ acts) ≤ after f) there kept in
    omega (arith, few, roomy))
    (λ other.
    let behind : length (creations_by_acts n (a + 1) acts k) ≤ before k = subst (λ rs. length (creations_by_acts n (a + 1) rs k) ≤ before k) all rest in
    let same_count = ap length (creations_by_acts-elsewhere n a k first acts other) in
    omega (arith, behind, same_count, wider))
    (cases_Bool (eqb (folio_of first) k))

enumerate_from-push : {X : Type 0} (n : ℕ) (xs : List X) (x : X) → enumerate_from n (xs ++ x ∷ []) ≡ enumerate_from n xs ++ (n + length xs, x) ∷ []
enumerate_from-push n [] x = ap (λ k. (k, x) ∷ []) (omega arith)
enumerate_from-push n (y ∷ ys) x = ap (λ ps. (n, y) ∷ ps) (enumerate_from-push (n + 1) ys x ∙ ap (λ k. enumerate_from (n + 1) ys ++ (k, x) ∷ []) (omega arith))

one_if : (n : ℕ) (b : Bool) → cons_option (cond b (Some n) None) [] ≡ cond b (n ∷ []) []
one_if n true = refl
one_if n false = refl

pub cures_of-push : (journal : List Receipt) (r : Receipt) (n m : ℕ) → n ≡ length journal + 1 → cures_of (journal ++ r ∷ []) m ≡ cures_of journal m ++ cures_by n r.item m
cures_of-push journal r n m at =
    ap (λ ps. filter_map (cure_of m) ps) (enumerate_from-push 1 journal r)
    ∙ filter_map-append (cure_of m) (enumerate_from 1 journal) ((1 + length journal, r) ∷ [])
    ∙ ap (λ xs. cures_of journal m ++ xs) (ap (λ k. filter_map (cure_of m) ((k, r) ∷ [])) (omega arith) ∙ one_if n (ltb m n && cures m r.item))

pub creations_in-push : (journal : List Receipt) (r : Receipt) (n folio : ℕ) → n ≡ length journal + 1 → creations_in (journal ++ r ∷ []) folio ≡ creations_in journal folio ++ creations_of_item folio n r.item
creations_in-push journal r n folio at =
    ap (λ ps. flat_map (λ p. creations_of_item folio p.0 p.1.item) ps) (enumerate_from-push 1 journal r)
    ∙ flat_map-append (λ p. creations_of_item folio p.0 p.1.item) (enumerate_from 1 journal) ((1 + length journal, r) ∷ [])
    ∙ ap (λ xs. creations_in journal folio ++ xs) (append-nil _ ∙ ap (λ k. creations_of_item folio k r.item) (omega arith))

pub filings_of-push : (journal : List Receipt) (r : Receipt) (n person : ℕ) → n ≡ length journal + 1 → filings_of (journal ++ r ∷ []) person ≡ filings_of journal person ++ filings_by n r.item person
filings_of-push journal r n person at =
    ap (λ ps. filter_map (filing_of person) ps) (enumerate_from-push 1 journal r)
    ∙ filter_map-append (filing_of person) (enumerate_from 1 journal) ((1 + length journal, r) ∷ [])
    ∙ ap (λ xs. filings_of journal person ++ xs) (ap (λ k. filter_map (filing_of person) ((k, r) ∷ [])) (omega arith) ∙ one_if n (is_filed_by person r.item))
