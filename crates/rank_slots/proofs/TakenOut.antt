-- What a filter keeps of the cents of one piece.
use Rattle.std.proofs.Common.{◌≡◌, ℕ, Bool, true, false, cond, ◌&&◌, ◌||◌, List, [], ◌∷◌, ◌++◌, filter, refl, replicate, sym, zero, suc, ap, ◌∙◌}
use Rattle.std.proofs.lemmas.List.{append-nil}
use Rattle.std.proofs.lemmas.List.Elements.{filter-append}
use Rattle.std.specs.List.{list_any}
use Rattle.std.proofs.lemmas.Bool.{or_parts}
use Rattle.gb_base.specs.RightNo.{RightNo}
use Rattle.rank_slots.specs.CentLine.{is_dropped}
use Rattle.rank_slots.specs.Groups.{is_of}
use Rattle.rank_slots.specs.declared.places.Place.{Place}

all_stay : (test : RightNo → Bool) (n : ℕ) (c : RightNo) → test c ≡ true → filter test (replicate n c) ≡ replicate n c
all_stay test zero c stays = refl
all_stay test (suc n) c stays = (λ i. cond (stays i) (c ∷ filter test (replicate n c)) (filter test (replicate n c))) ∙ ap (λ cs. c ∷ cs) (all_stay test n c stays)

none_stay : (test : RightNo → Bool) (n : ℕ) (c : RightNo) → test c ≡ false → filter test (replicate n c) ≡ []
none_stay test zero c goes = refl
none_stay test (suc n) c goes = (λ i. cond (goes i) (c ∷ filter test (replicate n c)) (filter test (replicate n c))) ∙ none_stay test n c goes

-- the cents so far, and n more that stay
pub stays_step : (test : RightNo → Bool) (n : ℕ) (c : RightNo) (cs more kept now : List RightNo) → test c ≡ true → more ≡ cs ++ replicate n c → kept ≡ filter test cs → now ≡ kept ++ replicate n c → now ≡ filter test more
stays_step test n c cs more kept now stays further before step =
    step
    ∙ (λ i. before i ++ sym (all_stay test n c stays) i)
    ∙ sym (ap (filter test) further ∙ filter-append test cs (replicate n c))

-- the cents so far, and n more that go
pub goes_step : (test : RightNo → Bool) (n : ℕ) (c : RightNo) (cs more kept : List RightNo) → test c ≡ false → more ≡ cs ++ replicate n c → kept ≡ filter test cs → kept ≡ filter test more
goes_step test n c cs more kept goes further before =
    before
    ∙ sym (ap (filter test) further ∙ filter-append test cs (replicate n c) ∙ ap (λ gone. filter test cs ++ gone) (none_stay test n c goes) ∙ append-nil (filter test cs))

-- where no place is dropped, none of a right's is
pub none_dropped : (places : List Place) (r : RightNo) → list_any (λ p. p.dropped) places ≡ false → is_dropped places r ≡ false
none_dropped [] r none = refl
none_dropped (p ∷ ps) r none =
    let parts = or_parts p.dropped (list_any (λ q. q.dropped) ps) none in
    (λ i. (is_of r p && parts.0 i) || is_dropped ps r) ∙ elim (is_of r p) as (λ b. ((b && false) || is_dropped ps r) ≡ false) [ true ↦ none_dropped ps r parts.1 | false ↦ none_dropped ps r parts.1 ]
