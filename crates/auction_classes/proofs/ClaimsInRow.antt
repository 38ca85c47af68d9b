-- Claims in their row each come after the one before it, and one more after them all.
use Rattle.std.proofs.Common.{◌≡◌, List, [], ◌∷◌, ◌++◌, map, Option, Some, None, refl, sym, ap, ◌∙◌}
use Rattle.std.specs.List.{last_or, zip}
use Rattle.auction_classes.specs.Claims.{claim_after, in_row}
use Rattle.auction_classes.specs.inner.ClaimRows.{row_after}
use Rattle.auction_classes.specs.declared.claim_items.Claim.{Claim}

row_from : (before : Option Claim) (cs : List Claim) → map (λ (pair : Option Claim × Claim). claim_after pair.0 pair.1) (zip (before ∷ map Some cs) cs) ≡ row_after before cs
row_from before [] = refl
row_from before (c ∷ cs) = ap (λ rest. claim_after before c ∷ rest) (row_from (Some c) cs)

pub row_is : (cs : List Claim) → in_row cs ≡ row_after None cs
row_is = row_from None

row_push_after : (before : Option Claim) (cs : List Claim) (c : Claim) → row_after before (cs ++ c ∷ []) ≡ row_after before cs ++ claim_after (last_or before cs) c ∷ []
row_push_after before [] c = refl
row_push_after before (d ∷ cs) c = ap (λ rest. claim_after before d ∷ rest) (row_push_after (Some d) cs c)

-- one more claim comes after those of the row
pub row_push : (cs : List Claim) (c : Claim) → in_row (cs ++ c ∷ []) ≡ in_row cs ++ claim_after (last_or None cs) c ∷ []
row_push cs c = row_is (cs ++ c ∷ []) ∙ row_push_after None cs c ∙ ap (λ items. items ++ claim_after (last_or None cs) c ∷ []) (sym (row_is cs))
