-- The row of claims as it is written claim by claim.
use Rattle.std.specs.Prelude.{List, [], ◌∷◌, Option, Some}
use Rattle.auction_classes.specs.Claims.{claim_after}
use Rattle.auction_classes.specs.declared.claim_items.Claim.{Claim}
use Rattle.auction_classes.specs.declared.claim_items.ClaimItem.{ClaimItem}

-- these claims in their row, of which the first comes after the one given
abbrev pub row_after : Option Claim → List Claim → List ClaimItem
row_after before [] = []
row_after before (c ∷ cs) = claim_after before c ∷ row_after (Some c) cs
