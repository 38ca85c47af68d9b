-- The covers of seizures, and the least of some numbers, as they are found in one walk.
use Rattle.std.specs.Prelude.{ℕ, ◌+◌, if◌then◌else◌, List, [], ◌∷◌, fold, length, min, Option, Some, None}
use Rattle.act_model.specs.declared.sales.Basis.{Basis}
use Rattle.act_model.specs.declared.sales.Basis.TheVariants as basis
use Rattle.rank_slots.specs.Filled.{Filled, line}
use Rattle.rank_slots.specs.Payments.{threshold}
use Rattle.auction_classes.specs.LowestBid.{personal_amount}
use Rattle.auction_classes.specs.declared.claim_items.SeizedFor.{SeizedFor}

-- what stands ahead of a seizure from class 4 on, where personal creditors seized for so much before it
abbrev pub cover_by : Filled → ℕ → Basis → ℕ
cover_by four before (basis.Personal creditor claim) = length (line four) + before
cover_by four before (basis.FromRight right) = threshold four right

-- the cover of each of these seizures that is served, where personal creditors seized for so much before them
abbrev pub covers_from : Filled → ℕ → List SeizedFor → List ℕ
covers_from four before [] = []
covers_from four before (z ∷ zs) =
    if z.served
    then cover_by four before z.basis ∷ covers_from four (before + personal_amount z.basis) zs
    else covers_from four (before + personal_amount z.basis) zs

-- the lesser of two numbers, where the first is there
abbrev pub lesser : Option ℕ → ℕ → Option ℕ
lesser None n = Some n
lesser (Some least) n = Some (min least n)

-- the least of these numbers, with the one that was least before them
abbrev pub least_from : Option ℕ → List ℕ → Option ℕ
least_from before numbers = fold lesser before numbers
