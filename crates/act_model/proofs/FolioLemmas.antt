-- How many folios the acts of a filing name.
use Rattle.std.proofs.Common.{◌≡◌, ◌+◌, ◌-◌, ◌<◌, cond, eqb, List, [], ◌∷◌, map, length, take, drop, get_or, arith}
use Rattle.std.specs.List.{list_any}
use Rattle.std.proofs.lemmas.Grind.{common_steps}
use Rattle.act_model.specs.declared.filing_acts.Act.{Act}
use Rattle.act_model.specs.Acts.{folio_of}
use Rattle.act_model.specs.WellFormed.{different}

-- the first act counts where no later one names its folio
pub different_first : (acts : List Act) (a : Act) → 0 < length acts → a ≡ get_or acts 0 a → different (map folio_of acts) ≡ cond (list_any (λ f. eqb f (folio_of a)) (map folio_of (take (length acts - 1) (drop 1 acts)))) (different (map folio_of (take (length acts - 1) (drop 1 acts)))) (different (map folio_of (take (length acts - 1) (drop 1 acts))) + 1)
different_first [] a within first = absurd (omega arith)
different_first (x ∷ xs) a within first =
    let tail : take (length (x ∷ xs) - 1) (drop 1 (x ∷ xs)) ≡ xs = grind (arith, common_steps) in
    rw (tail, first)
