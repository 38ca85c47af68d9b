-- Where a folio stands among queues whose folios ascend.
use Rattle.std.proofs.Common.{◌≡◌, ⊎_elim, ℕ, suc, ◌<◌, ◌==◌, ◌||◌, Bool, true, false, List, [], ◌∷◌, AllPairs, get_or, length, nat_lt, refl, sym, ap, ◌∙◌, arith}
use Rattle.std.specs.List.Sorted.{IsPartitionPoint, IsPartitionedBy}
use Rattle.std.proofs.lemmas.Bool.{cases_eq, cases_lt, eqb-true, false≢true}
use Rattle.std.proofs.lemmas.Bool.Decides.{nat_tests}
use Rattle.desk_pool.specs.declared.folio_queues.FolioQueue.{FolioQueue}
use Rattle.desk_pool.specs.inner.AllQueues.{is_queued}

-- a folio that has a queue has it at some place
queued_at : (queues : List FolioQueue) (f : ℕ) (d : FolioQueue) → is_queued queues f ≡ true → (j : ℕ) × (j < length queues) × ((get_or queues j d).folio ≡ f)
queued_at [] f d queued = absurd (false≢true queued)
queued_at (q ∷ qs) f d queued =
    elim (f == q.folio) as (λ b. (f == q.folio) ≡ b → (b || is_queued qs f) ≡ true → (j : ℕ) × (j < length (q ∷ qs)) × ((get_or (q ∷ qs) j d).folio ≡ f)) [
      | true ↦ λ e _. (0, omega arith, sym (eqb-true f q.folio e))
      | false ↦ λ _ h. let rest = queued_at qs f d h in (suc rest.0, omega (arith, rest.1), rest.2)
    ] refl queued

module _ (queues : List FolioQueue) (f : ℕ) (rise : AllPairs (λ q later. q.folio < later.folio) queues) where
  -- queues of lower numbers stand before the others
  pub lower_ahead : IsPartitionedBy (λ (q : FolioQueue). nat_lt q.folio f) queues
  lower_ahead i j d ahead within lower =
      ⊎_elim
      (λ less.
      let before = rise i j d less within in
      lower_still (get_or queues i d).folio (get_or queues j d).folio before lower)
      (λ above. ap (λ n. nat_lt (get_or queues n d).folio f) (let same : i ≡ j = omega (arith, ahead, above) in same) ∙ lower)
      (cases_lt i j)
    where
      lower_still : (a b : ℕ) → a < b → nat_lt b f ≡ true → nat_lt a f ≡ true
      lower_still a b less below = grind (arith, nat_tests, less, below)

  -- so the folio's queue stands right after those of lower numbers
  pub stands_behind : (place : ℕ) (d : FolioQueue) → is_queued queues f ≡ true → IsPartitionPoint (λ (q : FolioQueue). nat_lt q.folio f ≡ true) (λ q. nat_lt q.folio f ≡ false) queues place
      → (place < length queues) × ((get_or queues place d).folio ≡ f)
  stands_behind place d queued point =
      let there = queued_at queues f d queued in
      let j = there.0 in
      ⊎_elim
      (λ less. absurd (not_lower (get_or queues j d).folio there.2 (point.0 j d (omega arith) less)))
      (λ above.
      ⊎_elim
      (λ same. (let within = there.1 in omega (arith, same, within), ap (λ n. (get_or queues n d).folio) same ∙ there.2))
      (λ apart.
      let less : place < j = grind (arith, nat_tests, above, apart) in
      let before = rise place j d less there.1 in
      let is = there.2 in
      absurd (not_above (get_or queues place d).folio (omega (arith, before, is)) (point.1 place d (omega arith) (let within = there.1 in omega (arith, less, within)))))
      (cases_eq place j))
      (cases_lt j place)
    where
      not_lower : (a : ℕ) → a ≡ f → nat_lt a f ≡ true → ⊥
      not_lower a is lower = absurd (grind (arith, nat_tests, is, lower))

      not_above : (a : ℕ) → a < f → nat_lt a f ≡ false → ⊥
      not_above a less none = absurd (grind (arith, nat_tests, less, none))

-- there is a queue at that place
pub within_behind : (queues : List FolioQueue) (f place : ℕ) → AllPairs (λ q later. q.folio < later.folio) queues → is_queued queues f ≡ true
    → IsPartitionPoint (λ (q : FolioQueue). nat_lt q.folio f ≡ true) (λ q. nat_lt q.folio f ≡ false) queues place → place < length queues
within_behind [] f place rise queued point = absurd (false≢true queued)
within_behind (q ∷ qs) f place rise queued point = (stands_behind (q ∷ qs) f rise place q queued point).0

-- so a queue is found there
pub found_at : (place count : ℕ) (found : Bool) → found ≡ nat_lt place count → place < count → found ≡ true
found_at place count found is within = grind (arith, nat_tests, is, within)
