use Rattle.std.proofs.Common.{◌≡◌, map, take}
use Rattle.rank_slots.proofs.paying.claims_of.Given as goal

abbrev pub invariant-loop-place : goal.invariant-loop-place
invariant-loop-place l = l.claims.items ≡ map (λ p. p.claim) (take l.place-index l.group)
