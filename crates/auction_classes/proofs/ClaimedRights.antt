-- What holds of each of some values holds of the one that is found among them.
use Rattle.std.proofs.Common.{◌≡◌, Bool, true, false, cond, List, [], ◌∷◌, All, find, Some, subst, ap}
use Rattle.std.specs.Option.{is_some}
use Rattle.std.proofs.lemmas.Bool.{false≢true}
use Rattle.std.proofs.lemmas.List.Elements.{All-head, All-tail}

pub found_keeps : {X : Type 0} (P : X → Type 0) (test : X → Bool) (xs : List X) (x : X) → All P xs → find test xs ≡ Some x → P x
found_keeps P test [] x all is = absurd (false≢true (ap is_some is))
found_keeps P test (y ∷ ys) x all is = elim (test y) as (λ b. cond b (Some y) (find test ys) ≡ Some x → P x) [
  | true ↦ λ here. let same : y ≡ x = cc in subst P same (All-head P y ys all)
  | false ↦ λ rest. found_keeps P test ys x (All-tail P y ys all) rest
] is
