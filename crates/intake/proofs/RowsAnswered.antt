-- How far the rows of a list are answered.
use Rattle.std.proofs.Common.{◌≡◌, List, [], ◌∷◌, ◌++◌, sym, ap, ◌∙◌, append_assoc}
use Rattle.intake_requests.specs.declared.requests.Request.{Request}

-- Of these requests the first ones, `done`, are answered, and `rest` is left.
pub record RowsSoFar (whole rest : List Request) (Done : List Request → Type 0) : Type 0 where
  pub done : List Request
  pub split : whole ≡ done ++ rest
  pub answered : Done done

-- one row more is answered
pub one_row_more : (whole done rest later : List Request) (request : Request) → whole ≡ done ++ rest → rest ≡ request ∷ later → whole ≡ (done ++ request ∷ []) ++ later
one_row_more whole done rest later request split is = split ∙ ap (λ r. done ++ r) is ∙ sym (append_assoc done (request ∷ []) later)

pub next_row : (whole rest later : List Request) (request : Request) (Done Did : List Request → Type 0) → rest ≡ request ∷ later
    → ((done : List Request) → Done done → Did (done ++ request ∷ [])) → RowsSoFar whole rest Done → RowsSoFar whole later Did
next_row whole rest later request Done Did is then so = record {
  done = so.done ++ request ∷ [];
  split = one_row_more whole so.done rest later request so.split is;
  answered = then so.done so.answered;
}
