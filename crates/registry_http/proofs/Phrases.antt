-- The phrase of a status.
use Rattle.std.proofs.Common.{◌≡◌, ℕ, List, [], Option, Some, None, Bor, option_map, unwrap_or, ap, ◌∙◌}
use Rattle.http.specs.StatusCode.{reason_phrase}
use Rattle.registry_http.specs.Replies.{phrase_of}

-- what is found, or else the empty text
pub found_or_empty : (o : Option (Bor (List ℕ))) (empty : Bor (List ℕ)) (p : Option (List ℕ)) → empty.now ≡ [] → option_map (λ s. s.now) o ≡ p
    → (unwrap_or o empty).now ≡ unwrap_or p []
found_or_empty None empty p none is = none ∙ ap (λ q. unwrap_or q []) is
found_or_empty (Some s) empty p none is = ap (λ q. unwrap_or q []) is

pub phrase_found : (o : Option (Bor (List ℕ))) (empty : Bor (List ℕ)) (status : ℕ) → empty.now ≡ [] → option_map (λ s. s.now) o ≡ reason_phrase status
    → (unwrap_or o empty).now ≡ phrase_of status
unfolding phrase_of
phrase_found o empty status none is = found_or_empty o empty (reason_phrase status) none is
