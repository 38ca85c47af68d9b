-- What is read at a key that is not held.
use Rattle.std.proofs.Common.{◌≡◌, false, List, [], Some, None, find, refl, sym, ◌∙◌}
use Rattle.std.specs.Option.{option_map_or}
use Rattle.std.proofs.lemmas.Bool.{false≢true}
use Rattle.gb_base.specs.declared.keys.Key.{Key}
use Rattle.folio_sections.specs.Held.{entries_at, is_held}
use Rattle.folio_sections.specs.PartState.{PartState}
use Rattle.folio_sections.proofs.HeldParts.{held_found, is_at}

-- nothing is read at a key that is not held
pub not_held : (parts : List PartState) (k : Key) → is_held parts k ≡ false → entries_at parts k ≡ []
not_held parts k apart =
    elim (find (is_at k) parts) as (λ o. find (is_at k) parts ≡ o → option_map_or (λ (p : PartState). p.entries) o [] ≡ []) [
      | None ↦ λ _. refl
      | Some p ↦ λ found. absurd (false≢true (sym apart ∙ held_found parts k p found))
    ] refl
