-- Parts that hold no key.
use Rattle.std.proofs.Common.{◌≡◌, false, ◌||◌, List, [], ◌∷◌, refl, sym, ap, ◌∙◌}
use Rattle.std.proofs.lemmas.Bool.{false≢true}
use Rattle.gb_base.specs.declared.keys.Key.{Key}
use Rattle.act_model.proofs.KeyOrder.{itself}
use Rattle.folio_sections.specs.Held.{is_held}
use Rattle.folio_sections.specs.PartState.{PartState}

-- parts that hold no key are an empty list
pub nothing_held : (parts : List PartState) → ((k : Key) → is_held parts k ≡ false) → parts ≡ []
nothing_held [] none = refl
nothing_held (p ∷ ps) none = absurd (false≢true (sym (none p.key) ∙ ap (λ b. b || is_held ps p.key) (itself p.key)))
