-- The rights that are live are held.
use Rattle.std.proofs.Common.{◌≡◌, Bool, true, false, List, [], ◌∷◌, ◌++◌, ℕ, All, IsTrue, Some, is_some, refl, sym, ap, ◌∙◌, ⊎_elim}
use Rattle.std.proofs.lemmas.Bool.{false≢true}
use Rattle.std.proofs.lemmas.List.Elements.{All-from_recursion, filter_map-append}
use Rattle.gb_base.specs.declared.keys.Key.{Key}
use Rattle.gb_base.specs.declared.keys.Key.TheVariants.{Right}
use Rattle.folio_sections.specs.Rights.{created}
use Rattle.folio_sections.specs.declared.entries.Created.{Created}
use Rattle.folio_sections.specs.declared.entries.Entry.{Entry}
use Rattle.folio_sections.proofs.FilteredLists.{all_in}
use Rattle.folio_line.specs.FolioRights.{live_rights, is_live_with}
use Rattle.folio_line.specs.declared.folio_rights.CreatedRight.{CreatedRight}
use Rattle.folio_line.proofs.PlacedOrder.{of_placed_rights}
use Rattle.folio_line.proofs.ReadWhereHeld.{NotHeld}

created_is_held : (held : Key → Bool) (at : Key → List Entry) (k : Key) (made : Created) → NotHeld held at → created (at k) ≡ Some made → held k ≡ true
created_is_held held at k made none is =
    elim (held k) as (λ b. held k ≡ b → b ≡ true) [
      | true ↦ λ _. refl
      | false ↦ λ apart. absurd (false≢true (ap is_some (sym (ap created (none k apart)) ∙ is)))
    ] refl

pub live_are_held : (held : Key → Bool) (at : Key → List Entry) (folio : ℕ) → NotHeld held at → All (λ x. IsTrue (held (Right folio x.id))) (live_rights at folio)
live_are_held held at folio none =
    let rights = live_rights at folio in
    All-from_recursion (λ (x : CreatedRight). IsTrue (held (Right folio x.id))) rights
    (all_in (λ (x : CreatedRight). IsTrue (held (Right folio x.id))) rights
    (λ x there. created_is_held held at (Right folio x.id) x.made none (of_placed_rights is_live_with at folio x there).made))
