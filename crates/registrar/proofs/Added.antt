-- What holds of the entries that a list adds at a key.
use Rattle.std.proofs.Common.{◌≡◌, ⊎_elim, true, false, cond, List, [], ◌∷◌, ◌++◌, Contains, refl, sym, ap, subst, ◌∙◌}
use Rattle.std.specs.List.{AllByRecursion}
use Rattle.std.proofs.lemmas.Bool.{cases_Bool, false≢true}
use Rattle.std.proofs.lemmas.List.{append-nil}
use Rattle.gb_base.specs.Keys.{same_key}
use Rattle.gb_base.specs.declared.keys.Key.{Key}
use Rattle.act_model.proofs.KeyOrder.{has, has_decides, same_is}
use Rattle.folio_sections.specs.Entries.{at, with_entries}
use Rattle.folio_sections.specs.declared.entries.Entry.{Entry}
use Rattle.folio_sections.proofs.Additions.{none_at}
use Rattle.folio_sections.proofs.Unchanged.{all_weaker}

-- ---- the entries at a key

-- what holds of each entry with its own key holds of the entries at a key, with that key
pub all_here : (P : Key → Entry → Type 0) (es : List Entry) (k : Key) → AllByRecursion (λ e. P e.key e) es → AllByRecursion (P k) (at es k)
all_here P [] k all = tt
all_here P (e ∷ es) k all =
    elim (same_key e.key k) as (λ b. same_key e.key k ≡ b → AllByRecursion (P k) (cond b (e ∷ at es k) (at es k))) [
      | true ↦ λ same. (subst (λ j. P j e) (same_is e.key k same) all.0, all_here P es k all.1)
      | false ↦ λ other. all_here P es k all.1
    ] refl

apart : (keys : List Key) (k j : Key) → has k keys ≡ false → Contains keys j → same_key j k ≡ false
apart keys k j lacks there =
    ⊎_elim
    (λ same. absurd (false≢true (sym lacks ∙ (has_decides k keys).1 (subst (Contains keys) (same_is j k same) there))))
    (λ other. other)
    (cases_Bool (same_key j k))

-- entries at these keys alone add nothing at another
pub none_elsewhere : (keys : List Key) (es : List Entry) (k : Key) → AllByRecursion (λ e. Contains keys e.key) es → has k keys ≡ false → at es k ≡ []
none_elsewhere keys es k there lacks = none_at es k (all_weaker (λ e. Contains keys e.key) (λ e. same_key e.key k ≡ false) es (λ e inside. apart keys k e.key lacks inside) there)

pub unchanged_elsewhere : (before : Key → List Entry) (keys : List Key) (es : List Entry) (k : Key) → AllByRecursion (λ e. Contains keys e.key) es → has k keys ≡ false → with_entries before es k ≡ before k
unchanged_elsewhere before keys es k there lacks = ap (λ added. before k ++ added) (none_elsewhere keys es k there lacks) ∙ append-nil (before k)
