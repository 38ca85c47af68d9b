-- The open folios of a register are one list.
use Rattle.std.proofs.Common.{◌≡◌, ℕ, true, false, cond, ◌||◌, List, [], ◌∷◌, filter, filter_map, map, Some, None, refl, sym, ap, subst}
use Rattle.std.specs.List.{cons_option}
use Rattle.std.proofs.lemmas.Bool.{false≢true}
use Rattle.gb_base.specs.Keys.{same_key}
use Rattle.gb_base.specs.declared.keys.Key.{Key}
use Rattle.gb_base.specs.declared.keys.Key.TheVariants.{Title, Right, Case}
use Rattle.act_model.proofs.KeyOrder.{has, has_decides, in_key_order_members, in_key_order_sorted}
use Rattle.act_model.specs.Touches.{in_key_order}
use Rattle.folio_sections.specs.Entries.{at as at_key}
use Rattle.folio_sections.specs.Titles.{is_open}
use Rattle.folio_sections.specs.declared.entries.Entry.{Entry}
use Rattle.registrar.specs.OpenFolios.{folio_of_title, open_folios}
use Rattle.registrar.specs.inner.OpenFolios.{AreOpenFolios}
use Rattle.registrar.proofs.OpenTitles.{among_rises, are_open, open_among}
use Rattle.registrar.proofs.RisingNumbers.{contains_of_in, in_of_contains, one_rising, rises_of_pairs}

-- the open ones among the titles are the open titles
filtered_titles : (at : Key → List Entry) (ks : List Key) → filter (λ folio. is_open (at (Title folio))) (filter_map folio_of_title ks) ≡ open_among at ks
filtered_titles at [] = refl
filtered_titles at (Title f ∷ ks) =
    elim (is_open (at (Title f))) as (λ b. cond b (f ∷ filter (λ folio. is_open (at (Title folio))) (filter_map folio_of_title ks)) (filter (λ folio. is_open (at (Title folio))) (filter_map folio_of_title ks)) ≡ cons_option (cond b (Some f) None) (open_among at ks)) [
      | true ↦ ap (λ ns. f ∷ ns) (filtered_titles at ks)
      | false ↦ filtered_titles at ks
    ]
filtered_titles at (Right f right ∷ ks) = filtered_titles at ks
filtered_titles at (Case f ∷ ks) = filtered_titles at ks

-- an open title has an entry
key_of_open : (entries : List Entry) (k : Key) → is_open (at_key entries k) ≡ true → has k (map (λ e. e.key) entries) ≡ true
key_of_open [] k is = absurd (false≢true is)
key_of_open (e ∷ es) k is =
    elim (same_key e.key k) as (λ b. is_open (cond b (e ∷ at_key es k) (at_key es k)) ≡ true → (b || has k (map (λ x. x.key) es)) ≡ true) [
      | true ↦ λ _. refl
      | false ↦ λ later. key_of_open es k later
    ] is

pub open_folios_are : (entries : List Entry) → AreOpenFolios (open_folios entries) (λ k. at_key entries k)
open_folios_are entries =
    let at : Key → List Entry = λ k. at_key entries k in
    let all : List Key = map (λ e. e.key) entries in
    let keys : List Key = in_key_order all in
    subst (λ folios. AreOpenFolios folios at) (sym (filtered_titles at keys))
    (are_open at keys (open_among at keys) (among_rises at keys (in_key_order_sorted all)) (λ folio there. there) (λ folio there. there)
    (λ folio is. (has_decides (Title folio) keys).1 ((in_key_order_members all (Title folio)).1 ((has_decides (Title folio) all).0 (key_of_open entries (Title folio) is)))))

pub one_list_of_folios : (folios : List ℕ) (entries : List Entry) (stands : Key → List Entry) → AreOpenFolios folios stands → ((k : Key) → stands k ≡ at_key entries k) → folios ≡ open_folios entries
one_list_of_folios folios entries stands ours same =
    let theirs = open_folios_are entries in
    one_rising folios (open_folios entries) (rises_of_pairs folios ours.ascending) (rises_of_pairs (open_folios entries) theirs.ascending)
    (λ n there. in_of_contains (open_folios entries) n ((theirs.members n).1 (subst (λ es. is_open es ≡ true) (same (Title n)) ((ours.members n).0 (contains_of_in folios n there)))))
    (λ n there. in_of_contains folios n ((ours.members n).1 (subst (λ es. is_open es ≡ true) (sym (same (Title n))) ((theirs.members n).0 (contains_of_in (open_folios entries) n there)))))
