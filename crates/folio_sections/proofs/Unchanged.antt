-- Entries that are added without changing which notices or places stand.
use Rattle.std.proofs.Common.{◌≡◌, ℕ, true, false, cond, List, [], ◌∷◌, ◌++◌, Option, Some, None, find, fold, option_map, is_some, refl, ap, ◌∙◌}
use Rattle.std.specs.List.{AllByRecursion}
use Rattle.std.specs.Option.{option_or}
use Rattle.std.proofs.lemmas.List.{append-nil}
use Rattle.std.proofs.lemmas.List.Elements.{filter_map-append}
use Rattle.std.proofs.lemmas.List.Folds.{find-append}
use Rattle.std.proofs.lemmas.List.Sums.{fold-append}
use Rattle.gb_base.specs.Keys.{same_key}
use Rattle.gb_base.specs.declared.keys.Key.{Key}
use Rattle.act_model.specs.declared.receipts.Receipt.{Receipt}
use Rattle.folio_sections.specs.Entries.{at}
use Rattle.folio_sections.specs.Places.{place_by, places_among}
use Rattle.folio_sections.specs.Waiting.{is_notice_of, notice, pending, until_by}
use Rattle.folio_sections.specs.declared.entries.Entry.{Entry}

-- what holds of all entries of a list holds of those at a key
pub all_at : (P : Entry → Type 0) (es : List Entry) (k : Key) → AllByRecursion P es → AllByRecursion P (at es k)
all_at P [] k all = tt
all_at P (e ∷ es) k all =
    elim (same_key e.key k) as (λ b. AllByRecursion P (cond b (e ∷ at es k) (at es k))) [
      | true ↦ (all.0, all_at P es k all.1)
      | false ↦ all_at P es k all.1
    ]

pub all_both : {X : Type 0} (P : X → Type 0) (xs ys : List X) → AllByRecursion P xs → AllByRecursion P ys → AllByRecursion P (xs ++ ys)
all_both P [] ys first second = second
all_both P (x ∷ xs) ys first second = (first.0, all_both P xs ys first.1 second)

-- what follows at each element follows of all
pub all_weaker : {X : Type 0} (P Q : X → Type 0) (xs : List X) → ((x : X) → P x → Q x) → AllByRecursion P xs → AllByRecursion Q xs
all_weaker P Q [] f all = tt
all_weaker P Q (x ∷ xs) f all = (f x all.0, all_weaker P Q xs f all.1)

-- the entry does not set filing m to wait, does not end its waiting, and is not its official notice
abbrev pub KeepsNotice : ℕ → Entry → Type 0
KeepsNotice m e = (before : Option ℕ) → (until_by m before e.what ≡ before) × (is_notice_of m e.what ≡ false)

-- the entry keeps the waiting and the notice of every filing
abbrev pub KeepsNotices : Entry → Type 0
KeepsNotices e = (m : ℕ) → KeepsNotice m e

fold_keeps : (m : ℕ) (before : Option ℕ) (es : List Entry) → AllByRecursion (KeepsNotice m) es → fold (λ b e. until_by m b e.what) before es ≡ before
fold_keeps m before [] all = refl
fold_keeps m before (e ∷ es) all =
    ap (λ b. fold (λ b e. until_by m b e.what) b es) (all.0 before).0 ∙ fold_keeps m before es all.1

-- the filing waits as before
pub pending_stays : (m : ℕ) (xs ys : List Entry) → AllByRecursion (KeepsNotice m) ys → pending m (xs ++ ys) ≡ pending m xs
pending_stays m xs ys all =
    fold-append (λ b e. until_by m b e.what) None xs ys ∙ fold_keeps m (pending m xs) ys all

none_found : (m : ℕ) (es : List Entry) → AllByRecursion (KeepsNotice m) es → find (λ e. is_notice_of m e.what) es ≡ None
none_found m [] all = refl
none_found m (e ∷ es) all = rw (all.0 None).1 (none_found m es all.1)

or_none : {X : Type 0} (o : Option X) → option_or o None ≡ o
or_none (Some x) = refl
or_none None = refl

found_stays : (m : ℕ) (xs ys : List Entry) → AllByRecursion (KeepsNotice m) ys → find (λ e. is_notice_of m e.what) (xs ++ ys) ≡ find (λ e. is_notice_of m e.what) xs
found_stays m xs ys all =
    find-append (λ e. is_notice_of m e.what) xs ys
    ∙ ap (λ o. option_or (find (λ e. is_notice_of m e.what) xs) o) (none_found m ys all)
    ∙ or_none (find (λ e. is_notice_of m e.what) xs)

-- its official notice stands as before
pub own_notice_stays : (m : ℕ) (xs ys : List Entry) → AllByRecursion (KeepsNotice m) ys → notice m (xs ++ ys) ≡ notice m xs
own_notice_stays m xs ys all =
    let waits = pending_stays m xs ys all in
    let finds = found_stays m xs ys all in
    λ i. cond (is_some (waits i)) (option_map (λ e. e.day) (finds i)) None

keeps_own : (m : ℕ) (es : List Entry) → AllByRecursion KeepsNotices es → AllByRecursion (KeepsNotice m) es
keeps_own m [] all = tt
keeps_own m (e ∷ es) all = (all.0 m, keeps_own m es all.1)

-- the official notice of any filing stands as before
pub notice_stays : (m : ℕ) (xs ys : List Entry) → AllByRecursion KeepsNotices ys → notice m (xs ++ ys) ≡ notice m xs
notice_stays m xs ys all = own_notice_stays m xs ys (keeps_own m ys all)

-- the entry sets no place
abbrev pub SetsNoPlace : Entry → Type 0
SetsNoPlace e = (journal : List Receipt) (folio : ℕ) → place_by journal folio e.day e.what ≡ None

no_places : (journal : List Receipt) (folio : ℕ) (es : List Entry) → AllByRecursion SetsNoPlace es → places_among journal folio es ≡ []
no_places journal folio [] all = refl
no_places journal folio (e ∷ es) all = rw (all.0 journal folio) (no_places journal folio es all.1)

-- the places stand as before
pub places_stay : (journal : List Receipt) (folio : ℕ) (xs ys : List Entry) → AllByRecursion SetsNoPlace ys → places_among journal folio (xs ++ ys) ≡ places_among journal folio xs
places_stay journal folio xs ys all =
    filter_map-append (λ e. place_by journal folio e.day e.what) xs ys
    ∙ ap (λ ps. places_among journal folio xs ++ ps) (no_places journal folio ys all)
    ∙ append-nil (places_among journal folio xs)
