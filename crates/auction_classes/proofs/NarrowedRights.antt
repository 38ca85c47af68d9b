-- The rights of a folio for which a narrower test holds are a filter of those for which a wider one does.
use Rattle.std.proofs.Common.{◌≡◌, ℕ, Bool, true, false, cond, List, [], ◌∷◌, ◌++◌, filter, filter_map, flat_map, Option, Some, None, option_map, refl, sym, ap, ◌∙◌}
use Rattle.std.specs.List.{cons_option, range_with_len}
use Rattle.std.proofs.lemmas.Bool.{false≢true}
use Rattle.std.proofs.lemmas.List.Elements.{filter-append}
use Rattle.gb_base.specs.RightNo.{RightNo}
use Rattle.gb_base.specs.declared.keys.Key.{Key}
use Rattle.gb_base.specs.declared.keys.Key.TheVariants.{Right}
use Rattle.act_model.specs.Limits.{most_groups}
use Rattle.folio_sections.specs.HeldRights.{receipt_numbers, rights_of_filing}
use Rattle.folio_sections.specs.Rights.{created}
use Rattle.folio_sections.specs.declared.entries.Created.{Created}
use Rattle.folio_sections.specs.declared.entries.Entry.{Entry}
use Rattle.folio_line.specs.FolioRights.{by_group, has_group, right_where, rights_of, rights_where}
use Rattle.folio_line.specs.declared.folio_rights.CreatedRight.{CreatedRight}
use Rattle.folio_line.proofs.PlacedOrder.{the_right}

-- ---- filters

one_swapped : {X : Type 0} (p q : X → Bool) (x : X) (ps qs : List X) (a b : Bool) → p x ≡ a → q x ≡ b → filter p qs ≡ filter q ps → filter p (cond b (x ∷ qs) qs) ≡ filter q (cond a (x ∷ ps) ps)
one_swapped p q x ps qs true true first second rest =
    (λ i. cond (first i) (x ∷ filter p qs) (filter p qs)) ∙ ap (λ ys. x ∷ ys) rest ∙ (λ i. cond (sym second i) (x ∷ filter q ps) (filter q ps))
one_swapped p q x ps qs true false first second rest = rest ∙ (λ i. cond (sym second i) (x ∷ filter q ps) (filter q ps))
one_swapped p q x ps qs false true first second rest = (λ i. cond (first i) (x ∷ filter p qs) (filter p qs)) ∙ rest
one_swapped p q x ps qs false false first second rest = rest

-- two filters come to the same in either order
filters_swap : {X : Type 0} (p q : X → Bool) (xs : List X) → filter p (filter q xs) ≡ filter q (filter p xs)
filters_swap p q [] = refl
filters_swap p q (x ∷ xs) = one_swapped p q x (filter p xs) (filter q xs) (p x) (q x) refl refl (filters_swap p q xs)

filter_in_turn : {X Y : Type 0} (p : Y → Bool) (f : X → List Y) (xs : List X) → filter p (flat_map f xs) ≡ flat_map (λ x. filter p (f x)) xs
filter_in_turn p f [] = refl
filter_in_turn p f (x ∷ xs) = filter-append p (f x) (flat_map f xs) ∙ ap (λ ys. filter p (f x) ++ ys) (filter_in_turn p f xs)

-- a filter of rights by group is the filter of the rights, by group
grouped_filter : (p : CreatedRight → Bool) (xs : List CreatedRight) → by_group (filter p xs) ≡ filter p (by_group xs)
grouped_filter p xs = (λ i. flat_map (λ g. filters_swap (has_group g) p xs i) (range_with_len 1 most_groups)) ∙ sym (filter_in_turn p (λ g. filter (has_group g) xs) (range_with_len 1 most_groups))

-- ---- rights

-- the test, of a right
abbrev pub holds_of : (RightNo → List Entry → Bool) → (Key → List Entry) → ℕ → CreatedRight → Bool
holds_of holds at folio x = holds x.id (at (Right folio x.id))

-- one more right
one_narrowed : (t : CreatedRight → Bool) (id : RightNo) (a b : Bool) (o : Option Created) (narrow wide : List CreatedRight) → (a ≡ true → b ≡ true) → ((made : Created) → t (the_right id made) ≡ a)
    → narrow ≡ filter t wide → cons_option (option_map (the_right id) (cond a o None)) narrow ≡ filter t (cons_option (option_map (the_right id) (cond b o None)) wide)
one_narrowed t id true true None narrow wide less is rest = rest
one_narrowed t id true true (Some made) narrow wide less is rest = ap (λ ys. the_right id made ∷ ys) rest ∙ (λ i. cond (sym (is made) i) (the_right id made ∷ filter t wide) (filter t wide))
one_narrowed t id true false o narrow wide less is rest = absurd (false≢true (less refl))
one_narrowed t id false true None narrow wide less is rest = rest
one_narrowed t id false true (Some made) narrow wide less is rest = rest ∙ (λ i. cond (sym (is made) i) (the_right id made ∷ filter t wide) (filter t wide))
one_narrowed t id false false o narrow wide less is rest = rest

narrowed : (p q : RightNo → List Entry → Bool) (at : Key → List Entry) (folio : ℕ) (ids : List RightNo) → ((id : RightNo) (es : List Entry) → p id es ≡ true → q id es ≡ true)
    → filter_map (right_where p at folio) ids ≡ filter (holds_of p at folio) (filter_map (right_where q at folio) ids)
narrowed p q at folio [] less = refl
narrowed p q at folio (id ∷ ids) less =
    let es = at (Right folio id) in
    one_narrowed (holds_of p at folio) id (p id es) (q id es) (created es) _ _ (less id es) (λ made. refl) (narrowed p q at folio ids less)

pub rights_narrowed : (p q : RightNo → List Entry → Bool) (at : Key → List Entry) (folio : ℕ) → ((id : RightNo) (es : List Entry) → p id es ≡ true → q id es ≡ true)
    → rights_where p at folio ≡ filter (holds_of p at folio) (rights_where q at folio)
rights_narrowed p q at folio less =
    (λ i. flat_map (λ m. (ap by_group (narrowed p q at folio (rights_of_filing m) less) ∙ grouped_filter (holds_of p at folio) (rights_of q at folio m)) i) receipt_numbers)
    ∙ sym (filter_in_turn (holds_of p at folio) (λ m. by_group (rights_of q at folio m)) receipt_numbers)
