-- A filing's places and the contents of its acts, and the parts at which they are entered.
use Rattle.std.proofs.Common.{◌≡◌, ℕ, Bool, List, [], ◌∷◌, ◌++◌, Contains, Some, IsTrue, refl, sym, ap, subst, arith}
use Rattle.std.specs.Option.{option_map_or}
use Rattle.std.proofs.lemmas.List.Elements.{Contains-append_right}
use Rattle.gb_base.specs.declared.keys.Key.{Key}
use Rattle.act_model.specs.declared.items.Filing.{Filing}
use Rattle.act_model.specs.declared.receipts.Receipt.{Receipt}
use Rattle.act_model.specs.Touches.{filing_at, keys_of_acts, keys_of_filing}
use Rattle.folio_sections.specs.Adding.{AddsAll, AddsList}
use Rattle.entry_rules.specs.Entering.{contents_brought, entered, places_brought, with_places}
use Rattle.folio_sections.specs.declared.entries.Entry.{Entry}
use Rattle.folio_sections.proofs.Additions.{adds_then}
use Rattle.entry_rules.specs.inner.Acting.{Held}

-- the parts of all keys are held
pub held_all : (holds : Key → Bool) (ks : List Key) → ((k : Key) → Contains ks k → IsTrue (holds k)) → Held holds ks
held_all holds [] all = tt
held_all holds (k ∷ ks) all =
    (all k (0, omega arith, refl), held_all holds ks (λ j there. all j (Contains-append_right (k ∷ []) ks j there)))

pub held_both : (holds : Key → Bool) (ks js : List Key) → Held holds (ks ++ js) → Held holds ks × Held holds js
held_both holds [] js all = (tt, all)
held_both holds (k ∷ ks) js all = let rest = held_both holds ks js all.1 in ((all.0, rest.0), rest.1)

pub keys_are : (journal : List Receipt) (m : ℕ) (f : Filing) → filing_at journal m ≡ Some f → keys_of_filing journal m ≡ keys_of_acts journal m 1 f.acts
keys_are journal m f is = ap (λ o. option_map_or (λ g. keys_of_acts journal m 1 g.acts) o []) is

-- what the entry of a filing brings: its places, and then the contents of its acts
entered_is : (journal : List Receipt) (m i : ℕ) (at0 : Key → List Entry) (f : Filing) → filing_at journal m ≡ Some f → entered journal m i at0 ≡ places_brought journal m i at0 ++ contents_brought journal m i (with_places journal m i at0) f
entered_is journal m i at0 f is =
    ap (λ o. option_map_or (λ g. places_brought journal m i at0 ++ contents_brought journal m i (with_places journal m i at0) g) o []) is

-- what stands once the places are added
placed_is : (journal : List Receipt) (m i : ℕ) (at0 at1 : Key → List Entry) → AddsAll at0 at1 (places_brought journal m i at0) → at1 ≡ with_places journal m i at0
placed_is journal m i at0 at1 added = λ i k. added k i

-- the places are added, and then the contents: that is the filing's entry
pub all_entered : (journal : List Receipt) (m i : ℕ) (at0 at1 at2 : Key → List Entry) (room0 room1 room2 : Key → ℕ) (f : Filing) → filing_at journal m ≡ Some f
    → AddsList at0 at1 room0 room1 (places_brought journal m i at0) → AddsList at1 at2 room1 room2 (contents_brought journal m i at1 f)
    → AddsList at0 at2 room0 room2 (entered journal m i at0)
all_entered journal m i at0 at1 at2 room0 room1 room2 f is placed filled =
    let standing = placed_is journal m i at0 at1 placed.there in
    let contents = contents_brought journal m i (with_places journal m i at0) f in
    subst (λ es. AddsList at0 at2 room0 room2 es) (sym (entered_is journal m i at0 f is))
    (adds_then at0 at1 at2 room0 room1 room2 (places_brought journal m i at0) contents placed
    (subst (λ now. AddsList at1 at2 room1 room2 (contents_brought journal m i now f)) standing filled))
