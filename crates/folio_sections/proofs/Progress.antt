-- How far a loop has come that adds what several parts bring, one after the other.
use Rattle.std.proofs.Common.{◌≡◌, ℕ, ◌<◌, Bool, List, [], ◌∷◌, ◌++◌, length, get_or, Contains, IsTrue, flat_map, refl, sym, ap, subst, ◌∙◌, append_assoc}
use Rattle.std.specs.List.{AllByRecursion}
use Rattle.std.proofs.lemmas.List.{append-nil}
use Rattle.std.proofs.lemmas.List.Concat.{flat_map-cons}
use Rattle.gb_base.specs.declared.keys.Key.{Key}
use Rattle.act_model.proofs.KeyOrder.{in_key_order_members}
use Rattle.act_model.specs.Touches.{keys_in_order, keys_of_filing}
use Rattle.act_model.specs.declared.receipts.Receipt.{Receipt}
use Rattle.folio_sections.specs.Adding.{AddsAll, AddsList, HasRoom}
use Rattle.folio_sections.specs.declared.entries.Entry.{Entry}
use Rattle.folio_sections.proofs.Additions.{adds_none, adds_then, room_left}
use Rattle.folio_sections.proofs.Unchanged.{all_both}

-- What each part brings has a property (P), and does not change when entries that have it are added.
pub record Independent (X : Type 0) (f : (Key → List Entry) → X → List Entry) (P : Entry → Type 0) : Type 0 where
  pub same : (at0 at1 : Key → List Entry) (done : List Entry) → AddsAll at0 at1 done → AllByRecursion P done → (x : X) → f at1 x ≡ f at0 x
  pub keeps : (at0 : Key → List Entry) (x : X) → AllByRecursion P (f at0 x)

-- What all parts but the rest bring is added.
pub record Progress (X : Type 0) (f : (Key → List Entry) → X → List Entry) (P : Entry → Type 0) (xs rest : List X) (at0 at1 : Key → List Entry) (room0 room1 : Key → ℕ) (holds0 holds1 : Key → Bool) : Type 0 where
  pub done : List Entry
  pub whole : done ++ flat_map (f at0) rest ≡ flat_map (f at0) xs
  pub added : AddsList at0 at1 room0 room1 done
  pub keeps : AllByRecursion P done
  pub held : holds1 ≡ holds0

pub begins : (X : Type 0) (f : (Key → List Entry) → X → List Entry) (P : Entry → Type 0) (xs : List X) (at0 : Key → List Entry) (room0 : Key → ℕ) (holds0 : Key → Bool)
    → Progress X f P xs xs at0 at0 room0 room0 holds0 holds0
begins X f P xs at0 room0 holds0 =
    record { done = []; whole = refl; added = adds_none at0 room0; keeps = tt; held = refl }

-- the next part's place in the whole
whole_next : (X : Type 0) (f : X → List Entry) (done : List Entry) (x : X) (rest xs : List X) → done ++ flat_map f (x ∷ rest) ≡ flat_map f xs → done ++ (f x ++ flat_map f rest) ≡ flat_map f xs
whole_next X f done x rest xs whole = ap (λ ys. done ++ ys) (sym (flat_map-cons f x rest)) ∙ whole

-- the next part brings what it brought at first, and what is added keeps what is asked of it from now on
pub goes_on_by : (X : Type 0) (f : (Key → List Entry) → X → List Entry) (P Q : Entry → Type 0) (xs : List X) (x : X) (rest : List X) (at0 at1 at2 : Key → List Entry) (room0 room1 room2 : Key → ℕ) (holds0 holds1 holds2 : Key → Bool)
    → (so_far : Progress X f P xs (x ∷ rest) at0 at1 room0 room1 holds0 holds1) → f at1 x ≡ f at0 x → AllByRecursion Q so_far.done → AllByRecursion Q (f at0 x)
    → AddsList at1 at2 room1 room2 (f at1 x) → holds2 ≡ holds1
    → Progress X f Q xs rest at0 at2 room0 room2 holds0 holds2
goes_on_by X f P Q xs x rest at0 at1 at2 room0 room1 room2 holds0 holds1 holds2 so_far now before here more held =
    record {
      done = so_far.done ++ f at0 x;
      whole = append_assoc so_far.done (f at0 x) (flat_map (f at0) rest) ∙ whole_next X (f at0) so_far.done x rest xs so_far.whole;
      added = adds_then at0 at1 at2 room0 room1 room2 so_far.done (f at0 x) so_far.added (subst (λ es. AddsList at1 at2 room1 room2 es) now more);
      keeps = all_both Q so_far.done (f at0 x) before here;
      held = held ∙ so_far.held;
    }

pub goes_on : (X : Type 0) (f : (Key → List Entry) → X → List Entry) (P : Entry → Type 0) (xs : List X) (x : X) (rest : List X) (at0 at1 at2 : Key → List Entry) (room0 room1 room2 : Key → ℕ) (holds0 holds1 holds2 : Key → Bool)
    → Independent X f P → Progress X f P xs (x ∷ rest) at0 at1 room0 room1 holds0 holds1 → AddsList at1 at2 room1 room2 (f at1 x) → holds2 ≡ holds1
    → Progress X f P xs rest at0 at2 room0 room2 holds0 holds2
goes_on X f P xs x rest at0 at1 at2 room0 room1 room2 holds0 holds1 holds2 each so_far more held =
    goes_on_by X f P P xs x rest at0 at1 at2 room0 room1 room2 holds0 holds1 holds2 so_far
    (each.same at0 at1 so_far.done so_far.added.there so_far.keeps x) so_far.keeps (each.keeps at0 x) more held

-- so the next part finds its room
pub has_room_by : (X : Type 0) (f : (Key → List Entry) → X → List Entry) (P : Entry → Type 0) (xs : List X) (x : X) (rest : List X) (at0 at1 : Key → List Entry) (room0 room1 : Key → ℕ) (holds0 holds1 : Key → Bool)
    → Progress X f P xs (x ∷ rest) at0 at1 room0 room1 holds0 holds1 → f at1 x ≡ f at0 x → HasRoom room0 (flat_map (f at0) xs)
    → HasRoom room1 (f at1 x)
has_room_by X f P xs x rest at0 at1 room0 room1 holds0 holds1 so_far now room =
    subst (λ es. HasRoom room1 es) (sym now)
    (room_left at0 at1 room0 room1 so_far.done (f at0 x) (flat_map (f at0) rest) (flat_map (f at0) xs) (whole_next X (f at0) so_far.done x rest xs so_far.whole) room so_far.added)

pub has_room : (X : Type 0) (f : (Key → List Entry) → X → List Entry) (P : Entry → Type 0) (xs : List X) (x : X) (rest : List X) (at0 at1 : Key → List Entry) (room0 room1 : Key → ℕ) (holds0 holds1 : Key → Bool)
    → Independent X f P → Progress X f P xs (x ∷ rest) at0 at1 room0 room1 holds0 holds1 → HasRoom room0 (flat_map (f at0) xs)
    → HasRoom room1 (f at1 x)
has_room X f P xs x rest at0 at1 room0 room1 holds0 holds1 each so_far room =
    has_room_by X f P xs x rest at0 at1 room0 room1 holds0 holds1 so_far
    (each.same at0 at1 so_far.done so_far.added.there so_far.keeps x) room

pub ends : (X : Type 0) (f : (Key → List Entry) → X → List Entry) (P : Entry → Type 0) (xs : List X) (at0 at1 : Key → List Entry) (room0 room1 : Key → ℕ) (holds0 holds1 : Key → Bool)
    → Progress X f P xs [] at0 at1 room0 room1 holds0 holds1
    → AddsList at0 at1 room0 room1 (flat_map (f at0) xs)
ends X f P xs at0 at1 room0 room1 holds0 holds1 so_far =
    subst (λ es. AddsList at0 at1 room0 room1 es) (sym (append-nil so_far.done) ∙ so_far.whole) so_far.added

-- the part of a filing's key is still held
pub key_held : (journal : List Receipt) (m : ℕ) (keys : List Key) (n : ℕ) (key : Key) (holds0 holds1 : Key → Bool) → keys ≡ keys_in_order journal m → n < length keys → key ≡ get_or keys n key
    → holds1 ≡ holds0 → ((k : Key) → Contains (keys_of_filing journal m) k → IsTrue (holds0 k)) → IsTrue (holds1 key)
key_held journal m keys n key holds0 holds1 all within is same held =
    let there : Contains keys key = (n, within, sym is) in
    subst (λ (h : Key → Bool). IsTrue (h key)) (sym same)
    (held key ((in_key_order_members (keys_of_filing journal m) key).0 (subst (λ ks. Contains ks key) all there)))
