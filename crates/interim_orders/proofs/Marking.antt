-- One content that is entered at each key of a filing.
use Rattle.std.proofs.Common.{◌≡◌, ℕ, Bool, List, [], ◌∷◌, map, flat_map, Contains, IsTrue, Some, is_some, refl, ap, subst, ◌∙◌, arith}
use Rattle.std.specs.List.{slice_get}
use Rattle.std.proofs.lemmas.Bool.{false≢true}
use Rattle.std.proofs.lemmas.List.Concat.{flat_map_single}
use Rattle.gb_base.specs.declared.keys.Key.{Key}
use Rattle.act_model.specs.Touches.{keys_in_order, keys_of_filing}
use Rattle.act_model.specs.declared.receipts.Receipt.{Receipt}
use Rattle.folio_sections.specs.Entries.{entry_by}
use Rattle.folio_sections.specs.declared.entries.Entry.{Entry}
use Rattle.folio_sections.specs.declared.entries.What.{What}
use Rattle.folio_sections.proofs.Progress.{Independent, key_held}

-- a content at a key, whatever stands there
abbrev pub mark_at : List Receipt → ℕ → What → (Key → List Entry) → Key → List Entry
mark_at journal i what at0 key = entry_by journal i key what ∷ []

-- nothing is asked of the entries
abbrev pub IsAny : Entry → Type 0
IsAny e = Unit {0}

pub marks_apart : (journal : List Receipt) (i : ℕ) (what : What) → Independent Key (mark_at journal i what) IsAny
marks_apart journal i what = record { same = λ at0 at1 done added keeps key. refl; keeps = λ at0 key. (tt, tt) }

pub each_marked : (journal : List Receipt) (i : ℕ) (what : What) (at0 : Key → List Entry) (keys : List Key) → flat_map (mark_at journal i what at0) keys ≡ map (λ k. entry_by journal i k what) keys
each_marked journal i what at0 keys = flat_map_single (λ k. entry_by journal i k what) keys

pub entry_is : (journal : List Receipt) (i : ℕ) (key : Key) (what other : What) (e : Entry) → e ≡ entry_by journal i key what → what ≡ other → e ≡ entry_by journal i key other
entry_is journal i key what other e is same = is ∙ ap (λ w. entry_by journal i key w) same

-- the part of a filing's first key is held
pub first_held : (journal : List Receipt) (m : ℕ) (keys : List Key) (key : Key) (holds : Key → Bool) → keys ≡ keys_in_order journal m → slice_get keys 0 ≡ Some key
    → ((k : Key) → Contains (keys_of_filing journal m) k → IsTrue (holds k)) → IsTrue (holds key)
first_held journal m [] key holds all is held = absurd (false≢true (ap is_some is))
first_held journal m (k ∷ ks) key holds all is held =
    let same : k ≡ key = cc in
    subst (λ j. IsTrue (holds j)) same (key_held journal m (k ∷ ks) 0 k holds holds all (omega arith) refl refl held)
