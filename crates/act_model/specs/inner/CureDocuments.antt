-- What the documents of cures are looked for as, and who consents in them.
use Rattle.std.specs.Prelude.{◌≡◌, ℕ, ◌≤◌, Bool, true, false, ◌&&◌, ◌==◌, nat_lt, if◌then◌else◌, List, [], ◌∷◌, filter, length, Option, Some, None, is_none, Vec}
use Rattle.std.specs.BTreeMap.{BTreeMap}
use Rattle.std.specs.List.{list_any}
use Rattle.std.specs.Option.{option_map_or, option_or}
use Rattle.act_model.specs.declared.cure_documents.Consenter.{Consenter}
use Rattle.act_model.specs.declared.cure_documents.CureDocuments.{CureDocuments}
use Rattle.act_model.specs.declared.documents.Doc.{Doc}
use Rattle.act_model.specs.declared.firsts.DocumentOf.{DocumentOf}
use Rattle.act_model.specs.declared.items.Item.{Item}
use Rattle.act_model.specs.declared.documents.Doc.TheVariants as doc
use Rattle.act_model.specs.declared.documents.Form.TheVariants as form
use Rattle.act_model.specs.declared.items.Item.TheVariants as item
use Rattle.act_model.specs.declared.receipts.Receipt.{Receipt}
use Rattle.act_model.specs.declared.sought.Sought.{Sought}
use Rattle.act_model.specs.declared.sought.Sought.TheVariants as sought
use Rattle.act_model.specs.DocumentTests.{is_certified_consent_of, is_consent_by}
use Rattle.act_model.specs.Sought.{is_sought}
use Rattle.act_model.specs.inner.Firsts.{first, first_cure, is_held}
use Rattle.act_model.specs.inner.Index.{pair_cmp}
use Rattle.act_model.specs.inner.Lists.{listed, room, Widens}

-- the key of what is looked for among the documents of filing m
abbrev pub key_of : ℕ → Sought → DocumentOf
key_of m s = record { filing = m; sought = s }

-- what a document is looked for as: a consent, whatever its form
abbrev pub sought_as : Doc → Sought
sought_as (doc.Consent a p given) = sought.Consent a p
sought_as (doc.Agreement a) = sought.Agreement a
sought_as (doc.TaxClearance a) = sought.Clearance a
sought_as (doc.ExpiryProof a) = sought.Proof a

-- what a document is looked for as besides, where it is a certified consent
abbrev pub certified_as : Doc → Option Sought
certified_as (doc.Consent a p form.Certified) = Some (sought.Certified a p)
certified_as (doc.Consent a p form.Plain) = None
certified_as (doc.Agreement a) = None
certified_as (doc.TaxClearance a) = None
certified_as (doc.ExpiryProof a) = None

-- receipt n, where its documents for filing m have one that is looked for by this key
abbrev pub found_in : ℕ → ℕ → List Doc → DocumentOf → Option ℕ
found_in n m docs k = if m == k.filing && list_any (is_sought k.sought) docs then Some n else None

-- receipt n, where its item is a cure of an earlier filing that brings what is looked for by this key
abbrev pub found_by : ℕ → Item → DocumentOf → Option ℕ
found_by n (item.Cure m docs) k = if nat_lt m n then found_in n m docs k else None
found_by n other k = None

-- what was first at each key stays, and where there was none what is found becomes first
abbrev pub Finds : CureDocuments → CureDocuments → (DocumentOf → Option ℕ) → Type 0
Finds old new found = (k : DocumentOf) → first new.firsts k ≡ option_or (first old.firsts k) (found k)

-- who consents to act a of filing m in cures
abbrev pub consenters_to : CureDocuments → ℕ → ℕ → List Consenter
consenters_to documents m a = listed pair_cmp documents.consenters (m, a)

-- those of them who are listed as plain
abbrev pub plain_consenters_to : CureDocuments → ℕ → ℕ → List Consenter
plain_consenters_to documents m a = listed pair_cmp documents.plain_consenters (m, a)

-- this person, whose first consent is in receipt n
abbrev pub is_consenter : ℕ → ℕ → Consenter → Bool
is_consenter p n c = c.person == p && c.first == n

-- who is to be listed under act a of filing m with a document of receipt n for filing `filing`, if that is wanted
abbrev pub consenter_of : ℕ → ℕ → Doc → Bool → ℕ → ℕ → List Consenter
consenter_of n filing (doc.Consent act p given) wanted m a =
    if (filing == m && act == a) && wanted then record { person = p; first = n } ∷ [] else []
consenter_of n filing (doc.Agreement act) wanted m a = []
consenter_of n filing (doc.TaxClearance act) wanted m a = []
consenter_of n filing (doc.ExpiryProof act) wanted m a = []

-- the document is a consent for filing m, and none of the same person to the same act is known
abbrev pub is_first_consent : CureDocuments → ℕ → Doc → Bool
is_first_consent documents m (doc.Consent act p given) = is_none (first documents.firsts (key_of m (sought.Consent act p)))
is_first_consent documents m (doc.Agreement act) = false
is_first_consent documents m (doc.TaxClearance act) = false
is_first_consent documents m (doc.ExpiryProof act) = false

-- one of these documents is a certified consent of the person who consents in this one, to the same act
abbrev pub is_certified_among : List Doc → Doc → Bool
is_certified_among docs (doc.Consent act p given) = list_any (is_certified_consent_of act p) docs
is_certified_among docs (doc.Agreement act) = false
is_certified_among docs (doc.TaxClearance act) = false
is_certified_among docs (doc.ExpiryProof act) = false

-- who is added to those who consent to act a of filing m, by a document of receipt n for filing `filing`
abbrev pub new_consenters : ℕ → CureDocuments → ℕ → Doc → ℕ → ℕ → List Consenter
new_consenters n documents filing d m a = consenter_of n filing d (is_first_consent documents filing d) m a

-- the receipts do not fall, none is before `from`, and none is after `last`
abbrev pub Rises : ℕ → ℕ → List Consenter → Type 0
Rises from last [] = Unit {0}
Rises from last (c ∷ cs) = (from ≤ c.first) × ((c.first ≤ last) × Rises c.first last cs)

-- Those who consent are the persons for whose consent a first cure is known, with that cure, in the order of receipts up to `last`.
-- Where no consent of a person is known, no certified consent of that person is known either.
pub record AgreeTo (last : ℕ) (documents : CureDocuments) : Type 0 where
  pub known : (m a p n : ℕ) → list_any (is_consenter p n) (consenters_to documents m a) ≡ option_map_or (λ f. f == n) (first documents.firsts (key_of m (sought.Consent a p))) false
  pub rise : (m a : ℕ) → Rises 0 last (consenters_to documents m a)
  pub certified : (m a p : ℕ) → first documents.firsts (key_of m (sought.Consent a p)) ≡ None → first documents.firsts (key_of m (sought.Certified a p)) ≡ None

-- the first certified consent, if there is one, comes after receipt n
abbrev pub comes_behind : ℕ → Option ℕ → Bool
comes_behind n certified = option_map_or (λ k. nat_lt n k) certified true

-- somebody who consents to act a of filing m has no certified consent in the cure of the first consent or an earlier one (GBO § 29)
abbrev pub is_plain_first : (ℕ → Sought → Option ℕ) → ℕ → ℕ → Consenter → Bool
is_plain_first firsts m a c = comes_behind c.first (firsts m (sought.Certified a c.person))

-- just those whose first consent is plain in this sense are listed as plain, by these first cures
abbrev pub ArePlain : CureDocuments → (ℕ → Sought → Option ℕ) → Type 0
ArePlain documents firsts = (m a : ℕ) → plain_consenters_to documents m a ≡ filter (is_plain_first firsts m a) (consenters_to documents m a)

-- the first cures, and where there was none, what is found
abbrev pub firsts_with : CureDocuments → (DocumentOf → Option ℕ) → ℕ → Sought → Option ℕ
firsts_with documents found m s = option_or (first documents.firsts (key_of m s)) (found (key_of m s))

-- the first cures are those of the journal, and those who consent agree with them
pub record AreDocumentsOf (documents : CureDocuments) (journal : List Receipt) : Type 0 where
  pub first : (m : ℕ) (s : Sought) → first documents.firsts (key_of m s) ≡ first_cure journal m s
  pub agree : AgreeTo (length journal) documents
  pub plain : ArePlain documents (first_cure journal)

-- a consent to act a
abbrev pub is_consent_to : ℕ → Doc → Bool
is_consent_to a = is_consent_by a (λ p. true)

-- there is room in these lists for who consents in these documents of filing m
abbrev pub HasRoomForConsents : {Z : Type 0} → BTreeMap (ℕ × ℕ) (Vec Consenter Z) → ℕ → List Doc → Type 0
HasRoomForConsents lists m docs = (a : ℕ) → length (filter (is_consent_to a) docs) ≤ room pair_cmp lists (m, a)

-- there is room for what these documents of filing m bring
pub record HasRoomForDocs (documents : CureDocuments) (m : ℕ) (docs : List Doc) : Type 0 where
  pub held : (s : Sought) → list_any (is_sought s) docs ≡ true → is_held documents.firsts (key_of m s) ≡ true
  pub consenters : HasRoomForConsents documents.consenters m docs
  pub plain_consenters : HasRoomForConsents documents.plain_consenters m docs

-- there is room for what item n brings
abbrev pub HasRoomForItem : CureDocuments → ℕ → Item → Type 0
HasRoomForItem documents n (item.Cure m docs) = nat_lt m n ≡ true → HasRoomForDocs documents m docs
HasRoomForItem documents n other = Unit {0}

-- nothing that is known has changed, and nowhere has room become less
pub record KeepsDocuments (old new : CureDocuments) : Type 0 where
  pub first : (k : DocumentOf) → first new.firsts k ≡ first old.firsts k
  pub held : (k : DocumentOf) → is_held old.firsts k ≡ true → is_held new.firsts k ≡ true
  pub consenters : Widens pair_cmp old.consenters new.consenters
  pub plain_consenters : Widens pair_cmp old.plain_consenters new.plain_consenters
