-- What documents are, and which a cure brings (GBO §§ 18, 19, 29).
use Rattle.std.specs.Prelude.{ℕ, Bool, true, false, not, ◌&&◌, ◌==◌, if◌then◌else◌, List, [], Option, Some, None}
use Rattle.std.specs.Option.{option_map_or}
use Rattle.std.specs.List.{list_any}
use Rattle.act_model.specs.declared.documents.Doc.{Doc}
use Rattle.act_model.specs.declared.documents.Form.{Form}
use Rattle.act_model.specs.declared.items.Item.{Item}
use Rattle.act_model.specs.declared.receipts.Receipt.{Receipt}
use Rattle.act_model.specs.Receiving.{receipt_at}
use Rattle.act_model.specs.declared.documents.Doc.TheVariants as doc
use Rattle.act_model.specs.declared.documents.Form.TheVariants as form
use Rattle.act_model.specs.declared.items.Item.TheVariants as item

-- the documents that a cure brings
abbrev pub docs_of_cure : Item → List Doc
docs_of_cure (item.Cure filing docs) = docs
docs_of_cure other = []

-- the documents that receipt n brings as a cure
abbrev pub docs_by_cure : List Receipt → ℕ → List Doc
docs_by_cure journal n = option_map_or (λ r. docs_of_cure r.item) (receipt_at journal n) []

-- the number of the act that the document is for
abbrev pub act_of_doc : Doc → ℕ
act_of_doc (doc.Consent act person given) = act
act_of_doc (doc.Agreement act) = act
act_of_doc (doc.TaxClearance act) = act
act_of_doc (doc.ExpiryProof act) = act

-- ---- what stands among documents for act a

-- a consent of the person for the act, in either form
abbrev pub is_consent_of : ℕ → ℕ → Doc → Bool
is_consent_of a person (doc.Consent act p given) = act == a && p == person
is_consent_of a person (doc.Agreement act) = false
is_consent_of a person (doc.TaxClearance act) = false
is_consent_of a person (doc.ExpiryProof act) = false

-- a certified consent of the person for the act
abbrev pub is_certified_consent_of : ℕ → ℕ → Doc → Bool
is_certified_consent_of a person (doc.Consent act p form.Certified) = act == a && p == person
is_certified_consent_of a person (doc.Consent act p form.Plain) = false
is_certified_consent_of a person (doc.Agreement act) = false
is_certified_consent_of a person (doc.TaxClearance act) = false
is_certified_consent_of a person (doc.ExpiryProof act) = false

-- the form in which the person has consented to the act: certified where some consent is; none where there is none
abbrev pub given : List Doc → ℕ → ℕ → Option Form
given docs a person =
    if list_any (is_certified_consent_of a person) docs then Some form.Certified
    else (if list_any (is_consent_of a person) docs then Some form.Plain else None)

-- the consent is in plain form
abbrev pub is_plain : Option Form → Bool
is_plain (Some form.Plain) = true
is_plain (Some form.Certified) = false
is_plain None = false

-- a consent for the act, in either form, by a person who passes
abbrev pub is_consent_by : ℕ → (ℕ → Bool) → Doc → Bool
is_consent_by a passes (doc.Consent act p given) = act == a && passes p
is_consent_by a passes (doc.Agreement act) = false
is_consent_by a passes (doc.TaxClearance act) = false
is_consent_by a passes (doc.ExpiryProof act) = false

-- a consent for the act by somebody who is none of these persons
abbrev pub is_strangers_consent : ℕ → List ℕ → Doc → Bool
is_strangers_consent a persons = is_consent_by a (λ p. not (list_any (λ q. q == p) persons))

-- the agreement on the transfer (GBO § 20)
abbrev pub is_agreement : ℕ → Doc → Bool
is_agreement a (doc.Agreement act) = act == a
is_agreement a (doc.Consent act p given) = false
is_agreement a (doc.TaxClearance act) = false
is_agreement a (doc.ExpiryProof act) = false

-- the tax office's clearance of the transfer (GrEStG § 22)
abbrev pub is_clearance : ℕ → Doc → Bool
is_clearance a (doc.TaxClearance act) = act == a
is_clearance a (doc.Consent act p given) = false
is_clearance a (doc.Agreement act) = false
is_clearance a (doc.ExpiryProof act) = false

-- the proof that the right has expired (GBO § 22)
abbrev pub is_proof : ℕ → Doc → Bool
is_proof a (doc.ExpiryProof act) = act == a
is_proof a (doc.Consent act p given) = false
is_proof a (doc.Agreement act) = false
is_proof a (doc.TaxClearance act) = false

-- the act has an expiry proof
abbrev pub has_proof : List Doc → ℕ → Bool
has_proof docs a = list_any (is_proof a) docs
