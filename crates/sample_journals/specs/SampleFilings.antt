-- The filings of the generated journal: each of one act, with the documents that the act needs.
use Rattle.std.specs.Prelude.{ℕ, ◌+◌, ◌*◌, false, List, [], ◌∷◌, None}
use Rattle.gb_base.specs.RightNo.{RightNo}
use Rattle.act_model.specs.declared.documents.Doc.{Doc}
use Rattle.act_model.specs.declared.documents.Doc.TheVariants as doc
use Rattle.act_model.specs.declared.documents.Form.{Form}
use Rattle.act_model.specs.declared.documents.Form.TheVariants as form
use Rattle.act_model.specs.declared.filing_acts.Act.{Act}
use Rattle.act_model.specs.declared.filing_acts.Act.TheVariants.{Open, Transfer, Create, Cancel, Exchange}
use Rattle.act_model.specs.declared.items.Item.{Item}
use Rattle.act_model.specs.declared.items.Item.TheVariants as item
use Rattle.act_model.specs.declared.rights.RightKind.TheVariants as kind
use Rattle.act_model.specs.declared.rights.RightSpec.{RightSpec}
use Rattle.sample_journals.specs.Draws.{drawn, state_after}

-- the certified consent of this person to act 1
abbrev pub certified_by : ℕ → Doc
certified_by person = doc.Consent 1 person form.Certified

-- a filing of this applicant under no condition, of one act
abbrev pub filed : ℕ → Act → List Doc → Item
filed applicant act docs = item.Filing (record { applicant = applicant; conditional = false; acts = act ∷ []; docs = docs })

-- folio k is opened for owner k: parcel k of district 1, of 500 square metres
abbrev pub opening : ℕ → Item
opening k = filed k (Open k (record { district = 1; parcel = k; sub = 0; area = 500 }) (k ∷ [])) (certified_by k ∷ [])

-- the land charge that two draws give from this state on: 1,000 to 50,000 euros at 5 percent, for one of twenty holders
abbrev pub charge_drawn : ℕ → RightSpec
charge_drawn x =
    record { kind = kind.LandCharge 500; capital = 100000 * (1 + drawn x 50); holder = 1000001 + drawn (state_after x) 20; group = 1 }

-- the owner creates a land charge in the folio, with a consent of this form
abbrev pub creation : ℕ → ℕ → Form → RightSpec → Item
creation folio owner form charge = filed owner (Create folio charge None) (doc.Consent 1 owner form ∷ [])

-- the owner gives the land of the folio to another person
abbrev pub transfer : ℕ → ℕ → ℕ → Item
transfer folio owner buyer = filed owner (Transfer folio (buyer ∷ [])) (certified_by owner ∷ doc.Agreement 1 ∷ doc.TaxClearance 1 ∷ [])

-- the right of this holder recedes behind another (BGB § 880)
abbrev pub exchange : ℕ → ℕ → RightNo → ℕ → RightNo → Item
exchange folio owner recede holder rise = filed owner (Exchange folio recede rise) (certified_by holder ∷ certified_by owner ∷ [])

-- the right of this holder is cancelled (BGB § 875)
abbrev pub cancellation : ℕ → ℕ → RightNo → ℕ → Item
cancellation folio owner right holder = filed owner (Cancel folio right) (certified_by holder ∷ certified_by owner ∷ [])
