-- How long a spelling is at most, by the lengths of the lists in it.
use Rattle.std.proofs.Common.{◌≡◌, ℕ, ◌*◌, ◌≤◌, List, [], ◌∷◌, length, Option, Some, None, Bool, true, false, refl, arith}
use Rattle.std.specs.List.{flat_map, AllByRecursion}
use Rattle.std.proofs.lemmas.List.{length-append}
use Rattle.act_model.specs.declared.rights.RightKind.{RightKind}
use Rattle.act_model.specs.declared.rights.RightKind.TheVariants as kind
use Rattle.act_model.specs.declared.filing_acts.Act.{Act}
use Rattle.act_model.specs.declared.filing_acts.Act.TheVariants.{Open, Transfer, Create, NoticeFor, Convert, Assign, Cancel, Exchange, Exercise}
use Rattle.act_model.specs.declared.documents.Form.{Form}
use Rattle.act_model.specs.declared.documents.Form.TheVariants as form
use Rattle.act_model.specs.declared.documents.Doc.{Doc}
use Rattle.act_model.specs.declared.documents.Doc.TheVariants as doc
use Rattle.act_model.specs.declared.sales.Basis.{Basis}
use Rattle.act_model.specs.declared.sales.Basis.TheVariants as basis
use Rattle.act_model.specs.declared.sales.Registration.{Registration}
use Rattle.act_model.specs.declared.sales.Registration.TheVariants as registration
use Rattle.act_model.specs.declared.items.Item.{Item}
use Rattle.act_model.specs.declared.items.Item.TheVariants as item
use Rattle.act_model.specs.declared.receipts.Receipt.{Receipt}
use Rattle.act_codec.specs.Spelling.{u16_bytes, u32_bytes, u64_bytes, kind_bytes, reserve_bytes, act_bytes, form_bytes, doc_bytes, condition_bytes, basis_bytes, registration_bytes, item_bytes, longest_spelling, spelling}
use Rattle.receipt_journal.specs.inner.Lists.{HasFewOwners, HasShortLists}

pub u16_len : (n : ℕ) → length (u16_bytes n) ≡ 2
unfolding u16_bytes
u16_len n = refl

pub u32_len : (n : ℕ) → length (u32_bytes n) ≡ 4
unfolding u32_bytes
u32_len n = refl

u64_len : (n : ℕ) → length (u64_bytes n) ≡ 8
unfolding u64_bytes
u64_len n = refl

kind_len : (k : RightKind) → length (kind_bytes k) ≤ 3
kind_len kind.PersonalEasement = omega arith
kind_len kind.Usufruct = omega arith
kind_len (kind.Mortgage rate) = omega (arith, u16_len rate)
kind_len (kind.LandCharge rate) = omega (arith, u16_len rate)

reserve_len : (r : Option ℕ) → length (reserve_bytes r) ≤ 9
reserve_len None = omega arith
reserve_len (Some cents) = omega (arith, u64_len cents)

persons_len : (ps : List ℕ) → length (flat_map u32_bytes ps) ≡ 4 * length ps
persons_len [] = refl
persons_len (p ∷ ps) = omega (arith, length-append (u32_bytes p) (flat_map u32_bytes ps), u32_len p, persons_len ps)

act_len : (a : Act) → HasFewOwners a → length (act_bytes a) ≤ 34
act_len (Open f i o) few = simp (length-append, u16_len, u32_len) (omega (arith, persons_len o, few))
act_len (Transfer f o) few = simp (length-append, u32_len) (omega (arith, persons_len o, few))
act_len (Create f s c) few = simp (length-append, u32_len, u64_len) (omega (arith, kind_len s.kind, reserve_len c))
act_len (NoticeFor f s) few = simp (length-append, u32_len, u64_len) (omega (arith, kind_len s.kind))
act_len (Convert f r) few = simp (length-append, u32_len) (omega arith)
act_len (Assign f r p) few = simp (length-append, u32_len) (omega arith)
act_len (Cancel f r) few = simp (length-append, u32_len) (omega arith)
act_len (Exchange f r u) few = simp (length-append, u32_len) (omega arith)
act_len (Exercise f b s) few = simp (length-append, u32_len, u64_len) (omega (arith, kind_len s.kind))

acts_len : (acts : List Act) → AllByRecursion HasFewOwners acts → length (flat_map act_bytes acts) ≤ 34 * length acts
acts_len [] few = omega arith
acts_len (a ∷ acts) few = omega (arith, length-append (act_bytes a) (flat_map act_bytes acts), act_len a few.0, acts_len acts few.1)

form_len : (f : Form) → length (form_bytes f) ≡ 1
form_len form.Certified = refl
form_len form.Plain = refl

doc_len : (d : Doc) → length (doc_bytes d) ≤ 7
doc_len (doc.Consent a p f) = simp (length-append, u32_len, form_len) (omega arith)
doc_len (doc.Agreement a) = omega arith
doc_len (doc.TaxClearance a) = omega arith
doc_len (doc.ExpiryProof a) = omega arith

docs_len : (ds : List Doc) → length (flat_map doc_bytes ds) ≤ 7 * length ds
docs_len [] = omega arith
docs_len (d ∷ ds) = omega (arith, length-append (doc_bytes d) (flat_map doc_bytes ds), doc_len d, docs_len ds)

condition_len : (c : Bool) → length (condition_bytes c) ≡ 1
condition_len true = refl
condition_len false = refl

basis_len : (b : Basis) → length (basis_bytes b) ≤ 13
basis_len (basis.Personal p c) = simp (length-append, u32_len, u64_len) (omega arith)
basis_len (basis.FromRight r) = simp (length-append, u32_len) (omega arith)

registration_len : (w : Registration) → length (registration_bytes w) ≤ 17
registration_len (registration.Advance p a) = simp (length-append, u32_len, u64_len) (omega arith)
registration_len (registration.PublicCharge p a d) = simp (length-append, u32_len, u64_len) (omega arith)
registration_len (registration.Arrears r f u) = simp (length-append, u32_len) (omega arith)

-- an item of numbers alone has no clause of its own
item_len : (i : Item) → HasShortLists i → length (item_bytes i) ≤ 504
item_len (item.Filing f) few = simp (length-append, u32_len, condition_len) (omega (arith, docs_len f.docs, acts_len f.acts few.1, few.0, few.2))
item_len (item.Cure n ds) few = simp (length-append, u32_len) (omega (arith, docs_len ds, few))
item_len (item.Seize f b d) few = simp (length-append, u32_len) (omega (arith, basis_len b))
item_len (item.Register f w) few = simp (length-append, u32_len) (omega (arith, registration_len w))
item_len other few = simp (length-append, u16_len, u32_len, u64_len) (omega arith)

pub receipt_len : (r : Receipt) → HasShortLists r.item → length (spelling r) ≤ longest_spelling
receipt_len r few = simp (length-append, u16_len, u32_len, u64_len) (omega (arith, item_len r.item few))
