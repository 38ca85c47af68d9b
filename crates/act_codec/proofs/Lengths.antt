-- How long a spelling is at most.
use Rattle.std.proofs.Common.{◌≡◌, ℕ, ◌*◌, ◌≤◌, List, [], ◌∷◌, length, Option, Some, None, Bool, true, false, refl, arith}
use Rattle.std.specs.List.{AllByRecursion, flat_map}
use Rattle.std.proofs.lemmas.List.{length-append}
use Rattle.act_model.specs.declared.rights.RightKind.{RightKind}
use Rattle.act_model.specs.declared.rights.RightKind.TheVariants as kind
use Rattle.act_model.specs.declared.filing_acts.Act.{Act}
use Rattle.act_model.specs.declared.filing_acts.Act.TheVariants.{Open, Transfer, Create, NoticeFor, Convert, Assign, Cancel, Exchange, Exercise}
use Rattle.act_model.specs.declared.documents.Form.{Form}
use Rattle.act_model.specs.declared.documents.Form.TheVariants as form
use Rattle.act_model.specs.declared.documents.Doc.{Doc}
use Rattle.act_model.specs.declared.documents.Doc.TheVariants as doc
use Rattle.act_model.specs.declared.sales.Basis.{Basis}
use Rattle.act_model.specs.declared.sales.Basis.TheVariants as basis
use Rattle.act_model.specs.declared.sales.Registration.{Registration}
use Rattle.act_model.specs.declared.sales.Registration.TheVariants as registration
use Rattle.act_model.specs.declared.items.Filing.{Filing}
use Rattle.act_model.specs.declared.items.Item.{Item}
use Rattle.act_model.specs.declared.items.Item.TheVariants as item
use Rattle.act_model.specs.declared.receipts.Receipt.{Receipt}
use Rattle.act_codec.specs.Spelling.{u16_bytes, u32_bytes, u64_bytes, counted, kind_bytes, reserve_bytes, act_bytes, form_bytes, doc_bytes, condition_bytes, filing_bytes, basis_bytes, registration_bytes, item_bytes, spelling}
use Rattle.act_codec.specs.Values.{IsAct, IsDoc, AreDocs, AreActs, IsFiling, IsItem, IsReceipt}

u16_len : (n : ℕ) → length (u16_bytes n) ≡ 2
unfolding u16_bytes
u16_len n = refl

u32_len : (n : ℕ) → length (u32_bytes n) ≡ 4
unfolding u32_bytes
u32_len n = refl

u64_len : (n : ℕ) → length (u64_bytes n) ≡ 8
unfolding u64_bytes
u64_len n = refl

kind_len : (k : RightKind) → length (kind_bytes k) ≤ 3
kind_len kind.PersonalEasement = omega arith
kind_len kind.Usufruct = omega arith
kind_len (kind.Mortgage rate) = omega (arith, u16_len rate)
kind_len (kind.LandCharge rate) = omega (arith, u16_len rate)

reserve_len : (r : Option ℕ) → length (reserve_bytes r) ≤ 9
reserve_len None = omega arith
reserve_len (Some cents) = omega (arith, u64_len cents)

each_len : {X : Type 0} (spelled : X → List ℕ) (IsX : X → Type 0) (most : ℕ) → ((x : X) → IsX x → length (spelled x) ≤ most) → (xs : List X) → AllByRecursion IsX xs → length (flat_map spelled xs) ≤ most * length xs
each_len spelled IsX most each [] h = omega arith
each_len spelled IsX most each (x ∷ xs) h =
    omega (arith, length-append (spelled x) (flat_map spelled xs), each x h.0, each_len spelled IsX most each xs h.1)

persons_len : (ps : List ℕ) → length (flat_map u32_bytes ps) ≡ 4 * length ps
persons_len [] = refl
persons_len (p ∷ ps) = omega (arith, length-append (u32_bytes p) (flat_map u32_bytes ps), u32_len p, persons_len ps)

act_len : (a : Act) → IsAct a → length (act_bytes a) ≤ 34
act_len (Open f i o) h = simp (length-append, u16_len, u32_len) (omega (arith, persons_len o, h.2.0))
act_len (Transfer f o) h = simp (length-append, u32_len) (omega (arith, persons_len o, h.1.0))
act_len (Create f s c) h = simp (length-append, u32_len, u64_len) (omega (arith, kind_len s.kind, reserve_len c))
act_len (NoticeFor f s) h = simp (length-append, u32_len, u64_len) (omega (arith, kind_len s.kind))
act_len (Convert f r) h = simp (length-append, u32_len) (omega arith)
act_len (Assign f r p) h = simp (length-append, u32_len) (omega arith)
act_len (Cancel f r) h = simp (length-append, u32_len) (omega arith)
act_len (Exchange f r u) h = simp (length-append, u32_len) (omega arith)
act_len (Exercise f b s) h = simp (length-append, u32_len, u64_len) (omega (arith, kind_len s.kind))

form_len : (f : Form) → length (form_bytes f) ≡ 1
form_len form.Certified = refl
form_len form.Plain = refl

doc_len : (d : Doc) → IsDoc d → length (doc_bytes d) ≤ 7
doc_len (doc.Consent a p f) h = simp (length-append, u32_len, form_len) (omega arith)
doc_len (doc.Agreement a) h = omega arith
doc_len (doc.TaxClearance a) h = omega arith
doc_len (doc.ExpiryProof a) h = omega arith

docs_len : (ds : List Doc) → AreDocs ds → length (counted doc_bytes ds) ≤ 225
docs_len ds h = omega (arith, each_len doc_bytes IsDoc 7 doc_len ds h.1, h.0)

acts_len : (acts : List Act) → AreActs acts → length (counted act_bytes acts) ≤ 273
acts_len acts h = omega (arith, each_len act_bytes IsAct 34 act_len acts h.1, h.0)

condition_len : (c : Bool) → length (condition_bytes c) ≡ 1
condition_len true = refl
condition_len false = refl

filing_len : (f : Filing) → IsFiling f → length (filing_bytes f) ≤ 503
filing_len f h = simp (length-append, u32_len, condition_len) (omega (arith, acts_len f.acts h.1, docs_len f.docs h.2))

basis_len : (b : Basis) → length (basis_bytes b) ≤ 13
basis_len (basis.Personal p c) = simp (length-append, u32_len, u64_len) (omega arith)
basis_len (basis.FromRight r) = simp (length-append, u32_len) (omega arith)

registration_len : (w : Registration) → length (registration_bytes w) ≤ 17
registration_len (registration.Advance p a) = simp (length-append, u32_len, u64_len) (omega arith)
registration_len (registration.PublicCharge p a d) = simp (length-append, u32_len, u64_len) (omega arith)
registration_len (registration.Arrears r f u) = simp (length-append, u32_len) (omega arith)

-- an item of numbers alone has no clause of its own
item_len : (i : Item) → IsItem i → length (item_bytes i) ≤ 504
item_len (item.Filing f) h = omega (arith, filing_len f h)
item_len (item.Cure n ds) h = simp (length-append, u32_len) (omega (arith, docs_len ds h.1))
item_len (item.Seize f b d) h = simp (length-append, u32_len) (omega (arith, basis_len b))
item_len (item.Register f w) h = simp (length-append, u32_len) (omega (arith, registration_len w))
item_len other h = simp (length-append, u16_len, u32_len, u64_len) (omega arith)

pub spelling_len : (r : Receipt) → IsReceipt r → length (spelling r) ≤ 522
spelling_len r h = simp (length-append, u16_len, u32_len, u64_len) (omega (arith, item_len r.item h.0.3))

pub spelling_some : (r : Receipt) → 1 ≤ length (spelling r)
spelling_some r = simp (length-append, u32_len) (omega arith)
