-- What is spelled is read back, whatever follows it.
use Rattle.std.proofs.Common.{rules, ◌≡◌, ◌≢◌, IfSome, IsNone, ℕ, ◌^◌, ◌<◌, ◌≤◌, Bool, true, false, ltb, List, [], ◌∷◌, ◌++◌, length, Option, Some, None, refl, sym, ap, ◌∙◌, append_assoc, arith}
use Rattle.std.specs.Int.{Width, w16, w32, w64, byte_len, from_be_bytes, to_be_bytes}
use Rattle.std.specs.List.{AllByRecursion, flat_map}
use Rattle.std.proofs.lemmas.Bool.{le-ltb, le-leb, lt-ltb, ne_eqb, and_from, cond-true, cond-false}
use Rattle.std.proofs.lemmas.List.{take_at, drop_at, length-append, append-nil}
use Rattle.std.proofs.lemmas.Option.{same_Some}
use Rattle.std.proofs.lemmas.Nat.{from_be_bytes-to_be_bytes_2, from_be_bytes-to_be_bytes_4, from_be_bytes-to_be_bytes_8}
use Rattle.gb_base.specs.RightNo.{RightNo}
use Rattle.gb_base.specs.DayMinute.{DayMinute}
use Rattle.act_model.specs.declared.land.Inventory.{Inventory}
use Rattle.act_model.specs.declared.rights.RightKind.{RightKind}
use Rattle.act_model.specs.declared.rights.RightKind.TheVariants as kind
use Rattle.act_model.specs.declared.rights.RightSpec.{RightSpec}
use Rattle.act_model.specs.declared.filing_acts.Act.{Act}
use Rattle.act_model.specs.declared.filing_acts.Act.TheVariants.{Open, Transfer, Create, NoticeFor, Convert, Assign, Cancel, Exchange, Exercise}
use Rattle.act_model.specs.declared.documents.Form.{Form}
use Rattle.act_model.specs.declared.documents.Form.TheVariants as form
use Rattle.act_model.specs.declared.documents.Doc.{Doc}
use Rattle.act_model.specs.declared.documents.Doc.TheVariants as doc
use Rattle.act_model.specs.declared.sales.Basis.{Basis}
use Rattle.act_model.specs.declared.sales.Basis.TheVariants as basis
use Rattle.act_model.specs.declared.sales.Registration.{Registration}
use Rattle.act_model.specs.declared.sales.Registration.TheVariants as registration
use Rattle.act_model.specs.declared.items.Filing.{Filing}
use Rattle.act_model.specs.declared.items.Item.{Item}
use Rattle.act_model.specs.declared.items.Item.TheVariants as item
use Rattle.act_model.specs.declared.receipts.Receipt.{Receipt}
use Rattle.act_codec.specs.Spelling.{u8_bytes, u16_bytes, u32_bytes, u64_bytes, counted, owners_bytes, right_bytes, kind_bytes, spec_bytes, inventory_bytes, reserve_bytes, act_bytes, form_bytes, doc_bytes, condition_bytes, filing_bytes, basis_bytes, registration_bytes, item_bytes, stamp_bytes, spelling}
use Rattle.act_codec.specs.Values.{IsNumber, IsCents, IsDay, IsRight, IsOwners, IsInventory, IsKind, IsSpec, IsReserve, IsAct, IsDoc, AreDocs, AreActs, IsFiling, IsBasis, IsRegistration, IsItem, IsStamp, IsReceiptValue, IsReceipt}
use Rattle.gb_base.specs.Optional.{◌>>=◌}
use Rattle.act_codec.specs.inner.Reading.{read_number, read_id, read_day, read_cents, read_right, read_kind, read_spec, read_inventory, read_reserve, read_times, read_counted, read_owners, read_open, read_transfer, read_create, read_notice, read_convert, read_assign, read_cancel, read_exchange, read_exercise, read_act, read_form, read_consent, read_doc, read_condition, read_filing, read_personal, read_from_right, read_basis, read_advance, read_charge, read_arrears, read_registration, read_filing_item, read_cure, read_lapse, read_seize, read_register, read_open_bids, read_award, read_distribute, read_extend, read_item, read_stamp, read_receipt, read_whole}

pub bind_again : {A B : Type 0} (f : A → Option B) (read : Option A) (x : A) (y : Option B) → read ≡ Some x → f x ≡ y → (read >>= f) ≡ y
unfolding u16_bytes u32_bytes u64_bytes
bind_again f read x y e h = ap (λ o. o >>= f) e ∙ h

number_again : (w : Width) (n : ℕ) (rest : List ℕ) → length (to_be_bytes w n) ≡ byte_len w → from_be_bytes w (to_be_bytes w n) ≡ n → read_number w (to_be_bytes w n ++ rest) ≡ Some (n, rest)
unfolding read_number u16_bytes u32_bytes u64_bytes
number_again w n rest len back =
    let long : ltb (length (to_be_bytes w n ++ rest)) (byte_len w) ≡ false = le-ltb _ _ (omega (arith, length-append (to_be_bytes w n) rest)) in
    rw (long, take_at (to_be_bytes w n) rest (byte_len w) len, drop_at (to_be_bytes w n) rest (byte_len w) len, back) refl

pub u16_again : (n : ℕ) (rest : List ℕ) → n < 2 ^ 16 → read_number w16 (u16_bytes n ++ rest) ≡ Some (n, rest)
unfolding u16_bytes u32_bytes u64_bytes
u16_again n rest h = number_again w16 n rest refl (from_be_bytes-to_be_bytes_2 n h)

pub u32_again : (n : ℕ) (rest : List ℕ) → n < 2 ^ 32 → read_number w32 (u32_bytes n ++ rest) ≡ Some (n, rest)
unfolding u16_bytes u32_bytes u64_bytes
u32_again n rest h = number_again w32 n rest refl (from_be_bytes-to_be_bytes_4 n h)

pub u64_again : (n : ℕ) (rest : List ℕ) → n < 2 ^ 64 → read_number w64 (u64_bytes n ++ rest) ≡ Some (n, rest)
unfolding u16_bytes u32_bytes u64_bytes
u64_again n rest h = number_again w64 n rest refl (from_be_bytes-to_be_bytes_8 n h)

pub id_again : (n : ℕ) (rest : List ℕ) → IsNumber n → read_id (u32_bytes n ++ rest) ≡ Some (n, rest)
unfolding read_id u16_bytes u32_bytes u64_bytes
id_again n rest h = bind_again _ _ _ _ (u32_again n rest h.1) (cond-false _ _ _ (ne_eqb n 0 (λ e. omega (arith, h.0))))

pub day_again : (n : ℕ) (rest : List ℕ) → IsDay n → read_day (u32_bytes n ++ rest) ≡ Some (n, rest)
unfolding read_day u16_bytes u32_bytes u64_bytes
day_again n rest h = bind_again _ _ _ _ (u32_again n rest (omega (arith, h))) (cond-true _ _ _ (le-leb n 84005 h))

pub cents_again : (n : ℕ) (rest : List ℕ) → IsCents n → read_cents (u64_bytes n ++ rest) ≡ Some (n, rest)
unfolding read_cents u16_bytes u32_bytes u64_bytes
cents_again n rest h = bind_again _ _ _ _ (u64_again n rest (omega (arith, h))) (cond-true _ _ _ (le-leb n 10000000000000 h))

pub right_again : (r : RightNo) (rest : List ℕ) → IsRight r → read_right (right_bytes r ++ rest) ≡ Some (r, rest)
unfolding read_right u16_bytes u32_bytes u64_bytes
right_again r rest h = bind_again _ _ _ _ (id_again r.receipt _ h.0) (cond-true _ _ _ (and_from _ _ (le-leb 1 r.act h.1) (le-leb r.act 8 h.2)))

kind_again : (k : RightKind) (rest : List ℕ) → IsKind k → read_kind (kind_bytes k ++ rest) ≡ Some (k, rest)
unfolding read_kind u16_bytes u32_bytes u64_bytes
kind_again kind.PersonalEasement rest h = refl
kind_again kind.Usufruct rest h = refl
kind_again (kind.Mortgage rate) rest h = bind_again _ _ _ _ (u16_again rate rest h) refl
kind_again (kind.LandCharge rate) rest h = bind_again _ _ _ _ (u16_again rate rest h) refl

pub spec_again : (s : RightSpec) (rest : List ℕ) → IsSpec s → read_spec (spec_bytes s ++ rest) ≡ Some (s, rest)
unfolding read_spec u16_bytes u32_bytes u64_bytes
spec_again s rest h =
    ap read_spec (append_assoc (kind_bytes s.kind) (u64_bytes s.capital ++ (u32_bytes s.holder ++ u8_bytes s.group)) rest)
    ∙ bind_again _ _ _ _ (kind_again s.kind _ h.0) (bind_again _ _ _ _ (cents_again s.capital _ h.1) (bind_again _ _ _ _ (id_again s.holder _ h.2) refl))

inventory_again : (i : Inventory) (rest : List ℕ) → IsInventory i → read_inventory (inventory_bytes i ++ rest) ≡ Some (i, rest)
unfolding read_inventory u16_bytes u32_bytes u64_bytes
inventory_again i rest h =
    bind_again _ _ _ _ (u16_again i.district _ h.0) (bind_again _ _ _ _ (u32_again i.parcel _ h.1) (bind_again _ _ _ _ (u16_again i.sub _ h.2) (bind_again _ _ _ _ (u32_again i.area _ h.3) refl)))

reserve_again : (r : Option ℕ) (rest : List ℕ) → IsReserve r → read_reserve (reserve_bytes r ++ rest) ≡ Some (r, rest)
unfolding read_reserve u16_bytes u32_bytes u64_bytes
reserve_again None rest h = refl
reserve_again (Some cents) rest h = bind_again _ _ _ _ (cents_again cents rest h) refl

times_again : {X : Type 0} (part_at : List ℕ → Option (X × List ℕ)) (spelled : X → List ℕ) (IsX : X → Type 0) → ((x : X) (rest : List ℕ) → IsX x → part_at (spelled x ++ rest) ≡ Some (x, rest)) → (xs : List X) (rest : List ℕ) → AllByRecursion IsX xs → read_times part_at (length xs) (flat_map spelled xs ++ rest) ≡ Some (xs, rest)
unfolding u16_bytes u32_bytes u64_bytes
times_again part_at spelled IsX again [] rest h = refl
times_again part_at spelled IsX again (x ∷ xs) rest h =
    ap (read_times part_at (length (x ∷ xs))) (append_assoc (spelled x) (flat_map spelled xs) rest)
    ∙ bind_again _ _ _ _ (again x _ h.0) (bind_again _ _ _ _ (times_again part_at spelled IsX again xs rest h.1) refl)

counted_again : {X : Type 0} (limit : ℕ) (part_at : List ℕ → Option (X × List ℕ)) (spelled : X → List ℕ) (IsX : X → Type 0) → ((x : X) (rest : List ℕ) → IsX x → part_at (spelled x ++ rest) ≡ Some (x, rest)) → (xs : List X) (rest : List ℕ) → length xs ≤ limit → AllByRecursion IsX xs → read_counted limit part_at (counted spelled xs ++ rest) ≡ Some (xs, rest)
unfolding u16_bytes u32_bytes u64_bytes
counted_again limit part_at spelled IsX again xs rest few h =
    cond-true _ _ _ (le-leb (length xs) limit few) ∙ times_again part_at spelled IsX again xs rest h

owners_again : (ps : List ℕ) (rest : List ℕ) → IsOwners ps → read_owners (owners_bytes ps ++ rest) ≡ Some (ps, rest)
unfolding read_owners u16_bytes u32_bytes u64_bytes
owners_again ps rest h =
    bind_again _ _ _ _ (counted_again 4 read_id u32_bytes IsNumber id_again ps rest h.0 h.2) (cond-true _ _ _ (and_from _ _ (lt-ltb 0 (length ps) h.1.0) h.1.1))

act_again : (a : Act) (rest : List ℕ) → IsAct a → read_act (act_bytes a ++ rest) ≡ Some (a, rest)
unfolding read_act read_open read_transfer read_create read_notice read_convert read_assign read_cancel read_exchange read_exercise u16_bytes u32_bytes u64_bytes
act_again (Open f i o) rest h = bind_again _ _ _ _ (id_again f _ h.0) (bind_again _ _ _ _ (inventory_again i _ h.1) (bind_again _ _ _ _ (owners_again o rest h.2) refl))
act_again (Transfer f o) rest h = bind_again _ _ _ _ (id_again f _ h.0) (bind_again _ _ _ _ (owners_again o rest h.1) refl)
act_again (Create f s c) rest h =
    ap read_act (ap (λ bs. u8_bytes 3 ++ (u32_bytes f ++ bs)) (append_assoc (spec_bytes s) (reserve_bytes c) rest))
    ∙ bind_again _ _ _ _ (id_again f _ h.0) (bind_again _ _ _ _ (spec_again s _ h.1) (bind_again _ _ _ _ (reserve_again c rest h.2) refl))
act_again (NoticeFor f s) rest h = bind_again _ _ _ _ (id_again f _ h.0) (bind_again _ _ _ _ (spec_again s rest h.1) refl)
act_again (Convert f r) rest h = bind_again _ _ _ _ (id_again f _ h.0) (bind_again _ _ _ _ (right_again r rest h.1) refl)
act_again (Assign f r p) rest h = bind_again _ _ _ _ (id_again f _ h.0) (bind_again _ _ _ _ (right_again r _ h.1) (bind_again _ _ _ _ (id_again p rest h.2) refl))
act_again (Cancel f r) rest h = bind_again _ _ _ _ (id_again f _ h.0) (bind_again _ _ _ _ (right_again r rest h.1) refl)
act_again (Exchange f r u) rest h = bind_again _ _ _ _ (id_again f _ h.0) (bind_again _ _ _ _ (right_again r _ h.1) (bind_again _ _ _ _ (right_again u rest h.2) refl))
act_again (Exercise f b s) rest h = bind_again _ _ _ _ (id_again f _ h.0) (bind_again _ _ _ _ (right_again b _ h.1) (bind_again _ _ _ _ (spec_again s rest h.2) refl))

form_again : (f : Form) (rest : List ℕ) → read_form (form_bytes f ++ rest) ≡ Some (f, rest)
unfolding read_form u16_bytes u32_bytes u64_bytes
form_again form.Certified rest = refl
form_again form.Plain rest = refl

doc_again : (d : Doc) (rest : List ℕ) → IsDoc d → read_doc (doc_bytes d ++ rest) ≡ Some (d, rest)
unfolding read_doc read_consent u16_bytes u32_bytes u64_bytes
doc_again (doc.Consent a p f) rest h = bind_again _ _ _ _ (id_again p _ h.1) (bind_again _ _ _ _ (form_again f rest) refl)
doc_again (doc.Agreement a) rest h = refl
doc_again (doc.TaxClearance a) rest h = refl
doc_again (doc.ExpiryProof a) rest h = refl

docs_again : (ds : List Doc) (rest : List ℕ) → AreDocs ds → read_counted 32 read_doc (counted doc_bytes ds ++ rest) ≡ Some (ds, rest)
unfolding u16_bytes u32_bytes u64_bytes
docs_again ds rest h = counted_again 32 read_doc doc_bytes IsDoc doc_again ds rest h.0 h.1

acts_again : (acts : List Act) (rest : List ℕ) → AreActs acts → read_counted 8 read_act (counted act_bytes acts ++ rest) ≡ Some (acts, rest)
unfolding u16_bytes u32_bytes u64_bytes
acts_again acts rest h = counted_again 8 read_act act_bytes IsAct act_again acts rest h.0 h.1

condition_again : (c : Bool) (rest : List ℕ) → read_condition (condition_bytes c ++ rest) ≡ Some (c, rest)
unfolding read_condition u16_bytes u32_bytes u64_bytes
condition_again true rest = refl
condition_again false rest = refl

filing_again : (f : Filing) (rest : List ℕ) → IsFiling f → read_filing (filing_bytes f ++ rest) ≡ Some (f, rest)
unfolding read_filing u16_bytes u32_bytes u64_bytes
filing_again f rest h =
    ap read_filing (ap (λ bs. u32_bytes f.applicant ++ bs)
    (append_assoc (condition_bytes f.conditional) (counted act_bytes f.acts ++ counted doc_bytes f.docs) rest
    ∙ ap (λ bs. condition_bytes f.conditional ++ bs) (append_assoc (counted act_bytes f.acts) (counted doc_bytes f.docs) rest)))
    ∙ bind_again _ _ _ _ (id_again f.applicant _ h.0) (bind_again _ _ _ _ (condition_again f.conditional _) (bind_again _ _ _ _ (acts_again f.acts _ h.1) (bind_again _ _ _ _ (docs_again f.docs rest h.2) refl)))

basis_again : (b : Basis) (rest : List ℕ) → IsBasis b → read_basis (basis_bytes b ++ rest) ≡ Some (b, rest)
unfolding read_basis read_personal read_from_right u16_bytes u32_bytes u64_bytes
basis_again (basis.Personal p c) rest h = bind_again _ _ _ _ (id_again p _ h.0) (bind_again _ _ _ _ (cents_again c rest h.1) refl)
basis_again (basis.FromRight r) rest h = bind_again _ _ _ _ (right_again r rest h) refl

registration_again : (w : Registration) (rest : List ℕ) → IsRegistration w → read_registration (registration_bytes w ++ rest) ≡ Some (w, rest)
unfolding read_registration read_advance read_charge read_arrears u16_bytes u32_bytes u64_bytes
registration_again (registration.Advance p a) rest h = bind_again _ _ _ _ (id_again p _ h.0) (bind_again _ _ _ _ (cents_again a rest h.1) refl)
registration_again (registration.PublicCharge p a d) rest h = bind_again _ _ _ _ (id_again p _ h.0) (bind_again _ _ _ _ (cents_again a _ h.1) (bind_again _ _ _ _ (day_again d rest h.2) refl))
registration_again (registration.Arrears r f u) rest h = bind_again _ _ _ _ (right_again r _ h.0) (bind_again _ _ _ _ (day_again f _ h.1) (bind_again _ _ _ _ (day_again u rest h.2) refl))

item_again : (i : Item) (rest : List ℕ) → IsItem i → read_item (item_bytes i ++ rest) ≡ Some (i, rest)
unfolding read_item read_filing_item read_cure read_lapse read_seize read_register read_open_bids read_award read_distribute read_extend u16_bytes u32_bytes u64_bytes
item_again (item.Filing f) rest h = bind_again _ _ _ _ (filing_again f rest h) refl
item_again (item.Cure n ds) rest h = bind_again _ _ _ _ (id_again n _ h.0) (bind_again _ _ _ _ (docs_again ds rest h.1) refl)
item_again (item.Lapse n) rest h = bind_again _ _ _ _ (id_again n rest h) refl
item_again (item.Seize f b d) rest h =
    ap read_item (ap (λ bs. u8_bytes 4 ++ (u32_bytes f ++ bs)) (append_assoc (basis_bytes b) (u32_bytes d) rest))
    ∙ bind_again _ _ _ _ (id_again f _ h.0) (bind_again _ _ _ _ (basis_again b _ h.1) (bind_again _ _ _ _ (day_again d rest h.2) refl))
item_again (item.Register f w) rest h = bind_again _ _ _ _ (id_again f _ h.0) (bind_again _ _ _ _ (registration_again w rest h.1) refl)
item_again (item.OpenBids f c) rest h = bind_again _ _ _ _ (id_again f _ h.0) (bind_again _ _ _ _ (cents_again c rest h.1) refl)
item_again (item.Award f p b) rest h = bind_again _ _ _ _ (id_again f _ h.0) (bind_again _ _ _ _ (id_again p _ h.1) (bind_again _ _ _ _ (cents_again b rest h.2) refl))
item_again (item.Distribute f) rest h = bind_again _ _ _ _ (id_again f rest h) refl
item_again (item.Extend n d) rest h = bind_again _ _ _ _ (id_again n _ h.0) (bind_again _ _ _ _ (u16_again d rest h.1) refl)

stamp_again : (t : DayMinute) (rest : List ℕ) → IsStamp t → read_stamp (stamp_bytes t ++ rest) ≡ Some (t, rest)
unfolding read_stamp u16_bytes u32_bytes u64_bytes
stamp_again t rest h =
    bind_again _ _ _ _ (day_again t.day _ (omega (arith, h.0.1))) (bind_again _ _ _ _ (u16_again t.minute rest (omega (arith, h.1)))
    (cond-true _ _ _ (and_from _ _ (and_from _ _ (le-leb 10957 t.day h.0.0) (le-leb t.day 65743 h.0.1)) (lt-ltb t.minute 1440 h.1))))

receipt_again : (r : Receipt) (rest : List ℕ) → IsReceiptValue r → read_receipt (spelling r ++ rest) ≡ Some (r, rest)
unfolding read_receipt u16_bytes u32_bytes u64_bytes
receipt_again r rest h =
    bind_again _ _ _ _ (stamp_again r.stamp _ h.0) (bind_again _ _ _ _ (u32_again r.sender _ h.1) (bind_again _ _ _ _ (u64_again r.reference _ h.2) (bind_again _ _ _ _ (item_again r.item rest h.3) refl)))

-- the spelling of a receipt is read as this receipt
pub whole_again : (r : Receipt) → IsReceipt r → read_whole (spelling r) ≡ Some r
unfolding read_whole u16_bytes u32_bytes u64_bytes
whole_again r h =
    bind_again _ _ _ _ (ap read_receipt (sym (append-nil (spelling r))) ∙ receipt_again r [] h.0) (cond-true _ _ _ h.1)

-- so no two receipts share one spelling
pub spelling_once : (r s : Receipt) → IsReceipt r → IsReceipt s → spelling r ≡ spelling s → r ≡ s
spelling_once r s is_r is_s same = same_Some r s (sym (whole_again r is_r) ∙ ap read_whole same ∙ whole_again s is_s)

-- nothing is read exactly where the bytes are no receipt's spelling
pub none_spelled : (bytes : List ℕ) (read : Option Receipt) → read ≡ read_whole bytes → IfSome read (λ r. IsReceipt r × (bytes ≡ spelling r)) → (IsNone read → (r : Receipt) → IsReceipt r → bytes ≢ spelling r) × (((r : Receipt) → IsReceipt r → bytes ≢ spelling r) → IsNone read)
none_spelled bytes None is found = (λ none r is_r spelled. absurd (cc (is ∙ ap read_whole spelled ∙ whole_again r is_r)), λ unspelled. search rules)
none_spelled bytes (Some s) is found = (λ none. absurd (cc none), λ unspelled. absurd (unspelled s found.0 found.1))
