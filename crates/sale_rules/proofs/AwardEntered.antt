-- An award is entered at the case and the title, and then at the rights; the first two entries leave the rights as they were read.
use Rattle.std.proofs.Common.{◌≡◌, ℕ, ◌≤◌, Bool, true, false, cond, ◌&&◌, ◌==◌, List, [], ◌∷◌, ◌++◌, flat_map, length, IsTrue, refl, sym, ap, subst, ◌∙◌, arith}
use Rattle.std.specs.List.{AllByRecursion}
use Rattle.std.proofs.lemmas.List.{append-nil}
use Rattle.gb_base.specs.Keys.{same_key}
use Rattle.gb_base.specs.RightNo.{RightNo}
use Rattle.gb_base.specs.declared.keys.Key.{Key}
use Rattle.gb_base.specs.declared.keys.Key.TheVariants.{Case, Right, Title}
use Rattle.act_model.specs.declared.receipts.Receipt.{Receipt}
use Rattle.folio_sections.specs.Adding.{AddsList}
use Rattle.folio_sections.specs.Entries.{at, entry_by}
use Rattle.folio_sections.specs.Rights.{is_live}
use Rattle.folio_sections.specs.declared.entries.Entry.{Entry}
use Rattle.folio_sections.proofs.Additions.{adds_then, none_at}
use Rattle.folio_sections.proofs.FilteredLists.{all_in, flat_map_alike}
use Rattle.folio_sections.proofs.Unchanged.{all_weaker}
use Rattle.auction_classes.specs.LowestBid.{remaining}
use Rattle.auction_classes.specs.SaleClaims.{SaleClaims}
use Rattle.sale_rules.specs.SaleEntries.{left_with}
use Rattle.sale_rules.specs.inner.RightsLeft.{CanBeLeft, left_at}

never_both : (b : Bool) → (b && false) ≡ false
never_both true = refl
never_both false = refl

-- an entry at one key leaves what stands at another key, and the room there
one_leaves : (at0 at1 : Key → List Entry) (room0 room1 : Key → ℕ) (e : Entry) (key k : Key) → e.key ≡ key → same_key key k ≡ false → AddsList at0 at1 room0 room1 (e ∷ [])
    → (at1 k ≡ at0 k) × (room1 k ≡ room0 k)
one_leaves at0 at1 room0 room1 e key k own apart added =
    let none : at (e ∷ []) k ≡ [] = none_at (e ∷ []) k (subst (λ j. same_key j k ≡ false) (sym own) apart, tt) in
    let count = ap length none in
    let used = added.room k in
    (added.there k ∙ ap (λ es. at0 k ++ es) none ∙ append-nil (at0 k), omega (arith, count, used))

-- the entry at the case leaves room at the title
pub title_room : (folio : ℕ) (at0 at1 : Key → List Entry) (room0 room1 : Key → ℕ) (e : Entry) → e.key ≡ Case folio → AddsList at0 at1 room0 room1 (e ∷ []) → 1 ≤ room0 (Title folio) → 1 ≤ room1 (Title folio)
title_room folio at0 at1 room0 room1 e own added roomy =
    subst (λ n. 1 ≤ n) (sym (one_leaves at0 at1 room0 room1 e (Case folio) (Title folio) own (never_both (folio == folio)) added).1) roomy

-- The entries at the case and the title leave what stands at the rights, and the room there.
pub record LeavesRights (folio : ℕ) (at0 at2 : Key → List Entry) (room0 room2 : Key → ℕ) : Type 0 where
  pub there : (id : RightNo) → at2 (Right folio id) ≡ at0 (Right folio id)
  pub roomy : (id : RightNo) → room2 (Right folio id) ≡ room0 (Right folio id)

pub both_leave : (folio : ℕ) (at0 at1 at2 : Key → List Entry) (room0 room1 room2 : Key → ℕ) (e f : Entry) → e.key ≡ Case folio → f.key ≡ Title folio
    → AddsList at0 at1 room0 room1 (e ∷ []) → AddsList at1 at2 room1 room2 (f ∷ []) → LeavesRights folio at0 at2 room0 room2
both_leave folio at0 at1 at2 room0 room1 room2 e f case title first second =
    let one : (id : RightNo) → (at1 (Right folio id) ≡ at0 (Right folio id)) × (room1 (Right folio id) ≡ room0 (Right folio id)) =
    λ id. one_leaves at0 at1 room0 room1 e (Case folio) (Right folio id) case (never_both (folio == folio)) first in
    let two : (id : RightNo) → (at2 (Right folio id) ≡ at1 (Right folio id)) × (room2 (Right folio id) ≡ room1 (Right folio id)) =
    λ id. one_leaves at1 at2 room1 room2 f (Title folio) (Right folio id) title (never_both (folio == folio)) second in
    record { there = λ id. (two id).0 ∙ (one id).0; roomy = λ id. (two id).1 ∙ (one id).1 }

-- so what remains of each right can still be entered
pub can_still : (claimed : SaleClaims) (cover folio : ℕ) (at0 at2 : Key → List Entry) (room0 room2 : Key → ℕ) (holds0 holds2 : Key → Bool) (ids : List RightNo) → LeavesRights folio at0 at2 room0 room2 → holds2 ≡ holds0
    → AllByRecursion (CanBeLeft claimed cover folio holds0 room0) ids → AllByRecursion (CanBeLeft claimed cover folio holds2 room2) ids
can_still claimed cover folio at0 at2 room0 room2 holds0 holds2 ids leaves same all =
    all_weaker (CanBeLeft claimed cover folio holds0 room0) (CanBeLeft claimed cover folio holds2 room2) ids
    (λ id can. record {
      held = subst (λ (h : Key → Bool). IsTrue (h (Right folio id))) (sym same) can.held;
      has_room = subst (λ n. 1 ≤ n) (sym (leaves.roomy id)) can.has_room;
      within = can.within;
    }) all

-- all entries of the award are added
pub award_added : (journal : List Receipt) (item folio : ℕ) (claimed : SaleClaims) (cover : ℕ) (at0 at1 at2 at3 : Key → List Entry) (room0 room1 room2 room3 : Key → ℕ) (e f case title : Entry) (ids earlier : List RightNo)
    → e ≡ case → f ≡ title → ids ≡ earlier → LeavesRights folio at0 at2 room0 room2
    → AddsList at0 at1 room0 room1 (e ∷ []) → AddsList at1 at2 room1 room2 (f ∷ []) → AddsList at2 at3 room2 room3 (flat_map (left_at journal item folio claimed cover at2) ids)
    → AddsList at0 at3 room0 room3 (case ∷ title ∷ flat_map (left_at journal item folio claimed cover at0) earlier)
award_added journal item folio claimed cover at0 at1 at2 at3 room0 room1 room2 room3 e f case title ids earlier is_case is_title same leaves first second third =
    let entry : RightNo → Entry = λ id. entry_by journal item (Right folio id) (left_with (remaining claimed cover id)) in
    let alike = flat_map_alike (left_at journal item folio claimed cover at2) (left_at journal item folio claimed cover at0) ids
    (all_in (λ id. left_at journal item folio claimed cover at2 id ≡ left_at journal item folio claimed cover at0 id) ids (λ id _. ap (λ es. cond (is_live es) (entry id ∷ []) []) (leaves.there id))) in
    let whole = alike ∙ ap (flat_map (left_at journal item folio claimed cover at0)) same in
    adds_then at0 at1 at3 room0 room1 room3 (case ∷ []) (title ∷ flat_map (left_at journal item folio claimed cover at0) earlier)
    (subst (λ d. AddsList at0 at1 room0 room1 (d ∷ [])) is_case first)
    (adds_then at1 at2 at3 room1 room2 room3 (title ∷ []) (flat_map (left_at journal item folio claimed cover at0) earlier)
    (subst (λ d. AddsList at1 at2 room1 room2 (d ∷ [])) is_title second)
    (subst (λ es. AddsList at2 at3 room2 room3 es) whole third))
