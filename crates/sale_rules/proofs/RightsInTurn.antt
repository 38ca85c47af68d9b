-- What is left of rights is entered one after the other; an entry at one right leaves what is read at the others.
use Rattle.std.proofs.Common.{◌≡◌, ℕ, zero, suc, ◌≤◌, Bool, true, false, cond, ◌&&◌, ◌==◌, List, [], ◌∷◌, ◌++◌, drop, length, IsTrue, refl, sym, ap, subst, ◌∙◌, arith}
use Rattle.std.specs.List.{AllByRecursion}
use Rattle.std.proofs.lemmas.Bool.Decides.{nat_tests}
use Rattle.std.proofs.lemmas.List.{append-nil}
use Rattle.gb_base.specs.Keys.{same_key}
use Rattle.gb_base.specs.RightNo.{RightNo, same_right}
use Rattle.gb_base.specs.declared.keys.Key.{Key}
use Rattle.gb_base.specs.declared.keys.Key.TheVariants.{Right}
use Rattle.act_model.specs.declared.receipts.Receipt.{Receipt}
use Rattle.folio_sections.specs.Adding.{AddsList}
use Rattle.folio_sections.specs.Entries.{at, entry_by}
use Rattle.folio_sections.specs.Rights.{is_live}
use Rattle.folio_sections.specs.declared.entries.Entry.{Entry}
use Rattle.folio_sections.proofs.Additions.{none_at}
use Rattle.folio_sections.proofs.Progress.{Progress, goes_on_by}
use Rattle.folio_sections.proofs.Unchanged.{all_weaker}
use Rattle.folio_line.specs.AllRights.{AscendByNumber, is_numbered_before}
use Rattle.auction_classes.specs.LowestBid.{remaining}
use Rattle.auction_classes.specs.SaleClaims.{SaleClaims}
use Rattle.sale_rules.specs.SaleEntries.{left_with}
use Rattle.sale_rules.specs.inner.RightsLeft.{CanBeLeft, left_at}

-- the entry stands at none of these rights
abbrev pub IsApart : ℕ → List RightNo → Entry → Type 0
IsApart folio ids e = AllByRecursion (λ id. same_key e.key (Right folio id) ≡ false) ids

-- ---- lists

pub all_dropped : {X : Type 0} (P : X → Type 0) (n : ℕ) (xs : List X) → AllByRecursion P xs → AllByRecursion P (drop n xs)
all_dropped P zero xs all = all
all_dropped P (suc n) [] all = tt
all_dropped P (suc n) (x ∷ xs) all = all_dropped P n xs all.1

pub ascend_dropped : (n : ℕ) (ids : List RightNo) → AscendByNumber ids → AscendByNumber (drop n ids)
ascend_dropped zero ids up = up
ascend_dropped (suc n) [] up = tt
ascend_dropped (suc n) (x ∷ xs) up = ascend_dropped n xs up.1

-- ---- keys

different : (x y : RightNo) → is_numbered_before x y ≡ true → same_right x y ≡ false
different x y before = grind (arith, nat_tests, before)

never_both : (b : Bool) → (b && false) ≡ false
never_both true = refl
never_both false = refl

apart_keys : (folio : ℕ) (x y : RightNo) → is_numbered_before x y ≡ true → same_key (Right folio x) (Right folio y) ≡ false
apart_keys folio x y before = ap (λ b. (folio == folio) && (true && b)) (different x y before) ∙ never_both (folio == folio)

-- ---- one right

-- what stands at the next right, and its room, are as they were at first
pub stays_there : (f : (Key → List Entry) → RightNo → List Entry) (folio : ℕ) (ids : List RightNo) (x : RightNo) (rest : List RightNo) (at0 at1 : Key → List Entry) (room0 room1 : Key → ℕ) (holds0 holds1 : Key → Bool)
    → Progress RightNo f (IsApart folio (x ∷ rest)) ids (x ∷ rest) at0 at1 room0 room1 holds0 holds1
    → (at1 (Right folio x) ≡ at0 (Right folio x)) × (room1 (Right folio x) ≡ room0 (Right folio x))
stays_there f folio ids x rest at0 at1 room0 room1 holds0 holds1 so_far =
    let key = Right folio x in
    let none : at so_far.done key ≡ [] =
    none_at so_far.done key (all_weaker (IsApart folio (x ∷ rest)) (λ e. same_key e.key key ≡ false) so_far.done (λ e apart. apart.0) so_far.keeps) in
    let count = ap length none in
    let used = so_far.added.room key in
    (so_far.added.there key ∙ ap (λ es. at0 key ++ es) none ∙ append-nil (at0 key), omega (arith, count, used))

pub still_left : (f : (Key → List Entry) → RightNo → List Entry) (claimed : SaleClaims) (cover folio : ℕ) (ids : List RightNo) (x : RightNo) (rest : List RightNo) (at0 at1 : Key → List Entry) (room0 room1 : Key → ℕ) (holds0 holds1 : Key → Bool)
    → Progress RightNo f (IsApart folio (x ∷ rest)) ids (x ∷ rest) at0 at1 room0 room1 holds0 holds1
    → CanBeLeft claimed cover folio holds0 room0 x → CanBeLeft claimed cover folio holds1 room1 x
still_left f claimed cover folio ids x rest at0 at1 room0 room1 holds0 holds1 so_far can =
    let stays = stays_there f folio ids x rest at0 at1 room0 room1 holds0 holds1 so_far in
    record {
      held = subst (λ (h : Key → Bool). IsTrue (h (Right folio x))) (sym so_far.held) can.held;
      has_room = subst (λ n. 1 ≤ n) (sym stays.1) can.has_room;
      within = can.within;
    }

-- the entries of the next right are added
pub left_next : (journal : List Receipt) (item folio : ℕ) (claimed : SaleClaims) (cover : ℕ) (ids : List RightNo) (x : RightNo) (rest : List RightNo) (at0 at1 at2 : Key → List Entry) (room0 room1 room2 : Key → ℕ) (holds0 holds1 holds2 : Key → Bool)
    → AscendByNumber (x ∷ rest)
    → Progress RightNo (left_at journal item folio claimed cover) (IsApart folio (x ∷ rest)) ids (x ∷ rest) at0 at1 room0 room1 holds0 holds1
    → AddsList at1 at2 room1 room2 (left_at journal item folio claimed cover at1 x) → holds2 ≡ holds1
    → Progress RightNo (left_at journal item folio claimed cover) (IsApart folio rest) ids rest at0 at2 room0 room2 holds0 holds2
left_next journal item folio claimed cover ids x rest at0 at1 at2 room0 room1 room2 holds0 holds1 holds2 up so_far more held =
    let f = left_at journal item folio claimed cover in
    let entry = entry_by journal item (Right folio x) (left_with (remaining claimed cover x)) in
    let stays = stays_there f folio ids x rest at0 at1 room0 room1 holds0 holds1 so_far in
    let apart : IsApart folio rest entry =
    all_weaker (λ y. is_numbered_before x y ≡ true) (λ y. same_key (Right folio x) (Right folio y) ≡ false) rest (λ y before. apart_keys folio x y before) up.0 in
    goes_on_by RightNo f (IsApart folio (x ∷ rest)) (IsApart folio rest) ids x rest at0 at1 at2 room0 room1 room2 holds0 holds1 holds2 so_far
    (ap (λ es. cond (is_live es) (entry ∷ []) []) stays.0)
    (all_weaker (IsApart folio (x ∷ rest)) (IsApart folio rest) so_far.done (λ e both. both.1) so_far.keeps)
    (elim (is_live (at0 (Right folio x))) as (λ b. AllByRecursion (IsApart folio rest) (cond b (entry ∷ []) [])) [ true ↦ (apart, tt) | false ↦ tt ])
    more held
