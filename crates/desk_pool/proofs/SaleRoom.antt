-- An item of a forced sale brings at most one entry at a key.
use Rattle.std.proofs.Common.{◌≡◌, ⊎_elim, ℕ, ◌<◌, ◌≤◌, All, Bool, true, false, cond, ◌&&◌, ◌==◌, List, [], ◌∷◌, ◌++◌, flat_map, length, Option, Some, None, refl, sym, ap, subst, ◌∙◌, arith}
use Rattle.std.specs.List.{AllByRecursion}
use Rattle.std.specs.Option.{option_map_or}
use Rattle.std.proofs.lemmas.Bool.{cases_Bool, false≢true}
use Rattle.std.proofs.lemmas.Bool.Decides.{nat_tests}
use Rattle.gb_base.specs.Keys.{same_key}
use Rattle.gb_base.specs.RightNo.{RightNo, same_right}
use Rattle.gb_base.specs.declared.keys.Key.{Key}
use Rattle.gb_base.specs.declared.keys.Key.TheVariants.{Case, Right, Title}
use Rattle.act_model.proofs.KeyOrder.{same_is}
use Rattle.act_model.specs.Receiving.{IsJournal}
use Rattle.act_model.specs.SaleKeys.{earlier_rights}
use Rattle.act_model.specs.declared.receipts.Receipt.{Receipt}
use Rattle.auction_classes.specs.LowestBid.{remaining}
use Rattle.auction_classes.specs.SaleClaims.{SaleClaims, claimed_in}
use Rattle.auction_classes.specs.Sales.{sale_at}
use Rattle.folio_line.specs.AllRights.{AscendByNumber, is_numbered_before}
use Rattle.folio_sections.proofs.Additions.{at-append, at_few, length-at, none_at}
use Rattle.folio_sections.proofs.Unchanged.{all_weaker}
use Rattle.folio_sections.specs.Entries.{at, entry_by}
use Rattle.folio_sections.specs.Rights.{is_live}
use Rattle.folio_sections.specs.declared.entries.Entry.{Entry}
use Rattle.folio_sections.specs.declared.entries.What.TheVariants as what
use Rattle.kept_registers.specs.Kept.{Kept}
use Rattle.registrar.proofs.ContainedParts.{each_so}
use Rattle.sale_rules.specs.SaleEntries.{award_brought, award_entries, entry_in_sale, left_with, unless_refused}
use Rattle.sale_rules.specs.SaleGrounds.{lowest, refusal_of_award}
use Rattle.sale_rules.specs.inner.RightsLeft.{left_at}
use Rattle.sale_rules.proofs.AwardedRights.{FindsSale, earlier_ascend, rights_left_are}

-- ---- one entry, or none

pub one_at_most : {R : Type 0} (o : Option R) (e : Entry) (k : Key) → length (at (unless_refused o (e ∷ [])) k) ≤ 1
one_at_most None e k = let few = at_few (e ∷ []) k in omega arith
one_at_most (Some refusal) e k = omega arith

-- ---- what is left of rights that ascend

neither_way : (b : Bool) → (b && false) ≡ false
neither_way true = refl
neither_way false = refl

different : (x y : RightNo) → is_numbered_before x y ≡ true → same_right x y ≡ false
different x y before = grind (arith, nat_tests, before)

apart_keys : (folio : ℕ) (x y : RightNo) → is_numbered_before x y ≡ true → same_key (Right folio x) (Right folio y) ≡ false
apart_keys folio x y before = ap (λ b. (folio == folio) && (true && b)) (different x y before) ∙ neither_way (folio == folio)

-- a key is not that of two different rights
other_right : (folio : ℕ) (x y : RightNo) (k : Key) → is_numbered_before x y ≡ true → same_key (Right folio x) k ≡ true → same_key (Right folio y) k ≡ false
other_right folio x y k before is =
    ⊎_elim
    (λ too. absurd (false≢true (sym (apart_keys folio x y before) ∙ subst (λ j. same_key (Right folio x) j ≡ true) (sym (same_is (Right folio y) k too)) is)))
    (λ no. no)
    (cases_Bool (same_key (Right folio y) k))

module _ (journal : List Receipt) (i folio : ℕ) (claimed : SaleClaims) (cover : ℕ) (register : Key → List Entry) where
  abbrev left : RightNo → List Entry
  left = left_at journal i folio claimed cover register

  left_few : (id : RightNo) → length (left id) ≤ 1
  left_few id =
      elim (is_live (register (Right folio id))) as (λ b. length (cond b (entry_by journal i (Right folio id) (left_with (remaining claimed cover id)) ∷ []) []) ≤ 1) [
        | true ↦ omega arith
        | false ↦ omega arith
      ]

  left_off : (id : RightNo) (k : Key) → same_key (Right folio id) k ≡ false → at (left id) k ≡ []
  left_off id k apart =
      none_at (left id) k
      (elim (is_live (register (Right folio id))) as (λ b. AllByRecursion (λ (e : Entry). same_key e.key k ≡ false) (cond b (entry_by journal i (Right folio id) (left_with (remaining claimed cover id)) ∷ []) [])) [
        | true ↦ (apart, tt)
        | false ↦ tt
      ])

  all_off : (ids : List RightNo) (k : Key) → AllByRecursion (λ id. same_key (Right folio id) k ≡ false) ids → at (flat_map left ids) k ≡ []
  all_off [] k apart = refl
  all_off (id ∷ ids) k apart = at-append (left id) (flat_map left ids) k ∙ λ j. left_off id k apart.0 j ++ all_off ids k apart.1 j

  left_once : (ids : List RightNo) (k : Key) → AscendByNumber ids → length (at (flat_map left ids) k) ≤ 1
  left_once [] k up = omega arith
  left_once (id ∷ ids) k up =
      let both = length-at (left id) (flat_map left ids) k in
      ⊎_elim
      (λ own.
      let rest = ap length (all_off ids k (all_weaker (λ y. is_numbered_before id y ≡ true) (λ y. same_key (Right folio y) k ≡ false) ids (λ y before. other_right folio id y k before own) up.0)) in
      let few = at_few (left id) k in
      let one = left_few id in
      omega arith)
      (λ other.
      let none = ap length (left_off id k other) in
      let rest = left_once ids k up.1 in
      omega arith)
      (cases_Bool (same_key (Right folio id) k))

  -- what is left of rights, an entry at the case and one at the title are at most one entry at a key
  with_award : (case title : Entry) (ids : List RightNo) (k : Key) → case.key ≡ Case folio → title.key ≡ Title folio → AscendByNumber ids → length (at (case ∷ title ∷ flat_map left ids) k) ≤ 1
  with_award case title ids (Case other) own_case own_title up =
      let k = Case other in
      let both = length-at (case ∷ []) (title ∷ flat_map left ids) k in
      let inner = length-at (title ∷ []) (flat_map left ids) k in
      let few = at_few (case ∷ []) k in
      let none = ap length (none_at (title ∷ []) k (subst (λ j. same_key j k ≡ false) (sym own_title) (neither_way (folio == other)), tt)) in
      let rest = ap length (all_off ids k (each_so (λ id. same_key (Right folio id) k ≡ false) ids (λ id. neither_way (folio == other)))) in
      omega arith
  with_award case title ids (Title other) own_case own_title up =
      let k = Title other in
      let both = length-at (case ∷ []) (title ∷ flat_map left ids) k in
      let inner = length-at (title ∷ []) (flat_map left ids) k in
      let few = at_few (title ∷ []) k in
      let none = ap length (none_at (case ∷ []) k (subst (λ j. same_key j k ≡ false) (sym own_case) (neither_way (folio == other)), tt)) in
      let rest = ap length (all_off ids k (each_so (λ id. same_key (Right folio id) k ≡ false) ids (λ id. neither_way (folio == other)))) in
      omega arith
  with_award case title ids (Right other right) own_case own_title up =
      let k = Right other right in
      let both = length-at (case ∷ []) (title ∷ flat_map left ids) k in
      let inner = length-at (title ∷ []) (flat_map left ids) k in
      let none = ap length (none_at (case ∷ []) k (subst (λ j. same_key j k ≡ false) (sym own_case) (neither_way (folio == other)), tt)) in
      let nor = ap length (none_at (title ∷ []) k (subst (λ j. same_key j k ≡ false) (sym own_title) (neither_way (folio == other)), tt)) in
      let rest = left_once ids k up in
      omega arith

-- ---- awards

-- an award brings at most one entry at a key, on a kept register whose entries are all by earlier items
pub award_few : (journal : List Receipt) (register : Key → List Entry) (folio i buyer bid : ℕ) (k : Key) → IsJournal journal → Kept journal register → ((j : Key) → All (λ e. e.receipt < i) (register j))
    → length (at (award_brought (sale_at journal register folio i) buyer bid) k) ≤ 1
award_few journal register folio i buyer bid k stands kept earlier =
    let s = sale_at journal register folio i in
    let ids = earlier_rights journal i folio in
    let finds : FindsSale journal (λ j. true) register register folio i = record { received = stands; stands = λ j held. refl; kept = kept; held = λ j there. refl; earlier = λ j there. earlier j } in
    elim (refusal_of_award s bid) as (λ o. length (at (unless_refused o (option_map_or (award_entries s buyer bid) (lowest s) [])) k) ≤ 1) [
      | Some refusal ↦ omega arith
      | None ↦ elim (lowest s) as (λ o. length (at (option_map_or (award_entries s buyer bid) o []) k) ≤ 1) [
        | None ↦ omega arith
        | Some least ↦
            let case = entry_in_sale s (Case folio) (what.Awarded buyer bid) in
            let title = entry_in_sale s (Title folio) (what.AwardOwner buyer) in
            subst (λ rights. length (at (case ∷ title ∷ rights) k) ≤ 1) (rights_left_are journal (λ j. true) register register folio i (claimed_in s) least.cover finds refl)
            (with_award journal i folio (claimed_in s) least.cover register case title ids k refl refl (earlier_ascend journal register folio i kept))
      ]
    ]
