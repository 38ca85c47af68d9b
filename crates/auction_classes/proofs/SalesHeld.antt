-- What parts read of a forced sale whose keys they hold, where they stand for a kept register.
use Rattle.std.proofs.Common.{◌≡◌, ℕ, ◌≤◌, Bool, true, false, cond, List, [], All, Contains, length, map, slice_get, IfSome, IsSome, IsTrue, Option, Some, None, refl, sym, ap, subst, ◌∙◌, arith}
use Rattle.std.specs.Option.{option_map_or}
use Rattle.std.proofs.lemmas.Bool.{false≢true}
use Rattle.std.proofs.lemmas.List.Elements.{All-contains_itself, recursion_from_All}
use Rattle.gb_base.specs.RightNo.{RightNo, same_right}
use Rattle.gb_base.specs.declared.keys.Key.{Key}
use Rattle.gb_base.specs.declared.keys.Key.TheVariants.{Case, Right, Title}
use Rattle.gb_base.proofs.Members.{in_map}
use Rattle.gb_base.proofs.SameRights.{right_is}
use Rattle.act_model.specs.Receiving.{IsJournal}
use Rattle.act_model.specs.SaleKeys.{earlier_rights, keys_of_sale}
use Rattle.act_model.specs.declared.receipts.Receipt.{Receipt}
use Rattle.folio_sections.specs.Cases.{award, seizure_numbers}
use Rattle.folio_sections.specs.Fronts.{NeverFall, below}
use Rattle.folio_sections.specs.HeldRights.{right_numbers}
use Rattle.folio_sections.specs.Rights.{created}
use Rattle.folio_sections.specs.declared.entries.Entry.{Entry}
use Rattle.folio_sections.proofs.FilteredLists.{in_all, of_any}
use Rattle.folio_sections.proofs.Unchanged.{all_weaker}
use Rattle.kept_registers.specs.Kept.{Kept}
use Rattle.kept_registers.specs.Standing.{StandsFor, StandsForKept}
use Rattle.folio_line.specs.AllRights.{AreAllRights, is_among, rights_filed}
use Rattle.folio_line.specs.FolioLine.{IsLineOf, LineState, all_rises}
use Rattle.folio_line.specs.FolioReading.{read_at, where_held}
use Rattle.folio_line.proofs.AllRights.{filed_are_all}
use Rattle.auction_classes.specs.Sales.{Sale, read, read_before, sale_at}
use Rattle.auction_classes.specs.inner.CaseSales.{CanFind, sale_of_case}
use Rattle.auction_classes.specs.inner.LinesRead.{IsLineWithin}
use Rattle.auction_classes.specs.inner.Readings.{IsReadAs}
use Rattle.auction_classes.proofs.EarlierRights.{filed_earlier, filed_few, rises_fit}
use Rattle.auction_classes.proofs.KeptSales.{below_twice, can_find, read_within}
use Rattle.auction_classes.proofs.LineFits.{line_within, live_few}
use Rattle.auction_classes.proofs.PartsRead.{parts_read_alike}
use Rattle.auction_classes.proofs.ReadAlike.{ReadAlike}
use Rattle.auction_classes.proofs.SalesAsRead.{IsReadFrom, live_as_read}

-- ---- what is held

-- the keys of the sale are held
pub record HoldsSale (journal : List Receipt) (holds : Key → Bool) (folio a : ℕ) : Type 0 where
  pub case : holds (Case folio) ≡ true
  pub title : holds (Title folio) ≡ true
  pub rights : (id : RightNo) → is_among (earlier_rights journal a folio) id ≡ true → holds (Right folio id) ≡ true

pub holds_sale : (journal : List Receipt) (holds : Key → Bool) (folio a : ℕ) → ((k : Key) → Contains (keys_of_sale journal a folio) k → IsTrue (holds k)) → HoldsSale journal holds folio a
holds_sale journal holds folio a held =
    let keys = keys_of_sale journal a folio in
    let rights = earlier_rights journal a folio in
    let all = all_weaker (Contains keys) (λ k. IsTrue (holds k)) keys held (recursion_from_All (Contains keys) keys (All-contains_itself keys)) in
    record {
      case = all.0;
      title = all.1.0;
      rights = λ id among.
          let from = of_any (same_right id) rights among in
          subst (λ k. holds (Right folio k) ≡ true) (sym (right_is id from.0 from.2))
          (in_all (λ k. IsTrue (holds k)) (map (Right folio) rights) (Right folio from.0) all.1.1 (in_map (Right folio) rights from.0 from.1));
    }

-- ---- what is read

-- receipts never fall at a key that is held
pub held_rise : (journal : List Receipt) (register : Key → List Entry) (holds : Key → Bool) (at : Key → List Entry) (k : Key) → Kept journal register → StandsFor holds at register → holds k ≡ true → NeverFall (at k)
held_rise journal register holds at k kept stands held = subst NeverFall (sym (stands k held)) (kept.receipts_rise.never_fall k)

pub can_be_read : (journal : List Receipt) (register : Key → List Entry) (holds : Key → Bool) (at : Key → List Entry) (folio : ℕ) (before : Option ℕ) → Kept journal register → StandsFor holds at register
    → IfSome before (λ _. (id : RightNo) → IsTrue (holds (Right folio id)) → NeverFall (at (Right folio id)))
can_be_read journal register holds at folio None kept stands = tt
can_be_read journal register holds at folio (Some n) kept stands = λ id held. held_rise journal register holds at (Right folio id) kept stands held

-- the rights filed are all that are read in the folio
pub filed_are_read : (journal : List Receipt) (register : Key → List Entry) (holds : Key → Bool) (at : Key → List Entry) (folio n : ℕ) → Kept journal register → StandsFor holds at register
    → AreAllRights (rights_filed (Some n) journal folio) (read_at (Some n) (where_held holds at)) folio
filed_are_read journal register holds at folio n kept stands =
    let filed = filed_are_all (Some n) journal register folio kept in
    record {
      ascend = filed.ascend;
      all = all_weaker (λ id. IsSome (created (below n (register (Right folio id)))) → is_among (rights_filed (Some n) journal folio) id ≡ true)
          (λ id. IsSome (created (below n (where_held holds at (Right folio id)))) → is_among (rights_filed (Some n) journal folio) id ≡ true) right_numbers (λ id was some. was (there id some)) filed.all;
    }
  where
    there : (id : RightNo) → IsSome (created (below n (where_held holds at (Right folio id)))) → IsSome (created (below n (register (Right folio id))))
    there id some =
        elim (holds (Right folio id)) as (λ b. holds (Right folio id) ≡ b → IsSome (created (below n (cond b (at (Right folio id)) []))) → IsSome (created (below n (register (Right folio id))))) [
          | true ↦ λ held is. subst (λ es. IsSome (created (below n es))) (stands (Right folio id) held) is
          | false ↦ λ _ none. absurd (false≢true none)
        ] refl some

-- ---- the sale

-- A forced sale as parts read it: the journal, which keys they hold and what stands there, the folio, and the item that finds the sale; what
-- is read of its case, as of which receipt its folio is read, and what is then read of its title.
pub record SaleReading : Type 0 where
  pub journal : List Receipt
  pub holds : Key → Bool
  pub at : Key → List Entry
  pub folio : ℕ
  pub item : ℕ
  pub entries : List Entry
  pub before : ℕ
  pub title : List Entry

abbrev pub reading_of : List Receipt → (Key → Bool) → (Key → List Entry) → ℕ → ℕ → List Entry → ℕ → List Entry → SaleReading
reading_of journal holds at folio item entries before title =
    record { journal = journal; holds = holds; at = at; folio = folio; item = item; entries = entries; before = before; title = title }

-- what is read at the rights of its folio
abbrev pub reads_in : SaleReading → Key → List Entry
reads_in r = read_at (Some r.before) (where_held r.holds r.at)

-- the sale of the register
abbrev pub sale_in : SaleReading → (Key → List Entry) → Sale
sale_in r register = sale_at r.journal register r.folio r.item

-- The parts stand for a kept register, and hold the keys of the sale.
pub record IsSaleRead (r : SaleReading) (register : Key → List Entry) : Type 0 where
  pub kept : Kept r.journal register
  pub stands : StandsFor r.holds r.at register
  pub received : IsJournal r.journal
  pub held : HoldsSale r.journal r.holds r.folio r.item
  pub case : r.entries ≡ below r.item (r.at (Case r.folio))
  pub award : r.before ≡ option_map_or (λ m. m) (award r.entries) r.item
  pub owned : r.title ≡ below r.before (r.at (Title r.folio))

pub sale_is_read : (r : SaleReading) (kept : StandsForKept r.journal r.holds r.at) → IsJournal r.journal → ((k : Key) → Contains (keys_of_sale r.journal r.item r.folio) k → IsTrue (r.holds k))
    → r.entries ≡ below r.item (r.at (Case r.folio)) → r.before ≡ option_map_or (λ m. m) (award r.entries) r.item → r.title ≡ below r.before (r.at (Title r.folio)) → IsSaleRead r kept.register
sale_is_read r kept received held case awarded owned = record {
  kept = kept.kept;
  stands = kept.stands;
  received = received;
  held = holds_sale r.journal r.holds r.folio r.item held;
  case = case;
  award = awarded;
  owned = owned;
}

-- the parts have the entries at the case that the register has
pub case_is : (r : SaleReading) (register : Key → List Entry) → IsSaleRead r register → below r.item (register (Case r.folio)) ≡ r.entries
case_is r register is = sym (is.case ∙ ap (below r.item) (is.stands (Case r.folio) is.held.case))

-- so the folio is read as of the receipt as of which the sale reads it
before_is : (r : SaleReading) (register : Key → List Entry) → IsSaleRead r register → r.before ≡ read_before (sale_in r register)
before_is r register is = is.award ∙ ap (λ es. option_map_or (λ m. m) (award es) r.item) (sym (case_is r register is))

-- this receipt is no later than the item
pub before_within : (r : SaleReading) (register : Key → List Entry) → IsSaleRead r register → r.before ≤ r.item
before_within r register is = subst (λ m. m ≤ r.item) (sym (before_is r register is)) (read_within r.journal register r.folio r.item)

-- the sale can be found
pub can_find_case : (r : SaleReading) (register : Key → List Entry) → IsSaleRead r register → IsSome (slice_get (seizure_numbers r.entries) 0) → CanFind (sale_of_case r.journal r.entries r.item)
can_find_case r register is runs =
    let case = case_is r register is in
    let can = can_find r.journal register r.folio r.item is.kept (subst (λ es. IsSome (slice_get (seizure_numbers es) 0)) (sym case) runs) in
    subst (λ es. CanFind (sale_of_case r.journal es r.item)) case (record { seized = can.seized; seizures = can.seizures; registrations = can.registrations })

-- the rights of the sale are read alike
pub sale_read_alike : (r : SaleReading) (register : Key → List Entry) → IsSaleRead r register → ReadAlike r.folio (read (sale_in r register)) (reads_in r)
sale_read_alike r register is =
    let within = before_within r register is in
    subst (λ m. ReadAlike r.folio (λ k. below m (below r.item (register k))) (reads_in r)) (before_is r register is)
    (parts_read_alike r.journal register r.holds r.at r.folio r.before r.item is.kept is.received within is.stands
    (λ id among. is.held.rights id (filed_earlier r.journal r.folio r.before r.item within id among)))

pub sale_read_from : (r : SaleReading) (register : Key → List Entry) (line : LineState) → IsSaleRead r register → IsLineOf (reads_in r) r.folio line
    → IsReadFrom r.journal register r.folio r.item r.entries (reads_in r) r.title line.live
sale_read_from r register line is of_line =
    let k = Title r.folio in
    record {
      case = case_is r register is;
      rights = sale_read_alike r register is;
      owned = ap (λ m. below m (below r.item (register k))) (sym (before_is r register is))
          ∙ below_twice r.before r.item (register k) (before_within r register is) ∙ ap (below r.before) (sym (is.stands k is.held.title)) ∙ sym is.owned;
      living = of_line.live;
    }

-- the live rights of the sale are as they were filed
pub sale_live_as_read : (r : SaleReading) (register : Key → List Entry) (line : LineState) → IsSaleRead r register → IsLineOf (reads_in r) r.folio line → All (IsReadAs (λ id. reads_in r (Right r.folio id))) line.live
sale_live_as_read r register line is of_line =
    live_as_read r.journal register r.folio r.item r.entries (reads_in r) r.title line.live (sale_read_from r register line is of_line) is.kept is.received

-- ---- room

-- the rights among which the line of the sale is read
abbrev pub ids_in : SaleReading → List RightNo
ids_in r = rights_filed (Some r.before) r.journal r.folio

pub ids_are_all : (r : SaleReading) (register : Key → List Entry) → IsSaleRead r register → AreAllRights (ids_in r) (reads_in r) r.folio
ids_are_all r register is = filed_are_read r.journal register r.holds r.at r.folio r.before is.kept is.stands

-- these rights are no more than those that filings before the item create, and at most as many as a folio has
pub ids_few : (r : SaleReading) (register : Key → List Entry) → IsSaleRead r register → length (ids_in r) ≤ length (earlier_rights r.journal r.item r.folio)
ids_few r register is = filed_few r.journal r.folio r.before r.item (before_within r register is)

-- the exchanges by which these rights rise are no more than those that stand in the parts
pub ids_rise : (r : SaleReading) (register : Key → List Entry) → IsSaleRead r register
    → length (all_rises (reads_in r) r.folio (ids_in r)) ≤ length (all_rises r.at r.folio (earlier_rights r.journal r.item r.folio))
ids_rise r register is = rises_fit r.journal r.holds r.at r.folio r.before r.item (before_within r register is)

pub sale_live_few : (r : SaleReading) (register : Key → List Entry) (line : LineState) → IsSaleRead r register → IsLineOf (reads_in r) r.folio line → length line.live ≤ length (ids_in r)
sale_live_few r register line is of_line = live_few (reads_in r) r.folio (ids_in r) line (ids_are_all r register is) of_line

-- the folio's line has no more than so many rights and exchanges
pub sale_line_within : (r : SaleReading) (register : Key → List Entry) (line : LineState) (rights exchanges : ℕ) → IsSaleRead r register → IsLineOf (reads_in r) r.folio line
    → length (earlier_rights r.journal r.item r.folio) ≤ rights → length (all_rises r.at r.folio (earlier_rights r.journal r.item r.folio)) ≤ exchanges → IsLineWithin rights exchanges line
sale_line_within r register line rights exchanges is of_line few rises =
    let less = ids_few r register is in
    let fit = ids_rise r register is in
    line_within (reads_in r) r.folio (ids_in r) line rights exchanges (ids_are_all r register is) of_line (omega (arith, less, few)) (omega (arith, fit, rises))
