-- What an item brings names receipts up to it alone.
use Rattle.std.proofs.Common.{◌≡◌, eqb, Option, ℕ, ◌+◌, ◌-◌, ◌<◌, ◌≤◌, true, false, ◌&&◌, cond, nat_lt, List, [], ◌∷◌, ◌++◌, Some, None, is_none, refl, arith}
use Rattle.std.specs.List.{AllByRecursion, enumerate_from}
use Rattle.std.specs.Option.{option_map_or}
use Rattle.std.proofs.lemmas.Bool.Decides.{nat_tests}
use Rattle.std.proofs.lemmas.List.Elements.{All-append, All-from_recursion}
use Rattle.gb_base.specs.declared.keys.Key.{Key}
use Rattle.gb_base.specs.declared.keys.Key.TheVariants.{Title, Right, Case}
use Rattle.act_model.specs.Divisions.{create_in_division, creates_there}
use Rattle.act_model.specs.Documents.{documents}
use Rattle.act_model.specs.Receiving.{receipt_at}
use Rattle.act_model.specs.Touches.{acts_of, filing_at, keys_in_order}
use Rattle.act_model.specs.declared.documents.Doc.{Doc}
use Rattle.act_model.specs.declared.filing_acts.Act.{Act}
use Rattle.act_model.specs.declared.filing_acts.Act.TheVariants.{Open, Transfer, Create, NoticeFor, Convert, Assign, Cancel, Exchange, Exercise}
use Rattle.act_model.specs.declared.items.Filing.{Filing}
use Rattle.act_model.specs.declared.items.Item.{Item}
use Rattle.act_model.specs.declared.items.Item.TheVariants as item
use Rattle.act_model.specs.declared.receipts.Receipt.{Receipt}
use Rattle.consent_rules.specs.Judging.{judged, judged_filing}
use Rattle.consent_rules.specs.declared.judgements.Judgement.{Judgement}
use Rattle.consent_rules.specs.declared.judgements.Judgement.TheVariants.{Enter, Interim, Reject}
use Rattle.entry_rules.specs.Entering.{content, contents_brought, entered, placed_at, places_brought, with_places}
use Rattle.folio_sections.proofs.FilteredLists.{all_filtered}
use Rattle.folio_sections.proofs.Unchanged.{all_both, all_weaker}
use Rattle.folio_sections.specs.Entries.{at, entry_by, with_entries}
use Rattle.folio_sections.specs.Waiting.{is_pending, notice, receipts_before, waiting_before, waiting_unnoticed}
use Rattle.folio_sections.specs.declared.entries.Entry.{Entry}
use Rattle.folio_sections.specs.declared.entries.What.{What}
use Rattle.folio_sections.specs.declared.entries.What.TheVariants as what
use Rattle.interim_orders.specs.Extensions.{brought_by_extension, extended}
use Rattle.interim_orders.specs.Lapses.{brought_by_lapse, lapse_at, lapse_brought, lapsed}
use Rattle.interim_orders.specs.Notices.{notices_at, notices_brought, with_notices}
use Rattle.interim_orders.specs.Orders.{deadline_of, end_brought, order_brought, state_by, state_of, waiting_brought, waits_until}
use Rattle.interim_orders.specs.declared.answers.Extension.{Extension}
use Rattle.interim_orders.specs.declared.answers.Extension.TheVariants as extension
use Rattle.interim_orders.specs.declared.answers.Lapse.{Lapse}
use Rattle.interim_orders.specs.declared.answers.Lapse.TheVariants as answer
use Rattle.interim_orders.specs.declared.states.FilingState.{FilingState}
use Rattle.interim_orders.specs.declared.states.FilingState.TheVariants.{NotPending, Pending}
use Rattle.registrar.proofs.Added.{all_here}
use Rattle.registrar.proofs.ContainedParts.{all_in_range, all_mapped, all_parts, each_mapped}
use Rattle.auction_classes.specs.LowestBid.{remaining}
use Rattle.auction_classes.specs.SaleClaims.{claimed_in}
use Rattle.auction_classes.specs.Sales.{Sale, sale_at}
use Rattle.folio_line.specs.FolioRights.{live_by_act}
use Rattle.folio_line.specs.declared.folio_rights.CreatedRight.{CreatedRight}
use Rattle.sale_rules.specs.SaleEntries.{award_brought, award_entries, left_of, left_with, unless_refused}
use Rattle.sale_rules.specs.SaleGrounds.{lowest, refusal_of_award, refusal_of_call, refusal_of_distribution, refusal_of_registration, refusal_of_seizure}
use Rattle.registrar.specs.Brings.{brings, brought_by_cure, brought_by_filing, brought_by_item, brought_in_state, nothing_pending}
use Rattle.registrar.specs.Enters.{enters}
use Rattle.registrar.specs.NamesUpTo.{AllNameUpTo, NamesUpTo}

-- an entry names receipts up to n, at its key
abbrev pub Names : ℕ → Entry → Type 0
Names n e = NamesUpTo n e.what e.key

-- what names receipts up to m names receipts up to each later number, too
later_at : (m n : ℕ) (w : What) (k : Key) → m ≤ n → NamesUpTo m w k → NamesUpTo n w k
later_at m n (what.Created made) (Right folio right) up names = omega arith
later_at m n (what.Created made) (Title folio) up names = tt
later_at m n (what.Created made) (Case folio) up names = tt
later_at m n (what.Notice filing) k up names = omega arith
later_at m n other k up names = tt

pub names_later : (m n : ℕ) (es : List Entry) → m ≤ n → AllByRecursion (Names m) es → AllByRecursion (Names n) es
names_later m n es up all = all_weaker (Names m) (Names n) es (λ e names. later_at m n e.what e.key up names) all

-- where what stands names receipts up to n, and the new entries do, both together do
pub name_together : (n : ℕ) (stands : Key → List Entry) (es : List Entry) → AllNameUpTo n stands → AllByRecursion (Names n) es → AllNameUpTo n (with_entries stands es)
name_together n stands es names all k =
    All-append (λ e. NamesUpTo n e.what k) (stands k) (at es k) (names k)
    (All-from_recursion (λ e. NamesUpTo n e.what k) (at es k) (all_here (λ j e. NamesUpTo n e.what j) es k all))

-- ---- orders, ends, official notices and places

waiting_named : (n : ℕ) (journal : List Receipt) (m i until : ℕ) → AllByRecursion (Names n) (waiting_brought journal m i until)
waiting_named n journal m i until = each_mapped (Names n) (λ k. entry_by journal i k (what.Pending m until)) (keys_in_order journal m) (λ k. tt)

order_named : (n : ℕ) (journal : List Receipt) (m : ℕ) → AllByRecursion (Names n) (order_brought journal m)
order_named n journal m = waiting_named n journal m m (deadline_of journal m)

end_named : (n : ℕ) (journal : List Receipt) (m i : ℕ) → AllByRecursion (Names n) (end_brought journal m i)
end_named n journal m i = each_mapped (Names n) (λ k. entry_by journal i k (what.Settled m)) (keys_in_order journal m) (λ k. tt)

-- the numbers before filing m
before_up_to : (n m : ℕ) → m ≤ n → AllByRecursion (λ k. k ≤ n) (receipts_before m)
before_up_to n m up = all_weaker (λ k. k < 1 + n) (λ k. k ≤ n) (receipts_before m) (λ k less. omega arith) (all_in_range 1 (m - 1) (1 + n) (omega arith))

pub waiting_up_to : (n m : ℕ) (es : List Entry) → m ≤ n → AllByRecursion (λ k. k ≤ n) (waiting_before m es)
waiting_up_to n m es up = all_filtered (λ k. k ≤ n) (λ k. is_pending k es) (receipts_before m) (before_up_to n m up)

notices_named_at : (n : ℕ) (journal : List Receipt) (m i : ℕ) (stands : Key → List Entry) (k : Key) → m ≤ n → AllByRecursion (Names n) (notices_at journal m i stands k)
notices_named_at n journal m i stands k up =
    all_mapped (Names n) (λ x. entry_by journal i k (what.Notice x)) (waiting_unnoticed m (stands k))
    (all_filtered (λ x. x ≤ n) (λ x. is_none (notice x (stands k))) (waiting_before m (stands k)) (waiting_up_to n m (stands k) up))

pub notices_named : (n : ℕ) (journal : List Receipt) (m i : ℕ) (stands : Key → List Entry) → m ≤ n → AllByRecursion (Names n) (notices_brought journal m i stands)
notices_named n journal m i stands up = all_parts (Names n) (notices_at journal m i stands) (keys_in_order journal m) (λ k. notices_named_at n journal m i stands k up)

place_named : (n : ℕ) (journal : List Receipt) (m i : ℕ) (stands : Key → List Entry) (k : Key) → AllByRecursion (Names n) (placed_at journal m i stands k)
place_named n journal m i stands (Title folio) =
    elim (creates_there journal folio m && is_none (notice m (stands (Title folio)))) as (λ b. AllByRecursion (Names n) (cond b (entry_by journal i (Title folio) (what.Placed m (create_in_division false folio (acts_of journal m)) (create_in_division true folio (acts_of journal m))) ∷ []) [])) [
      | true ↦ (tt, tt)
      | false ↦ tt
    ]
place_named n journal m i stands (Right folio right) = tt
place_named n journal m i stands (Case folio) = tt

pub places_named : (n : ℕ) (journal : List Receipt) (m i : ℕ) (stands : Key → List Entry) → AllByRecursion (Names n) (places_brought journal m i stands)
places_named n journal m i stands = all_parts (Names n) (placed_at journal m i stands) (keys_in_order journal m) (place_named n journal m i stands)

-- ---- the contents of the acts

content_named : (n : ℕ) (journal : List Receipt) (m : ℕ) (acts : List Act) (docs : List Doc) (i : ℕ) (stands : Key → List Entry) (a : ℕ) (act : Act) → m ≤ n → AllByRecursion (Names n) (content journal m acts docs i stands a act)
content_named n journal m acts docs i stands a (Open folio inventory owners) up = (tt, tt)
content_named n journal m acts docs i stands a (Transfer folio owners) up = (tt, tt)
content_named n journal m acts docs i stands a (Create folio spec reserve) up = (up, tt)
content_named n journal m acts docs i stands a (NoticeFor folio spec) up = (up, tt)
content_named n journal m acts docs i stands a (Convert folio right) up = (tt, tt)
content_named n journal m acts docs i stands a (Assign folio right holder) up = (tt, tt)
content_named n journal m acts docs i stands a (Cancel folio right) up = (tt, tt)
content_named n journal m acts docs i stands a (Exchange folio recede rise) up = (tt, (tt, tt))
content_named n journal m acts docs i stands a (Exercise folio behind_right spec) up = (up, (tt, tt))

contents_named : (n : ℕ) (journal : List Receipt) (m i : ℕ) (stands : Key → List Entry) (f : Filing) → m ≤ n → AllByRecursion (Names n) (contents_brought journal m i stands f)
contents_named n journal m i stands f up =
    all_parts (Names n) (λ (numbered : ℕ × Act). content journal m f.acts (documents journal m f i) i stands numbered.0 numbered.1) (enumerate_from 1 f.acts)
    (λ numbered. content_named n journal m f.acts (documents journal m f i) i stands numbered.0 numbered.1 up)

entered_named : (n : ℕ) (journal : List Receipt) (m i : ℕ) (stands : Key → List Entry) → m ≤ n → AllByRecursion (Names n) (entered journal m i stands)
entered_named n journal m i stands up =
    elim (filing_at journal m) as (λ o. AllByRecursion (Names n) (option_map_or (λ f. places_brought journal m i stands ++ contents_brought journal m i (with_places journal m i stands) f) o [])) [
      | Some f ↦ all_both (Names n) (places_brought journal m i stands) (contents_brought journal m i (with_places journal m i stands) f)
          (places_named n journal m i stands) (contents_named n journal m i (with_places journal m i stands) f up)
      | None ↦ tt
    ]

enters_named : (n : ℕ) (journal : List Receipt) (m i : ℕ) (stands : Key → List Entry) → m ≤ n → AllByRecursion (Names n) (enters journal m i stands)
enters_named n journal m i stands up =
    all_both (Names n) (notices_brought journal m i stands) (entered journal m i (with_notices journal m i stands))
    (notices_named n journal m i stands up) (entered_named n journal m i (with_notices journal m i stands) up)

-- ---- an item

filing_named : (journal : List Receipt) (i : ℕ) (stands : Key → List Entry) (judgement : Judgement) → AllByRecursion (Names i) (brought_by_filing journal i stands judgement).entries
filing_named journal i stands Enter = enters_named i journal i i stands (omega arith)
filing_named journal i stands (Reject section) = tt
filing_named journal i stands (Interim defects) = order_named i journal i

cure_named : (journal : List Receipt) (m i : ℕ) (stands : Key → List Entry) (judgement : Judgement) → m < i → AllByRecursion (Names i) (brought_by_cure journal m i stands judgement).entries
cure_named journal m i stands Enter earlier =
    all_both (Names i) (enters journal m i stands) (end_brought journal m i) (enters_named i journal m i stands (omega arith)) (end_named i journal m i)
cure_named journal m i stands (Reject section) earlier = end_named i journal m i
cure_named journal m i stands (Interim defects) earlier = tt

-- what a cure of an earlier filing brings names receipts up to the cure, in whatever state it finds the filing
state_named : (journal : List Receipt) (m i : ℕ) (stands : Key → List Entry) (state : FilingState) → m < i → AllByRecursion (Names i) (brought_in_state journal m i stands state).entries
state_named journal m i stands (Pending until) earlier =
    elim (judged journal m i stands) as (λ o. AllByRecursion (Names i) (option_map_or (brought_by_cure journal m i stands) o nothing_pending).entries) [
      | Some judgement ↦ cure_named journal m i stands judgement earlier
      | None ↦ tt
    ]
state_named journal m i stands NotPending earlier = tt

found_named : (journal : List Receipt) (m i : ℕ) (stands : Key → List Entry) → AllByRecursion (Names i) (brought_in_state journal m i stands (state_of journal m i stands)).entries
found_named journal m i stands =
    elim (nat_lt m i) as (λ b. nat_lt m i ≡ b → AllByRecursion (Names i) (brought_in_state journal m i stands (state_by (cond b (waits_until journal m stands) None))).entries) [
      | true ↦ λ earlier. state_named journal m i stands (state_by (waits_until journal m stands)) (grind (arith, nat_tests, earlier))
      | false ↦ λ later. tt
    ] refl

ended_named : (journal : List Receipt) (m i : ℕ) (lapse : Lapse) → AllByRecursion (Names i) (brought_by_lapse (end_brought journal m i) lapse)
ended_named journal m i answer.Rejected = end_named i journal m i
ended_named journal m i (answer.TooEarly until) = tt
ended_named journal m i answer.NotPending = tt

lapse_named : (journal : List Receipt) (i : ℕ) (stands : Key → List Entry) → AllByRecursion (Names i) (lapse_brought journal i stands)
lapse_named journal i stands =
    elim (lapse_at journal i) as (λ o. AllByRecursion (Names i) (option_map_or (λ m. brought_by_lapse (end_brought journal m i) (lapsed journal i stands)) o [])) [
      | Some m ↦ ended_named journal m i (lapsed journal i stands)
      | None ↦ tt
    ]

extension_named : (journal : List Receipt) (m i : ℕ) (said : Extension) → AllByRecursion (Names i) (brought_by_extension journal m i said)
extension_named journal m i (extension.Extended until) = waiting_named i journal m i until
extension_named journal m i (extension.TooLate until) = tt
extension_named journal m i (extension.NotLater until) = tt
extension_named journal m i extension.NotPending = tt

-- ---- forced sales

unless_named : {R : Type 0} (n : ℕ) (refused : Option R) (es : List Entry) → AllByRecursion (Names n) es → AllByRecursion (Names n) (unless_refused refused es)
unless_named n None es all = all
unless_named n (Some r) es all = tt

-- what is left of a right names no receipt
left_named : (n cents : ℕ) (k : Key) → NamesUpTo n (left_with cents) k
left_named n cents k = elim (eqb cents 0) as (λ b. NamesUpTo n (cond b what.Expired (what.Remains cents)) k) [
  | true ↦ tt
  | false ↦ tt
]

award_named : (n buyer bid : ℕ) (s : Sale) → AllByRecursion (Names n) (award_brought s buyer bid)
award_named n buyer bid s =
    unless_named n (refusal_of_award s bid) _
    (elim (lowest s) as (λ o. AllByRecursion (Names n) (option_map_or (award_entries s buyer bid) o [])) [
      | None ↦ tt
      | Some least ↦ (
        tt,
        (
          tt,
          each_mapped (Names n) (λ (x : CreatedRight). left_of s least.cover x.id) (live_by_act s.at s.folio)
              (λ x. left_named n (remaining (claimed_in s) least.cover x.id) (Right s.folio x.id)),
        ),
      )
    ])

item_named : (journal : List Receipt) (i : ℕ) (stands : Key → List Entry) (w : Item) → AllByRecursion (Names i) (brought_by_item journal i stands w).entries
item_named journal i stands (item.Filing f) = filing_named journal i stands (judged_filing journal i f i stands)
item_named journal i stands (item.Cure m docs) = found_named journal m i stands
item_named journal i stands (item.Lapse m) = lapse_named journal i stands
item_named journal i stands (item.Extend m days) = extension_named journal m i (extended journal m days i stands)
item_named journal i stands (item.Seize folio basis served) = unless_named i (refusal_of_seizure (sale_at journal stands folio i) basis) _ (tt, tt)
item_named journal i stands (item.Register folio registered) = unless_named i (refusal_of_registration (sale_at journal stands folio i) registered) _ (tt, tt)
item_named journal i stands (item.OpenBids folio costs) = unless_named i (refusal_of_call (sale_at journal stands folio i)) _ (tt, tt)
item_named journal i stands (item.Award folio buyer bid) = award_named i buyer bid (sale_at journal stands folio i)
item_named journal i stands (item.Distribute folio) = unless_named i (refusal_of_distribution (sale_at journal stands folio i)) _ (tt, tt)

pub brings_named : (journal : List Receipt) (i : ℕ) (stands : Key → List Entry) → AllByRecursion (Names i) (brings journal i stands).entries
brings_named journal i stands =
    elim (receipt_at journal i) as (λ o. AllByRecursion (Names i) (option_map_or (λ r. brought_by_item journal i stands r.item) o nothing_pending).entries) [
      | Some r ↦ item_named journal i stands r.item
      | None ↦ tt
    ]
