-- What an item brings about: entries and a verdict (GBO §§ 16 to 18).
use Rattle.std.specs.Prelude.{ℕ, List, [], ◌++◌, Option, Some, None}
use Rattle.std.specs.Option.{option_map_or}
use Rattle.gb_base.specs.declared.keys.Key.{Key}
use Rattle.act_model.specs.Receiving.{receipt_at}
use Rattle.act_model.specs.declared.items.Item.{Item}
use Rattle.act_model.specs.declared.items.Item.TheVariants as item
use Rattle.act_model.specs.declared.receipts.Receipt.{Receipt}
use Rattle.act_model.specs.declared.sales.Basis.{Basis}
use Rattle.act_model.specs.declared.sales.Registration.{Registration}
use Rattle.auction_classes.specs.Sales.{Sale, sale_at}
use Rattle.auction_classes.specs.declared.lowest_bids.Lowest.{Lowest}
use Rattle.gb_base.specs.declared.sections.Section.{Section}
use Rattle.gb_base.specs.declared.sections.Section.TheVariants as section
use Rattle.sale_rules.specs.SaleEntries.{award_brought, call_brought, distribution_brought, registration_brought, seizure_brought}
use Rattle.sale_rules.specs.SaleGrounds.{lowest, refusal_of_award, refusal_of_call, refusal_of_distribution, refusal_of_registration, refusal_of_seizure}
use Rattle.sale_rules.specs.SaleMoney.{money}
use Rattle.sale_rules.specs.declared.awards.AwardRefusal.{AwardRefusal}
use Rattle.sale_rules.specs.declared.awards.AwardRefusal.TheVariants as refusal
use Rattle.registrar.specs.Enters.{enters}
use Rattle.consent_rules.specs.Judging.{judged, judged_filing}
use Rattle.folio_sections.specs.declared.entries.Entry.{Entry}
use Rattle.consent_rules.specs.declared.judgements.Judgement.{Judgement}
use Rattle.consent_rules.specs.declared.judgements.Judgement.TheVariants.{Enter, Reject, Interim}
use Rattle.interim_orders.specs.Extensions.{extended, extension_brought}
use Rattle.interim_orders.specs.Lapses.{lapse_brought, lapsed}
use Rattle.interim_orders.specs.Orders.{deadline_of, end_brought, order_brought, state_of}
use Rattle.interim_orders.specs.declared.answers.Extension.{Extension}
use Rattle.interim_orders.specs.declared.answers.Extension.TheVariants as extension
use Rattle.interim_orders.specs.declared.answers.Lapse.{Lapse}
use Rattle.interim_orders.specs.declared.answers.Lapse.TheVariants as lapse
use Rattle.interim_orders.specs.declared.states.FilingState.{FilingState}
use Rattle.interim_orders.specs.declared.states.FilingState.TheVariants.{NotPending, Pending}
use Rattle.registrar.specs.declared.verdicts.Verdict.{Verdict}
use Rattle.registrar.specs.declared.verdicts.Verdict.TheVariants as verdict

-- entries, and what becomes of the item
pub record Brought : Type 0 where
  pub entries : List Entry
  pub verdict : Verdict

-- nothing: the item names no filing that waits, or is not there
abbrev pub nothing_pending : Brought
nothing_pending = record { entries = []; verdict = verdict.NotPending }

-- filing i, so judged, is entered, rejected or set to wait
abbrev pub brought_by_filing : List Receipt → ℕ → (Key → List Entry) → Judgement → Brought
brought_by_filing journal i at Enter = record { entries = enters journal i i at; verdict = verdict.Entered }
brought_by_filing journal i at (Reject section) = record { entries = []; verdict = verdict.Rejected section }
brought_by_filing journal i at (Interim defects) =
    record { entries = order_brought journal i; verdict = verdict.Interim (deadline_of journal i) defects }

-- Filing m, judged again with what cure i brings, is entered or rejected, and waits no longer. With defects that are left it
-- waits on.
abbrev pub brought_by_cure : List Receipt → ℕ → ℕ → (Key → List Entry) → Judgement → Brought
brought_by_cure journal m i at Enter =
    record { entries = enters journal m i at ++ end_brought journal m i; verdict = verdict.Cured }
brought_by_cure journal m i at (Reject section) =
    record { entries = end_brought journal m i; verdict = verdict.CureRejected section }
brought_by_cure journal m i at (Interim defects) = record { entries = []; verdict = verdict.StillOpen defects }

-- What cure i brings, by the state in which it finds filing m. Only a filing has keys at which it waits, so a filing that waits is
-- judged, and the case without a judgement never comes about.
abbrev pub brought_in_state : List Receipt → ℕ → ℕ → (Key → List Entry) → FilingState → Brought
brought_in_state journal m i at (Pending until) =
    option_map_or (brought_by_cure journal m i at) (judged journal m i at) nothing_pending
brought_in_state journal m i at NotPending = nothing_pending

-- what becomes of a lapse by its answer
abbrev pub verdict_on_lapse : Lapse → Verdict
verdict_on_lapse lapse.Rejected = verdict.Lapsed
verdict_on_lapse (lapse.TooEarly until) = verdict.TooEarly until
verdict_on_lapse lapse.NotPending = verdict.NotPending

-- what becomes of an extension by its answer: one that makes the deadline no later is refused (GBO § 18)
abbrev pub verdict_on_extension : Extension → Verdict
verdict_on_extension (extension.Extended until) = verdict.Extended until
verdict_on_extension (extension.TooLate until) = verdict.TooLate until
verdict_on_extension (extension.NotLater until) = verdict.Rejected section.Gbo18
verdict_on_extension extension.NotPending = verdict.NotPending

-- ---- forced sales

-- what becomes of an item that is refused under a section, or is let in
abbrev pub verdict_unless : Option Section → Verdict → Verdict
verdict_unless None let_in = let_in
verdict_unless (Some section) let_in = verdict.Rejected section

-- a seizure stands at the case, or is refused (ZVG § 20)
abbrev pub brought_by_seizure : Sale → Basis → Brought
brought_by_seizure s b = record { entries = seizure_brought s b; verdict = verdict_unless (refusal_of_seizure s b) verdict.Seized }

-- a registration stands at the case, or is refused (ZVG § 37)
abbrev pub brought_by_registration : Sale → Registration → Brought
brought_by_registration s r = record { entries = registration_brought s r; verdict = verdict_unless (refusal_of_registration s r) verdict.Registered }

-- the lowest bid as a verdict; where there is none no claim is served, for which the call is refused (ZVG § 43)
abbrev pub lowest_said : Option Lowest → Verdict
lowest_said (Some least) = verdict.Lowest least.total least.cash
lowest_said None = verdict.Rejected section.Zvg43

-- a call to bid says the lowest bid, or is refused (ZVG § 66)
abbrev pub brought_by_call : Sale → ℕ → Brought
brought_by_call s costs = record { entries = call_brought s costs; verdict = verdict_unless (refusal_of_call s) (lowest_said (lowest s)) }

-- what becomes of an award at this bid
abbrev pub verdict_on_award : ℕ → Option AwardRefusal → Verdict
verdict_on_award bid None = verdict.Awarded
verdict_on_award bid (Some (refusal.Ground section)) = verdict.Rejected section
verdict_on_award bid (Some (refusal.BidTooLow cash)) = verdict.BidTooLow bid cash

-- the land is awarded, or the award is refused (ZVG § 81)
abbrev pub brought_by_award : Sale → ℕ → ℕ → Brought
brought_by_award s buyer bid = record { entries = award_brought s buyer bid; verdict = verdict_on_award bid (refusal_of_award s bid) }

-- The proceeds are distributed, or the distribution is refused (ZVG § 105). The verdict says the money.
abbrev pub brought_by_distribution : Sale → Brought
brought_by_distribution s = record {
  entries = distribution_brought s;
  verdict = verdict_unless (refusal_of_distribution s) (verdict.Distributed (money s));
}

-- ---- an item

-- what item i brings
abbrev pub brought_by_item : List Receipt → ℕ → (Key → List Entry) → Item → Brought
brought_by_item journal i at (item.Filing f) = brought_by_filing journal i at (judged_filing journal i f i at)
brought_by_item journal i at (item.Cure m docs) = brought_in_state journal m i at (state_of journal m i at)
brought_by_item journal i at (item.Lapse m) =
    record { entries = lapse_brought journal i at; verdict = verdict_on_lapse (lapsed journal i at) }
brought_by_item journal i at (item.Extend m days) =
    record { entries = extension_brought journal m days i at; verdict = verdict_on_extension (extended journal m days i at) }
brought_by_item journal i at (item.Seize folio basis served) = brought_by_seizure (sale_at journal at folio i) basis
brought_by_item journal i at (item.Register folio registered) = brought_by_registration (sale_at journal at folio i) registered
brought_by_item journal i at (item.OpenBids folio costs) = brought_by_call (sale_at journal at folio i) costs
brought_by_item journal i at (item.Award folio buyer bid) = brought_by_award (sale_at journal at folio i) buyer bid
brought_by_item journal i at (item.Distribute folio) = brought_by_distribution (sale_at journal at folio i)

-- what receipt i brings; nothing where there is none
abbrev pub brings : List Receipt → ℕ → (Key → List Entry) → Brought
brings journal i at = option_map_or (λ r. brought_by_item journal i at r.item) (receipt_at journal i) nothing_pending
