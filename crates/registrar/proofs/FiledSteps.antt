-- What an item that is about a filing needs and brings on parts that stand for a kept register.
use Rattle.std.proofs.Common.{◌≡◌, ℕ, Bool, List, Some, option_map, sym, ap, subst, ◌∙◌}
use Rattle.std.specs.Option.{option_map_or}
use Rattle.gb_base.specs.declared.keys.Key.{Key}
use Rattle.act_model.specs.Receiving.{item_at, receipt_at}
use Rattle.act_model.specs.Touches.{filing_at, filing_in}
use Rattle.act_model.specs.declared.items.Filing.{Filing}
use Rattle.act_model.specs.declared.items.Item.{Item}
use Rattle.act_model.specs.declared.items.Item.TheVariants as item
use Rattle.act_model.specs.declared.receipts.Receipt.{Receipt}
use Rattle.consent_rules.specs.Judging.{judged, judged_filing}
use Rattle.consent_rules.specs.declared.judgements.Judgement.{Judgement}
use Rattle.folio_sections.specs.Adding.{AddsList, HasRoom}
use Rattle.folio_sections.specs.declared.entries.Entry.{Entry}
use Rattle.registrar.proofs.FiledItems.{IsFiled}
use Rattle.registrar.proofs.ItemRooms.{item_fits, read_of_item}
use Rattle.registrar.proofs.StandingParts.{parts_bring, parts_know}
use Rattle.registrar.specs.Brings.{Brought, brought_by_item}
use Rattle.registrar.specs.declared.verdicts.Verdict.{Verdict}
use Rattle.registrar.specs.inner.Exchanges.{KnowsItsExchanges}
use Rattle.registrar.specs.inner.Steps.{CanStep, Settles}

module _ (journal : List Receipt) (i : ℕ) (w : Item) (holds : Key → Bool) (at : Key → List Entry) (room : Key → ℕ) (step : CanStep journal i w holds at room) where
  pub step_knows : KnowsItsExchanges journal i at w
  step_knows = parts_know journal i holds at step.parts.kept.register w step.parts.kept.stands step.parts.kept.kept step.parts.held step.parts.earlier

  pub step_fits : IsFiled w → HasRoom room (brought_by_item journal i at w).entries
  step_fits filed = item_fits journal i at room w filed step.receives step.item step.wanted

  pub step_settles : (at1 : Key → List Entry) (room1 : Key → ℕ) (became : Verdict) → IsFiled w → became ≡ (brought_by_item journal i at w).verdict → AddsList at at1 room room1 (brought_by_item journal i at w).entries
      → Settles journal i w holds at at1 room room1 became
  step_settles at1 room1 became filed verdict added = record {
    verdict = λ register stands kept. verdict ∙ ap (λ (b : Brought). b.verdict) (parts_bring journal i holds at register w filed step.item stands kept step.parts.held step.parts.earlier);
    added = λ register stands kept. subst (λ (b : Brought). AddsList at at1 room room1 b.entries) (parts_bring journal i holds at register w filed step.item stands kept step.parts.held step.parts.earlier) added;
  }

-- the judgement of filing f, which is item i itself, is that of its own receipt
pub judged_so : (journal : List Receipt) (i : ℕ) (f : Filing) (at : Key → List Entry) (judgement : Judgement) → item_at journal i ≡ Some (item.Filing f) → judged journal i i at ≡ Some judgement
    → judgement ≡ judged_filing journal i f i at
judged_so journal i f at judgement is found =
    let filed : filing_at journal i ≡ Some f = read_of_item filing_in (receipt_at journal i) (item.Filing f) is in
    ap (λ o. option_map_or (λ (j : Judgement). j) o judgement) (sym found ∙ ap (option_map (λ (g : Filing). judged_filing journal i g i at)) filed)
