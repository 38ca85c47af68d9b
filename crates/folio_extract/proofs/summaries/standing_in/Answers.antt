-- What stands in a folio: its live rights, which are few.
use Rattle.std.proofs.Common.{◌≤◌, ◌∙◌, ap, arith, length, subst, sum_by, sym}
use Rattle.folio_sections.specs.Held.{entries_at}
use Rattle.folio_line.specs.FolioRights.{is_live_with}
use Rattle.folio_line.specs.FolioSlots.{capital_at}
use Rattle.folio_line.proofs.PlacedFew.{placed_few}
use Rattle.folio_line.proofs.RightsInOrder.{kept_in_order}
use Rattle.folio_extract.proofs.summaries.standing_in.Goals as goal

-- the rights that are read are few
few : (c : goal.After-drop-line-inside-6) → length c.live-live.result.now ≤ 256
few c =
    let at = entries_at c.args.register.now.parts in
    let journal = c.args.journal.now.receipts in
    subst (λ n. n ≤ 256) (sym (ap length (c.live-live.ensures ∙ c.in_ok-line.ensures.live)))
    (placed_few is_live_with journal at c.args.folio (kept_in_order journal at c.requires) c.is_a_journal.ensures.journal)

pub returns-clause-capital : goal.returns-clause-capital
returns-clause-capital c =
    c.capital_of_all-capital.ensures.value
    ∙ ap (sum_by (λ x. capital_at (entries_at c.args.register.now.parts) c.args.folio x.id)) (c.live-live.ensures ∙ c.in_ok-line.ensures.live)

pub returns-clause-few : goal.returns-clause-few
returns-clause-few c = few c

pub returns-clause-bound : goal.returns-clause-bound
returns-clause-bound c = let rights = few c in omega (arith, rights, c.capital_of_all-capital.ensures.bound)
