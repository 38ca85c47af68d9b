use Rattle.std.proofs.Common.{List, Contains, None, length, refl, sym, ap, subst, ◌∙◌, arith}
use Rattle.gb_base.specs.RightNo.{RightNo}
use Rattle.gb_base.specs.declared.keys.Key.{Key}
use Rattle.folio_line.proofs.ReadWhereHeld.{reads_all}
use Rattle.folio_line.specs.FolioLine.{all_rises}
use Rattle.folio_line.specs.inner.NotHeld.{not_held}
use Rattle.folio_sections.specs.Held.{entries_at, is_held}
use Rattle.folio_sections.specs.declared.entries.Entry.{Entry}
use Rattle.folio_extract.proofs.PlansTold.{keys_distributed}
use Rattle.folio_extract.proofs.plans.claims_of.Goals as goal

pub fill-requires-clause-held : goal.fill-requires-clause-held
fill-requires-clause-held c = λ k there.
    c.requires.told.held c.args.n k (subst (λ (ks : List Key). Contains ks k) (sym (keys_distributed c.args.journal.now.receipts c.args.n c.args.folio c.requires.kept.item)) there)

pub fill-requires-clause-kept : goal.fill-requires-clause-kept
fill-requires-clause-kept c = record { register = entries_at c.args.register.now.parts; stands = λ k held. refl; kept = c.requires.told.kept }

pub fill-requires-clause-exchanges : goal.fill-requires-clause-exchanges
fill-requires-clause-exchanges c =
    let parts = c.args.register.now.parts in
    let at = entries_at parts in
    let enough = c.in_ok-exchanges.ensures.enough in
    let whole =
    ap (λ (read : Key → List Entry). length (all_rises read c.args.folio c.rights_filed-rights.result.now)) (reads_all (is_held parts) at None (not_held parts))
    ∙ ap (λ (ids : List RightNo). length (all_rises at c.args.folio ids)) c.rights_filed-rights.ensures.value in
    let room = c.in_ok-claims.ensures.exchanges in
    omega (arith, enough, whole, room)

pub returns-clause-claimed : goal.returns-clause-claimed
returns-clause-claimed c = c.fill.ensures.claimed (entries_at c.args.register.now.parts) (λ k held. refl) c.requires.told.kept

pub returns-clause-fit : goal.returns-clause-fit
returns-clause-fit c = record {
  places_four = c.fill.ensures.places_four;
  swaps_four = c.fill.ensures.swaps_four;
  places_six = c.fill.ensures.places_six;
  swaps_six = c.fill.ensures.swaps_six;
}
