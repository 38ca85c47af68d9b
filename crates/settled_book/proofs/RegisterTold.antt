-- What the register of the one registrar tells, and the texts that are read of it.
use Rattle.std.proofs.Common.{◌≡◌, List, None, Some, ap, option_map, refl, sym, subst, ◌∙◌}
use Rattle.act_model.specs.declared.receipts.Receipt.{Receipt}
use Rattle.registry_http.specs.declared.routes.Route.{Route}
use Rattle.registry_http.specs.declared.routes.Route.TheVariants as route
use Rattle.folio_sections.specs.Entries.{at}
use Rattle.kept_registers.specs.Kept.{Kept}
use Rattle.registrar.specs.HasSettled.{IsRegisterOf, settled_first}
use Rattle.registrar.specs.OpenFolios.{open_folios}
use Rattle.registrar.specs.RegisterState.{RegisterState, verdict_among}
use Rattle.registrar.specs.Settling.{registrar}
use Rattle.folio_extract.specs.Extracts.{extract}
use Rattle.folio_extract.specs.Plans.{plan_in_csv, plan_in_words, sale_distributed}
use Rattle.folio_extract.specs.RankTables.{rank_table}
use Rattle.folio_extract.specs.Reports.{Tells, report_text}
use Rattle.folio_extract.specs.VerdictLines.{verdict_line}
use Rattle.settled_book.specs.Texts.{text_of}
use Rattle.settled_book.specs.inner.TextsRead.{CanBeRead, text_read}

pub register_tells : (journal : List Receipt) (register : RegisterState) → IsRegisterOf journal register → Tells register (registrar journal)
register_tells journal register is = record {
  entries = is.settled.entries ∙ ap (λ n. at (settled_first journal n).entries) is.whole;
  verdicts = is.settled.verdicts ∙ ap (λ n. (settled_first journal n).verdicts) is.whole;
  folios = is.settled.folios ∙ ap (λ n. open_folios (settled_first journal n).entries) is.whole;
}

pub can_be_read : (journal : List Receipt) (register : RegisterState) → IsRegisterOf journal register → Kept journal (at (registrar journal).entries) → CanBeRead journal register
can_be_read journal register is kept = record {
  settled = is;
  kept = subst (Kept journal) (sym (register_tells journal register is).entries) kept;
}

read_as_told : (journal : List Receipt) (register : RegisterState) (asked : Route) → Tells register (registrar journal) → text_read journal register asked ≡ text_of journal asked
unfolding text_of
read_as_told journal register route.Post tells = refl
read_as_told journal register (route.Receipt n) tells = λ i. option_map (verdict_line n) (verdict_among (tells.verdicts i) n)
read_as_told journal register (route.Folio f) tells = λ i. extract (tells.entries i) f
read_as_told journal register (route.Ranks f) tells = λ i. rank_table journal (tells.entries i) f
read_as_told journal register (route.Plan n) tells = λ i. option_map plan_in_words (sale_distributed journal (tells.verdicts i) (tells.entries i) n)
read_as_told journal register (route.PlanCsv n) tells = λ i. option_map plan_in_csv (sale_distributed journal (tells.verdicts i) (tells.entries i) n)
read_as_told journal register route.Report tells = λ i. Some (report_text journal (tells.verdicts i) (tells.entries i) (tells.folios i))

pub text_is_read : (journal : List Receipt) (register : RegisterState) (asked : Route) → IsRegisterOf journal register → text_read journal register asked ≡ text_of journal asked
text_is_read journal register asked is = read_as_told journal register asked (register_tells journal register is)

pub nothing_is_read : (journal : List Receipt) → None ≡ text_of journal route.Post
unfolding text_of
nothing_is_read journal = refl
