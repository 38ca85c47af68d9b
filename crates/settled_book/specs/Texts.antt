-- The texts that routes read.
use Rattle.std.specs.Prelude.{ℕ, Bool, true, false, List, Option, Some, None, option_map}
use Rattle.act_model.specs.declared.receipts.Receipt.{Receipt}
use Rattle.registry_http.specs.declared.routes.Route.{Route}
use Rattle.registry_http.specs.declared.routes.Route.TheVariants as route
use Rattle.folio_sections.specs.Entries.{at}
use Rattle.registrar.specs.RegisterState.{verdict_among}
use Rattle.registrar.specs.Settling.{registrar}
use Rattle.folio_extract.specs.Extracts.{extract}
use Rattle.folio_extract.specs.Plans.{plan_in_csv, plan_in_words, sale_distributed}
use Rattle.folio_extract.specs.RankTables.{rank_table}
use Rattle.folio_extract.specs.Reports.{report}
use Rattle.folio_extract.specs.VerdictLines.{verdict_line}

-- The text that a route reads of the register that the one registrar leaves of this journal; none where there is nothing of that name.
unfoldable pub text_of : List Receipt → Route → Option (List ℕ)
text_of journal route.Post = None
text_of journal (route.Receipt n) = option_map (verdict_line n) (verdict_among (registrar journal).verdicts n)
text_of journal (route.Folio f) = extract (at (registrar journal).entries) f
text_of journal (route.Ranks f) = rank_table journal (at (registrar journal).entries) f
text_of journal (route.Plan n) = option_map plan_in_words (sale_distributed journal (registrar journal).verdicts (at (registrar journal).entries) n)
text_of journal (route.PlanCsv n) = option_map plan_in_csv (sale_distributed journal (registrar journal).verdicts (at (registrar journal).entries) n)
text_of journal route.Report = Some (report journal (registrar journal))

-- whether a route reads the register; only the route that receives does not
abbrev pub reads_register : Route → Bool
reads_register route.Post = false
reads_register other = true
