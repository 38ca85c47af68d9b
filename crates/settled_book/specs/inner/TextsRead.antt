-- The texts that routes read, of a register as its parts, verdicts and folios tell it.
use Rattle.std.specs.Prelude.{ℕ, List, Option, Some, None, option_map}
use Rattle.act_model.specs.declared.receipts.Receipt.{Receipt}
use Rattle.registry_http.specs.declared.routes.Route.{Route}
use Rattle.registry_http.specs.declared.routes.Route.TheVariants as route
use Rattle.folio_sections.specs.Held.{entries_at}
use Rattle.kept_registers.specs.Kept.{Kept}
use Rattle.registrar.specs.HasSettled.{IsRegisterOf}
use Rattle.registrar.specs.RegisterState.{RegisterState, verdict_among}
use Rattle.folio_extract.specs.Extracts.{extract}
use Rattle.folio_extract.specs.Plans.{plan_in_csv, plan_in_words, sale_distributed}
use Rattle.folio_extract.specs.RankTables.{rank_table}
use Rattle.folio_extract.specs.Reports.{report_text}
use Rattle.folio_extract.specs.VerdictLines.{verdict_line}

-- the text that a route reads of this register
abbrev pub text_read : List Receipt → RegisterState → Route → Option (List ℕ)
text_read journal register route.Post = None
text_read journal register (route.Receipt n) = option_map (verdict_line n) (verdict_among register.verdicts n)
text_read journal register (route.Folio f) = extract (entries_at register.parts) f
text_read journal register (route.Ranks f) = rank_table journal (entries_at register.parts) f
text_read journal register (route.Plan n) = option_map plan_in_words (sale_distributed journal register.verdicts (entries_at register.parts) n)
text_read journal register (route.PlanCsv n) = option_map plan_in_csv (sale_distributed journal register.verdicts (entries_at register.parts) n)
text_read journal register route.Report = Some (report_text journal register.verdicts (entries_at register.parts) register.folios)

-- The register is that of the one registrar, and has what readers of a whole register rely on.
pub record CanBeRead (journal : List Receipt) (register : RegisterState) : Type 0 where
  pub settled : IsRegisterOf journal register
  pub kept : Kept journal (entries_at register.parts)
