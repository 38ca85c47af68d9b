-- The report: what becomes of each item, the extract, the rank table and the plans of each open folio, and a line at its end.
use Rattle.std.specs.Prelude.{◌≡◌, ℕ, List, ◌++◌, codes, flat_map, length}
use Rattle.std.specs.Fmt.{decimal}
use Rattle.gb_base.specs.declared.keys.Key.{Key}
use Rattle.act_model.specs.declared.receipts.Receipt.{Receipt}
use Rattle.folio_sections.specs.Entries.{at as at_key}
use Rattle.folio_sections.specs.Held.{entries_at}
use Rattle.folio_sections.specs.declared.entries.Entry.{Entry}
use Rattle.registrar.specs.OpenFolios.{open_folios}
use Rattle.registrar.specs.RegisterState.{RegisterState}
use Rattle.registrar.specs.Settling.{Settlement}
use Rattle.registrar.specs.declared.verdicts.Verdict.{Verdict}
use Rattle.folio_extract.specs.Extracts.{extract_text}
use Rattle.folio_extract.specs.Plans.{plans_of_folio}
use Rattle.folio_extract.specs.RankTables.{rank_table_text}
use Rattle.folio_extract.specs.VerdictLines.{verdict_lines}

-- the texts of these folios
abbrev pub folio_texts : List Receipt → (Key → List Entry) → List ℕ → List ℕ
folio_texts journal at folios =
    flat_map (λ folio. extract_text at folio ++ (rank_table_text journal at folio ++ plans_of_folio journal at folio)) folios

-- the line that ends the report
abbrev pub end_line : ℕ → ℕ → List ℕ
end_line receipts folios = codes "end receipts " ++ (decimal receipts ++ (codes " folios " ++ (decimal folios ++ codes "\n")))

-- the report of these verdicts, and of these folios
abbrev pub report_text : List Receipt → List (ℕ × Verdict) → (Key → List Entry) → List ℕ → List ℕ
report_text journal verdicts at folios =
    verdict_lines verdicts ++ (folio_texts journal at folios ++ end_line (length verdicts) (length folios))

-- The register tells what is settled: what stands at each key, the verdicts, and the folios that are open.
pub record Tells (register : RegisterState) (settled : Settlement) : Type 0 where
  pub entries : entries_at register.parts ≡ at_key settled.entries
  pub verdicts : register.verdicts ≡ settled.verdicts
  pub folios : register.folios ≡ open_folios settled.entries

-- the report of what is settled
abbrev pub report : List Receipt → Settlement → List ℕ
report journal settled = report_text journal settled.verdicts (at_key settled.entries) (open_folios settled.entries)
