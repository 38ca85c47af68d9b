-- All that the entry of filing m by item i brings (GBO §§ 16(2), 18(2), 45).
-- Why so: docs/DECISIONS.md, "Notices stand in the crate that brings them".
use Rattle.std.specs.Prelude.{ℕ, List, ◌++◌}
use Rattle.gb_base.specs.declared.keys.Key.{Key}
use Rattle.act_model.specs.declared.receipts.Receipt.{Receipt}
use Rattle.folio_sections.specs.declared.entries.Entry.{Entry}
use Rattle.interim_orders.specs.Notices.{notices_brought, with_notices}
use Rattle.entry_rules.specs.Entering.{entered}

-- all that the entry of filing m brings
abbrev pub enters : List Receipt → ℕ → ℕ → (Key → List Entry) → List Entry
enters journal m i at = notices_brought journal m i at ++ entered journal m i (with_notices journal m i at)
