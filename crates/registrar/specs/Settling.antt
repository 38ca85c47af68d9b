-- The one registrar, who settles the items of a journal one after the other, in the order of their receipts (GBO § 17).
use Rattle.std.specs.Prelude.{ℕ, List, [], ◌∷◌, ◌++◌, fold}
use Rattle.act_model.specs.declared.receipts.Receipt.{Receipt}
use Rattle.conflict_queue.specs.Schedules.{in_receipt_order}
use Rattle.folio_sections.specs.Entries.{at}
use Rattle.folio_sections.specs.declared.entries.Entry.{Entry}
use Rattle.registrar.specs.Brings.{Brought, brings}
use Rattle.registrar.specs.declared.verdicts.Verdict.{Verdict}

-- what settling has come to: the entries of the register, and the verdict of each item settled so far, by its number
pub record Settlement : Type 0 where
  pub entries : List Entry
  pub verdicts : List (ℕ × Verdict)

-- nothing is settled
abbrev pub nothing_settled : Settlement
nothing_settled = record { entries = []; verdicts = [] }

-- the register after what item i brings
abbrev pub settled_by : Settlement → ℕ → Brought → Settlement
settled_by before i brought =
    record { entries = before.entries ++ brought.entries; verdicts = before.verdicts ++ (i, brought.verdict) ∷ [] }

-- the register after item i
abbrev pub settled_next : List Receipt → Settlement → ℕ → Settlement
settled_next journal before i = settled_by before i (brings journal i (at before.entries))

-- the register after the items of these numbers, in this order
abbrev pub settled_in_order : List Receipt → List ℕ → Settlement
settled_in_order journal order = fold (settled_next journal) nothing_settled order

-- the register that the one registrar leaves, who takes the items in the order of their receipts
abbrev pub registrar : List Receipt → Settlement
registrar journal = settled_in_order journal (in_receipt_order journal)
