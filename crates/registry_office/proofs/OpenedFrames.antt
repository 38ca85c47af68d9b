-- Which bytes are written of a file that an opening found.
use Rattle.std.proofs.Common.{◌≡◌, ℕ, ◌+◌, ◌-◌, Bool, List, sym, subst, arith}
use Rattle.gb_outside.specs.Images.{Torn}
use Rattle.act_model.specs.declared.receipts.Receipt.{Receipt}
use Rattle.journal_disk.specs.Layout.{the_heading, first_gate, IsUnmade, made_from}
use Rattle.journal_disk.specs.Opening.{MakesUnmade}
use Rattle.journal_disk.proofs.Torn.{torn_within, torn_then}
use Rattle.receipt_journal.specs.Standing.{gate_after}
use Rattle.intake.specs.Grown.{IsFront, WritesFrames}
use Rattle.intake.proofs.WrittenFrames.{gate_later, frames_none}
use Rattle.registry_office.specs.Disks.{WritesBehind}

first_bytes : (to : List Receipt) (old new : List ℕ) → Torn 0 (first_gate the_heading + 1) old new → Torn 0 (gate_after to + 1) old new
first_bytes to old new torn = torn_within 0 (first_gate the_heading + 1) 0 (gate_after to + 1) old new (omega arith) (omega arith) torn

-- a file that was opened, and the frames behind it
pub frames_after_opening : (failed : Bool) (from to : List Receipt) (file mid new : List ℕ) → ((IsUnmade file → ⊥) → mid ≡ file) → (IsUnmade file → mid ≡ made_from the_heading file)
    → Torn 0 (first_gate the_heading + 1) file mid → IsFront from to → WritesFrames from to mid new → WritesBehind failed from to file new
frames_after_opening failed from to file mid new same made torn front writes =
    let low = gate_later from to front in
    record {
      frames = λ not_unmade. subst (λ (f : List ℕ). WritesFrames from to f new) (same not_unmade) writes;
      made = λ unmade quiet. subst (λ (f : List ℕ). WritesFrames from to f new) (made unmade) writes;
      unmade = λ unmade. torn_then 0 (gate_after to + 1) file mid new (first_bytes to file mid torn)
          (torn_within (gate_after from) (gate_after to + 1 - gate_after from) 0 (gate_after to + 1) mid new (omega arith) (omega (arith, low)) writes);
    }

-- a file that could not be opened
pub frames_unopened : (failed : Bool) (from to : List Receipt) (file new : List ℕ) → ((IsUnmade file → ⊥) → new ≡ file) → MakesUnmade failed file new → Torn 0 (first_gate the_heading + 1) file new
    → WritesBehind failed from to file new
frames_unopened failed from to file new same makes torn = record {
  frames = λ not_unmade. subst (WritesFrames from to file) (sym (same not_unmade)) (frames_none from to file);
  made = λ unmade quiet. subst (WritesFrames from to (made_from the_heading file)) (sym (makes quiet unmade)) (frames_none from to (made_from the_heading file));
  unmade = λ unmade. first_bytes to file new torn;
}
