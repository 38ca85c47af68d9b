-- Where nothing stands at keys that are not held, a reading of parts reads all of it.
use Rattle.std.proofs.Common.{◌≡◌, ℕ, Bool, true, false, cond, List, [], IfSome, IsTrue, Option, Some, None, refl, sym, ap, ◌∙◌}
use Rattle.gb_base.specs.RightNo.{RightNo}
use Rattle.gb_base.specs.declared.keys.Key.{Key}
use Rattle.gb_base.specs.declared.keys.Key.TheVariants.{Right}
use Rattle.act_model.specs.declared.receipts.Receipt.{Receipt}
use Rattle.folio_sections.specs.Fronts.{NeverFall, below}
use Rattle.folio_sections.specs.declared.entries.Entry.{Entry}
use Rattle.kept_registers.specs.Kept.{Kept}
use Rattle.folio_line.specs.FolioReading.{read_at, where_held}

-- nothing stands at a key that is not held
abbrev pub NotHeld : (Key → Bool) → (Key → List Entry) → Type 0
NotHeld held at = (k : Key) → held k ≡ false → at k ≡ []

held_is_all : (holds : Key → Bool) (at : Key → List Entry) → NotHeld holds at → (k : Key) → where_held holds at k ≡ at k
held_is_all holds at none k =
    elim (holds k) as (λ b. holds k ≡ b → cond b (at k) [] ≡ at k) [ true ↦ λ _. refl | false ↦ λ apart. sym (none k apart) ] refl

pub reads_all : (holds : Key → Bool) (at : Key → List Entry) (before : Option ℕ) → NotHeld holds at → read_at before (where_held holds at) ≡ read_at before at
reads_all holds at before none = ap (read_at before) (λ i k. held_is_all holds at none k i)

-- a kept register can be read
pub kept_can_be_read : (journal : List Receipt) (holds : Key → Bool) (at : Key → List Entry) (before : Option ℕ) (folio : ℕ) → Kept journal at
    → IfSome before (λ _. (id : RightNo) → IsTrue (holds (Right folio id)) → NeverFall (at (Right folio id)))
kept_can_be_read journal holds at None folio kept = tt
kept_can_be_read journal holds at (Some n) folio kept = λ id _. kept.receipts_rise.never_fall (Right folio id)

-- what a reading reads of the entries at a key that is held is what it reads at that key
pub read_where_held : (holds : Key → Bool) (at : Key → List Entry) (k j : Key) (entries : List Entry) (before : Option ℕ)
    → holds k ≡ true → entries ≡ at k → read_at before (λ _. entries) j ≡ read_at before (where_held holds at) k
read_where_held holds at k j entries before held is =
    let there : entries ≡ where_held holds at k = is ∙ sym (ap (λ b. cond b (at k) []) held) in
    elim before as (λ o. read_at o (λ _. entries) j ≡ read_at o (where_held holds at) k) [ None ↦ there | Some n ↦ ap (below n) there ]
