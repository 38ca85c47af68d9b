-- In the register of each journal live rights stand in the order of their filings and groups.
use Rattle.std.proofs.Common.{◌≡◌, ℕ, true, false, cond, List, [], Some, None, is_some, ap}
use Rattle.std.proofs.lemmas.Bool.{false≢true}
use Rattle.gb_base.specs.RightNo.{RightNo}
use Rattle.gb_base.specs.declared.keys.Key.TheVariants.{Right}
use Rattle.act_model.specs.Receiving.{IsJournal}
use Rattle.act_model.specs.declared.receipts.Receipt.{Receipt}
use Rattle.folio_sections.specs.Entries.{at}
use Rattle.kept_registers.specs.Kept.{Kept}
use Rattle.folio_sections.specs.Places.{places}
use Rattle.kept_registers.specs.Ranks.{is_ahead, is_filed_ahead, ranked}
use Rattle.folio_sections.specs.Rights.{created, is_live, live_right}
use Rattle.folio_sections.specs.declared.entries.Created.{Created}
use Rattle.folio_sections.specs.declared.entries.Entry.{Entry}
use Rattle.kept_registers.proofs.KeptOrder.{kept_is_order}
use Rattle.registrar.proofs.Registering.{registrar_kept}
use Rattle.registrar.specs.Settling.{registrar}

-- a live right is the one that was created
live_as_created : (es : List Entry) (made : Created) → live_right es ≡ Some made → created es ≡ Some made
live_as_created es made =
    elim (is_live es) as (λ b. cond b (created es) None ≡ Some made → created es ≡ Some made) [
      | true ↦ λ is. is
      | false ↦ λ is. absurd (false≢true (ap is_some is))
    ]

pub rank_order : (journal : List Receipt) → Kept journal (λ k. []) → (folio : ℕ) (x y : RightNo) (a b : Created) → IsJournal journal
    → live_right (at (registrar journal).entries (Right folio x)) ≡ Some a → live_right (at (registrar journal).entries (Right folio y)) ≡ Some b
    → is_ahead (places journal (at (registrar journal).entries) folio) (ranked x a) (ranked y b) ≡ is_filed_ahead (ranked x a) (ranked y b)
rank_order journal empty folio x y a b stands first second =
    let register = at (registrar journal).entries in
    kept_is_order journal register folio x y a b stands (registrar_kept journal stands empty)
    (live_as_created (register (Right folio x)) a first) (live_as_created (register (Right folio y)) b second)
