-- What the desks have settled, put together, is the register of the one registrar.
use Rattle.std.proofs.Common.{◌≡◌, ⊎_elim, ℕ, ◌-◌, true, false, ◌||◌, List, [], ◌∷◌, All, Contains, Global, Vec, length, map, Some, slice_get, refl, sym, ap, subst, ◌∙◌, arith}
use Rattle.std.proofs.lemmas.Bool.{cases_Bool, false≢true}
use Rattle.std.proofs.lemmas.List.Elements.{All-head, All-tail}
use Rattle.gb_base.proofs.Members.{of_range}
use Rattle.gb_base.specs.Keys.{same_key}
use Rattle.gb_base.specs.declared.keys.Key.{Key}
use Rattle.act_model.proofs.KeyOrder.{same_is}
use Rattle.act_model.specs.Receiving.{IsJournal}
use Rattle.act_model.specs.declared.receipts.Receipt.{Receipt}
use Rattle.conflict_queue.specs.Dockets.{has_key}
use Rattle.conflict_queue.specs.ItemKeys.{keys_of_item}
use Rattle.conflict_queue.specs.Schedules.{in_receipt_order}
use Rattle.folio_line.specs.inner.NotHeld.{not_held}
use Rattle.folio_sections.specs.Entries.{at}
use Rattle.folio_sections.specs.Held.{entries_at, is_given, is_held}
use Rattle.folio_sections.specs.PartState.{PartState}
use Rattle.kept_registers.specs.Kept.{Kept}
use Rattle.registrar.proofs.RisingNumbers.{in_of_contains}
use Rattle.registrar.specs.Brings.{brings}
use Rattle.registrar.specs.HasSettled.{settled_first}
use Rattle.registrar.specs.HeldKeys.{keys_of_first}
use Rattle.registrar.specs.Settling.{registrar}
use Rattle.registrar.specs.declared.verdicts.Verdict.{Verdict}
use Rattle.desk_pool.specs.Preparing.{HasFrame}
use Rattle.desk_pool.specs.declared.folio_parts.KeyRoom.{KeyRoom}
use Rattle.desk_pool.specs.declared.register_frames.RegisterFrame.{RegisterFrame}
use Rattle.desk_pool.specs.inner.Boards.{AreVerdicts}
use Rattle.desk_pool.specs.inner.FoliosBack.{StandsSettled}
use Rattle.desk_pool.proofs.NothingBetween.{nothing_between}
use Rattle.desk_pool.proofs.PreparedScratches.{given_at}
use Rattle.desk_pool.proofs.Settling.{verdict_said}

-- the frame that was prepared, with other parts and other verdicts
abbrev pub put_together : RegisterFrame → List PartState → Vec Verdict Global → RegisterFrame
put_together s parts verdicts = record { alloc = s.alloc; parts = parts; scratch = s.scratch; verdicts = verdicts; folios = s.folios }

pub frame_together : (journal : List Receipt) (s : RegisterFrame) (parts : List PartState) (verdicts : Vec Verdict Global) → HasFrame journal s → is_held parts ≡ is_held s.parts
    → length verdicts.items ≡ length journal → HasFrame journal (put_together s parts verdicts)
frame_together journal s parts verdicts frame held count =
    record { held = λ k. (λ i. held i k) ∙ frame.held k; scratch = frame.scratch; verdicts = count; folios = frame.folios }

-- what holds of each key of a list holds of a key that is given among them
pub given_listed : (keys : List KeyRoom) (k : Key) (P : Key → Type 0) → is_given (map (λ w. w.key) keys) k ≡ true → All (λ w. P w.key) keys → P k
given_listed [] k P given all = absurd (false≢true given)
given_listed (w ∷ ws) k P given all =
    ⊎_elim
    (λ same. subst P (same_is w.key k same) (All-head (λ v. P v.key) w ws all))
    (λ other. given_listed ws k P (sym (ap (λ b. b || is_given (map (λ v. v.key) ws) k) other) ∙ given) (All-tail (λ v. P v.key) w ws all))
    (cases_Bool (same_key w.key k))

module _ (journal : List Receipt) (numbered : IsJournal journal) (empty : Kept journal (λ k. [])) where
  -- nothing stands at a key that no item touches
  untouched_is_empty : (k : Key) → is_given (keys_of_first journal (length journal)) k ≡ false → at (registrar journal).entries k ≡ []
  untouched_is_empty k none = nothing_between journal k numbered empty 0 (length journal) (omega arith)
      (λ i low high.
      ⊎_elim
      (λ touched. absurd (false≢true (sym none ∙ given_at journal k 1 (length journal) i (omega (arith, low)) (omega (arith, high)) touched)))
      (λ lacks. lacks)
      (cases_Bool (has_key k (keys_of_item journal i))))

  pub entries_together : (parts : List PartState) → ((k : Key) → is_held parts k ≡ is_given (keys_of_first journal (length journal)) k) → StandsSettled journal parts
      → (k : Key) → entries_at parts k ≡ at (registrar journal).entries k
  entries_together parts held stands k =
      ⊎_elim
      (stands k)
      (λ none. not_held parts k none ∙ sym (untouched_is_empty k (sym (held k) ∙ none)))
      (cases_Bool (is_held parts k))

  pub verdicts_together : (verdicts : List Verdict) → length verdicts ≡ length journal → AreVerdicts journal verdicts
      → (n : ℕ) → Contains (in_receipt_order journal) n → slice_get verdicts (n - 1) ≡ Some (brings journal n (at (settled_first journal (n - 1)).entries)).verdict
  verdicts_together verdicts count said n among =
      let is = of_range 1 (length journal) n (in_of_contains (in_receipt_order journal) n among) in
      said n is.0 (omega (arith, is.1, count))
      ∙ verdict_said journal n (brings journal n (at (settled_first journal (n - 1)).entries)).verdict numbered empty is.0 (omega (arith, is.1)) refl
