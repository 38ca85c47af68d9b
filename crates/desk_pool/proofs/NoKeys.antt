-- The step of an item that touches no key asks nothing of parts that hold none, and leaves them so.
use Rattle.std.proofs.Common.{◌≡◌, ℕ, ◌-◌, ◌<◌, List, [], ◌∷◌, Contains, IsTrue, length, refl, sym, ap, subst, ◌∙◌, arith}
use Rattle.std.proofs.lemmas.Bool.{false≢true, or_left}
use Rattle.gb_base.specs.Keys.{same_key}
use Rattle.gb_base.specs.declared.keys.Key.{Key}
use Rattle.act_model.proofs.KeyOrder.{itself}
use Rattle.act_model.specs.Receiving.{IsJournal}
use Rattle.act_model.specs.declared.receipts.Receipt.{Receipt}
use Rattle.conflict_queue.specs.ItemKeys.{keys_of_item}
use Rattle.folio_sections.specs.Entries.{at}
use Rattle.folio_sections.specs.Held.{entries_at, is_held, room_at}
use Rattle.folio_sections.specs.PartState.{PartState}
use Rattle.kept_registers.specs.Kept.{Kept}
use Rattle.registrar.proofs.Registering.{left_by}
use Rattle.registrar.specs.HasSettled.{settled_first}
use Rattle.desk_pool.proofs.Settling.{CanStep}

pub no_key : (keys : List Key) (k : Key) → keys ≡ [] → Contains keys k → ⊥
no_key keys k none there = let within : there.0 < 0 = subst (λ ks. there.0 < length ks) none there.1 in absurd (omega (arith, within))

pub not_held : (parts : List PartState) (k : Key) → parts ≡ [] → IsTrue (is_held parts k) → ⊥
not_held parts k none held = false≢true (ap (λ ps. is_held ps k) (sym none) ∙ held)

pub can_step_nowhere : (journal : List Receipt) (i : ℕ) (parts : List PartState) → IsJournal journal → Kept journal (λ k. []) → keys_of_item journal i ≡ [] → parts ≡ []
    → CanStep journal i (is_held parts) (entries_at parts) (room_at parts)
can_step_nowhere journal i parts numbered empty none nothing =
    let left = left_by journal (i - 1) numbered empty in
    record {
      wide = λ k own. absurd (no_key (keys_of_item journal i) k none own);
      kept = record {
        register = at (settled_first journal (i - 1)).entries;
        stands = λ k held. absurd (not_held parts k nothing held);
        kept = left.settled.kept;
        awards = left.settled.awards;
      };
      earlier = λ k own. absurd (no_key (keys_of_item journal i) k none own);
    }

-- parts that hold no key are an empty list
none_hold : (after : List PartState) → is_held after ≡ is_held [] → after ≡ []
none_hold [] same = refl
none_hold (p ∷ ps) same = absurd (false≢true (sym (ap (λ holds. holds p.key) same) ∙ or_left (same_key p.key p.key) (is_held ps p.key) (itself p.key)))

pub still_nothing : (parts after : List PartState) → parts ≡ [] → is_held after ≡ is_held parts → after ≡ []
still_nothing parts after none held = none_hold after (held ∙ ap is_held none)
