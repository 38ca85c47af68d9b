-- An item that is the next of a folio finds settled what was before it at its keys there.
use Rattle.std.proofs.Common.{◌≡◌, ⊎_elim, ℕ, ◌-◌, ◌≤◌, Bool, true, List, filter, Some, Contains, sym, ◌∙◌, arith}
use Rattle.std.specs.List.{range_with_len}
use Rattle.std.proofs.lemmas.Bool.{cases_lt, false≢true}
use Rattle.gb_base.proofs.Members.{of_range}
use Rattle.gb_base.specs.Keys.{folio_of_key}
use Rattle.gb_base.specs.declared.keys.Key.{Key}
use Rattle.act_model.specs.declared.receipts.Receipt.{Receipt}
use Rattle.conflict_queue.specs.Dockets.{has_key, previous}
use Rattle.conflict_queue.specs.ItemKeys.{keys_of_item}
use Rattle.folio_sections.proofs.FilteredLists.{of_filter}
use Rattle.desk_pool.proofs.CutLists.{last_in}
use Rattle.desk_pool.proofs.Turns.{key_untouched, next_found, turn_comes}
use Rattle.desk_pool.specs.FolioQueues.{is_next, last_taken, queue_of}

pub settled_before : (journal : List Receipt) (folio taken i p : ℕ) (k : Key) → is_next (queue_of journal folio) taken i ≡ true → folio_of_key k ≡ folio
    → Contains (keys_of_item journal i) k → previous journal i k ≡ Some p → p ≤ last_taken (queue_of journal folio) taken
settled_before journal folio taken i p k is own there last =
    let comes = turn_comes journal folio taken i (next_found (queue_of journal folio) taken i is) in
    let touches : ℕ → Bool = λ n. has_key k (keys_of_item journal n) in
    let passed = of_filter touches (range_with_len 1 (i - 1)) p (last_in p (filter touches (range_with_len 1 (i - 1))) last) in
    let range = of_range 1 (i - 1) p passed.0 in
    let low = comes.low in
    ⊎_elim
    (λ later. absurd (false≢true (sym (key_untouched journal folio p k own (comes.none p later (omega (arith, range, low)))) ∙ passed.1)))
    (λ no. no)
    (cases_lt (last_taken (queue_of journal folio) taken) p)
