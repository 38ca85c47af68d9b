-- A register that has settled the first items of a journal has settled them of each longer journal that begins with these items.
use Rattle.std.proofs.Common.{◌≡◌, ℕ, zero, suc, ◌+◌, ◌<◌, ◌≤◌, List, ◌++◌, length, refl, sym, ap, subst, ◌∙◌, arith}
use Rattle.std.specs.List.{AllByRecursion, range_with_len}
use Rattle.std.proofs.lemmas.List.Elements.{All-from_recursion}
use Rattle.act_model.specs.declared.receipts.Receipt.{Receipt}
use Rattle.conflict_queue.proofs.ItemKeysStay.{item_keys_stay}
use Rattle.conflict_queue.specs.ItemKeys.{keys_of_item}
use Rattle.folio_sections.proofs.FilteredLists.{flat_map_alike}
use Rattle.folio_sections.proofs.Unchanged.{all_both, all_weaker}
use Rattle.folio_sections.specs.Entries.{at}
use Rattle.folio_sections.specs.Held.{is_given}
use Rattle.folio_sections.specs.declared.entries.Entry.{Entry}
use Rattle.registrar.proofs.Added.{all_here}
use Rattle.registrar.proofs.BringsAsBefore.{brings_as_before}
use Rattle.registrar.proofs.ContainedParts.{all_in_range}
use Rattle.registrar.proofs.NamedReceipts.{Names, brings_named, names_later}
use Rattle.registrar.proofs.Registering.{settled_more}
use Rattle.registrar.specs.Brings.{brings}
use Rattle.registrar.specs.HasSettled.{HasSettled, settled_first}
use Rattle.registrar.specs.HeldKeys.{keys_of_first}
use Rattle.registrar.specs.NamesUpTo.{AllNameUpTo, NamesUpTo}
use Rattle.registrar.specs.OpenFolios.{open_folios}
use Rattle.registrar.specs.RegisterState.{RegisterState}
use Rattle.registrar.specs.Settling.{Settlement, settled_by, settled_next}

-- ---- what the first items leave

named_at : (n : ℕ) (es : List Entry) → AllByRecursion (Names n) es → AllNameUpTo n (at es)
named_at n es all k = All-from_recursion (λ e. NamesUpTo n e.what k) (at es k) (all_here (λ j e. NamesUpTo n e.what j) es k all)

entries_named : (journal : List Receipt) (n : ℕ) → AllByRecursion (Names n) (settled_first journal n).entries
entries_named journal zero = tt
entries_named journal (suc n) =
    let before = settled_first journal n in
    let brought = brings journal (n + 1) (at before.entries) in
    let next : n + 1 ≡ suc n = omega arith in
    subst (λ m. AllByRecursion (Names m) (settled_first journal m).entries) next
    (subst (λ (s : Settlement). AllByRecursion (Names (n + 1)) s.entries) (sym (settled_more journal n))
    (all_both (Names (n + 1)) before.entries brought.entries (names_later n (n + 1) before.entries (omega arith) (entries_named journal n)) (brings_named journal (n + 1) (at before.entries))))

pub settled_named : (journal : List Receipt) (n : ℕ) → AllNameUpTo n (at (settled_first journal n).entries)
settled_named journal n = named_at n (settled_first journal n).entries (entries_named journal n)

-- ---- the first items of a longer journal

first_as_before : (journal more : List Receipt) (n : ℕ) → n ≤ length journal → settled_first (journal ++ more) n ≡ settled_first journal n
first_as_before journal more zero within = refl
first_as_before journal more (suc n) within =
    let before = settled_first journal n in
    let next : n + 1 ≡ suc n = omega arith in
    let names = named_at (length journal) before.entries (names_later n (length journal) before.entries (omega arith) (entries_named journal n)) in
    subst (λ m. settled_first (journal ++ more) m ≡ settled_first journal m) next
    (settled_more (journal ++ more) n
    ∙ ap (λ (s : Settlement). settled_next (journal ++ more) s (n + 1)) (first_as_before journal more n (omega arith))
    ∙ ap (settled_by before (n + 1)) (brings_as_before journal more (n + 1) (at before.entries) (omega arith) names)
    ∙ sym (settled_more journal n))

held_as_before : (journal more : List Receipt) (n : ℕ) → n ≤ length journal → keys_of_first (journal ++ more) n ≡ keys_of_first journal n
held_as_before journal more n within =
    flat_map_alike (keys_of_item (journal ++ more)) (keys_of_item journal) (range_with_len 1 n)
    (all_weaker (λ i. i < 1 + n) (λ i. keys_of_item (journal ++ more) i ≡ keys_of_item journal i) (range_with_len 1 n)
    (λ i less. item_keys_stay journal more i (omega arith)) (all_in_range 1 n (1 + n) (omega arith)))

pub has_settled_as_before : (journal more : List Receipt) (register : RegisterState) → length register.verdicts ≤ length journal → HasSettled journal register → HasSettled (journal ++ more) register
has_settled_as_before journal more register within has =
    let n = length register.verdicts in
    let first = sym (first_as_before journal more n within) in
    record {
      entries = has.entries ∙ ap (λ (s : Settlement). at s.entries) first;
      verdicts = has.verdicts ∙ ap (λ (s : Settlement). s.verdicts) first;
      folios = has.folios ∙ ap (λ (s : Settlement). open_folios s.entries) first;
      held = λ k. has.held k ∙ ap (λ keys. is_given keys k) (sym (held_as_before journal more n within));
    }
