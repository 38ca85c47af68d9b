use Rattle.std.proofs.Common.{◌≤◌, length, ◌∙◌, sym, subst}
use Rattle.std.specs.List.{range_with_len}
use Rattle.std.proofs.lemmas.List.{length-map}
use Rattle.std.proofs.lemmas.List.FromFn.{length-range_with_len}
use Rattle.conflict_queue.specs.Dockets.{keys_touched}
use Rattle.conflict_queue.specs.ItemKeys.{keys_of_item}
use Rattle.desk_pool.proofs.TouchedKeys.{few_in_order, touched_of_order}
use Rattle.desk_pool.specs.inner.TouchedFolios.{AreOfFewFolios, AreTouched}
use Rattle.desk_pool.proofs.touched_folios.folios_touched.Goals as goal

pub keys-requires : goal.keys-requires
keys-requires c =
    let journal = c.args.journal.now.receipts in
    subst (λ d. c.args.item ≤ length d) (sym c.requires.docket)
    (subst (λ n. c.args.item ≤ n) (sym (length-map (range_with_len 1 (length journal)) (keys_touched journal) ∙ length-range_with_len 1 (length journal))) c.requires.received)

pub folios_of-requires : goal.folios_of-requires
folios_of-requires c =
    let journal = c.args.journal.now.receipts in
    record {
      few = subst AreOfFewFolios (sym (c.keys.ensures.touched journal c.requires.docket))
          (few_in_order (keys_of_item journal c.args.item) (λ j k l. c.items_touch_few_folios.ensures.few journal c.args.item j k l c.is_a_journal.ensures.journal));
    }

pub returns : goal.returns
returns c =
    let journal = c.args.journal.now.receipts in
    touched_of_order (keys_of_item journal c.args.item) c.folios_of.result
    (subst (λ keys. AreTouched keys c.folios_of.result) (c.keys.ensures.touched journal c.requires.docket) c.folios_of.ensures)
