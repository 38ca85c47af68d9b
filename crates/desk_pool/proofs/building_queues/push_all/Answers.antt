-- The item stands at the end of the queue of each folio of the keys so far.
use Rattle.std.proofs.Common.{◌≡◌, ◌∙◌, ◌==◌, ℕ, List, true, cond, sym, ap, subst, arith}
use Rattle.desk_pool.specs.inner.QueuesBuilt.{is_last, items_at, with_item, with_item_at}
use Rattle.desk_pool.proofs.BuiltQueues.{ends_with, moved, next_key, same_number, unmoved}
use Rattle.desk_pool.proofs.building_queues.push_all.Goals as goal
use Rattle.desk_pool.proofs.building_queues.push_all.Goals.{then-get-last+in_ok-push, else-get-last}

pub loop-key-preserved : goal.loop-key-preserved
loop-key-preserved c =
    let key = c.key-item.result in
    let folio = c.folio-folio.result in
    let item = c.args.item in
    let old : ℕ → List ℕ = items_at c.loop-key.items in
    let whole : ℕ → List ℕ = λ f. with_item_at c.args.keys.now f item (items_at c.args.items.now f) in
    elim c.if-get-last.branch [
      | then-get-last+in_ok-push w ↦ record {
        pushed = λ f.
            next_key c.args.keys.now c.loop-key.key-index f item key (old f) (items_at c.if-get-last.items f) (whole f) c.loop-key-test.true c.key-item.is
            (ap (λ m. items_at m f) w.items-is ∙ w.in_ok-push.ensures f ∙ moved old folio f item ∙ ap (λ g. cond (g == f) (with_item item (old f)) (old f)) c.folio-folio.ensures)
            (c.loop-key.invariant.pushed f);
        ends = λ low.
            (λ j. is_last item (items_at (w.items-is j) ((w.last-is ∙ w.get-last.ensures.value) j)))
            ∙ ap (is_last item) (w.in_ok-push.ensures folio ∙ ap (λ b. cond b (with_item item (old folio)) (old folio)) (same_number folio)) ∙ ends_with item (old folio);
      }
      | else-get-last w ↦
          let same : c.loop-key.last ≡ folio = sym w.if-get-last.false ∙ c.get.ensures.value in
          let ends : is_last item (old c.loop-key.last) ≡ true = c.loop-key.invariant.ends (omega (arith, same, c.get.ensures.positive)) in
          record {
            pushed = λ f.
                next_key c.args.keys.now c.loop-key.key-index f item key (old f) (items_at c.if-get-last.items f) (whole f) c.loop-key-test.true c.key-item.is
                (ap (λ m. items_at m f) w.items-is ∙ unmoved old folio f item (subst (λ n. is_last item (old n) ≡ true) same ends)
                ∙ ap (λ g. cond (g == f) (with_item item (old f)) (old f)) c.folio-folio.ensures)
                (c.loop-key.invariant.pushed f);
            ends = λ low. (λ j. is_last item (items_at (w.items-is j) (w.last-is j))) ∙ ends;
          }
    ]
