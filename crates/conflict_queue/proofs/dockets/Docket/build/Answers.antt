-- One item after another is put into the lists and the queues.
use Rattle.std.proofs.Common.{◌≡◌, ◌∙◌, ◌+◌, ◌-◌, ◌++◌, ◌∷◌, [], length, map, slice_get, sym, ap, subst, arith}
use Rattle.std.specs.List.{range_with_len}
use Rattle.std.proofs.lemmas.Grind.{common_steps}
use Rattle.std.proofs.lemmas.List.FromFn.{length-map-range_with_len}
use Rattle.act_model.proofs.KeyOrder.{in_key_order_sorted}
use Rattle.conflict_queue.specs.Dockets.{keys_touched}
use Rattle.conflict_queue.specs.ItemKeys.{keys_of_item}
use Rattle.conflict_queue.specs.inner.Queues.{queue_at, queue_of}
use Rattle.conflict_queue.specs.inner.Sales.{AreSales}
use Rattle.conflict_queue.proofs.GrownQueues.{pushed}
use Rattle.conflict_queue.proofs.Numbered.{next_list, numbered_at, some_is}
use Rattle.conflict_queue.proofs.dockets.Docket.build.Goals as goal

pub add_keys-requires-clause-sales : goal.add_keys-requires-clause-sales
add_keys-requires-clause-sales c =
    let number : c.unwrap-item.result ≡ c.loop-index.index + 1 = grind (arith, common_steps) in
    let behind : c.loop-index.index ≡ c.unwrap-item.result - 1 = omega arith in
    subst (λ n. AreSales c.args.journal.now.receipts n c.loop-index.sales) behind c.loop-index.invariant.sales

pub get-requires : goal.get-requires
get-requires c =
    let number : c.unwrap-item.result ≡ c.loop-index.index + 1 = grind (arith, common_steps) in
    let f = keys_touched c.args.journal.now.receipts in
    let listed = next_list f c.loop-index.index c.unwrap-item.result c.add_keys.new.keys (omega arith) (c.in_ok-add_keys.ensures.keys ∙ ap (λ ks. ks ++ f c.unwrap-item.result ∷ []) c.loop-index.invariant.keys) in
    let count = ap length listed ∙ length-map-range_with_len f 1 (c.loop-index.index + 1) in
    omega arith

pub loop-index-preserved : goal.loop-index-preserved
loop-index-preserved c =
    let journal = c.args.journal.now.receipts in
    let item = c.unwrap-item.result in
    let number : c.unwrap-item.result ≡ c.loop-index.index + 1 = grind (arith, common_steps) in
    let f = keys_touched journal in
    let listed = next_list f c.loop-index.index item c.add_keys.new.keys (omega arith) (c.in_ok-add_keys.ensures.keys ∙ ap (λ ks. ks ++ f item ∷ []) c.loop-index.invariant.keys) in
    let got = c.get.result.now in
    let first : c.loop-index.index ≡ item - 1 = omega arith in
    let last : item ≡ c.loop-index.index + 1 = number in
    let same : got ≡ f item = some_is got (f item)
    (sym c.get.ensures ∙ ap (λ d. slice_get d c.loop-index.index) listed ∙ ap (λ k. slice_get (map f (range_with_len 1 (c.loop-index.index + 1))) k) first
    ∙ numbered_at f (c.loop-index.index + 1) item (omega arith) (omega arith)) in
    let count = ap length c.loop-index.invariant.keys ∙ length-map-range_with_len f 1 c.loop-index.index in
    record {
      keys = listed;
      sales = subst (λ n. AreSales journal n c.add_keys.new.sales) number c.in_ok-add_keys.ensures.sales;
      queues = λ k. pushed c.loop-index.keys (f item) got k item (queue_at c.loop-index.queues k) (queue_at c.push_all.new.queues k) (in_key_order_sorted (keys_of_item journal item)) same (omega arith)
          (c.loop-index.invariant.queues k) (c.in_ok-push_all.ensures k)
          ∙ ap (λ d. queue_of d k) (sym c.in_ok-add_keys.ensures.keys);
    }

pub returns-clause-len : goal.returns-clause-len
returns-clause-len c =
    let all : c.loop-index.index ≡ length c.args.journal.now.receipts = omega (arith, c.loop-index-test.false, c.loop-index.auto.index-end, c.len-index-end.ensures.value) in
    ap length c.loop-index.invariant.keys ∙ length-map-range_with_len (keys_touched c.args.journal.now.receipts) 1 c.loop-index.index ∙ all
