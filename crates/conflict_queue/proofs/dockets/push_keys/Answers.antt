-- The keys of an earlier item that touches the same keys are those of this item.
use Rattle.std.proofs.Common.{◌≡◌, ◌∙◌, ◌++◌, ◌∷◌, [], ◌-◌, length, slice_get, OnOk, ap, subst, arith}
use Rattle.std.proofs.lemmas.List.FromFn.{length-map-range_with_len}
use Rattle.conflict_queue.specs.Dockets.{keys_touched}
use Rattle.conflict_queue.proofs.Numbered.{numbered_at}
use Rattle.conflict_queue.proofs.dockets.push_keys.Goals as goal

pub share-requires : goal.share-requires
share-requires c =
    let count = ap length c.requires.so_far ∙ length-map-range_with_len (keys_touched c.args.journal.now.receipts) 1 (c.args.item - 1) in
    let earlier = c.in-Some.ensures.earlier in
    let value = c.get.ensures.value in
    let positive = c.get.ensures.positive in
    omega arith

pub returns-in-Some : goal.returns-in-Some
returns-in-Some c =
    let journal = c.args.journal.now.receipts in
    let earlier = c.in-Some.ensures.earlier in
    let positive = c.get.ensures.positive in
    let there = ap (λ k. slice_get c.args.keys.now (k - 1)) c.get.ensures.value ∙ ap (λ d. slice_get d (c.in-Some.earlier - 1)) c.requires.so_far
    ∙ numbered_at (keys_touched journal) (c.args.item - 1) c.in-Some.earlier (omega arith) (omega arith) in
    subst (λ ks. OnOk c.share.result (c.share.new.self ≡ c.args.keys.now ++ ks ∷ [])) c.in-Some.ensures.keys (c.share.ensures (keys_touched journal c.in-Some.earlier) there)
