-- The keys of one act more are no more than those of all acts.
use Rattle.std.proofs.Common.{◌≡◌, ◌≤◌, ◌+◌, ◌∷◌, length, drop, sym, subst, ap, arith}
use Rattle.act_model.specs.Touches.{keys_of_act, keys_of_acts}
use Rattle.act_model.specs.inner.KeyInsertion.{with_keys}
use Rattle.act_model.proofs.KeyLemmas.{drop_next, length-with_keys, length-keys_of_acts, with_keys-append}
use Rattle.act_model.proofs.touched_keys.keys_of_acts.Goals as goal

pub insert_keys-requires : goal.insert_keys-requires
insert_keys-requires c =
    let keys = c.loop-i.keys.items in
    let acts = c.args.acts.now in
    let act = c.index-acts-i.result in
    let here = keys_of_act c.args.journal.now.receipts c.args.m (c.loop-i.i + 1) act in
    let rest = keys_of_acts c.args.journal.now.receipts c.args.m (c.loop-i.i + 1 + 1) (drop (c.loop-i.i + 1) acts) in
    let next : drop c.loop-i.i acts ≡ act ∷ drop (c.loop-i.i + 1) acts = drop_next acts c.loop-i.i act c.loop-i-test.true c.index-acts-i.is in
    let all = ap (λ xs. length (with_keys (keys_of_acts c.args.journal.now.receipts c.args.m (c.loop-i.i + 1) xs) keys)) next in
    let split = ap length (with_keys-append here rest keys) in
    let new : c.as_slice.result.now ≡ here = cc in
    subst (λ ks. length (with_keys ks keys) ≤ 18) (sym new)
    (omega (arith, length-with_keys rest (with_keys here keys), ap length c.loop-i.invariant, all, split, length-keys_of_acts c.args.journal.now.receipts c.args.m acts c.requires.acts c.requires.folios))
