-- Keys only become more, so where all fit at the end they fit before.
use Rattle.std.proofs.Common.{◌≡◌, ◌+◌, ◌∷◌, length, drop, ap, arith}
use Rattle.act_model.specs.inner.KeyInsertion.{with_key, with_keys}
use Rattle.act_model.proofs.KeyLemmas.{drop_next, length-with_keys}
use Rattle.act_model.proofs.touched_keys.insert_keys.Goals as goal

pub insert_key-requires : goal.insert_key-requires
insert_key-requires c =
    let keys = c.loop-key.keys.items in
    let more = c.args.more.now in
    let next : drop c.loop-key.key-index more ≡ c.key-item.result ∷ drop (c.loop-key.key-index + 1) more = drop_next more c.loop-key.key-index c.key-item.result c.loop-key-test.true c.key-item.is in
    let all = ap (λ ks. length (with_keys ks keys)) next in
    omega (arith, length-with_keys (drop (c.loop-key.key-index + 1) more) (with_key c.key-item.result keys), ap length c.loop-key.invariant, all)
