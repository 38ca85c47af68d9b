-- A key that does not stand yet makes one more.
use Rattle.std.proofs.Common.{◌≡◌, ◌≤◌, length, subst, sym, ap, ◌∙◌, arith, lit<}
use Rattle.std.proofs.lemmas.Bool.{cond-false}
use Rattle.std.specs.List.{list_any}
use Rattle.gb_base.specs.Keys.{same_key}
use Rattle.act_model.specs.inner.KeyInsertion.{insert_key}
use Rattle.act_model.proofs.KeyLemmas.{length-insert_key}
use Rattle.act_model.proofs.touched_keys.insert_key.Goals as goal

pub insert-requires : goal.insert-requires
insert-requires c =
    let keys = c.args.keys.now.items in
    let stands : c.contains.result ≡ list_any (λ j. same_key j c.args.key) keys = cc c.contains.ensures.value in
    let new = cond-false _ keys (insert_key c.args.key keys) (sym stands ∙ c.if-contains.false) in
    let room : length (insert_key c.args.key keys) ≤ 18 = subst (λ ks. length ks ≤ 18) new c.requires in
    (lit< tt, (omega (arith, ap length c.as_slice-2.ensures.value), omega (arith, length-insert_key c.args.key keys)))
