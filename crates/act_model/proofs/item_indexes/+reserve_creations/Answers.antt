-- Room for the first act's right stands beside room for those after it.
use Rattle.std.proofs.Common.{◌∙◌, ◌+◌, arith}
use Rattle.std.specs.Ordering.{nat_cmp}
use Rattle.act_model.specs.inner.Lists.{room}
use Rattle.act_model.proofs.ItemIndexLemmas.{room_with_first}
use Rattle.act_model.proofs.item_indexes.+reserve_creations.Goals as goal

pub returns-in_ok-reserve-in-len1-up-clause-room : goal.returns-in_ok-reserve-in-len1-up-clause-room
returns-in_ok-reserve-in-len1-up-clause-room t c = λ n a k.
    room_with_first n a k c.args.acts.now c.act-item.result (room nat_cmp c.reserve_creations.new.creations) (room nat_cmp c.reserve.new.lists) c.get.result (omega arith) c.act-item.is (c.get.ensures.value ∙ c.folio.ensures) c.in_ok-reserve-in-len1-up.ensures.kept
    (c.in_ok-reserve_creations-in-len1-up.ensures.room n (a + 1) k) (c.reserve.ensures.widens.room k)
