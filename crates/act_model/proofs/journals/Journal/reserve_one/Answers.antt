-- The journal is ready for the item that it keeps a copy of.
use Rattle.std.proofs.Common.{IsTrue, arith, subst, sym}
use Rattle.std.specs.Vec.{vec_capacity, vec_len}
use Rattle.act_model.specs.Same.{same_item}
use Rattle.act_model.proofs.ItemEquality.{items_exact}
use Rattle.act_model.specs.inner.Index.{IsIndexOf}
use Rattle.act_model.proofs.IndexLemmas.{still_ready, widen_same}
use Rattle.act_model.proofs.journals.Journal.reserve_one.Goals as goal

pub returns-clause-room : goal.returns-clause-room
returns-clause-room c = subst (λ ready. IsTrue (same_item ready c.args.item.now)) (sym c.copy.ensures) (items_exact.itself c.args.item.now)

pub invariant_of-self-in_err-reserve : goal.invariant_of-self-in_err-reserve
invariant_of-self-in_err-reserve c =
    still_ready c.self.inside.indexes c.self.inside.indexes c.index_waiting.new.numbers c.self.inside.indexed c.len-self-inside.result c.self.inside.receipts.items c.reserve.new.self.items c.self.inside.ready_for (vec_len c.self.inside.receipts) (vec_capacity c.self.inside.receipts) (vec_len c.reserve.new.self) (vec_capacity c.reserve.new.self)
    c.self.invariant.0 c.self.invariant.2 c.self.invariant.3 (widen_same c.self.inside.indexes) c.reserve.ensures.items
    (subst (IsIndexOf c.index_waiting.new.numbers) c.as_slice.ensures.value c.in_ok-index_waiting.ensures.all) (omega arith) (omega arith) c.reserve.ensures.len c.reserve.ensures.capacity

pub invariant_of-self-2 : goal.invariant_of-self-2
invariant_of-self-2 c =
    still_ready c.self.inside.indexes c.self.inside.indexes c.index_waiting.new.numbers c.self.inside.indexed c.len-self-inside.result c.self.inside.receipts.items c.reserve.new.self.items c.self.inside.ready_for (vec_len c.self.inside.receipts) (vec_capacity c.self.inside.receipts) (vec_len c.reserve.new.self) (vec_capacity c.reserve.new.self)
    c.self.invariant.0 c.self.invariant.2 c.self.invariant.3 (widen_same c.self.inside.indexes) c.reserve.ensures.items
    (subst (IsIndexOf c.index_waiting.new.numbers) c.as_slice.ensures.value c.in_ok-index_waiting.ensures.all) (omega arith) (omega arith) c.reserve.ensures.len c.reserve.ensures.capacity

pub invariant_of-self-in_err-reserve-2 : goal.invariant_of-self-in_err-reserve-2
invariant_of-self-in_err-reserve-2 c =
    still_ready c.self.inside.indexes c.reserve-2.new.self c.index_waiting.new.numbers c.self.inside.indexed c.len-self-inside.result c.self.inside.receipts.items c.reserve.new.self.items c.self.inside.ready_for (vec_len c.self.inside.receipts) (vec_capacity c.self.inside.receipts) (vec_len c.reserve.new.self) (vec_capacity c.reserve.new.self)
    c.self.invariant.0 c.self.invariant.2 c.self.invariant.3 c.reserve-2.ensures.widens c.reserve.ensures.items
    (subst (IsIndexOf c.index_waiting.new.numbers) c.as_slice.ensures.value c.in_ok-index_waiting.ensures.all) (omega arith) (omega arith) c.reserve.ensures.len c.reserve.ensures.capacity
