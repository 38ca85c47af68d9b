-- Answers on the elements of an array.
use Rattle.std.proofs.Common.{sym, ap, arith}
use Rattle.std.proofs.lemmas.Result.{on_err_weaker}
use Rattle.act_json.proofs.Turns.{read_more, holds_at_ok, all_after_try_push}
use Rattle.act_json.proofs.Narrow.{widest_element, count_in_array}
use Rattle.act_json.proofs.arrays.elements.Goals as goal

pub element-requires-clause-narrow : goal.element-requires-clause-narrow
element-requires-clause-narrow g c = omega (arith, widest_element c.args.values.now c.loop-i.i c.index-values-i.result c.loop-i-test.true c.index-values-i.is)

pub element-requires-clause-few : goal.element-requires-clause-few
element-requires-clause-few g c = omega (arith, count_in_array c.args.values.now)

pub loop-i-preserved : goal.loop-i-preserved
loop-i-preserved g c = record {
  so_far = read_more g.T.FromJson.reads c.args.values.now c.loop-i.i g.row.N c.loop-i.list.items c.try_push.new.self.items c.index-values-i.result c.in_ok-element.element
      c.loop-i.invariant.so_far c.loop-i-test.true c.index-values-i.is (sym c.in_ok-element.ensures.exact) (λ room. holds_at_ok c.try_push.result (c.try_push.ensures.variant.1 room) c.try_push.ensures.ok);
  good = all_after_try_push g.T.FromJson.keeps c.try_push.result c.loop-i.list.items c.try_push.new.self.items c.in_ok-element.element
      c.try_push.ensures.ok (on_err_weaker c.try_push.result (λ e. ap (λ v. v.items) e) c.try_push.ensures.err) c.loop-i.invariant.good c.in_ok-element.ensures.good;
}
