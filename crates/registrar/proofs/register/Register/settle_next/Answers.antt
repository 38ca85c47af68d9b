use Rattle.std.proofs.Common.{◌<◌, ◌+◌, length, sym, ap, subst, ◌∙◌}
use Rattle.std.proofs.lemmas.Result.{MatchResult-from_err}
use Rattle.conflict_queue.specs.ItemKeys.{keys_of_item}
use Rattle.folio_sections.specs.Held.{WidensBy, is_given}
use Rattle.std.proofs.lemmas.List.FromFn.{length-enumerate_from}
use Rattle.registrar.proofs.GoingOn.{folios_in_order, has_settled, is_behind}
use Rattle.registrar.specs.HasSettled.{HasSettled}
use Rattle.registrar.proofs.register.Register.settle_next.Goals as goal

pub settle_in_order-requires-clause-more : goal.settle_in_order-requires-clause-more
settle_in_order-requires-clause-more c =
    subst (λ n. n < length c.args.journal.now.receipts) (ap (λ r. length r.verdicts) (sym c.self.view_is) ∙ length-enumerate_from 1 c.self.inside.settled.verdicts.items) c.requires.more

pub settle_in_order-requires-clause-behind : goal.settle_in_order-requires-clause-behind
settle_in_order-requires-clause-behind c =
    is_behind c.args.journal.now.receipts c.self.inside.settled c.is_a_journal.ensures.journal (c.empty_register_is_kept.ensures.kept c.args.journal.now.receipts)
    (subst (HasSettled c.args.journal.now.receipts) (sym c.self.view_is) c.requires.settled)

pub settle_in_order-requires-clause-ascending : goal.settle_in_order-requires-clause-ascending
settle_in_order-requires-clause-ascending c =
    folios_in_order c.args.journal.now.receipts c.self.inside.settled (subst (HasSettled c.args.journal.now.receipts) (sym c.self.view_is) c.requires.settled)

pub returns-clause-settled : goal.returns-clause-settled
returns-clause-settled c =
    has_settled c.args.journal.now.receipts c.settle_in_order.new.self c.in_ok-settle_in_order.ensures.ascending c.in_ok-settle_in_order.ensures.behind

pub returns-clause-one_more : goal.returns-clause-one_more
returns-clause-one_more c =
    length-enumerate_from 1 c.settle_in_order.new.self.verdicts.items ∙ c.in_ok-settle_in_order.ensures.one_more
    ∙ ap (λ n. n + 1) (sym (length-enumerate_from 1 c.self.inside.settled.verdicts.items) ∙ ap (λ r. length r.verdicts) c.self.view_is)

pub returns-in_err-settle_in_order-clause-keys : goal.returns-in_err-settle_in_order-clause-keys
returns-in_err-settle_in_order-clause-keys c =
    MatchResult-from_err c.from_residual.result _ _ c.from_residual.ensures.0
    (λ _. subst (λ r. WidensBy (is_given (keys_of_item c.args.journal.now.receipts (length r.verdicts + 1))) r.parts c.settle_in_order.new.self.parts) c.self.view_is
    (subst (λ n. WidensBy (is_given (keys_of_item c.args.journal.now.receipts (n + 1))) c.self.inside.settled.parts c.settle_in_order.new.self.parts)
    (sym (length-enumerate_from 1 c.self.inside.settled.verdicts.items)) c.in_err-settle_in_order.ensures.remains.keys))
