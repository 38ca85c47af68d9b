use Rattle.std.proofs.Common.{◌≡◌, ◌∙◌, All, false, ap, length, subst, sym}
use Rattle.std.proofs.lemmas.Bool.{false≢true, true≢false}
use Rattle.conflict_queue.proofs.Numbered.{docket_len}
use Rattle.desk_pool.proofs.rounds.Round.in_order.Goals as goal

pub is_permitted-requires-clause-len : goal.is_permitted-requires-clause-len
is_permitted-requires-clause-len g c =
    ap length c.as_mut_slice.ensures.value ∙ c.self.invariant.as_many ∙ sym (ap length c.self.inside.ready.docket_is ∙ docket_len g.N.JournalName.receipts)

pub is_permitted-requires-clause-none : goal.is_permitted-requires-clause-none
is_permitted-requires-clause-none g c = subst (All (λ b. b ≡ false)) (sym c.as_mut_slice.ensures.value) c.self.invariant.none_passed

pub returns-then-not-is_permitted-clause-permitted : goal.returns-then-not-is_permitted-clause-permitted
returns-then-not-is_permitted-clause-permitted g c =
    let tells = c.is_permitted.ensures.permitted g.N.JournalName.receipts c.self.inside.ready.docket_is in
    (λ some. absurd (false≢true some), λ permitted. absurd (true≢false (sym (tells.1 permitted) ∙ c.if-not-is_permitted.true)))

pub settle_in_row-requires-clause-permitted : goal.settle_in_row-requires-clause-permitted
settle_in_row-requires-clause-permitted g c = (c.is_permitted.ensures.permitted g.N.JournalName.receipts c.self.inside.ready.docket_is).0 c.if-not-is_permitted.false
