use Rattle.std.proofs.Common.{sym, ap, ◌∙◌}
use Rattle.std.specs.Option.{option_copied}
use Rattle.interim_orders.proofs.Marking.{first_held}
use Rattle.interim_orders.proofs.states.waits_until.Goals as goal

pub pending_at-requires : goal.pending_at-requires
pending_at-requires g c =
    first_held c.args.journal.now.receipts c.args.filing c.as_slice.result.now c.in-Some.key.now (g.P.Parts.holds c.args.parts.now)
    (c.as_slice.ensures.value ∙ c.filing_keys.ensures) (sym c.first.ensures.value ∙ ap option_copied c.in-Some.is) c.requires
