use Rattle.std.proofs.Common.{◌∙◌}
use Rattle.registrar.proofs.Listing.{listed_alike}
use Rattle.registrar.proofs.settled.Settled.put_folios_in_order.Goals as goal

pub returns-clause-behind : goal.returns-clause-behind
returns-clause-behind c = λ journal so_far. record {
  settled = so_far.settled;
  held = so_far.held;
  listed = λ f. listed_alike c.args.self.now.folios.items c.put_in_order.new.folios.items f (c.put_in_order.ensures.members f) ∙ so_far.listed f;
}
