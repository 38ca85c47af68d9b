-- The slots have the line of class 4, and the list is that of its rights.
use Rattle.std.proofs.Common.{ap, find, ◌∙◌}
use Rattle.std.specs.Option.{option_map_or}
use Rattle.gb_base.specs.RightNo.{same_right}
use Rattle.auction_classes.specs.LowestBid.{remaining_of}
use Rattle.auction_classes.proofs.claims.Claims.remaining.Goals as goal

pub returns : goal.returns
returns c =
    let list = c.deref.ensures.value ∙ ap (λ s. s.claimed.rights) c.self.view_is in
    c.remaining_among.ensures
    ∙ (λ i. option_map_or (remaining_of (c.requires.filled i) c.args.cover) (find (λ x. same_right x.right c.args.right) (list i)) 0)
