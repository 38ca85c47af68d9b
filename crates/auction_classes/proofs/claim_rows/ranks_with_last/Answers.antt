-- The last of them is the one that is found.
use Rattle.std.proofs.Common.{sym, ap, ◌∙◌}
use Rattle.std.specs.Option.{option_copied}
use Rattle.gb_base.proofs.Fronts.{last_is}
use Rattle.auction_classes.specs.Claims.{ranks_with}
use Rattle.auction_classes.proofs.claim_rows.ranks_with_last.Goals as goal

pub returns-in-Some : goal.returns-in-Some
returns-in-Some c =
    c.are_equal_in_rank.ensures
    ∙ ap (λ o. ranks_with o c.args.claim.now) (sym (ap option_copied c.in-Some.is) ∙ c.last.ensures.value ∙ last_is c.args.before.now)
