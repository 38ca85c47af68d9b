-- What holds of all claims holds of those of a class.
use Rattle.std.proofs.Common.{All, sum_by, sym, ap, subst, ◌∙◌, arith}
use Rattle.std.proofs.lemmas.List.Elements.{All-filter}
use Rattle.auction_classes.specs.PayableClaims.{IsAmountClaimed, amount_claimed, claims_in, is_in_class}
use Rattle.auction_classes.proofs.WeighedClaims.{filter_weighs}
use Rattle.proceeds_split.proofs.class_claims.claims_of.Goals as goal

pub returns-clause-each : goal.returns-clause-each
returns-clause-each c =
    subst (All IsAmountClaimed) (sym (c.claims_in.ensures ∙ ap (claims_in c.args.late c.args.class) c.items.ensures.value))
    (All-filter (is_in_class c.args.late c.args.class) IsAmountClaimed c.args.claims.now.claimed.items c.items.ensures.payable.each)

pub returns-clause-sum : goal.returns-clause-sum
returns-clause-sum c =
    let same = ap (sum_by amount_claimed) (c.claims_in.ensures ∙ ap (claims_in c.args.late c.args.class) c.items.ensures.value) in
    let less = filter_weighs amount_claimed (is_in_class c.args.late c.args.class) c.args.claims.now.claimed.items in
    omega (arith, same, less, c.items.ensures.payable.sum)
