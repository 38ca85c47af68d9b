-- Nothing is claimed in empty lists, and they have the room that was asked for.
use Rattle.std.proofs.Common.{subst, sym}
use Rattle.auction_classes.specs.PayableClaims.{IsPayable}
use Rattle.auction_classes.specs.Computable.{IsComputable}
use Rattle.auction_classes.proofs.NoClaims.{nothing_payable, nothing_computable}
use Rattle.auction_classes.proofs.claims.Claims.with_room.Goals as goal

pub invariant_of-result : goal.invariant_of-result
invariant_of-result c =
    let lists = c.in_ok-with_room.ensures.empty in
    let items = sym lists.items in
    let owners = sym lists.owners in
    let seizures = sym lists.seizures in
    let rights = sym lists.rights in
    let four = sym c.in_ok-with_room-2.ensures.empty in
    let six = sym c.in_ok-with_room-3.ensures.empty in (
      record {
        for_claims = c.in_ok-with_room.ensures.room;
        for_rights = c.in_ok-with_room-4.ensures.rights;
        for_exchanges = c.in_ok-with_room-4.ensures.exchanges;
        in_four = c.in_ok-with_room-2.ensures.room;
        in_six = c.in_ok-with_room-3.ensures.room;
      },
      subst IsComputable (λ i. record { items = items i; costs = 0; owners = owners i; seizures = seizures i; rights = rights i; line_four = four i; line_six = six i }) nothing_computable,
      subst IsPayable (λ i. record { items = items i; costs = 0; owners = owners i; seizures = seizures i; rights = rights i; line_four = four i; line_six = six i }) nothing_payable,
    )
