use Rattle.std.proofs.Common.{◌≡◌, ◌≤◌, All, length, map, ap, sym, subst, arith}
use Rattle.std.proofs.lemmas.List.{length-map}
use Rattle.std.proofs.lemmas.List.Elements.{All-map}
use Rattle.rank_slots.specs.Groups.{is_of}
use Rattle.rank_slots.specs.declared.places.Place.{Place}
use Rattle.rank_slots.proofs.LineCounts.{first_within, some_counted}
use Rattle.rank_slots.proofs.paying.share_in_group.Goals as goal

pub share-requires-clause-index : goal.share-requires-clause-index
share-requires-clause-index c =
    let e : c.deref.result.now ≡ map (λ p. p.claim) c.args.group.now = cc in
    let within = first_within (is_of c.args.right) c.args.group.now (some_counted (is_of c.args.right) c.args.group.now c.requires.there) in
    let value = c.places_ahead.ensures.value in
    omega (arith, ap length e, length-map c.args.group.now (λ (p : Place). p.claim), within, value)

pub share-requires-clause-claims : goal.share-requires-clause-claims
share-requires-clause-claims c =
    let e : c.deref.result.now ≡ map (λ p. p.claim) c.args.group.now = cc in
    subst (All (λ x. 1 ≤ x)) (sym e) (All-map (λ x. 1 ≤ x) (λ (p : Place). p.claim) c.args.group.now c.requires.claims)
