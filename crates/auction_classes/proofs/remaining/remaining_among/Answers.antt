-- The right that is found stands on the line.
use Rattle.std.proofs.Common.{◌≡◌, true, ap, sym, ◌∙◌}
use Rattle.std.specs.Option.{option_copied}
use Rattle.gb_base.specs.RightNo.{same_right}
use Rattle.rank_slots.specs.Groups.{keeps_place}
use Rattle.auction_classes.proofs.ClaimedRights.{found_keeps}
use Rattle.auction_classes.proofs.remaining.remaining_among.Goals as goal

pub remaining_of-requires : goal.remaining_of-requires
remaining_of-requires c = record {
  kept = found_keeps (λ x. keeps_place c.args.slots.now.filled.places x.right ≡ true) (λ x. same_right x.right c.args.right) c.args.rights.now c.in-Some.claimed.now c.requires.kept (sym c.claimed_for.ensures ∙ ap option_copied c.in-Some.is);
}
