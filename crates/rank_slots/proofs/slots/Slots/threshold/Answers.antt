use Rattle.std.proofs.Common.{◌≡◌, ◌+◌, true, false, ◌∙◌, sym, arith}
use Rattle.gb_base.specs.RightNo.{same_right}
use Rattle.rank_slots.proofs.EmptySums.{exercised_threshold, reserved_threshold, untied_threshold}
use Rattle.rank_slots.proofs.slots.Slots.threshold.Goals as goal

pub returns-in-None : goal.returns-in-None
returns-in-None c = record { value = c.cents_ahead.ensures.value ∙ sym (untied_threshold c.args.self.now.filled c.args.right (sym c.knot_of.ensures.value ∙ c.in-None.is)); bound = omega (arith, c.cents_ahead.ensures.bound) }

pub returns-in-Some : goal.returns-in-Some
returns-in-Some c =
    let own : same_right c.in-Some.knot.reserved c.args.right ≡ true = sym c.eq.ensures ∙ c.if-eq.true in
    let ahead = c.cents_ahead-in-Some.ensures.value in
    let claim = c.claim_of.ensures.value in
    record {
      value = (λ i. ahead i + claim i)
          ∙ sym (reserved_threshold c.args.self.now.filled c.args.right c.in-Some.knot c.knot_of.ensures.fits (sym c.knot_of.ensures.value ∙ c.in-Some.is) own);
      bound = omega (arith, c.cents_ahead-in-Some.ensures.bound, c.claim_of.ensures.bound);
    }

pub returns-in-Some-2 : goal.returns-in-Some-2
returns-in-Some-2 c =
    let other : same_right c.in-Some.knot.reserved c.args.right ≡ false = sym c.eq.ensures ∙ c.if-eq.false in
    record {
      value = c.cents_ahead-in-Some-2.ensures.value
          ∙ sym (exercised_threshold c.args.self.now.filled c.args.right c.in-Some.knot c.knot_of.ensures.fits (sym c.knot_of.ensures.value ∙ c.in-Some.is) other);
      bound = omega (arith, c.cents_ahead-in-Some-2.ensures.bound);
    }
