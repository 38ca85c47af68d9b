use Rattle.std.proofs.Common.{◌≡◌, true, false, ◌∙◌, sym}
use Rattle.gb_base.specs.RightNo.{same_right}
use Rattle.rank_slots.specs.CanFill.{CanKnot}
use Rattle.rank_slots.proofs.KnotPay.{found_all, found_exercised, found_reserved, unfound}
use Rattle.rank_slots.proofs.slots.Slots.pay.Goals as goal

pub pay_reserved-requires : goal.pay_reserved-requires
pay_reserved-requires c =
    found_all (CanKnot c.args.self.now.filled.places c.args.self.now.filled.swaps) c.args.self.now.filled.knots c.args.right c.in-Some.knot c.knot_of.ensures.fits.knots (sym c.knot_of.ensures.value ∙ c.in-Some.is)

pub pay_exercised-requires : goal.pay_exercised-requires
pay_exercised-requires c =
    let fits = c.knot_of.ensures.fits in
    record {
      fits = fits;
      knot = found_all (CanKnot c.args.self.now.filled.places c.args.self.now.filled.swaps) c.args.self.now.filled.knots c.args.right c.in-Some.knot fits.knots (sym c.knot_of.ensures.value ∙ c.in-Some.is);
    }

pub returns-in-None : goal.returns-in-None
returns-in-None c = record { value = c.line_pay.ensures.value ∙ sym (unfound c.args.self.now.filled c.args.right c.args.t (sym c.knot_of.ensures.value ∙ c.in-None.is)) }

pub returns-in-Some : goal.returns-in-Some
returns-in-Some c =
    let own : same_right c.in-Some.knot.reserved c.args.right ≡ true = sym c.eq.ensures ∙ c.if-eq.true in
    record { value = c.pay_reserved.ensures ∙ sym (found_reserved c.args.self.now.filled c.args.right c.args.t c.in-Some.knot (sym c.knot_of.ensures.value ∙ c.in-Some.is) own) }

pub returns-in-Some-2 : goal.returns-in-Some-2
returns-in-Some-2 c =
    let other : same_right c.in-Some.knot.reserved c.args.right ≡ false = sym c.eq.ensures ∙ c.if-eq.false in
    record { value = c.pay_exercised.ensures ∙ sym (found_exercised c.args.self.now.filled c.args.right c.args.t c.in-Some.knot (sym c.knot_of.ensures.value ∙ c.in-Some.is) other) }
