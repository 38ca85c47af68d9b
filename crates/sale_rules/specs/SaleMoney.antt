-- The money that is distributed after an award (ZVG §§ 49, 107).
use Rattle.std.specs.Prelude.{ℕ, ◌+◌, Option, Some, None, option_and_then}
use Rattle.std.specs.Option.{option_map_or}
use Rattle.gb_base.specs.Interest.{days360, interest}
use Rattle.act_model.specs.Receiving.{day_of, item_at}
use Rattle.act_model.specs.declared.items.Item.{Item}
use Rattle.act_model.specs.declared.items.Item.TheVariants as item
use Rattle.folio_sections.specs.Cases.{award}
use Rattle.auction_classes.specs.Sales.{Sale, at_case}

-- what the buyer bids, in an award
abbrev pub bid_named : Item → Option ℕ
bid_named (item.Award folio buyer bid) = Some bid
bid_named other = None

-- the legal rate of interest, 4 percent a year, in hundredths of a percent (BGB § 246)
abbrev pub legal_rate : ℕ
legal_rate = 400

-- a bid with its interest from day a up to day b, without day b itself (ZVG § 49(2))
abbrev pub bid_with_interest : ℕ → ℕ → ℕ → ℕ
bid_with_interest a b bid = bid + interest bid legal_rate (days360 a b)

-- what receipt n, the award, brings to distribute: its bid with the interest up to the day of the item
abbrev pub money_awarded : Sale → ℕ → ℕ
money_awarded s n =
    option_map_or (bid_with_interest (day_of s.journal n) (day_of s.journal s.item)) (option_and_then bid_named (item_at s.journal n)) 0

-- the money of the case: that of its award; 0 where the land was not awarded
abbrev pub money : Sale → ℕ
money s = option_map_or (money_awarded s) (award (at_case s)) 0
