-- What a request asks for.
use Rattle.std.specs.Prelude.{Bool, true, false, Option, Some, None}
use Rattle.gb_base.specs.DayMinute.{DayMinute}
use Rattle.act_model.specs.WellFormed.{well_formed}
use Rattle.intake_requests.specs.declared.requests.Request.{Request}
use Rattle.intake_requests.specs.declared.requests.Request.TheVariants.{Nothing, Refused, Receive}

-- an item that is to be received is well formed
abbrev pub asks_well : Request → Bool
asks_well Nothing = true
asks_well (Refused text) = true
asks_well (Receive stamp from item) = well_formed item

-- the item has no stamp, so the clock is to stamp it
abbrev pub has_no_stamp : Option DayMinute → Bool
has_no_stamp None = true
has_no_stamp (Some stamp) = false

-- the request asks that an item be received which the clock is to stamp
abbrev pub asks_clock : Request → Bool
asks_clock Nothing = false
asks_clock (Refused text) = false
asks_clock (Receive stamp from item) = has_no_stamp stamp
