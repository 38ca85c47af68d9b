use Rattle.std.proofs.Common.{refl, arith}
use Rattle.std.proofs.lemmas.Bool.{false≢true}
use Rattle.kept_registers.proofs.laws.empty_register_is_kept.Goals as goal

pub returns : goal.returns
returns c = record {
  kept = λ journal. record {
    receipts_rise = record {
      never_fall = λ k i j d less within. absurd (omega arith);
      days = λ k i d within. absurd (omega arith);
      placed = λ k i d within. absurd (omega arith);
      waiting = λ k i d within. absurd (omega arith);
      created = λ k i d within. absurd (omega arith);
    };
    places_ascend = record {
      ascend = λ folio i j d less within. absurd (omega arith);
      divisions = λ folio i d within. absurd (omega arith);
      by_notice = λ folio m waits i d within. absurd (omega arith);
      noticed = λ folio m n has less waits creates. absurd (false≢true has);
    };
    pending_everywhere = record {
      everywhere = λ m k l there also. refl;
      names_earlier = λ m k there waits. absurd (false≢true waits);
    };
    created_as_filed = record { filed = λ folio right i d within. absurd (omega arith) };
    entered_in_place = record { in_place = λ folio right i d within. absurd (omega arith) };
    exchanged_are_untied = record {
      kinds = λ folio right i d within. absurd (omega arith);
      once = λ folio right. omega arith;
    };
    case_in_order = record {
      remains = λ folio right i d within. absurd (omega arith);
      opened = λ folio i d within. absurd (omega arith);
      items = λ folio i d within. absurd (omega arith);
      begins = λ folio n. tt;
      seizures = λ folio n. omega arith;
      registrations = λ folio n. omega arith;
      arrears = λ folio n i j d less within. absurd (omega arith);
      older = λ folio n. tt;
    };
  };
}
