-- What an act is about.
use Rattle.std.specs.Prelude.{ℕ, Bool, true, false, Option, Some, None}
use Rattle.act_model.specs.declared.rights.RightKind.{RightKind}
use Rattle.act_model.specs.declared.rights.RightSpec.{RightSpec}
use Rattle.act_model.specs.declared.filing_acts.Act.{Act}
use Rattle.act_model.specs.declared.filing_acts.Act.TheVariants.{Open, Transfer, Create, NoticeFor, Convert, Assign, Cancel, Exchange, Exercise}
use Rattle.gb_base.specs.RightNo.{RightNo}
use Rattle.act_model.specs.declared.rights.RightKind.TheVariants as kind

-- the folio that an act is in
abbrev pub folio_of : Act → ℕ
folio_of (Open folio inventory owners) = folio
folio_of (Transfer folio owners) = folio
folio_of (Create folio spec reserve) = folio
folio_of (NoticeFor folio spec) = folio
folio_of (Convert folio right) = folio
folio_of (Assign folio right holder) = folio
folio_of (Cancel folio right) = folio
folio_of (Exchange folio recede rise) = folio
folio_of (Exercise folio behind spec) = folio

-- the right that a creating act creates
abbrev pub right_created : Act → Option RightSpec
right_created (Open folio inventory owners) = None
right_created (Transfer folio owners) = None
right_created (Create folio spec reserve) = Some spec
right_created (NoticeFor folio spec) = Some spec
right_created (Convert folio right) = None
right_created (Assign folio right holder) = None
right_created (Cancel folio right) = None
right_created (Exchange folio recede rise) = None
right_created (Exercise folio behind spec) = Some spec

-- division III of a folio holds mortgages and land charges, division II the other rights
abbrev pub is_in_division_three : RightKind → Bool
is_in_division_three kind.PersonalEasement = false
is_in_division_three kind.Usufruct = false
is_in_division_three (kind.Mortgage rate) = true
is_in_division_three (kind.LandCharge rate) = true

-- up to which capital a creating act keeps the rank ahead of its right for a later one (BGB § 881)
abbrev pub reserve_of : Act → Option ℕ
reserve_of (Open folio inventory owners) = None
reserve_of (Transfer folio owners) = None
reserve_of (Create folio spec reserve) = reserve
reserve_of (NoticeFor folio spec) = None
reserve_of (Convert folio right) = None
reserve_of (Assign folio right holder) = None
reserve_of (Cancel folio right) = None
reserve_of (Exchange folio recede rise) = None
reserve_of (Exercise folio behind spec) = None

-- the right whose reservation a creating act takes up (BGB § 881)
abbrev pub right_behind : Act → Option RightNo
right_behind (Open folio inventory owners) = None
right_behind (Transfer folio owners) = None
right_behind (Create folio spec reserve) = None
right_behind (NoticeFor folio spec) = None
right_behind (Convert folio right) = None
right_behind (Assign folio right holder) = None
right_behind (Cancel folio right) = None
right_behind (Exchange folio recede rise) = None
right_behind (Exercise folio behind spec) = Some behind
