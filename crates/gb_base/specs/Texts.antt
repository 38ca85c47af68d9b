-- How values are printed, and which day a printed date is.
use Rattle.std.specs.Prelude.{ℕ, ◌+◌, ◌/◌, ◌%◌, List, ◌++◌, find, Option, codes, bytes_eq}
use Rattle.std.specs.List.{range_with_len}
use Rattle.std.specs.Fmt.{decimal}
use Rattle.gb_base.specs.Limits.{last_day}
use Rattle.gb_base.specs.Calendar.{CivilDate, date_of}
use Rattle.gb_base.specs.RightNo.{RightNo}
use Rattle.gb_base.specs.declared.sections.Section.{Section}
use Rattle.gb_base.specs.declared.sections.Section.TheVariants.{Gbo3, Gbo13, Gbo16, Gbo18, Gbo19, Gbo20, Gbo27, Gbo29, Gbo39, Bgb873, Bgb876, Bgb880, Bgb881, Bgb883, Bgb1059, Grest22, Zvg15, Zvg23, Zvg43, Zvg66, Zvg81, Zvg113, Limit}

-- two digits of a number below 100
abbrev pub two_digits : ℕ → List ℕ
two_digits n = decimal (n / 10) ++ decimal (n % 10)

-- an amount as whole euros, a point and two digits
abbrev pub euro : ℕ → List ℕ
euro cents = decimal (cents / 100) ++ (codes "." ++ two_digits (cents % 100))

-- a right as the receipt of its filing, a point and its act
abbrev pub right_text : RightNo → List ℕ
right_text id = decimal id.receipt ++ (codes "." ++ decimal id.act)

-- a date as YYYY-MM-DD
abbrev pub civil_text : CivilDate → List ℕ
civil_text date =
    two_digits (date.year / 100) ++ (two_digits (date.year % 100)
    ++ (codes "-" ++ (two_digits date.month ++ (codes "-" ++ two_digits date.day))))

-- a day as its date
unfoldable pub date_text : ℕ → List ℕ
date_text day = civil_text (date_of day)

-- the day whose text this is, if there is one
unfoldable pub day_written : List ℕ → Option ℕ
day_written text = find (λ day. bytes_eq (date_text day) text) (range_with_len 0 (last_day + 1))

-- a section as its law and number
abbrev pub section_text : Section → List ℕ
section_text Gbo3 = codes "GBO 3"
section_text Gbo13 = codes "GBO 13"
section_text Gbo16 = codes "GBO 16"
section_text Gbo18 = codes "GBO 18"
section_text Gbo19 = codes "GBO 19"
section_text Gbo20 = codes "GBO 20"
section_text Gbo27 = codes "GBO 27"
section_text Gbo29 = codes "GBO 29"
section_text Gbo39 = codes "GBO 39"
section_text Bgb873 = codes "BGB 873"
section_text Bgb876 = codes "BGB 876"
section_text Bgb880 = codes "BGB 880"
section_text Bgb881 = codes "BGB 881"
section_text Bgb883 = codes "BGB 883"
section_text Bgb1059 = codes "BGB 1059"
section_text Grest22 = codes "GrEStG 22"
section_text Zvg15 = codes "ZVG 15"
section_text Zvg23 = codes "ZVG 23"
section_text Zvg43 = codes "ZVG 43"
section_text Zvg66 = codes "ZVG 66"
section_text Zvg81 = codes "ZVG 81"
section_text Zvg113 = codes "ZVG 113"
section_text Limit = codes "limit"
