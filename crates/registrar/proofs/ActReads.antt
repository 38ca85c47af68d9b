-- What the judgement of an act reads: its folio's title, and the rights that it names, as far as it needs them.
use Rattle.std.proofs.Common.{◌≡◌, ℕ, true, false, not, ◌&&◌, ◌||◌, cond, List, [], ◌∷◌, ◌++◌, fold, option_to_list, is_some, refl, ap}
use Rattle.std.specs.List.{list_any}
use Rattle.std.specs.Option.{option_map_or}
use Rattle.gb_base.specs.RightNo.{RightNo}
use Rattle.gb_base.specs.declared.keys.Key.{Key}
use Rattle.gb_base.specs.declared.keys.Key.TheVariants.{Title, Right}
use Rattle.act_model.specs.Acts.{is_in_division_three}
use Rattle.act_model.specs.declared.documents.Doc.{Doc}
use Rattle.act_model.specs.declared.filing_acts.Act.{Act}
use Rattle.act_model.specs.declared.filing_acts.Act.TheVariants.{Open, Transfer, Create, NoticeFor, Convert, Assign, Cancel, Exchange, Exercise}
use Rattle.act_model.specs.declared.receipts.Receipt.{Receipt}
use Rattle.act_model.specs.Documents.{has_proof}
use Rattle.act_model.specs.Groups.{shares_its_group}
use Rattle.consent_rules.specs.Judging.{assigns_division_two, converts_full_right, exchanges_unfit_right, is_barred_from_exchange, is_open_as_of, lacks_folio, lacks_reservation, lacks_right, lives, opens, reserves_less}
use Rattle.consent_rules.specs.Persons.{acts_before, affected, applicants, holder_then, needed, others, owner_side, owners_named, owners_then, persons, stands_in_division_three, waiting_applicants}
use Rattle.folio_sections.specs.Rights.{holder_for, is_full, is_live, is_spent, live_right}
use Rattle.folio_sections.specs.Titles.{is_open, owners_for}
use Rattle.folio_sections.specs.declared.entries.Entry.{Entry}
use Rattle.registrar.proofs.Agreeing.{chosen_same}

-- the title and this right of the folio have the same entries in both
pub record SameTitleAndRight (at0 at1 : Key → List Entry) (folio : ℕ) (named : RightNo) : Type 0 where
  pub title : at1 (Title folio) ≡ at0 (Title folio)
  pub right : at1 (Right folio named) ≡ at0 (Right folio named)

-- both rights have the same entries in both, and so has the title where the receding right is of division III
pub record SameTwoRights (at0 at1 : Key → List Entry) (folio : ℕ) (receding rising : RightNo) : Type 0 where
  pub recede : at1 (Right folio receding) ≡ at0 (Right folio receding)
  pub rise : at1 (Right folio rising) ≡ at0 (Right folio rising)
  pub title : stands_in_division_three at0 folio receding ≡ true → at1 (Title folio) ≡ at0 (Title folio)

-- all that the act is judged by is the same in both
abbrev pub ReadsSame : (Key → List Entry) → (Key → List Entry) → Act → Type 0
ReadsSame at0 at1 (Open folio inventory owners) = at1 (Title folio) ≡ at0 (Title folio)
ReadsSame at0 at1 (Transfer folio owners) = at1 (Title folio) ≡ at0 (Title folio)
ReadsSame at0 at1 (Create folio spec reserve) = at1 (Title folio) ≡ at0 (Title folio)
ReadsSame at0 at1 (NoticeFor folio spec) = at1 (Title folio) ≡ at0 (Title folio)
ReadsSame at0 at1 (Convert folio right) = SameTitleAndRight at0 at1 folio right
ReadsSame at0 at1 (Assign folio right holder) = at1 (Right folio right) ≡ at0 (Right folio right)
ReadsSame at0 at1 (Cancel folio right) = SameTitleAndRight at0 at1 folio right
ReadsSame at0 at1 (Exchange folio recede rise) = SameTwoRights at0 at1 folio recede rise
ReadsSame at0 at1 (Exercise folio behind spec) = SameTitleAndRight at0 at1 folio behind

-- ---- at a title and at a right

open_same : (at0 at1 : Key → List Entry) (acts : List Act) (a folio : ℕ) → at1 (Title folio) ≡ at0 (Title folio) → not (is_open_as_of at1 acts a folio) ≡ not (is_open_as_of at0 acts a folio)
open_same at0 at1 acts a folio same = ap (λ es. not (is_open es || list_any (opens folio) (acts_before a acts))) same

owners_same : (m : ℕ) (at0 at1 : Key → List Entry) (acts : List Act) (a folio : ℕ) → at1 (Title folio) ≡ at0 (Title folio) → owners_then m at1 acts a folio ≡ owners_then m at0 acts a folio
owners_same m at0 at1 acts a folio same = ap (λ es. persons (fold (owners_named folio) (owners_for m es) (acts_before a acts))) same

holder_same : (m : ℕ) (at0 at1 : Key → List Entry) (folio : ℕ) (right : RightNo) → at1 (Right folio right) ≡ at0 (Right folio right) → holder_then m at1 folio right ≡ holder_then m at0 folio right
holder_same m at0 at1 folio right same = ap (λ es. option_to_list (holder_for m es)) same

lives_same : (at0 at1 : Key → List Entry) (folio : ℕ) (right : RightNo) → at1 (Right folio right) ≡ at0 (Right folio right) → not (lives at1 folio right) ≡ not (lives at0 folio right)
lives_same at0 at1 folio right same = ap (λ es. not (is_live es)) same

barred_same : (journal : List Receipt) (at0 at1 : Key → List Entry) (folio : ℕ) (right : RightNo) → at1 (Right folio right) ≡ at0 (Right folio right) → is_barred_from_exchange journal at1 folio right ≡ is_barred_from_exchange journal at0 folio right
barred_same journal at0 at1 folio right same =
    ap (λ es. not (is_full es) || shares_its_group journal right || option_map_or (λ made. is_some made.reserve || is_some made.ahead_of) (live_right es) false) same

-- the owners are the same in both, where the receding right is of division III
owners_if : (m : ℕ) (at0 at1 : Key → List Entry) (acts : List Act) (a folio : ℕ) (recede rise : RightNo) → SameTwoRights at0 at1 folio recede rise
    → cond (stands_in_division_three at1 folio recede) (owners_then m at1 acts a folio) [] ≡ cond (stands_in_division_three at0 folio recede) (owners_then m at0 acts a folio) []
owners_if m at0 at1 acts a folio recede rise same =
    chosen_same (stands_in_division_three at1 folio recede) (stands_in_division_three at0 folio recede) (owners_then m at1 acts a folio) (owners_then m at0 acts a folio) []
    (ap (λ es. option_map_or (λ made. is_in_division_three made.spec.kind) (live_right es) false) same.recede)
    (λ stands. owners_same m at0 at1 acts a folio (same.title stands))

-- ---- grounds for rejection

pub folio_locally : (at0 at1 : Key → List Entry) (acts : List Act) (a : ℕ) (act : Act) → ReadsSame at0 at1 act → lacks_folio at1 acts a act ≡ lacks_folio at0 acts a act
folio_locally at0 at1 acts a (Open folio inventory owners) same = ap is_open same
folio_locally at0 at1 acts a (Transfer folio owners) same = open_same at0 at1 acts a folio same
folio_locally at0 at1 acts a (Create folio spec reserve) same = open_same at0 at1 acts a folio same
folio_locally at0 at1 acts a (NoticeFor folio spec) same = open_same at0 at1 acts a folio same
folio_locally at0 at1 acts a (Convert folio right) same = open_same at0 at1 acts a folio same.title
folio_locally at0 at1 acts a (Assign folio right holder) same = refl
folio_locally at0 at1 acts a (Cancel folio right) same = open_same at0 at1 acts a folio same.title
folio_locally at0 at1 acts a (Exchange folio recede rise) same = refl
folio_locally at0 at1 acts a (Exercise folio behind spec) same = open_same at0 at1 acts a folio same.title

pub right_locally : (at0 at1 : Key → List Entry) (act : Act) → ReadsSame at0 at1 act → lacks_right at1 act ≡ lacks_right at0 act
right_locally at0 at1 (Convert folio right) same = lives_same at0 at1 folio right same.right
right_locally at0 at1 (Assign folio right holder) same = lives_same at0 at1 folio right same
right_locally at0 at1 (Cancel folio right) same = lives_same at0 at1 folio right same.right
right_locally at0 at1 (Exchange folio recede rise) same = λ j. lives_same at0 at1 folio recede same.recede j || lives_same at0 at1 folio rise same.rise j
right_locally at0 at1 (Exercise folio behind spec) same = lives_same at0 at1 folio behind same.right
right_locally at0 at1 other same = refl

pub conversion_locally : (at0 at1 : Key → List Entry) (act : Act) → ReadsSame at0 at1 act → converts_full_right at1 act ≡ converts_full_right at0 act
conversion_locally at0 at1 (Convert folio right) same = ap is_full same.right
conversion_locally at0 at1 other same = refl

pub exchange_locally : (journal : List Receipt) (at0 at1 : Key → List Entry) (act : Act) → ReadsSame at0 at1 act → exchanges_unfit_right journal at1 act ≡ exchanges_unfit_right journal at0 act
exchange_locally journal at0 at1 (Exchange folio recede rise) same =
    λ j. barred_same journal at0 at1 folio recede same.recede j || barred_same journal at0 at1 folio rise same.rise j
exchange_locally journal at0 at1 other same = refl

pub reservation_locally : (at0 at1 : Key → List Entry) (act : Act) → ReadsSame at0 at1 act → lacks_reservation at1 act ≡ lacks_reservation at0 act
reservation_locally at0 at1 (Exercise folio behind spec) same =
    ap (λ es. is_spent es || option_map_or (λ made. reserves_less made.reserve spec.capital) (live_right es) true) same.right
reservation_locally at0 at1 other same = refl

pub assignment_locally : (at0 at1 : Key → List Entry) (act : Act) → ReadsSame at0 at1 act → assigns_division_two at1 act ≡ assigns_division_two at0 act
assignment_locally at0 at1 (Assign folio right holder) same =
    ap (λ es. option_map_or (λ made. not (is_in_division_three made.spec.kind)) (live_right es) false) same
assignment_locally at0 at1 other same = refl

-- ---- persons

pub affected_locally : (m : ℕ) (docs : List Doc) (at0 at1 : Key → List Entry) (acts : List Act) (a : ℕ) (act : Act) → ReadsSame at0 at1 act → affected m docs at1 acts a act ≡ affected m docs at0 acts a act
affected_locally m docs at0 at1 acts a (Open folio inventory owners) same = refl
affected_locally m docs at0 at1 acts a (Transfer folio owners) same = owners_same m at0 at1 acts a folio same
affected_locally m docs at0 at1 acts a (Create folio spec reserve) same = owners_same m at0 at1 acts a folio same
affected_locally m docs at0 at1 acts a (NoticeFor folio spec) same = owners_same m at0 at1 acts a folio same
affected_locally m docs at0 at1 acts a (Convert folio right) same = owners_same m at0 at1 acts a folio same.title
affected_locally m docs at0 at1 acts a (Assign folio right holder) same = holder_same m at0 at1 folio right same
affected_locally m docs at0 at1 acts a (Cancel folio right) same =
    ap (λ people. cond (has_proof docs a) [] people) (holder_same m at0 at1 folio right same.right)
affected_locally m docs at0 at1 acts a (Exchange folio recede rise) same = holder_same m at0 at1 folio recede same.recede
affected_locally m docs at0 at1 acts a (Exercise folio behind spec) same = owners_same m at0 at1 acts a folio same.title

pub owner_side_locally : (m : ℕ) (docs : List Doc) (at0 at1 : Key → List Entry) (acts : List Act) (a : ℕ) (act : Act) → ReadsSame at0 at1 act → owner_side m docs at1 acts a act ≡ owner_side m docs at0 acts a act
owner_side_locally m docs at0 at1 acts a (Cancel folio right) same =
    λ j. cond (not (has_proof docs a) && option_map_or (λ made. is_in_division_three made.spec.kind) (live_right (same.right j)) false)
    (owners_same m at0 at1 acts a folio same.title j) []
owner_side_locally m docs at0 at1 acts a (Exchange folio recede rise) same = owners_if m at0 at1 acts a folio recede rise same
owner_side_locally m docs at0 at1 acts a other same = refl

pub applicants_locally : (m : ℕ) (at0 at1 : Key → List Entry) (acts : List Act) (a : ℕ) (act : Act) → ReadsSame at0 at1 act → applicants m at1 acts a act ≡ applicants m at0 acts a act
applicants_locally m at0 at1 acts a (Open folio inventory owners) same = refl
applicants_locally m at0 at1 acts a (Transfer folio owners) same = λ j. owners_same m at0 at1 acts a folio same j ++ owners
applicants_locally m at0 at1 acts a (Create folio spec reserve) same = λ j. owners_same m at0 at1 acts a folio same j ++ spec.holder ∷ []
applicants_locally m at0 at1 acts a (NoticeFor folio spec) same = λ j. owners_same m at0 at1 acts a folio same j ++ spec.holder ∷ []
applicants_locally m at0 at1 acts a (Convert folio right) same = λ j. owners_same m at0 at1 acts a folio same.title j ++ holder_same m at0 at1 folio right same.right j
applicants_locally m at0 at1 acts a (Assign folio right holder) same = λ j. holder_same m at0 at1 folio right same j ++ holder ∷ []
applicants_locally m at0 at1 acts a (Cancel folio right) same = λ j. owners_same m at0 at1 acts a folio same.title j ++ holder_same m at0 at1 folio right same.right j
applicants_locally m at0 at1 acts a (Exchange folio recede rise) same =
    λ j. holder_same m at0 at1 folio recede same.recede j ++ (holder_same m at0 at1 folio rise same.rise j ++ owners_if m at0 at1 acts a folio recede rise same j)
applicants_locally m at0 at1 acts a (Exercise folio behind spec) same = λ j. owners_same m at0 at1 acts a folio same.title j ++ spec.holder ∷ []

pub others_locally : (journal : List Receipt) (m : ℕ) (docs : List Doc) (at0 at1 : Key → List Entry) (a : ℕ) (act : Act) → ReadsSame at0 at1 act → others journal m docs at1 a act ≡ others journal m docs at0 a act
others_locally journal m docs at0 at1 a (Cancel folio right) same =
    ap (λ es. cond (has_proof docs a) [] (waiting_applicants journal m es)) same.right
others_locally journal m docs at0 at1 a other same = refl

pub needed_locally : (journal : List Receipt) (m : ℕ) (docs : List Doc) (at0 at1 : Key → List Entry) (acts : List Act) (a : ℕ) (act : Act) → ReadsSame at0 at1 act → needed journal m docs at1 acts a act ≡ needed journal m docs at0 acts a act
needed_locally journal m docs at0 at1 acts a act same =
    λ j. affected_locally m docs at0 at1 acts a act same j
    ++ (owner_side_locally m docs at0 at1 acts a act same j ++ others_locally journal m docs at0 at1 a act same j)
