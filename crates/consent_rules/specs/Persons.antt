-- Whom an act concerns, who must consent to it, and who may apply for it (GBO §§ 13, 19, 22, 27; BGB §§ 876, 880(2)).
-- `m` is the number of the filing that is judged, `acts` are its acts, and `act` is act `a` of them, from 1; `docs` are the documents
-- that count for it; `at` has the entries at each key, as they stand when it is judged. Who stands at a title or a right for a filing
-- is said by `owners_for` and `holder_for`: where an official notice keeps its place, in general who stood there before the notice.
use Rattle.std.specs.Prelude.{ℕ, ◌-◌, Bool, false, not, ◌&&◌, ◌==◌, if◌then◌else◌, List, [], ◌∷◌, ◌++◌, filter_map, fold, take, Option, Some, None, option_to_list}
use Rattle.std.specs.Option.{option_map_or}
use Rattle.gb_base.specs.RightNo.{RightNo}
use Rattle.gb_base.specs.declared.keys.Key.{Key}
use Rattle.gb_base.specs.declared.keys.Key.TheVariants.{Title, Right}
use Rattle.act_model.specs.declared.documents.Doc.{Doc}
use Rattle.act_model.specs.declared.filing_acts.Act.{Act}
use Rattle.act_model.specs.declared.filing_acts.Act.TheVariants.{Open, Transfer, Create, NoticeFor, Convert, Assign, Cancel, Exchange, Exercise}
use Rattle.act_model.specs.declared.receipts.Receipt.{Receipt}
use Rattle.act_model.specs.Acts.{is_in_division_three}
use Rattle.act_model.specs.Touches.{applicant_of}
use Rattle.act_model.specs.Documents.{has_proof}
use Rattle.folio_sections.specs.Rights.{holder_for, live_right}
use Rattle.folio_sections.specs.Titles.{owners_for}
use Rattle.folio_sections.specs.Waiting.{waiting_before}
use Rattle.folio_sections.specs.declared.entries.Entry.{Entry}

-- the acts of the filing before act a, whose owners count although none of them is entered yet
abbrev pub acts_before : ℕ → List Act → List Act
acts_before a acts = take (a - 1) acts

-- the owners of a folio once an act is entered: those whom the act names for this folio, else those before it
abbrev pub owners_named : ℕ → Option (List ℕ) → Act → Option (List ℕ)
owners_named folio before (Open f inventory owners) = if f == folio then Some owners else before
owners_named folio before (Transfer f owners) = if f == folio then Some owners else before
owners_named folio before (Create f spec reserve) = before
owners_named folio before (NoticeFor f spec) = before
owners_named folio before (Convert f right) = before
owners_named folio before (Assign f right holder) = before
owners_named folio before (Cancel f right) = before
owners_named folio before (Exchange f recede rise) = before
owners_named folio before (Exercise f behind spec) = before

-- the owners of a folio as act a finds them: those whom the last act before it names for the folio, else those who stand at the
-- title for the filing; none where the folio is not open
abbrev pub owners_as_of : ℕ → (Key → List Entry) → List Act → ℕ → ℕ → Option (List ℕ)
owners_as_of m at acts a folio = fold (owners_named folio) (owners_for m (at (Title folio))) (acts_before a acts)

-- these persons as a list, empty where there are none
abbrev pub persons : Option (List ℕ) → List ℕ
persons (Some people) = people
persons None = []

-- the owners of a folio as act a finds them, as a list; it is empty where the folio is not open
abbrev pub owners_then : ℕ → (Key → List Entry) → List Act → ℕ → ℕ → List ℕ
owners_then m at acts a folio = persons (owners_as_of m at acts a folio)

-- the holder of a right who stands there for the filing, as a list; it is empty where there is none
abbrev pub holder_then : ℕ → (Key → List Entry) → ℕ → RightNo → List ℕ
holder_then m at folio right = option_to_list (holder_for m (at (Right folio right)))

-- the right is live, and a mortgage or a land charge (division III)
abbrev pub stands_in_division_three : (Key → List Entry) → ℕ → RightNo → Bool
stands_in_division_three at folio right =
    option_map_or (λ made. is_in_division_three made.spec.kind) (live_right (at (Right folio right))) false

-- whose right the act affects (GBO § 19): for an opening the owners whom it names; nobody's where a right is cancelled with a proof
-- that it has expired (GBO § 22)
abbrev pub affected : ℕ → List Doc → (Key → List Entry) → List Act → ℕ → Act → List ℕ
affected m docs at acts a (Open folio inventory owners) = owners
affected m docs at acts a (Transfer folio owners) = owners_then m at acts a folio
affected m docs at acts a (Create folio spec reserve) = owners_then m at acts a folio
affected m docs at acts a (NoticeFor folio spec) = owners_then m at acts a folio
affected m docs at acts a (Convert folio right) = owners_then m at acts a folio
affected m docs at acts a (Assign folio right holder) = holder_then m at folio right
affected m docs at acts a (Cancel folio right) =
    if has_proof docs a then [] else holder_then m at folio right
affected m docs at acts a (Exchange folio recede rise) = holder_then m at folio recede
affected m docs at acts a (Exercise folio behind spec) = owners_then m at acts a folio

-- the owners who consent beside whoever is affected: to the cancellation of a right of division III (GBO § 27), and to its
-- receding (BGB § 880(2))
abbrev pub owner_side : ℕ → List Doc → (Key → List Entry) → List Act → ℕ → Act → List ℕ
owner_side m docs at acts a (Cancel folio right) =
    if not (has_proof docs a) && stands_in_division_three at folio right
    then owners_then m at acts a folio else []
owner_side m docs at acts a (Exchange folio recede rise) =
    if stands_in_division_three at folio recede then owners_then m at acts a folio else []
owner_side m docs at acts a (Open folio inventory owners) = []
owner_side m docs at acts a (Transfer folio owners) = []
owner_side m docs at acts a (Create folio spec reserve) = []
owner_side m docs at acts a (NoticeFor folio spec) = []
owner_side m docs at acts a (Convert folio right) = []
owner_side m docs at acts a (Assign folio right holder) = []
owner_side m docs at acts a (Exercise folio behind spec) = []

-- who may apply for the act (GBO § 13)
abbrev pub applicants : ℕ → (Key → List Entry) → List Act → ℕ → Act → List ℕ
applicants m at acts a (Open folio inventory owners) = owners
applicants m at acts a (Transfer folio owners) = owners_then m at acts a folio ++ owners
applicants m at acts a (Create folio spec reserve) = owners_then m at acts a folio ++ spec.holder ∷ []
applicants m at acts a (NoticeFor folio spec) = owners_then m at acts a folio ++ spec.holder ∷ []
applicants m at acts a (Convert folio right) = owners_then m at acts a folio ++ holder_then m at folio right
applicants m at acts a (Assign folio right holder) = holder_then m at folio right ++ holder ∷ []
applicants m at acts a (Cancel folio right) = owners_then m at acts a folio ++ holder_then m at folio right
applicants m at acts a (Exchange folio recede rise) =
    holder_then m at folio recede ++ (holder_then m at folio rise
    ++ (if stands_in_division_three at folio recede then owners_then m at acts a folio else []))
applicants m at acts a (Exercise folio behind spec) = owners_then m at acts a folio ++ spec.holder ∷ []

-- the applicants of the filings before filing m that wait at the right with these entries
abbrev pub waiting_applicants : List Receipt → ℕ → List Entry → List ℕ
waiting_applicants journal m entries = filter_map (applicant_of journal) (waiting_before m entries)

-- who else consents to a cancellation without proof: the applicants of the earlier filings that wait at the right (BGB § 876)
abbrev pub others : List Receipt → ℕ → List Doc → (Key → List Entry) → ℕ → Act → List ℕ
others journal m docs at a (Cancel folio right) =
    if has_proof docs a then [] else waiting_applicants journal m (at (Right folio right))
others journal m docs at a (Open folio inventory owners) = []
others journal m docs at a (Transfer folio owners) = []
others journal m docs at a (Create folio spec reserve) = []
others journal m docs at a (NoticeFor folio spec) = []
others journal m docs at a (Convert folio right) = []
others journal m docs at a (Assign folio right holder) = []
others journal m docs at a (Exchange folio recede rise) = []
others journal m docs at a (Exercise folio behind spec) = []

-- all whose consent the act needs
abbrev pub needed : List Receipt → ℕ → List Doc → (Key → List Entry) → List Act → ℕ → Act → List ℕ
needed journal m docs at acts a act =
    affected m docs at acts a act ++ (owner_side m docs at acts a act ++ others journal m docs at a act)
