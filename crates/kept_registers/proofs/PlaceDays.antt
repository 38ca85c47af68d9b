-- The places at a title ascend with their days, and each names the divisions in which its filing creates rights.
use Rattle.std.proofs.Common.{◌≡◌, ℕ, zero, ◌-◌, ◌<◌, ◌≤◌, true, false, cond, eqb, List, [], ◌∷◌, suc, get_or, slice_get, AllPairs, IfSome, Option, Some, None, option_map, refl, sym, ap, subst, ◌∙◌, ⊎_elim, arith}
use Rattle.std.specs.List.{AllByRecursion, cons_option}
use Rattle.std.proofs.lemmas.Bool.{cases_eq}
use Rattle.std.proofs.lemmas.Bool.Decides.{nat_tests}
use Rattle.std.proofs.lemmas.List.Elements.{All-from_recursion, recursion_from_All}
use Rattle.std.proofs.lemmas.Option.{get_or_from_slice_get, slice_get_within}
use Rattle.gb_base.specs.DayMinute.{DayMinute}
use Rattle.gb_base.specs.declared.keys.Key.{Key}
use Rattle.gb_base.specs.declared.keys.Key.TheVariants.{Title}
use Rattle.act_model.specs.declared.receipts.Receipt.{Receipt}
use Rattle.act_model.specs.Receiving.{IsJournal, is_before, receipt_at}
use Rattle.act_model.specs.Touches.{acts_of}
use Rattle.kept_registers.specs.Kept.{Kept}
use Rattle.kept_registers.specs.KeptPlaces.{SaysDivisions}
use Rattle.act_model.specs.Divisions.{create_in_division, creates_there}
use Rattle.folio_sections.specs.Places.{place_by, place_of, places, places_among}
use Rattle.folio_sections.specs.declared.entries.Entry.{Entry}
use Rattle.folio_sections.specs.declared.entries.What.{What}
use Rattle.folio_sections.specs.declared.entries.What.TheVariants as what
use Rattle.folio_sections.specs.declared.title_places.TitlePlace.{TitlePlace}
use Rattle.kept_registers.proofs.PlaceOrder.{Ascends, IsLater}

-- ---- the days of receipts

-- the stamp day of receipt n
abbrev stamp_day : List Receipt → ℕ → Option ℕ
stamp_day journal n = option_map (λ r. r.stamp.day) (receipt_at journal n)

-- the receipt of number n, of this day
record IsReceived (journal : List Receipt) (n day : ℕ) : Type 0 where
  receipt : Receipt
  above : 0 < n
  there : slice_get journal (n - 1) ≡ Some receipt
  on_day : receipt.stamp.day ≡ day

of_receipt : (journal : List Receipt) (n day : ℕ) (o : Option Receipt) → 0 < n → slice_get journal (n - 1) ≡ o → option_map (λ r. r.stamp.day) o ≡ Some day → IsReceived journal n day
of_receipt journal n day None above there is = absurd (cc is)
of_receipt journal n day (Some r) above there is = record { receipt = r; above = above; there = there; on_day = cc is }

received : (journal : List Receipt) (n day : ℕ) → stamp_day journal n ≡ Some day → IsReceived journal n day
received journal n day is =
    elim (eqb n 0) as (λ b. eqb n 0 ≡ b → option_map (λ r. r.stamp.day) (cond b None (slice_get journal (n - 1))) ≡ Some day → IsReceived journal n day) [
      | true ↦ λ none found. absurd (cc found)
      | false ↦ λ some found.
          let above : 0 < n = grind (arith, nat_tests, some) in of_receipt journal n day (slice_get journal (n - 1)) above refl found
    ] refl is

no_earlier_day : (a b : DayMinute) → is_before b a ≡ false → a.day ≤ b.day
no_earlier_day a b h = grind (arith, nat_tests, h)

-- a later receipt is of no earlier day
receipt_days : (journal : List Receipt) (m n d e : ℕ) → IsJournal journal → m ≤ n → stamp_day journal m ≡ Some d → stamp_day journal n ≡ Some e → d ≤ e
receipt_days journal m n d e stands less first second =
    ⊎_elim
    (λ same.
    let one : Some d ≡ Some e = sym first ∙ ap (stamp_day journal) same ∙ second in
    let day : d ≡ e = cc one in omega arith)
    (λ other.
    let r = received journal m d first in
    let s = received journal n e second in
    let above = r.above in
    let within = slice_get_within journal (n - 1) s.receipt s.there in
    let stamps : is_before (get_or journal (n - 1) r.receipt).stamp (get_or journal (m - 1) r.receipt).stamp ≡ false =
    stands.stamps (m - 1) (n - 1) r.receipt (omega arith) within in
    let before : (get_or journal (m - 1) r.receipt).stamp.day ≤ (get_or journal (n - 1) r.receipt).stamp.day =
    no_earlier_day (get_or journal (m - 1) r.receipt).stamp (get_or journal (n - 1) r.receipt).stamp stamps in
    let r_is = ap (λ (q : Receipt). q.stamp.day) (get_or_from_slice_get journal (m - 1) r.receipt r.receipt r.there) ∙ r.on_day in
    let s_is = ap (λ (q : Receipt). q.stamp.day) (get_or_from_slice_get journal (n - 1) s.receipt r.receipt s.there) ∙ s.on_day in
    omega arith)
    (cases_eq m n)

-- ---- pairs, by recursion

-- R holds of each element and each later one
abbrev Pairs : {X : Type 0} → (X → X → Type 0) → List X → Type 0
Pairs R [] = Unit {0}
Pairs R (x ∷ xs) = AllByRecursion (R x) xs × Pairs R xs

from_pairs : {X : Type 0} (R : X → X → Type 0) (xs : List X) → AllPairs R xs → Pairs R xs
from_pairs R [] all = tt
from_pairs R (x ∷ xs) all = (
  recursion_from_All (R x) xs (λ k d within. all 0 (suc k) d (omega arith) (omega arith)),
  from_pairs R xs (λ i j d less within. all (suc i) (suc j) d (omega arith) (omega arith)),
)

pub to_pairs : {X : Type 0} (R : X → X → Type 0) (xs : List X) → Pairs R xs → AllPairs R xs
to_pairs R [] all i j d less within = absurd (omega arith)
to_pairs R (x ∷ xs) all zero zero d less within = absurd (omega arith)
to_pairs R (x ∷ xs) all zero (suc j) d less within = All-from_recursion (R x) xs all.0 j d (omega arith)
to_pairs R (x ∷ xs) all (suc i) zero d less within = absurd (omega arith)
to_pairs R (x ∷ xs) all (suc i) (suc j) d less within = to_pairs R xs all.1 i j d (omega arith) (omega arith)

both_later : (p : TitlePlace) (ps : List TitlePlace) → AllByRecursion (λ q. p.filing < q.filing) ps → AllByRecursion (λ q. p.day ≤ q.day) ps → AllByRecursion (IsLater p) ps
both_later p [] filings days = tt
both_later p (q ∷ ps) filings days = ((filings.0, days.0), both_later p ps filings.1 days.1)

both_ascend : (ps : List TitlePlace) → Pairs (λ p q. p.filing < q.filing) ps → Pairs (λ p q. p.day ≤ q.day) ps → Ascends ps
both_ascend [] filings days = tt
both_ascend (p ∷ ps) filings days = (both_later p ps filings.0 days.0, both_ascend ps filings.1 days.1)

-- ---- the places that entries set

all_cons : (P : TitlePlace → Type 0) (o : Option TitlePlace) (ps : List TitlePlace) → IfSome o P → AllByRecursion P ps → AllByRecursion P (cons_option o ps)
all_cons P None ps one all = all
all_cons P (Some p) ps one all = (one, all)

-- what follows of each entry holds of the place that it sets
all_places : (journal : List Receipt) (folio : ℕ) (P : TitlePlace → Type 0) (Q : Entry → Type 0) (es : List Entry) → ((e : Entry) → Q e → IfSome (place_by journal folio e.day e.what) P)
    → AllByRecursion Q es → AllByRecursion P (places_among journal folio es)
all_places journal folio P Q [] each all = tt
all_places journal folio P Q (e ∷ es) each all =
    all_cons P (place_by journal folio e.day e.what) (places_among journal folio es) (each e all.0) (all_places journal folio P Q es each all.1)

-- a place is of the day of its entry
on_its_day : (journal : List Receipt) (folio day : ℕ) (w : What) → IfSome (place_by journal folio day w) (λ p. p.day ≡ day)
on_its_day journal folio day (what.Placed filing second third) = refl
on_its_day journal folio day (what.Notice filing) =
    elim (creates_there journal folio filing) as (λ b. IfSome (cond b (Some (place_of journal folio day filing)) None) (λ p. p.day ≡ day)) [
      | true ↦ refl
      | false ↦ tt
    ]
on_its_day journal folio day other = tt

no_earlier : (o : Option TitlePlace) (d day : ℕ) → d ≤ day → IfSome o (λ p. p.day ≡ day) → IfSome o (λ p. d ≤ p.day)
no_earlier None d day less is = tt
no_earlier (Some p) d day less is = omega arith

days_cons : (o : Option TitlePlace) (day : ℕ) (ps : List TitlePlace) → IfSome o (λ p. p.day ≡ day) → AllByRecursion (λ q. day ≤ q.day) ps → Pairs (λ (p q : TitlePlace). p.day ≤ q.day) ps
    → Pairs (λ (p q : TitlePlace). p.day ≤ q.day) (cons_option o ps)
days_cons None day ps is later pairs = pairs
days_cons (Some p) day ps is later pairs = (subst (λ d. AllByRecursion (λ (q : TitlePlace). d ≤ q.day) ps) (sym is) later, pairs)

place_days : (journal : List Receipt) (folio : ℕ) (es : List Entry) → Pairs (λ (e later : Entry). e.day ≤ later.day) es → Pairs (λ (p q : TitlePlace). p.day ≤ q.day) (places_among journal folio es)
place_days journal folio [] pairs = tt
place_days journal folio (e ∷ es) pairs =
    days_cons (place_by journal folio e.day e.what) e.day (places_among journal folio es) (on_its_day journal folio e.day e.what)
    (all_places journal folio (λ q. e.day ≤ q.day) (λ later. e.day ≤ later.day) es
    (λ later less. no_earlier (place_by journal folio later.day later.what) e.day later.day less (on_its_day journal folio later.day later.what)) pairs.0)
    (place_days journal folio es pairs.1)

-- the days of the places of a folio never fall
days_in_turn : (journal : List Receipt) (at : Key → List Entry) (folio : ℕ) → IsJournal journal → Kept journal at → Pairs (λ (p later : TitlePlace). p.day ≤ later.day) (places journal at folio)
days_in_turn journal at folio stands kept =
    let title = at (Title folio) in
    let rise = kept.receipts_rise in
    let entry_days : AllPairs (λ (e later : Entry). e.day ≤ later.day) title =
    λ i j d less within.
    receipt_days journal (get_or title i d).receipt (get_or title j d).receipt (get_or title i d).day (get_or title j d).day stands
    (rise.never_fall (Title folio) i j d less within) (rise.days (Title folio) i d (omega arith)) (rise.days (Title folio) j d within) in
    place_days journal folio title (from_pairs (λ (e later : Entry). e.day ≤ later.day) title entry_days)

pub days_never_fall : (journal : List Receipt) (at : Key → List Entry) (folio : ℕ) → IsJournal journal → Kept journal at → AllPairs (λ p later. p.day ≤ later.day) (places journal at folio)
days_never_fall journal at folio stands kept =
    to_pairs (λ (p later : TitlePlace). p.day ≤ later.day) (places journal at folio) (days_in_turn journal at folio stands kept)

-- the places of a folio ascend by filing, and their days never fall
pub places_ascend : (journal : List Receipt) (at : Key → List Entry) (folio : ℕ) → IsJournal journal → Kept journal at → Ascends (places journal at folio)
places_ascend journal at folio stands kept =
    both_ascend (places journal at folio)
    (from_pairs (λ (p q : TitlePlace). p.filing < q.filing) (places journal at folio) (kept.places_ascend.ascend folio))
    (days_in_turn journal at folio stands kept)

-- ---- the divisions that a place names

-- the place says in which divisions its filing creates rights in the folio
abbrev pub NamesDivisions : List Receipt → ℕ → TitlePlace → Type 0
NamesDivisions journal folio p =
    (p.second ≡ create_in_division false folio (acts_of journal p.filing)) × (p.third ≡ create_in_division true folio (acts_of journal p.filing))

names_divisions : (journal : List Receipt) (folio day : ℕ) (w : What) → SaysDivisions journal folio w → IfSome (place_by journal folio day w) (NamesDivisions journal folio)
names_divisions journal folio day (what.Placed filing second third) says = says
names_divisions journal folio day (what.Notice filing) says =
    elim (creates_there journal folio filing) as (λ b. IfSome (cond b (Some (place_of journal folio day filing)) None) (NamesDivisions journal folio)) [
      | true ↦ (refl, refl)
      | false ↦ tt
    ]
names_divisions journal folio day other says = tt

pub places_name : (journal : List Receipt) (at : Key → List Entry) (folio : ℕ) → Kept journal at → AllByRecursion (NamesDivisions journal folio) (places journal at folio)
places_name journal at folio kept =
    all_places journal folio (NamesDivisions journal folio) (λ e. SaysDivisions journal folio e.what) (at (Title folio))
    (λ e says. names_divisions journal folio e.day e.what says)
    (recursion_from_All (λ e. SaysDivisions journal folio e.what) (at (Title folio)) (kept.places_ascend.divisions folio))
