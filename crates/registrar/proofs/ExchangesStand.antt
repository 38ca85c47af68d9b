-- What holds once of exchanges and reservations goes on to hold; and how many entries use a reservation.
use Rattle.std.proofs.Common.{◌≡◌, ℕ, ◌+◌, Bool, cond, List, [], ◌∷◌, ◌++◌, IsSome, IsSomeAnd, Option, Some, None, count_by, is_some, refl, ap, ◌∙◌, arith}
use Rattle.std.specs.List.{AllByRecursion}
use Rattle.std.proofs.lemmas.List.Sums.{sum_by-append, sum_by_from}
use Rattle.gb_base.specs.RightNo.{RightNo}
use Rattle.gb_base.specs.declared.keys.Key.{Key}
use Rattle.gb_base.specs.declared.keys.Key.TheVariants.{Title, Right, Case}
use Rattle.act_model.specs.declared.receipts.Receipt.{Receipt}
use Rattle.kept_registers.specs.KeptRights.{ActsOnItsKind, IsUntied, StandsAhead, StandsUntied}
use Rattle.folio_sections.specs.Rights.{created, is_exercise}
use Rattle.folio_sections.specs.declared.entries.Created.{Created}
use Rattle.folio_sections.specs.declared.entries.Entry.{Entry}
use Rattle.folio_sections.specs.declared.entries.What.{What}
use Rattle.folio_sections.specs.declared.entries.What.TheVariants as what
use Rattle.registrar.proofs.LeavingRights.{LeavesRights}
use Rattle.registrar.proofs.RightReads.{SameReads}

-- ---- what holds once goes on to hold, as long as the rights read as they did

abbrev pub ReadOn : (Key → List Entry) → (Key → List Entry) → Type 0
ReadOn at0 at1 = (folio : ℕ) (right : RightNo) → SameReads (created (at0 (Right folio right))) (created (at1 (Right folio right)))

untied_by : (journal : List Receipt) (right : RightNo) (before after : Option Created) → SameReads before after → IsSomeAnd before (IsUntied journal right) → IsSomeAnd after (IsUntied journal right)
untied_by journal right None after same is = absurd is
untied_by journal right (Some made) None same is = absurd same
untied_by journal right (Some made) (Some again) same is =
    record { alone = is.alone; no_reserve = same.0 ∙ is.no_reserve; no_exercise = same.1 ∙ is.no_exercise }

pub reserved_by : (before after : Option Created) → SameReads before after → IsSomeAnd before (λ made. IsSome made.reserve) → IsSomeAnd after (λ made. IsSome made.reserve)
reserved_by None after same is = absurd is
reserved_by (Some made) None same is = absurd same
reserved_by (Some made) (Some again) same is = ap is_some same.0 ∙ is

ahead_by : (right : RightNo) (before after : Option Created) → SameReads before after → IsSomeAnd before (λ made. made.ahead_of ≡ Some right) → IsSomeAnd after (λ made. made.ahead_of ≡ Some right)
ahead_by right None after same is = absurd is
ahead_by right (Some made) None same is = absurd same
ahead_by right (Some made) (Some again) same is = same.1 ∙ is

pub untied_stays : (journal : List Receipt) (at0 at1 : Key → List Entry) (folio : ℕ) (right : RightNo) → ReadOn at0 at1 → StandsUntied journal at0 folio right → StandsUntied journal at1 folio right
untied_stays journal at0 at1 folio right same is =
    untied_by journal right (created (at0 (Right folio right))) (created (at1 (Right folio right))) (same folio right) is

pub kind_stays : (journal : List Receipt) (at0 at1 : Key → List Entry) (folio : ℕ) (right : RightNo) (w : What) → ReadOn at0 at1 → ActsOnItsKind journal at0 folio right w → ActsOnItsKind journal at1 folio right w
kind_stays journal at0 at1 folio right (what.Exchanged recede rise act) same is =
    (untied_stays journal at0 at1 folio recede same is.0, untied_stays journal at0 at1 folio rise same is.1, is.2, is.3)
kind_stays journal at0 at1 folio right (what.Exercised by) same is =
    let ahead : StandsAhead at1 folio right by =
    (ahead_by right (created (at0 (Right folio by))) (created (at1 (Right folio by))) (same folio by) is.1.0, is.1.1) in
    (reserved_by (created (at0 (Right folio right))) (created (at1 (Right folio right))) (same folio right) is.0, ahead)
kind_stays journal at0 at1 folio right other same is = tt

-- ---- new entries

-- at its key, an entry exchanges and exercises only what it may
abbrev pub ActsAt : List Receipt → (Key → List Entry) → Key → Entry → Type 0
ActsAt journal at0 (Right folio right) e = ActsOnItsKind journal at0 folio right e.what
ActsAt journal at0 (Title folio) e = Unit {0}
ActsAt journal at0 (Case folio) e = Unit {0}

leaves_kind : (journal : List Receipt) (at0 : Key → List Entry) (folio : ℕ) (right : RightNo) (w : What) → LeavesRights w → ActsOnItsKind journal at0 folio right w
leaves_kind journal at0 folio right (what.Exchanged recede rise act) leaves = absurd leaves
leaves_kind journal at0 folio right (what.Exercised by) leaves = absurd leaves
leaves_kind journal at0 folio right other leaves = tt

pub leaves_acts : (journal : List Receipt) (at0 : Key → List Entry) (k : Key) (e : Entry) → LeavesRights e.what → ActsAt journal at0 k e
leaves_acts journal at0 (Right folio right) e leaves = leaves_kind journal at0 folio right e.what leaves
leaves_acts journal at0 (Title folio) e leaves = tt
leaves_acts journal at0 (Case folio) e leaves = tt

-- 1 where it holds
abbrev pub tally : Bool → ℕ
tally b = cond b 1 0

-- how many of these use a right's reservation
abbrev pub exercises : List Entry → ℕ
exercises es = count_by (λ (e : Entry). is_exercise e.what) es

pub exercises_both : (xs ys : List Entry) → exercises (xs ++ ys) ≡ exercises xs + exercises ys
exercises_both xs ys = sum_by-append (λ (e : Entry). tally (is_exercise e.what)) xs ys

pub exercises_first : (e : Entry) (es : List Entry) → exercises (e ∷ es) ≡ tally (is_exercise e.what) + exercises es
exercises_first e es = sum_by_from (λ (d : Entry). tally (is_exercise d.what)) (0 + tally (is_exercise e.what)) es ∙ omega arith

leaves_reservation : (w : What) → LeavesRights w → tally (is_exercise w) ≡ 0
leaves_reservation (what.Exercised by) leaves = absurd leaves
leaves_reservation other leaves = refl

pub none_exercised : (es : List Entry) → AllByRecursion (λ e. LeavesRights e.what) es → exercises es ≡ 0
none_exercised [] all = refl
none_exercised (e ∷ es) all =
    let first = leaves_reservation e.what all.0 in
    let rest = none_exercised es all.1 in
    let both = exercises_first e es in
    omega arith
