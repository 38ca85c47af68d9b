-- How a right reads once further entries come to it: as created, with its reserve and the right whose rank it takes up.
use Rattle.std.proofs.Common.{◌≡◌, ℕ, suc, zero, ◌<◌, Bool, true, false, cond, List, [], ◌∷◌, ◌++◌, Contains, IfSome, IsSomeAnd, Option, Some, None, fold, get_or, length, is_some, refl, sym, ap, subst, ◌∙◌, arith}
use Rattle.std.specs.List.{AllByRecursion}
use Rattle.std.proofs.lemmas.Bool.{false≢true}
use Rattle.std.proofs.lemmas.List.Sums.{fold-append}
use Rattle.gb_base.specs.RightNo.{RightNo}
use Rattle.act_model.specs.declared.filing_acts.Act.{Act}
use Rattle.act_model.specs.declared.receipts.Receipt.{Receipt}
use Rattle.kept_registers.specs.KeptRights.{IsAsFiled}
use Rattle.act_model.specs.Touches.{act_of_right}
use Rattle.folio_sections.specs.Rights.{created, created_by, is_live, live_by, live_right}
use Rattle.folio_sections.specs.declared.entries.Created.{Created}
use Rattle.folio_sections.specs.declared.entries.Entry.{Entry}
use Rattle.folio_sections.specs.declared.entries.What.{What}
use Rattle.folio_sections.specs.declared.entries.What.TheVariants as what
use Rattle.kept_registers.proofs.KeptOrder.{OfCreation, created_has}
use Rattle.registrar.proofs.ContainedParts.{first_of_both}
use Rattle.registrar.proofs.LeavingRights.{LeavesRights}

-- ---- the right as created

-- once created, it stays created
some_next : (before : Option Created) (w : What) → is_some before ≡ true → is_some (created_by before w) ≡ true
some_next before (what.Created made) some = refl
some_next before other some = some

pub some_from : (before : Option Created) (es : List Entry) → is_some before ≡ true → is_some (fold (λ b e. created_by b e.what) before es) ≡ true
some_from before [] some = some
some_from before (e ∷ es) some = some_from (created_by before e.what) es (some_next before e.what some)

-- contents that create no right leave a right as it was created
left_by : (before : Option Created) (w : What) → LeavesRights w → created_by before w ≡ before
left_by before (what.Created made) leaves = absurd leaves
left_by before other leaves = refl

left_from : (before : Option Created) (es : List Entry) → AllByRecursion (λ e. LeavesRights e.what) es → fold (λ b e. created_by b e.what) before es ≡ before
left_from before [] all = refl
left_from before (e ∷ es) all =
    ap (λ b. fold (λ c d. created_by c d.what) b es) (left_by before e.what all.0) ∙ left_from before es all.1

pub created_left : (xs ys : List Entry) → AllByRecursion (λ e. LeavesRights e.what) ys → created (xs ++ ys) ≡ created xs
created_left xs ys all = fold-append (λ b e. created_by b e.what) None xs ys ∙ left_from (created xs) ys all

-- the content creates the right
abbrev pub is_creation : What → Bool
is_creation (what.Created made) = true
is_creation other = false

created_here : (before : Option Created) (w : What) → is_creation w ≡ true → is_some (created_by before w) ≡ true
created_here before (what.Created made) creates = refl
created_here before other creates = absurd (false≢true creates)

-- one entry that creates a right is enough for it to be created
pub created_where : (es : List Entry) (e : Entry) → is_creation e.what ≡ true → Contains es e → is_some (created es) ≡ true
created_where es e creates among = by None es among.0 among.1 among.2
  where
    by : (before : Option Created) (ds : List Entry) (k : ℕ) → k < length ds → get_or ds k e ≡ e → is_some (fold (λ b d. created_by b d.what) before ds) ≡ true
    by before [] k within is = absurd (omega arith)
    by before (d ∷ ds) zero within is =
        some_from (created_by before d.what) ds (created_here before d.what (ap (λ (c : Entry). is_creation c.what) is ∙ creates))
    by before (d ∷ ds) (suc k) within is = by (created_by before d.what) ds k (omega arith) is

-- ---- a live right is created

live_next : (live : Bool) (before : Option Created) (w : What) → (live ≡ true → is_some before ≡ true) → live_by live w ≡ true → is_some (created_by before w) ≡ true
live_next live before (what.Created made) known h = refl
live_next live before (what.Cancelled expired) known h = absurd (false≢true h)
live_next live before what.Expired known h = absurd (false≢true h)
live_next live before other known h = known h

live_from : (live : Bool) (before : Option Created) (es : List Entry) → (live ≡ true → is_some before ≡ true) → fold (λ b e. live_by b e.what) live es ≡ true → is_some (fold (λ b e. created_by b e.what) before es) ≡ true
live_from live before [] known h = known h
live_from live before (e ∷ es) known h =
    live_from (live_by live e.what) (created_by before e.what) es (λ now. live_next live before e.what known now) h

pub live_is_created : (es : List Entry) → is_live es ≡ true → is_some (created es) ≡ true
live_is_created es live = live_from false None es (λ no. absurd (false≢true no)) live

pub live_right_is : (es : List Entry) → is_live es ≡ true → live_right es ≡ created es
live_right_is es live = ap (λ b. cond b (created es) None) live

-- ---- two readings of one right

-- where the right was created before, it is still created, with the same reserve and in the same rank
abbrev pub SameReads : Option Created → Option Created → Type 0
SameReads None after = Unit {0}
SameReads (Some made) None = ⊥
SameReads (Some made) (Some again) = (again.reserve ≡ made.reserve) × (again.ahead_of ≡ made.ahead_of)

pub same_itself : (before : Option Created) → SameReads before before
same_itself None = tt
same_itself (Some made) = (refl, refl)

-- the right is created here as its act in the journal says
abbrev pub AsItsAct : List Receipt → ℕ → RightNo → Created → Type 0
AsItsAct journal folio right made = IsSomeAnd (act_of_right journal right) (IsAsFiled folio made)

both_filed : (folio : ℕ) (act : Option Act) (before after : Option Created) → is_some after ≡ true → IfSome before (λ made. IsSomeAnd act (IsAsFiled folio made)) → IfSome after (λ made. IsSomeAnd act (IsAsFiled folio made)) → SameReads before after
both_filed folio act None after some old new = tt
both_filed folio act (Some made) None some old new = absurd (false≢true some)
both_filed folio None (Some made) (Some again) some old new = absurd old
both_filed folio (Some act) (Some made) (Some again) some old new =
    (new.reserve ∙ sym old.reserve, new.ahead_of ∙ sym old.ahead_of)

-- where each entry that creates the right does so as its act says, the first says the same as the last
pub same_reads : (journal : List Receipt) (folio : ℕ) (right : RightNo) (xs ys : List Entry) → AllByRecursion (λ e. OfCreation (AsItsAct journal folio right) e.what) (xs ++ ys) → SameReads (created xs) (created (xs ++ ys))
same_reads journal folio right xs ys all =
    by (created xs) refl
  where
    by : (before : Option Created) → created xs ≡ before → SameReads before (created (xs ++ ys))
    by None is = tt
    by (Some made) is =
        both_filed folio (act_of_right journal right) (Some made) (created (xs ++ ys))
        (subst (λ o. is_some o ≡ true) (sym (fold-append (λ b e. created_by b e.what) None xs ys)) (some_from (created xs) ys (ap is_some is)))
        (subst (λ o. IfSome o (AsItsAct journal folio right)) is (created_has (AsItsAct journal folio right) xs (first_of_both (λ e. OfCreation (AsItsAct journal folio right) e.what) xs ys all)))
        (created_has (AsItsAct journal folio right) (xs ++ ys) all)
