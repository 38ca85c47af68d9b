-- What holds of the rights of a register that comes about: they are as they were filed, and only what may be exchanged or exercised is.
use Rattle.std.specs.Prelude.{◌≡◌, ℕ, ◌<◌, ◌≤◌, false, List, All, Any, count_by, IsSome, IsSomeAnd, Some, None}
use Rattle.gb_base.specs.Limits.{most_acts}
use Rattle.gb_base.specs.RightNo.{RightNo}
use Rattle.gb_base.specs.declared.keys.Key.{Key}
use Rattle.gb_base.specs.declared.keys.Key.TheVariants.{Title, Right}
use Rattle.act_model.specs.declared.filing_acts.Act.{Act}
use Rattle.act_model.specs.declared.receipts.Receipt.{Receipt}
use Rattle.act_model.specs.Acts.{folio_of, is_in_division_three, right_created, reserve_of, right_behind}
use Rattle.act_model.specs.Creations.{creating_rank}
use Rattle.act_model.specs.Touches.{act_of_right}
use Rattle.act_model.specs.Groups.{shares_its_group}
use Rattle.act_model.specs.Limits.{most_creations}
use Rattle.folio_sections.specs.Places.{behind, own_place, place_by, places}
use Rattle.folio_sections.specs.Rights.{created, is_exercise}
use Rattle.folio_sections.specs.declared.entries.Created.{Created}
use Rattle.folio_sections.specs.declared.entries.Entry.{Entry}
use Rattle.folio_sections.specs.declared.entries.What.{What}
use Rattle.folio_sections.specs.declared.entries.What.TheVariants as what
use Rattle.folio_sections.specs.declared.title_places.TitlePlace.{TitlePlace}

-- the right is as this act creates it in the folio
pub record IsAsFiled (folio : ℕ) (made : Created) (act : Act) : Type 0 where
  pub there : folio_of act ≡ folio
  pub spec : right_created act ≡ Some made.spec
  pub reserve : made.reserve ≡ reserve_of act
  pub ahead_of : made.ahead_of ≡ right_behind act

-- the entry sets the place of filing m in the folio, by this receipt or an earlier one
abbrev pub SetsPlace : List Receipt → ℕ → ℕ → ℕ → Entry → Type 0
SetsPlace journal folio m receipt e = IsSomeAnd (place_by journal folio e.day e.what) (λ p. p.filing ≡ m) × (e.receipt ≤ receipt)

-- A right that is entered: the journal has its creating act, which is among the first `most_creations` of its folio, and its filing has its place by then.
pub record IsCreatedAsFiled (journal : List Receipt) (at : Key → List Entry) (folio : ℕ) (right : RightNo) (receipt : ℕ) (made : Created) : Type 0 where
  pub filed : IsSomeAnd (act_of_right journal right) (IsAsFiled folio made)
  pub rank : IsSomeAnd (creating_rank journal right) (λ n. n ≤ most_creations)
  pub placed : Any (SetsPlace journal folio right.receipt receipt) (at (Title folio))

-- a content that enters a right enters it as it was filed
abbrev pub EntersAsFiled : List Receipt → (Key → List Entry) → ℕ → RightNo → ℕ → What → Type 0
EntersAsFiled journal at folio right receipt (what.Created made) = IsCreatedAsFiled journal at folio right receipt made
EntersAsFiled journal at folio right receipt other = Unit {0}

-- Each right is entered as the journal has it filed.
pub record CreatedAsFiled (journal : List Receipt) (at : Key → List Entry) : Type 0 where
  pub filed : (folio : ℕ) (right : RightNo) → All (λ e. EntersAsFiled journal at folio right e.receipt e.what) (at (Right folio right))

-- A right that is entered stands at the place of its filing. It has the day of that place, stands behind what the places say
-- (GBO § 45(2)), and shares its group where its filing has another right of that group.
pub record StandsAtItsPlace (journal : List Receipt) (standing : List TitlePlace) (right : RightNo) (made : Created) : Type 0 where
  pub on_day : IsSomeAnd (own_place right.receipt standing) (λ p. p.day ≡ made.placed)
  pub stands_behind : behind (is_in_division_three made.spec.kind) right.receipt standing ≡ made.behind
  pub shares_group : made.equal ≡ shares_its_group journal right

-- a content that enters a right enters it at its place
abbrev pub EntersInPlace : List Receipt → List TitlePlace → RightNo → What → Type 0
EntersInPlace journal standing right (what.Created made) = StandsAtItsPlace journal standing right made
EntersInPlace journal standing right other = Unit {0}

-- What is entered of each right is what the places at the title and the journal say of it.
pub record EnteredInPlace (journal : List Receipt) (at : Key → List Entry) : Type 0 where
  pub in_place : (folio : ℕ) (right : RightNo) → All (λ e. EntersInPlace journal (places journal at folio) right e.what) (at (Right folio right))

-- The right stands alone in its group, without a reservation and not in the rank of one.
pub record IsUntied (journal : List Receipt) (right : RightNo) (made : Created) : Type 0 where
  pub alone : shares_its_group journal right ≡ false
  pub no_reserve : made.reserve ≡ None
  pub no_exercise : made.ahead_of ≡ None

-- the right is entered, and it is untied
abbrev pub StandsUntied : List Receipt → (Key → List Entry) → ℕ → RightNo → Type 0
StandsUntied journal at folio right = IsSomeAnd (created (at (Right folio right))) (IsUntied journal right)

-- the right was entered in the rank of this one's reservation, by a later filing
abbrev pub StandsAhead : (Key → List Entry) → ℕ → RightNo → RightNo → Type 0
StandsAhead at folio right by =
    IsSomeAnd (created (at (Right folio by))) (λ made. made.ahead_of ≡ Some right) × (right.receipt < by.receipt)

-- A content at a right exchanges untied rights alone, by an act whose number a filing may have, and exercises only a
-- reservation that the right has.
abbrev pub ActsOnItsKind : List Receipt → (Key → List Entry) → ℕ → RightNo → What → Type 0
ActsOnItsKind journal at folio right (what.Exchanged recede rise act) =
    StandsUntied journal at folio recede × StandsUntied journal at folio rise × (1 ≤ act) × (act ≤ most_acts)
ActsOnItsKind journal at folio right (what.Exercised by) =
    IsSomeAnd (created (at (Right folio right))) (λ made. IsSome made.reserve) × StandsAhead at folio right by
ActsOnItsKind journal at folio right other = Unit {0}

-- Untied rights alone are exchanged (BGB § 880). A reservation is exercised at most once, by a right of a later filing (BGB § 881).
pub record ExchangedAreUntied (journal : List Receipt) (at : Key → List Entry) : Type 0 where
  pub kinds : (folio : ℕ) (right : RightNo) → All (λ e. ActsOnItsKind journal at folio right e.what) (at (Right folio right))
  pub once : (folio : ℕ) (right : RightNo) → count_by (λ e. is_exercise e.what) (at (Right folio right)) ≤ 1
