-- What every register that comes about keeps of awards (ZVG §§ 66, 81, 90, 91).
-- Why so: docs/DECISIONS.md, "An award stands on what it found".
use Rattle.std.specs.Prelude.{◌≡◌, ℕ, ◌≤◌, Bool, true, false, List, ◌∷◌, ◌++◌, All, Any, IsSomeAnd, IsTrue, None}
use Rattle.gb_base.specs.RightNo.{RightNo}
use Rattle.gb_base.specs.declared.keys.Key.{Key}
use Rattle.gb_base.specs.declared.keys.Key.TheVariants.{Title, Right, Case}
use Rattle.act_model.specs.declared.receipts.Receipt.{Receipt}
use Rattle.folio_sections.specs.Cases.{award}
use Rattle.folio_sections.specs.Fronts.{below}
use Rattle.folio_sections.specs.Rights.{is_live}
use Rattle.folio_sections.specs.declared.entries.Entry.{Entry}
use Rattle.folio_sections.specs.declared.entries.What.{What}
use Rattle.folio_sections.specs.declared.entries.What.TheVariants as what
use Rattle.auction_classes.specs.Sales.{sale_at}
use Rattle.sale_rules.specs.SaleGrounds.{lacks_call, lowest}

-- a content makes the buyer the owner by an award (ZVG § 90)
abbrev pub makes_owner : What → Bool
makes_owner (what.AwardOwner buyer) = true
makes_owner other = false

-- a content says what an award leaves of a right: so much, or nothing (ZVG §§ 52, 91)
abbrev pub says_what_is_left : What → Bool
says_what_is_left (what.Remains capital) = true
says_what_is_left what.Expired = true
says_what_is_left other = false

-- a content seizes the land, calls to bid or awards, which no content does after an award of its case (ZVG § 81)
abbrev pub ends_with_award : What → Bool
ends_with_award what.Seized = true
ends_with_award (what.Bids costs) = true
ends_with_award (what.Awarded buyer bid) = true
ends_with_award other = false

-- among these entries is one by receipt n with such a content
abbrev pub StandsBy : (What → Bool) → ℕ → List Entry → Type 0
StandsBy says n entries = Any (λ e. (e.receipt ≡ n) × IsTrue (says e.what)) entries

-- An award by receipt n at this bid: as it found the sale, somebody was called to bid, a seizure was served, so that there was a
-- lowest bid, and the bid is no less than the part of it that is paid in cash. By it the buyer is the owner, and of each right that
-- was live it says what is left.
pub record IsAwardKept (journal : List Receipt) (at : Key → List Entry) (folio n bid : ℕ) : Type 0 where
  pub called : lacks_call (sale_at journal at folio n) ≡ false
  pub paid : IsSomeAnd (lowest (sale_at journal at folio n)) (λ least. least.cash ≤ bid)
  pub owned : StandsBy makes_owner n (at (Title folio))
  pub left : (right : RightNo) → IsTrue (is_live (below n (at (Right folio right)))) → StandsBy says_what_is_left n (at (Right folio right))

-- a content by receipt n that awards the land is an award that is kept
abbrev pub AwardsAsKept : List Receipt → (Key → List Entry) → ℕ → ℕ → What → Type 0
AwardsAsKept journal at folio n (what.Awarded buyer bid) = IsAwardKept journal at folio n bid
AwardsAsKept journal at folio n other = Unit {0}

-- before each seizure, call and award stands no award of its case; only a distribution ends a case (ZVG §§ 81, 105)
abbrev pub EndWithAward : List Entry → Type 0
EndWithAward entries = (before after : List Entry) (e : Entry) → entries ≡ before ++ e ∷ after → IsTrue (ends_with_award e.what) → award before ≡ None

-- Each award stands as it was given, and no case is seized, called or awarded after its award.
pub record AwardsKept (journal : List Receipt) (at : Key → List Entry) : Type 0 where
  pub awards : (folio : ℕ) → All (λ e. AwardsAsKept journal at folio e.receipt e.what) (at (Case folio))
  pub ends : (folio : ℕ) → EndWithAward (at (Case folio))
