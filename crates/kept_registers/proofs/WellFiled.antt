-- A filing of a journal is well formed.
use Rattle.std.proofs.Common.{◌≡◌, ℕ, ◌-◌, eqb, true, false, cond, List, [], ◌∷◌, All, IsTrue, zero, suc, Some, None, option_and_then, is_some, subst, ap}
use Rattle.std.specs.List.{slice_get}
use Rattle.std.specs.Option.{option_map_or}
use Rattle.std.proofs.lemmas.Bool.{false≢true}
use Rattle.std.proofs.lemmas.List.Elements.{All-head, All-tail}
use Rattle.act_model.specs.Receiving.{IsJournal}
use Rattle.act_model.specs.Touches.{filing_at, filing_in}
use Rattle.act_model.specs.WellFormed.{is_filing, well_formed}
use Rattle.act_model.specs.declared.items.Filing.{Filing}
use Rattle.act_model.specs.declared.items.Item.{Item}
use Rattle.act_model.specs.declared.items.Item.TheVariants as item
use Rattle.act_model.specs.declared.receipts.Receipt.{Receipt}

filing_well : (w : Item) (f : Filing) → IsTrue (well_formed w) → filing_in w ≡ Some f → IsTrue (is_filing f)
filing_well (item.Filing g) f well is = subst (λ o. IsTrue (option_map_or is_filing o true)) is well
filing_well other f well is = absurd (false≢true (ap is_some is))

got_well : (rs : List Receipt) (k : ℕ) (f : Filing) → All (λ r. IsTrue (well_formed r.item)) rs → option_and_then (λ r. filing_in r.item) (slice_get rs k) ≡ Some f → IsTrue (is_filing f)
got_well [] k f well is = absurd (false≢true (ap is_some is))
got_well (r ∷ rs) zero f well is = filing_well r.item f (All-head (λ q. IsTrue (well_formed q.item)) r rs well) is
got_well (r ∷ rs) (suc k) f well is = got_well rs k f (All-tail (λ q. IsTrue (well_formed q.item)) r rs well) is

pub well_filed : (journal : List Receipt) (m : ℕ) (f : Filing) → IsJournal journal → filing_at journal m ≡ Some f → IsTrue (is_filing f)
well_filed journal m f stands =
    elim (eqb m 0) as (λ b. option_and_then (λ r. filing_in r.item) (cond b None (slice_get journal (m - 1))) ≡ Some f → IsTrue (is_filing f)) [
      | true ↦ λ is. absurd (false≢true (ap is_some is))
      | false ↦ λ is. got_well journal (m - 1) f stands.items is
    ]
