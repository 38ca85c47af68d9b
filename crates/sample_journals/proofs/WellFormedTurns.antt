-- Each turn of the generator makes a well-formed item, and keeps what it says of a folio's rights.
use Rattle.std.proofs.Common.{◌≡◌, ℕ, ◌+◌, ◌*◌, ◌<◌, Bool, true, false, List, length, get_or, set, Option, Some, None, IsTrue, if◌then◌else◌, ◌==◌, refl, sym, subst, arith}
use Rattle.std.proofs.Math.Nat.{mod-lt}
use Rattle.std.specs.List.{All}
use Rattle.std.proofs.lemmas.Bool.{cond_both}
use Rattle.std.proofs.lemmas.Bool.Decides.{nat_tests}
use Rattle.std.proofs.lemmas.List.Elements.{All-set}
use Rattle.gb_base.specs.RightNo.{RightNo, same_right}
use Rattle.act_model.specs.declared.documents.Form.{Form}
use Rattle.act_model.specs.declared.documents.Form.TheVariants as form
use Rattle.act_model.specs.declared.items.Item.{Item}
use Rattle.act_model.specs.WellFormed.{is_amount, well_formed}
use Rattle.sample_journals.specs.declared.folio_notes.FolioNotes.{FolioNotes}
use Rattle.sample_journals.specs.declared.folio_notes.KnownRight.{KnownRight}
use Rattle.sample_journals.specs.declared.folio_notes.SaleStep.{SaleStep}
use Rattle.sample_journals.specs.declared.folio_notes.SaleStep.TheVariants as sale
use Rattle.sample_journals.specs.Draws.{drawn}
use Rattle.sample_journals.specs.SampleFilings.{charge_drawn, creation, exchange}
use Rattle.sample_journals.specs.Turns.{Turn, cancels, creates, creates_in_plain_form, cures, exchanges, notes_after_sale, right_created_by, sale_item, sells, transfers, turn}
use Rattle.sample_journals.specs.inner.KnownBefore.{AreBefore, AreInOrder, IsBefore}

-- the item of receipt k is well formed, and the rights kept after it were created before the next receipt
pub record GoesOn (k : ℕ) (made : Turn) : Type 0 where
  pub well : IsTrue (well_formed made.item)
  pub before : AreBefore (k + 1) made.notes

amount : (c : ℕ) → c < 50 → is_amount (100000 * (1 + c)) ≡ true
amount c h = grind (arith, nat_tests)

creation_well : (folio owner : ℕ) (form : Form) (x : ℕ) → well_formed (creation folio owner form (charge_drawn x)) ≡ true
creation_well folio owner form x = rw (amount (drawn x 50) (mod-lt _ (omega arith))) refl

other_right : (a b : RightNo) → a.receipt < b.receipt → same_right a b ≡ false
other_right a b h = grind (arith, nat_tests)

exchange_well : (folio owner holder : ℕ) (recede rise : RightNo) → recede.receipt < rise.receipt → well_formed (exchange folio owner recede holder rise) ≡ true
exchange_well folio owner holder recede rise h = rw (other_right recede rise h) refl

sale_well : (step : SaleStep) (k folio : ℕ) → well_formed (sale_item step k folio) ≡ true
sale_well sale.Seizure k folio = refl
sale_well sale.Call k folio = refl
sale_well sale.Award k folio = refl
sale_well sale.Distribution k folio = refl

later : (k : ℕ) (known : Option KnownRight) → IsBefore k known → IsBefore (k + 1) known
later k None h = tt
later k (Some right) h = omega (arith, h)

pub all_later : (k : ℕ) (notes : FolioNotes) → AreBefore k notes → AreBefore (k + 1) notes
all_later k notes h =
    record { newest = later k notes.newest h.newest; second = later k notes.second h.second; in_order = h.in_order }

newest_last : (k holder : ℕ) (known : Option KnownRight) → IsBefore k known → AreInOrder known (Some (right_created_by k holder))
newest_last k holder None h = tt
newest_last k holder (Some right) h = h

none_newest : (known : Option KnownRight) → AreInOrder None known
none_newest known = tt

creates_on : (k folio : ℕ) (notes : FolioNotes) (x : ℕ) → AreBefore k notes → GoesOn k (creates k folio notes x)
creates_on k folio notes x h = record {
  well = creation_well folio notes.owner form.Certified x;
  before = record {
    newest = omega arith;
    second = later k notes.newest h.newest;
    in_order = newest_last k (charge_drawn x).holder notes.newest h.newest;
  };
}

waits_on : (k folio : ℕ) (notes : FolioNotes) (x : ℕ) → AreBefore k notes → GoesOn k (creates_in_plain_form k folio notes x)
waits_on k folio notes x h = let on = all_later k notes h in record {
  well = creation_well folio notes.owner form.Plain x;
  before = record { newest = on.newest; second = on.second; in_order = on.in_order };
}

transfers_on : (k folio : ℕ) (notes : FolioNotes) (x : ℕ) → AreBefore k notes → GoesOn k (transfers k folio notes x)
transfers_on k folio notes x h = let on = all_later k notes h in record {
  well = refl;
  before = record { newest = on.newest; second = on.second; in_order = on.in_order };
}

cures_on : (waiting : Option ℕ) (k folio : ℕ) (notes : FolioNotes) (x : ℕ) → AreBefore k notes → GoesOn k (cures waiting k folio notes x)
cures_on None k folio notes x h = creates_on k folio notes x h
cures_on (Some filing) k folio notes x h = let on = all_later k notes h in record {
  well = refl;
  before = record { newest = on.newest; second = on.second; in_order = on.in_order };
}

exchanges_on : (second newest : Option KnownRight) (k folio : ℕ) (notes : FolioNotes) (x : ℕ) → AreInOrder second newest → AreBefore k notes → GoesOn k (exchanges second newest k folio notes x)
exchanges_on None newest k folio notes x order h = creates_on k folio notes x h
exchanges_on (Some second) None k folio notes x order h = creates_on k folio notes x h
exchanges_on (Some second) (Some newest) k folio notes x order h =
    record { well = exchange_well folio notes.owner second.holder second.right newest.right order; before = all_later k notes h }

cancels_on : (newest : Option KnownRight) (k folio : ℕ) (notes : FolioNotes) (x : ℕ) → AreBefore k notes → GoesOn k (cancels newest k folio notes x)
cancels_on None k folio notes x h = creates_on k folio notes x h
cancels_on (Some newest) k folio notes x h =
    record { well = refl; before = record { newest = later k notes.second h.second; second = tt; in_order = tt } }

after_sale : (step : SaleStep) (k j : ℕ) (notes : FolioNotes) → AreBefore k notes → AreBefore k (notes_after_sale step j notes)
after_sale sale.Seizure k j notes h = record { newest = h.newest; second = h.second; in_order = h.in_order }
after_sale sale.Call k j notes h = record { newest = h.newest; second = h.second; in_order = h.in_order }
after_sale sale.Award k j notes h = record { newest = h.newest; second = h.second; in_order = h.in_order }
after_sale sale.Distribution k j notes h = record { newest = h.newest; second = h.second; in_order = h.in_order }

sells_on : (k folio : ℕ) (notes : FolioNotes) (x : ℕ) → AreBefore k notes → GoesOn k (sells k folio notes x)
sells_on k folio notes x h =
    record { well = sale_well notes.next k folio; before = after_sale notes.next (k + 1) k notes (all_later k notes h) }

-- one of two cases
either : (k : ℕ) (test : Bool) (t u : Turn) → GoesOn k t → GoesOn k u → GoesOn k (if test then t else u)
either k test t u first other = cond_both test t u (GoesOn k) (λ e. first) (λ e. other)

pub turn_goes_on : (op k folio : ℕ) (notes : FolioNotes) (x : ℕ) → AreBefore k notes → GoesOn k (turn op k folio notes x)
unfolding turn
turn_goes_on op k folio notes x h =
    either k (op == 5) _ _ (transfers_on k folio notes x h)
    (either k (op == 6) _ _ (waits_on k folio notes x h)
    (either k (op == 7) _ _ (cures_on notes.uncertified k folio notes x h)
    (either k (op == 8) _ _ (exchanges_on notes.second notes.newest k folio notes x h.in_order h)
    (either k (op == 9) _ _ (cancels_on notes.newest k folio notes x h)
    (either k (op == 10) _ _ (sells_on k folio notes x h) (creates_on k folio notes x h))))))

-- a turn in one of the folios makes a well-formed item too, and keeps what it says of its rights
pub folio_goes_on :
    (op k folio x index : ℕ) (seen folios : List FolioNotes) (old new d : FolioNotes) (item : Item)
    → All (AreBefore k) seen → folios ≡ seen → index < length folios → old ≡ get_or folios index d
    → item ≡ (turn op k folio old x).item → new ≡ (turn op k folio old x).notes
    → IsTrue (well_formed item) × All (AreBefore (k + 1)) (set folios index new)
folio_goes_on op k folio x index seen folios old new d item before same there is made behind =
    let all : All (AreBefore k) folios = subst (All (AreBefore k)) (sym same) before in
    let on = turn_goes_on op k folio old x (subst (AreBefore k) (sym is) (all index d there)) in (
      subst (λ i. IsTrue (well_formed i)) (sym made) on.well,
      All-set (AreBefore (k + 1)) folios index new (subst (AreBefore (k + 1)) (sym behind) on.before) (λ j e h. all_later k (get_or folios j e) (all j e h)),
    )
