-- The creating acts of a folio stand in order, so one is found by halves.
use Rattle.std.proofs.Common.{◌≡◌, ℕ, ◌+◌, ◌*◌, ◌<◌, ◌≤◌, Bool, true, false, cond, not, eqb, ltb, leb, ◌&&◌, ◌||◌, List, [], ◌∷◌, ◌++◌, length, get_or, Some, None, IsTrue, zero, suc, ap, ◌∙◌, ⊎_elim, refl, arith}
use Rattle.std.proofs.lemmas.Bool.{and_parts, cases_eq, cases_lt, cond-false, cond-true}
use Rattle.std.proofs.lemmas.Bool.Decides.{nat_tests}
use Rattle.std.proofs.lemmas.Grind.{common_steps}
use Rattle.std.proofs.lemmas.List.Elements.{All-head, All-tail}
use Rattle.std.specs.List.{All, cons_option, enumerate_from, flat_map, list_all, position, prefix_len}
use Rattle.std.specs.List.Sorted.{IsNonDecreasingBy}
use Rattle.std.specs.Ordering.{ordering_index}
use Rattle.std.specs.declared.cmp.Ordering.TheVariants.{Less, Equal, Greater}
use Rattle.gb_base.specs.Limits.{is_between}
use Rattle.gb_base.specs.RightNo.{RightNo, same_right}
use Rattle.gb_base.specs.contracts.ids.RightIdOrd.TheImpl as rights
use Rattle.act_model.specs.declared.filing_acts.Act.{Act}
use Rattle.act_model.specs.declared.items.Item.{Item}
use Rattle.act_model.specs.declared.items.Item.TheVariants as item
use Rattle.act_model.specs.declared.receipts.Receipt.{Receipt}
use Rattle.act_model.specs.Creations.{creates_in, creations_in, creations_of_item}
use Rattle.act_model.specs.Touches.{new_right}
use Rattle.act_model.specs.WellFormed.{is_act, is_doc, keeps_rules, well_formed}
use Rattle.act_model.specs.inner.CreationOrder.{is_from, Rises}
use Rattle.act_model.specs.inner.ItemIndexes.{creations_by_acts}
use Rattle.act_model.proofs.ItemIndexLemmas.{creations_by_acts-few}

-- what is from a later act on is from an earlier one on
from_earlier : (m a p b : ℕ) (r : RightNo) → (ltb m p || (eqb m p && leb a b)) ≡ true → is_from p b r ≡ true → is_from m a r ≡ true
from_earlier m a p b r h g = grind (arith, nat_tests)

rises_earlier : (m a p b : ℕ) (rs : List RightNo) → (ltb m p || (eqb m p && leb a b)) ≡ true → Rises p b rs → Rises m a rs
rises_earlier m a p b [] h up = tt
rises_earlier m a p b (r ∷ rs) h up = (from_earlier m a p b r h up.0, up.1)

-- each right of a list that rises from an act is of that act or a later one
rises_at : (m a : ℕ) (rs : List RightNo) (i : ℕ) (d : RightNo) → Rises m a rs → i < length rs → is_from m a (get_or rs i d) ≡ true
rises_at m a [] i d up lt = absurd (omega arith)
rises_at m a (r ∷ rs) zero d up lt = up.0
rises_at m a (r ∷ rs) (suc i) d up lt =
    let behind = rises_at r.receipt (r.act + 1) rs i d up.1 (omega arith) in
    let before = up.0 in
    grind (arith, nat_tests, behind, before)

-- a right further on is of a later act
rises_between : (m a : ℕ) (rs : List RightNo) (i j : ℕ) (d : RightNo) → Rises m a rs → i < j → j < length rs → is_from (get_or rs i d).receipt ((get_or rs i d).act + 1) (get_or rs j d) ≡ true
rises_between m a [] i j d up before lt = absurd (omega arith)
rises_between m a (r ∷ rs) i zero d up before lt = absurd (omega arith)
rises_between m a (r ∷ rs) zero (suc j) d up before lt = rises_at r.receipt (r.act + 1) rs j d up.1 (omega arith)
rises_between m a (r ∷ rs) (suc i) (suc j) d up before lt = rises_between r.receipt (r.act + 1) rs i j d up.1 (omega arith) (omega arith)

index_rises : (x y right : RightNo) → is_from x.receipt (x.act + 1) y ≡ true → ordering_index (rights.ghosts.cmp x right) ≤ ordering_index (rights.ghosts.cmp y right)
index_rises x y right h = grind (arith, nat_tests, h)

-- a list that rises may be searched by halves
pub searchable : (rs : List RightNo) (right : RightNo) → Rises 0 0 rs → IsNonDecreasingBy (λ y. ordering_index (rights.ghosts.cmp y right)) rs
searchable rs right up = λ i j d le lt.
    ⊎_elim
    (λ e. rw e (omega arith))
    (λ ne. index_rises (get_or rs i d) (get_or rs j d) right (rises_between 0 0 rs i j d up (omega arith) lt))
    (cases_eq i j)

not_same : (x y right : RightNo) → is_from x.receipt (x.act + 1) y ≡ true → same_right right y ≡ true → same_right right x ≡ false
not_same x y right h g = grind (arith, nat_tests, h, g)

prefix_found : (m a : ℕ) (rs : List RightNo) (right : RightNo) (i : ℕ) (d : RightNo) → Rises m a rs → i < length rs → same_right right (get_or rs i d) ≡ true → prefix_len (λ x. not (same_right right x)) rs ≡ i
prefix_found m a [] right i d up lt same = absurd (omega arith)
prefix_found m a (r ∷ rs) right zero d up lt same = rw same refl
prefix_found m a (r ∷ rs) right (suc i) d up lt same =
    let other : same_right right r ≡ false = not_same r (get_or rs i d) right (rises_at r.receipt (r.act + 1) rs i d up.1 (omega arith)) same in
    rw other (ap (λ n. 1 + n) (prefix_found r.receipt (r.act + 1) rs right i d up.1 (omega arith) same) ∙ omega arith)

-- in a list that rises the place of an equal right is its first place
pub place_found : (rs : List RightNo) (right : RightNo) (i : ℕ) (d : RightNo) → Rises 0 0 rs → i < length rs → rights.ghosts.cmp (get_or rs i d) right ≡ Equal → position (same_right right) rs ≡ Some i
place_found rs right i d up lt equal =
    let same : same_right right (get_or rs i d) ≡ true = grind (arith, nat_tests, equal) in
    let first = prefix_found 0 0 rs right i d up lt same in
    rw first (cond-true (ltb i (length rs)) (Some i) None (grind (arith, nat_tests)))

prefix_all : (rs : List RightNo) (right : RightNo) → ((k : ℕ) (d : RightNo) → k < length rs → same_right right (get_or rs k d) ≡ false) → prefix_len (λ x. not (same_right right x)) rs ≡ length rs
prefix_all [] right others = refl
prefix_all (r ∷ rs) right others =
    let first : same_right right r ≡ false = others 0 r (omega arith) in
    rw first (ap (λ n. 1 + n) (prefix_all rs right (λ k d lt. others (suc k) d (omega arith))) ∙ omega arith)

-- where each right is less or greater, none has a place
pub place_none : (rs : List RightNo) (right : RightNo) (i : ℕ) → i ≤ length rs → ((k : ℕ) (d : RightNo) → 0 ≤ k → k < i → rights.ghosts.cmp (get_or rs k d) right ≡ Less) → ((k : ℕ) (d : RightNo) → i ≤ k → k < length rs → rights.ghosts.cmp (get_or rs k d) right ≡ Greater) → position (same_right right) rs ≡ None
place_none rs right i within less greater =
    let others : (k : ℕ) (d : RightNo) → k < length rs → same_right right (get_or rs k d) ≡ false =
    λ k d lt. ⊎_elim (λ below. apart_less (get_or rs k d) right (less k d (omega arith) below)) (λ above. apart_greater (get_or rs k d) right (greater k d above lt)) (cases_lt k i) in
    rw (prefix_all rs right others) (cond-false (ltb (length rs) (length rs)) (Some (length rs)) None (grind (arith, nat_tests)))
  where
    apart_less : (x right : RightNo) → rights.ghosts.cmp x right ≡ Less → same_right right x ≡ false
    apart_less x right h = grind (arith, nat_tests, h)

    apart_greater : (x right : RightNo) → rights.ghosts.cmp x right ≡ Greater → same_right right x ≡ false
    apart_greater x right h = grind (arith, nat_tests, h)

-- what the acts of a filing create, followed by what rises from the next receipt on, rises from the filing on
acts_rise : (n a folio : ℕ) (acts : List Act) (rest : List RightNo) → Rises (n + 1) 0 rest → Rises n a (creations_by_acts n a acts folio ++ rest)
acts_rise n a folio [] rest up = rises_earlier n a (n + 1) 0 rest (grind (arith, nat_tests)) up
acts_rise n a folio (act ∷ acts) rest up = first (creates_in folio act) (creations_by_acts n (a + 1) acts folio) (acts_rise n (a + 1) folio acts rest up)
  where
    first : (b : Bool) (xs : List RightNo) → Rises n (a + 1) (xs ++ rest) → Rises n a (cons_option (cond b (Some (new_right n a)) None) xs ++ rest)
    first true xs up = (grind (arith, nat_tests), up)
    first false xs up = rises_earlier n a n (a + 1) (xs ++ rest) (grind (arith, nat_tests)) up

later : (n : ℕ) (rest : List RightNo) → Rises (n + 1) 0 rest → Rises n 0 rest
later n rest up = rises_earlier n 0 (n + 1) 0 rest (grind (arith, nat_tests)) up

item_rises : (n folio : ℕ) (i : Item) (rest : List RightNo) → Rises (n + 1) 0 rest → Rises n 0 (creations_of_item folio n i ++ rest)
item_rises n folio (item.Filing f) rest up = rises_earlier n 0 n 1 (creations_by_acts n 1 f.acts folio ++ rest) (grind (arith, nat_tests)) (acts_rise n 1 folio f.acts rest up)
item_rises n folio other rest up = later n rest up

receipts_rise : (n folio : ℕ) (journal : List Receipt) → Rises n 0 (flat_map (λ p. creations_of_item folio p.0 p.1.item) (enumerate_from n journal))
receipts_rise n folio [] = tt
receipts_rise n folio (r ∷ rs) = item_rises n folio r.item _ (receipts_rise (n + 1) folio rs)

-- the creating acts of a folio stand by receipt and act
pub creations_rise : (journal : List Receipt) (folio : ℕ) → Rises 0 0 (creations_in journal folio)
creations_rise journal folio = rises_earlier 0 0 1 0 (creations_in journal folio) refl (receipts_rise 1 folio journal)

item_few : (n folio : ℕ) (i : Item) → well_formed i ≡ true → length (creations_of_item folio n i) ≤ 8
item_few n folio (item.Filing f) well =
    let ranges = and_parts (is_between 1 8 (length f.acts) && list_all is_act f.acts && list_all is_doc f.docs) (keeps_rules f.acts) well in
    let acts = and_parts (is_between 1 8 (length f.acts) && list_all is_act f.acts) (list_all is_doc f.docs) ranges.0 in
    let some = (and_parts (is_between 1 8 (length f.acts)) (list_all is_act f.acts) acts.0).0 in
    let few = creations_by_acts-few n 1 folio f.acts in
    grind (arith, nat_tests, some, few)
item_few n folio other well = omega arith

receipts_few : (n folio : ℕ) (journal : List Receipt) → All (λ r. IsTrue (well_formed r.item)) journal → length (flat_map (λ p. creations_of_item folio p.0 p.1.item) (enumerate_from n journal)) ≤ 8 * length journal
receipts_few n folio [] well = omega arith
receipts_few n folio (r ∷ rs) well =
    let first = item_few n folio r.item (All-head (λ q. IsTrue (well_formed q.item)) r rs well) in
    let others = receipts_few (n + 1) folio rs (All-tail (λ q. IsTrue (well_formed q.item)) r rs well) in
    grind (arith, common_steps, first, others)

-- a folio has at most eight creating acts for each receipt
pub creations_few : (journal : List Receipt) (folio : ℕ) → All (λ r. IsTrue (well_formed r.item)) journal → length (creations_in journal folio) ≤ 8 * length journal
creations_few journal folio well = receipts_few 1 folio journal well
