-- Each front of a permitted order leaves what its items bring in the order of receipts.
use Rattle.std.proofs.Common.{◌≡◌, ℕ, zero, suc, ◌+◌, ◌-◌, ◌<◌, false, List, [], ◌∷◌, ◌++◌, map, flat_map, All, Contains, inl, refl, sym, ap, subst, ◌∙◌, append_assoc, arith}
use Rattle.std.specs.List.{range_with_len}
use Rattle.std.proofs.lemmas.List.{append-nil}
use Rattle.std.proofs.lemmas.List.Sums.{fold-append}
use Rattle.gb_base.proofs.Members.{in_append_right}
use Rattle.gb_base.specs.declared.keys.Key.{Key}
use Rattle.act_model.proofs.KeyOrder.{has_decides}
use Rattle.act_model.specs.Receiving.{IsJournal}
use Rattle.act_model.specs.declared.receipts.Receipt.{Receipt}
use Rattle.conflict_queue.specs.ItemKeys.{keys_of_item}
use Rattle.conflict_queue.specs.Schedules.{IsPermitted}
use Rattle.folio_sections.proofs.Additions.{at-append}
use Rattle.folio_sections.specs.Entries.{at, with_entries}
use Rattle.folio_sections.specs.declared.entries.Entry.{Entry}
use Rattle.kept_registers.specs.Kept.{Kept}
use Rattle.registrar.proofs.AwardsKeep.{brings_keep, none_kept}
use Rattle.registrar.proofs.CuresKeep.{AreEarlier}
use Rattle.registrar.proofs.Locality.{locality}
use Rattle.registrar.proofs.OwnKeys.{brings_nothing_elsewhere}
use Rattle.registrar.proofs.PermittedOrders.{ahead_of, given_same, of_order, touches}
use Rattle.registrar.proofs.Registering.{left_by, range_more, settled_more}
use Rattle.registrar.proofs.StepLemmas.{brings_leaves}
use Rattle.registrar.specs.Brings.{Brought, brings}
use Rattle.registrar.specs.HasSettled.{settled_first}
use Rattle.registrar.specs.KeptAwards.{AwardsKept}
use Rattle.registrar.specs.Settling.{Settlement, nothing_settled, settled_by, settled_in_order, settled_next}

-- what item j brings in the order of receipts
unfoldable pub as_first : List Receipt → ℕ → Brought
as_first journal j = brings journal j (at (settled_first journal (j - 1)).entries)

pub as_first_is : (journal : List Receipt) (j : ℕ) → as_first journal j ≡ brings journal j (at (settled_first journal (j - 1)).entries)
unfolding as_first
as_first_is journal j = refl

-- A settlement by these items, in this order: each brought what it brings in the order of receipts.
pub record AsFirst (journal : List Receipt) (done : List ℕ) (s : Settlement) : Type 0 where
  pub kept : Kept journal (at s.entries)
  pub awards : AwardsKept journal (at s.entries)
  pub entries : (k : Key) → at s.entries k ≡ flat_map (λ j. at (as_first journal j).entries k) done
  pub verdicts : s.verdicts ≡ map (λ j. (j, (as_first journal j).verdict)) done

-- ---- one item more

given_last : {Y : Type 0} (f : ℕ → List Y) (ns : List ℕ) (n : ℕ) → flat_map f (ns ++ n ∷ []) ≡ flat_map f ns ++ f n
given_last f [] n = append-nil (f n)
given_last f (m ∷ ns) n = ap (λ ys. f m ++ ys) (given_last f ns n) ∙ sym (append_assoc (f m) (flat_map f ns) (f n))

mapped_last : {Y : Type 0} (f : ℕ → Y) (ns : List ℕ) (n : ℕ) → map f (ns ++ n ∷ []) ≡ map f ns ++ f n ∷ []
mapped_last f [] n = refl
mapped_last f (m ∷ ns) n = ap (λ ys. f m ∷ ys) (mapped_last f ns n)

one_more : (journal : List Receipt) (done : List ℕ) (i : ℕ) (s : Settlement) (b : Brought) → AsFirst journal done s → b ≡ as_first journal i
    → Kept journal (with_entries (at s.entries) b.entries) → AwardsKept journal (with_entries (at s.entries) b.entries) → AsFirst journal (done ++ i ∷ []) (settled_by s i b)
one_more journal done i s b so_far same kept awards =
    let both : at (s.entries ++ b.entries) ≡ with_entries (at s.entries) b.entries = λ j k. at-append s.entries b.entries k j in
    record {
      kept = subst (Kept journal) (sym both) kept;
      awards = subst (AwardsKept journal) (sym both) awards;
      entries = λ k. at-append s.entries b.entries k ∙ ap (λ es. es ++ at b.entries k) (so_far.entries k)
          ∙ ap (λ (c : Brought). flat_map (λ j. at (as_first journal j).entries k) done ++ at c.entries k) same
          ∙ sym (given_last (λ j. at (as_first journal j).entries k) done i);
      verdicts = ap (λ vs. vs ++ (i, b.verdict) ∷ []) so_far.verdicts
          ∙ ap (λ (c : Brought). map (λ j. (j, (as_first journal j).verdict)) done ++ (i, c.verdict) ∷ []) same
          ∙ sym (mapped_last (λ j. (j, (as_first journal j).verdict)) done i);
    }

nothing_yet : (journal : List Receipt) → Kept journal (λ k. []) → AsFirst journal [] nothing_settled
nothing_yet journal empty = record { kept = empty; awards = none_kept journal; entries = λ k. refl; verdicts = refl }

-- the first n items, in the order of receipts
pub firsts : (journal : List Receipt) (n : ℕ) → IsJournal journal → Kept journal (λ k. []) → AsFirst journal (range_with_len 1 n) (settled_first journal n)
firsts journal zero stands empty = nothing_yet journal empty
firsts journal (suc n) stands empty =
    let before = firsts journal n stands empty in
    let s = settled_first journal n in
    let earlier = (left_by journal n stands empty).settled.earlier in
    let brought = brings journal (n + 1) (at s.entries) in
    let leaves = brings_leaves journal (n + 1) (at s.entries) stands before.kept (λ k there. earlier k) in
    let awards = brings_keep journal (n + 1) (at s.entries) stands before.kept before.awards (λ k there. earlier k) in
    let back : n ≡ (n + 1) - 1 = omega arith in
    let same : brought ≡ as_first journal (n + 1) = ap (λ m. brings journal (n + 1) (at (settled_first journal m).entries)) back ∙ sym (as_first_is journal (n + 1)) in
    let more : AsFirst journal (range_with_len 1 n ++ (n + 1) ∷ []) (settled_next journal s (n + 1)) = one_more journal (range_with_len 1 n) (n + 1) s brought before same leaves.kept awards in
    let number : 1 + n ≡ n + 1 = omega arith in
    let row : range_with_len 1 n ++ (n + 1) ∷ [] ≡ range_with_len 1 (n + 1) = sym (range_more 1 n ∙ ap (λ m. range_with_len 1 n ++ m ∷ []) number) in
    let end : n + 1 ≡ suc n = omega arith in
    subst (λ m. AsFirst journal (range_with_len 1 m) (settled_first journal m)) end
    (subst (AsFirst journal (range_with_len 1 (n + 1))) (sym (settled_more journal n))
    (subst (λ ns. AsFirst journal ns (settled_next journal s (n + 1))) row more))

-- ---- one item more of a permitted order

-- at a key that it does not touch, an item brings nothing when the items are settled in the order of receipts
pub nothing_first : (journal : List Receipt) (k : Key) (j : ℕ) → IsJournal journal → Kept journal (λ k. []) → touches journal k j ≡ false → at (as_first journal j).entries k ≡ []
nothing_first journal k j stands empty lacks =
    ap (λ (b : Brought). at b.entries k) (as_first_is journal j)
    ∙ brings_nothing_elsewhere journal j (at (settled_first journal (j - 1)).entries) k stands (firsts journal (j - 1) stands empty).kept lacks

-- what an item finds at its keys
pub record FindsAsFirst (journal : List Receipt) (i : ℕ) (at0 : Key → List Entry) : Type 0 where
  pub earlier : AreEarlier i at0 (keys_of_item journal i)
  pub same : brings journal i at0 ≡ as_first journal i

finds : (journal : List Receipt) (done left : List ℕ) (i : ℕ) (s : Settlement) → IsJournal journal → Kept journal (λ k. []) → IsPermitted journal (done ++ i ∷ left) → AsFirst journal done s
    → FindsAsFirst journal i (at s.entries)
finds journal done left i s stands empty permitted so_far =
    let first = firsts journal (i - 1) stands empty in
    let low = (of_order journal (done ++ i ∷ left) i permitted (in_append_right done (i ∷ left) i (inl refl))).0 in
    let number : (i - 1) + 1 ≡ i = omega (arith, low) in
    let there : (k : Key) → Contains (keys_of_item journal i) k → at s.entries k ≡ at (settled_first journal (i - 1)).entries k = λ k there.
    so_far.entries k
    ∙ given_same (touches journal k) (λ j. at (as_first journal j).entries k) done (range_with_len 1 (i - 1)) (λ j lacks. nothing_first journal k j stands empty lacks)
    (ahead_of journal done left i k permitted ((has_decides k (keys_of_item journal i)).1 there))
    ∙ sym (first.entries k) in
    let earlier : AreEarlier i (at (settled_first journal (i - 1)).entries) (keys_of_item journal i) = λ k among.
    subst (λ m. All (λ e. e.receipt < m) (at (settled_first journal (i - 1)).entries k)) number ((left_by journal (i - 1) stands empty).settled.earlier k) in
    record {
      earlier = λ k among. subst (All (λ e. e.receipt < i)) (sym (there k among)) (earlier k among);
      same = locality journal i (at (settled_first journal (i - 1)).entries) (at s.entries) stands first.kept so_far.kept earlier there ∙ sym (as_first_is journal i);
    }

next : (journal : List Receipt) (done left : List ℕ) (i : ℕ) (s : Settlement) → IsJournal journal → Kept journal (λ k. []) → IsPermitted journal (done ++ i ∷ left) → AsFirst journal done s
    → AsFirst journal (done ++ i ∷ []) (settled_next journal s i)
next journal done left i s stands empty permitted so_far =
    let found = finds journal done left i s stands empty permitted so_far in
    one_more journal done i s (brings journal i (at s.entries)) so_far found.same
    (brings_leaves journal i (at s.entries) stands so_far.kept found.earlier).kept
    (brings_keep journal i (at s.entries) stands so_far.kept so_far.awards found.earlier)

-- ---- each front

further : (journal : List Receipt) (order done more left : List ℕ) → IsJournal journal → Kept journal (λ k. []) → IsPermitted journal order → order ≡ (done ++ more) ++ left
    → AsFirst journal done (settled_in_order journal done) → AsFirst journal (done ++ more) (settled_in_order journal (done ++ more))
further journal order done [] left stands empty permitted is so_far =
    subst (λ ns. AsFirst journal ns (settled_in_order journal ns)) (sym (append-nil done)) so_far
further journal order done (i ∷ more) left stands empty permitted is so_far =
    let whole : order ≡ done ++ i ∷ (more ++ left) = is ∙ append_assoc done (i ∷ more) left in
    let step : AsFirst journal (done ++ i ∷ []) (settled_next journal (settled_in_order journal done) i) =
    next journal done (more ++ left) i (settled_in_order journal done) stands empty (subst (IsPermitted journal) whole permitted) so_far in
    let again : (done ++ i ∷ []) ++ more ≡ done ++ i ∷ more = append_assoc done (i ∷ []) more in
    subst (λ ns. AsFirst journal ns (settled_in_order journal ns)) again
    (further journal order (done ++ i ∷ []) more left stands empty permitted (is ∙ ap (λ ns. ns ++ left) (sym again))
    (subst (AsFirst journal (done ++ i ∷ [])) (sym (fold-append (settled_next journal) nothing_settled done (i ∷ []))) step))

pub at_front : (journal : List Receipt) (before after : List ℕ) → IsJournal journal → Kept journal (λ k. []) → IsPermitted journal (before ++ after)
    → AsFirst journal before (settled_in_order journal before)
at_front journal before after stands empty permitted = further journal (before ++ after) [] before after stands empty permitted refl (nothing_yet journal empty)

pub found_at : (journal : List Receipt) (before after : List ℕ) (i : ℕ) → IsJournal journal → Kept journal (λ k. []) → IsPermitted journal (before ++ i ∷ after)
    → FindsAsFirst journal i (at (settled_in_order journal before).entries)
found_at journal before after i stands empty permitted =
    finds journal before after i (settled_in_order journal before) stands empty permitted (at_front journal before (i ∷ after) stands empty permitted)

pub brought_as_first : (journal : List Receipt) (before after : List ℕ) (i : ℕ) → IsJournal journal → Kept journal (λ k. []) → IsPermitted journal (before ++ i ∷ after)
    → brings journal i (at (settled_in_order journal before).entries) ≡ brings journal i (at (settled_first journal (i - 1)).entries)
brought_as_first journal before after i stands empty permitted = (found_at journal before after i stands empty permitted).same ∙ as_first_is journal i
