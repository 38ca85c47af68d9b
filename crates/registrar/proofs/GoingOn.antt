-- A settlement goes on by one item, and a register is one that has come so far.
use Rattle.std.proofs.Common.{◌≡◌, ℕ, ◌+◌, ◌<◌, true, false, ◌||◌, List, [], ◌∷◌, ◌++◌, length, length-append, ◌≤◌, All, AllPairs, Contains, filter, filter_map, refl, sym, ap, subst, ◌∙◌, arith}
use Rattle.std.proofs.lemmas.Bool.{or_left}
use Rattle.std.proofs.lemmas.List.{append-nil}
use Rattle.std.proofs.lemmas.List.Folds.{list_any-append}
use Rattle.std.proofs.lemmas.List.FromFn.{length-enumerate_from}
use Rattle.gb_base.specs.declared.keys.Key.{Key}
use Rattle.gb_base.specs.declared.keys.Key.TheVariants.{Title}
use Rattle.act_model.specs.Receiving.{IsJournal}
use Rattle.act_model.specs.declared.receipts.Receipt.{Receipt}
use Rattle.conflict_queue.specs.Dockets.{keys_touched}
use Rattle.conflict_queue.specs.ItemKeys.{keys_of_item}
use Rattle.folio_sections.specs.Adding.{AddsAll}
use Rattle.folio_sections.specs.Entries.{at as at_key}
use Rattle.folio_sections.specs.Held.{WidensBy, entries_at, is_given, is_held}
use Rattle.folio_sections.specs.PartState.{PartState}
use Rattle.folio_sections.specs.Titles.{is_open, is_opening}
use Rattle.folio_sections.specs.declared.entries.Entry.{Entry}
use Rattle.kept_registers.specs.Kept.{Kept}
use Rattle.registrar.proofs.AwardsKeep.{step_keeps}
use Rattle.registrar.proofs.DistributionsKeep.{Distributes, step_distributes}
use Rattle.registrar.proofs.JournalKeys.{given_next, not_given_is_apart, widens_by_item}
use Rattle.registrar.proofs.Listing.{in_listed, listed_behind, listed_in, open_in_order}
use Rattle.registrar.proofs.OneListOfFolios.{one_list_of_folios, open_folios_are}
use Rattle.registrar.proofs.Registering.{added_to, distributes_so_far, left_by, next_settled, none_settled}
use Rattle.registrar.proofs.RisingNumbers.{contains_of_in, in_of_contains}
use Rattle.registrar.proofs.StepLemmas.{step_leaves}
use Rattle.registrar.specs.Brings.{brings}
use Rattle.registrar.specs.HasSettled.{HasSettled, settled_first}
use Rattle.registrar.specs.HeldKeys.{keys_of_first}
use Rattle.registrar.specs.KeptAwards.{AwardsKept}
use Rattle.registrar.specs.OpenFolios.{open_folios}
use Rattle.registrar.specs.declared.settled.Settled.{Settled}
use Rattle.registrar.specs.declared.verdicts.Verdict.{Verdict}
use Rattle.registrar.specs.inner.Behind.{IsBehind, Remains, register_of}
use Rattle.registrar.specs.inner.Listed.{AreListed, closed_folio_of_title, is_listed}
use Rattle.registrar.specs.inner.OpenFolios.{AreOpenFolios}
use Rattle.registrar.specs.inner.SettledTo.{SettledTo}

-- ---- no item more

-- where nothing settled has changed, and no keys are held besides but those of the next item, the settlement remains
pub still_settled : (journal : List Receipt) (before after : Settled) (i : ℕ) (keys : List Key) → i ≡ length before.verdicts.items + 1 → keys ≡ keys_touched journal i
    → WidensBy (is_given keys) before.parts after.parts → entries_at after.parts ≡ entries_at before.parts → after.verdicts.items ≡ before.verdicts.items → after.folios.items ≡ before.folios.items
    → Remains journal before after
still_settled journal before after i keys next are wide entries verdicts folios = record {
  keys = widens_by_item journal i (length before.verdicts.items) keys before.parts after.parts next are wide;
  entries = entries;
  verdicts = verdicts;
  folios = folios;
}

-- ---- one item more

pub none_behind : (journal : List Receipt) (s : Settled) → ((k : Key) → is_held s.parts k ≡ is_given [] k) → All (λ p. p.entries ≡ []) s.parts → s.verdicts.items ≡ [] → s.folios.items ≡ [] → Kept journal (λ k. []) → IsBehind journal s
none_behind journal s holds empty none closed kept =
    let start = none_settled journal s.parts empty kept in
    record {
      settled = subst (λ (vs : List Verdict). SettledTo journal (length vs) (entries_at s.parts) vs) (sym none) start;
      held = λ k. holds k ∙ ap (λ (vs : List Verdict). is_given (keys_of_first journal (length vs)) k) (sym none);
      listed = λ f. ap (λ fs. is_listed fs f) closed ∙ sym (ap (λ es. is_open es) (ap (λ stands. stands (Title f)) start.entries));
    }

still_open : (before after more : List Entry) → after ≡ before ++ more → is_open before ≡ true → is_open after ≡ true
still_open before after more whole is = ap is_open whole ∙ list_any-append (λ e. is_opening e.what) before more ∙ or_left (is_open before) (is_open more) is

pub next_behind : (journal : List Receipt) (before after : Settled) (i : ℕ) (keys : List Key) (closed : List ℕ) (ready : List PartState) (v : Verdict)
    → i ≡ length before.verdicts.items + 1 → IsJournal journal → IsBehind journal before → keys ≡ keys_touched journal i
    → entries_at ready ≡ entries_at before.parts → ((k : Key) → is_held ready k ≡ (is_held before.parts k || is_given keys k)) → is_held after.parts ≡ is_held ready
    → v ≡ (brings journal i (entries_at ready)).verdict → AddsAll (entries_at ready) (entries_at after.parts) (brings journal i (entries_at ready)).entries
    → ((k : Key) → (Contains (keys_of_item journal i) k → ⊥) → entries_at after.parts k ≡ entries_at ready k)
    → after.verdicts.items ≡ before.verdicts.items ++ v ∷ [] → closed ≡ filter_map (closed_folio_of_title (entries_at ready)) keys
    → after.folios.items ≡ before.folios.items ++ filter (λ folio. is_open (entries_at after.parts (Title folio))) closed → IsBehind journal after
next_behind journal before after i keys closed ready v next stands so_far are same holds held is added others whole shut listed =
    let n = length before.verdicts.items in
    let at0 = entries_at before.parts in
    let at1 = entries_at ready in
    let at2 = entries_at after.parts in
    let earlier : (k : Key) → All (λ e. e.receipt < i) (at1 k) = λ k.
    subst (λ stand. All (λ e. e.receipt < i) (stand k)) (sym same) (subst (λ m. All (λ e. e.receipt < m) (at0 k)) (sym next) (so_far.settled.earlier k)) in
    let kept_before = subst (Kept journal) (sym same) so_far.settled.kept in
    let kept = step_leaves journal i at1 at2 stands kept_before (λ k there. earlier k) added in
    let awards_before = subst (AwardsKept journal) (sym same) so_far.settled.awards in
    let awards = step_keeps journal i at1 at2 stands kept_before awards_before (λ k there. earlier k) added in
    let distributes = step_distributes journal i at1 at2 stands kept_before awards_before
    (subst (Distributes journal) (sym same) (distributes_so_far journal n at0 before.verdicts.items so_far.settled)) earlier added in
    let more = next_settled journal n i at0 at2 before.verdicts.items after.verdicts.items v next stands so_far.settled (added_to journal i at0 at1 at2 same added)
    (is ∙ ap (λ stand. (brings journal i stand).verdict) same) kept awards distributes whole in
    record {
      settled = subst (λ m. SettledTo journal m at2 after.verdicts.items) (sym more.count) more;
      held = λ k. ap (λ f. f k) held ∙ holds k ∙ ap (λ b. b || is_given keys k) (so_far.held k) ∙ given_next journal n i keys k next are
          ∙ ap (λ m. is_given (keys_of_first journal m) k) (sym more.count);
      listed = listed_behind at1 at2 keys before.folios.items closed after.folios.items (subst (AreListed before.folios.items) (sym same) so_far.listed) shut listed
          (λ k open_then. still_open (at1 k) (at2 k) (at_key (brings journal i at1).entries k) (added k) open_then)
          (λ k apart. others k (not_given_is_apart journal i keys k are apart));
    }

-- ---- registers

pub has_settled : (journal : List Receipt) (s : Settled) → AllPairs (λ folio later. folio < later) s.folios.items → IsBehind journal s → HasSettled journal (register_of s)
has_settled journal s up behind =
    let count = sym (length-enumerate_from 1 s.verdicts.items) in
    record {
      entries = behind.settled.entries ∙ ap (λ n. at_key (settled_first journal n).entries) count;
      verdicts = behind.settled.verdicts ∙ ap (λ n. (settled_first journal n).verdicts) count;
      folios = one_list_of_folios s.folios.items (settled_first journal (length s.verdicts.items)).entries (entries_at s.parts) (open_in_order s.folios.items (entries_at s.parts) up behind.listed)
          (λ k. ap (λ stands. stands k) behind.settled.entries) ∙ ap (λ n. open_folios (settled_first journal n).entries) count;
      held = λ k. behind.held k ∙ ap (λ n. is_given (keys_of_first journal n) k) count;
    }

listed_of_open : (folios : List ℕ) (at : Key → List Entry) → AreOpenFolios folios at → AreListed folios at
listed_of_open folios at open_there f =
    elim (is_open (at (Title f))) as (λ b. is_open (at (Title f)) ≡ b → is_listed folios f ≡ b) [
      | true ↦ λ is. in_listed folios f (in_of_contains folios f ((open_there.members f).1 is))
      | false ↦ λ is. elim (is_listed folios f) as (λ b. is_listed folios f ≡ b → b ≡ false) [
        | true ↦ λ there. sym ((open_there.members f).0 (contains_of_in folios f (listed_in folios f there))) ∙ is
        | false ↦ λ _. refl
      ] refl
    ] refl

-- a register that has come so far is a settlement that has
pub is_behind : (journal : List Receipt) (s : Settled) → IsJournal journal → Kept journal (λ k. []) → HasSettled journal (register_of s) → IsBehind journal s
is_behind journal s stands empty has =
    let n = length s.verdicts.items in
    let count = length-enumerate_from 1 s.verdicts.items in
    let left = left_by journal n stands empty in
    let entries : entries_at s.parts ≡ at_key (settled_first journal n).entries = has.entries ∙ ap (λ m. at_key (settled_first journal m).entries) count in
    let entries_then = settled_first journal n in
    let distributes = subst (Distributes journal) (sym entries) (distributes_so_far journal n (at_key entries_then.entries) left.verdicts left.settled) in
    record {
      settled = record {
        entries = entries;
        verdicts = has.verdicts ∙ ap (λ m. (settled_first journal m).verdicts) count;
        count = refl;
        kept = subst (Kept journal) (sym entries) left.settled.kept;
        awards = subst (AwardsKept journal) (sym entries) left.settled.awards;
        distributed = distributes.distributed;
        rise = distributes.rise;
        earlier = subst (λ at. (k : Key) → All (λ e. e.receipt < n + 1) (at k)) (sym entries) left.settled.earlier;
      };
      held = λ k. has.held k ∙ ap (λ m. is_given (keys_of_first journal m) k) count;
      listed = λ f. ap (λ fs. is_listed fs f) (has.folios ∙ ap (λ m. open_folios (settled_first journal m).entries) count)
          ∙ listed_of_open (open_folios entries_then.entries) (λ k. at_key entries_then.entries k) (open_folios_are entries_then.entries) f
          ∙ ap (λ stand. is_open (stand (Title f))) (sym entries);
    }

-- ---- open folios

-- where a list with more at its end is no longer than before, nothing was added
pub nothing_added : (before more all : List ℕ) → all ≡ before ++ more → length all ≤ length before → all ≡ before
nothing_added before [] all whole short = whole ∙ append-nil before
nothing_added before (f ∷ fs) all whole short =
    let longer : length all ≡ length before + length (f ∷ fs) = ap (λ ns. length ns) whole ∙ length-append before (f ∷ fs) in
    absurd (omega arith)

-- the open folios of a register that has come so far are in order
pub folios_in_order : (journal : List Receipt) (s : Settled) → HasSettled journal (register_of s) → AllPairs (λ folio later. folio < later) s.folios.items
folios_in_order journal s has =
    subst (AllPairs (λ folio later. folio < later)) (sym has.folios) (open_folios_are (settled_first journal (length (register_of s).verdicts)).entries).ascending
