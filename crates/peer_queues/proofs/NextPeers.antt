-- Whoever is to be had next stays so.
use Rattle.std.proofs.Common.{◌≡◌, ◌==◌, ℕ, Bool, true, false, List, [], ◌∷◌, ◌++◌, Some, refl, sym, ap, ◌∙◌, cond}
use Rattle.std.specs.Prelude.{filter, find, if◌then◌else◌, not}
use Rattle.std.specs.List.{list_any}
use Rattle.std.specs.Option.{option_or}
use Rattle.std.proofs.lemmas.Bool.{false≢true}
use Rattle.std.proofs.lemmas.List.Folds.{find-append}
use Rattle.std.proofs.lemmas.Option.{cond_some}
use Rattle.peer_queues.specs.Queues.{is_at, is_in, noted, without}
use Rattle.peer_queues.specs.Stages.{is_ready}
use Rattle.peer_queues.specs.declared.stages.Peer.{Peer}
use Rattle.peer_queues.specs.declared.stages.Stage.{Stage}

module _ {A : Type 0} (test keep : A → Bool) where
  behind_kept : (t : Bool) (y x : A) (xs : List A) → (find test xs ≡ Some x → find test (filter keep xs) ≡ Some x)
      → cond t (Some y) (find test xs) ≡ Some x → cond t (Some y) (find test (filter keep xs)) ≡ Some x
  behind_kept true y x xs later found = found
  behind_kept false y x xs later found = later found

  behind_dropped : (t : Bool) (y x : A) (xs : List A) → (find test xs ≡ Some x → find test (filter keep xs) ≡ Some x) → keep y ≡ false → keep x ≡ true
      → cond t (Some y) (find test xs) ≡ Some x → find test (filter keep xs) ≡ Some x
  behind_dropped true y x xs later goes keeps found =
      absurd (false≢true (sym goes ∙ ap keep (cond_some true y x found).1 ∙ keeps))
  behind_dropped false y x xs later goes keeps found = later found

  kept_by : (u : Bool) (y x : A) (xs : List A) → keep y ≡ u → (find test xs ≡ Some x → find test (filter keep xs) ≡ Some x) → keep x ≡ true
      → find test (y ∷ xs) ≡ Some x → find test (cond u (y ∷ filter keep xs) (filter keep xs)) ≡ Some x
  kept_by true y x xs stays later keeps found = behind_kept (test y) y x xs later found
  kept_by false y x xs goes later keeps found = behind_dropped (test y) y x xs later goes keeps found

  -- what is found first, and is kept, is found first among those that are kept
  pub find_kept : (xs : List A) (x : A) → keep x ≡ true → find test xs ≡ Some x → find test (filter keep xs) ≡ Some x
  find_kept [] x keeps found = found
  find_kept (y ∷ xs) x keeps found = kept_by (keep y) y x xs refl (find_kept xs x keeps) keeps found

-- the next of the peers stays so where another waits no longer
pub next_without : (peers : List Peer) (next : Peer) (place : ℕ) → find is_ready peers ≡ Some next → (next.place == place) ≡ false
    → find is_ready (without place peers) ≡ Some next
next_without peers next place found elsewhere =
    find_kept is_ready (λ peer. not (is_at place peer)) peers next (ap not elsewhere) found

noted_by : (b : Bool) (peers : List Peer) (next last : Peer) (place : ℕ) → find is_ready peers ≡ Some next → (next.place == place) ≡ false
    → find is_ready (if b then peers else without place peers ++ last ∷ []) ≡ Some next
noted_by true peers next last place found elsewhere = found
noted_by false peers next last place found elsewhere =
    find-append is_ready (without place peers) (last ∷ [])
    ∙ ap (λ o. option_or o (find is_ready (last ∷ []))) (next_without peers next place found elsewhere)

-- the next of the peers stays so where another comes further
pub next_noted : (peers : List Peer) (next : Peer) (place now : ℕ) (stage : Stage) → find is_ready peers ≡ Some next → (next.place == place) ≡ false
    → find is_ready (noted place stage now peers) ≡ Some next
next_noted peers next place now stage =
    noted_by (list_any (is_in place stage) peers) peers next (record { place = place; stage = stage; since = now }) place
