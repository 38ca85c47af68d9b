-- A place of which the peer was taken, and that was perhaps filled again; and who is forgotten.
use Rattle.std.proofs.Common.{◌≡◌, ℕ, zero, suc, ◌||◌, ◌⊎◌, inl, inr, Bool, true, false, cond, List, [], ◌∷◌, get_or, set, refl, sym, ap, subst, ◌∙◌}
use Rattle.std.proofs.lemmas.List.{set-set}
use Rattle.std.specs.Prelude.{Option, None, Some, filter, not, option_map}
use Rattle.std.specs.List.{list_any}
use Rattle.peer_queues.specs.InboxState.{InboxState}
use Rattle.peer_queues.specs.Queues.{is_at, without}
use Rattle.peer_queues.specs.declared.stages.Peer.{Peer}
use Rattle.grundbuch.specs.HeldPeers.{Hears, HearsThere}

set_to : {P : Type 0} (places : List (Option P)) (place : ℕ) (here : Option P) → set places place here ≡ set places place (get_or (set places place here) place None)
set_to [] place here = refl
set_to (p ∷ places) zero here = refl
set_to (p ∷ places) (suc place) here = ap (λ rest. p ∷ rest) (set_to places place here)

-- no other place than this was changed
pub only_set : {P : Type 0} (old new : List (Option P)) (place : ℕ) (here : Option P) → new ≡ set old place here → new ≡ set old place (get_or new place None)
only_set old new place here changed =
    changed ∙ set_to old place here ∙ ap (λ places. set old place (get_or places place None)) (sym changed)

pub only_set_again : {P : Type 0} (old mid new : List (Option P)) (place : ℕ) (peer : P)
    → mid ≡ set old place None → (new ≡ set mid place (Some peer)) ⊎ (new ≡ mid) → new ≡ set old place (get_or new place None)
only_set_again old mid new place peer taken (inl put) =
    only_set old new place (Some peer) (put ∙ ap (λ places. set places place (Some peer)) taken ∙ set-set old place None (Some peer))
only_set_again old mid new place peer taken (inr same) = only_set old new place None (same ∙ taken)

emptied : {P : Type 0} (places : List (Option P)) (place : ℕ) → get_or (set places place None) place None ≡ None
emptied [] place = refl
emptied (p ∷ places) zero = refl
emptied (p ∷ places) (suc place) = emptied places place

filled : {P : Type 0} (places : List (Option P)) (place : ℕ) (before after : P) → get_or places place None ≡ Some before
    → get_or (set places place (Some after)) place None ≡ Some after
filled [] place before after here = absurd cc
filled (p ∷ places) zero before after here = refl
filled (p ∷ places) (suc place) before after here = filled places place before after here

-- a place that is left
pub none_there : {P : Type 0} (old new : List (Option P)) (place : ℕ) (inbox : P → InboxState) → new ≡ set old place None
    → HearsThere (option_map inbox (get_or old place None)) (option_map inbox (get_or new place None))
none_there old new place inbox taken =
    let here = option_map inbox (get_or old place None) in
    subst (λ there. HearsThere here (option_map inbox there)) (sym (ap (λ places. get_or places place None) taken ∙ emptied old place)) tt

-- a place whose peer was taken, read, and perhaps put back
pub hears_there : {P : Type 0} (old mid new : List (Option P)) (place : ℕ) (before after : P) (inbox : P → InboxState)
    → Some before ≡ get_or old place None → mid ≡ set old place None → (new ≡ set mid place (Some after)) ⊎ (new ≡ mid)
    → Hears None None (inbox before) (inbox after) true
    → HearsThere (option_map inbox (get_or old place None)) (option_map inbox (get_or new place None))
hears_there old mid new place before after inbox here taken (inr same) heard = none_there old new place inbox (same ∙ taken)
hears_there old mid new place before after inbox here taken (inl put) heard =
    let again = put ∙ ap (λ places. set places place (Some after)) taken ∙ set-set old place None (Some after) in
    let there = ap (λ places. get_or places place None) again ∙ filled old place before after (sym here) in
    subst (λ was. HearsThere (option_map inbox was) (option_map inbox (get_or new place None))) here
    (subst (λ now. HearsThere (Some (inbox before)) (option_map inbox now)) (sym there) heard)

-- ---- who waits

module _ {A : Type 0} (test : A → Bool) where
  behind : (t : Bool) (x : A) (rest : List A) → test x ≡ t → list_any test rest ≡ false → list_any test (cond (not t) (x ∷ rest) rest) ≡ false
  behind true x rest passes none = none
  behind false x rest fails none = ap (λ t. t || list_any test rest) fails ∙ none

  none_passes : (xs : List A) → list_any test (filter (λ x. not (test x)) xs) ≡ false
  none_passes [] = refl
  none_passes (x ∷ xs) = behind (test x) x (filter (λ x. not (test x)) xs) refl (none_passes xs)

-- a peer that was forgotten does not wait
pub none_at : (old new : List Peer) (place : ℕ) → new ≡ without place old → list_any (is_at place) new ≡ false
none_at old new place forgotten = ap (list_any (is_at place)) forgotten ∙ none_passes (is_at place) old
