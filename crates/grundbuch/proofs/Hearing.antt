-- What one read of a peer brings, and several in turn.
use Rattle.std.proofs.Common.{◌≡◌, ℕ, ◌<◌, ◌≤◌, ◌||◌, ◌⊎◌, inl, inr, Bool, true, false, List, [], ◌∷◌, ◌++◌, length, take, arith, refl, sym, ap, subst, ◌∙◌, append_assoc, length-append}
use Rattle.std.proofs.lemmas.List.{append-nil, take-append-le}
use Rattle.std.proofs.KnownBytes.{Consumes-nil, Consumes-trans}
use Rattle.std.specs.Prelude.{Option, None, Some, IfSome, Result, Ok, Err, is_ok, OnErr, OnOk, min}
use Rattle.std.specs.Io.KnownBytes.{Consumes, IsAtEnd, Keeps, ReadConsumes}
use Rattle.peer_queues.specs.InboxState.{InboxState}
use Rattle.peer_queues.specs.Inboxes.{Opens, with_end, with_more, without_front}
use Rattle.grundbuch.specs.HeldPeers.{GoesOn, Hears, IsOpened}

with_nothing : (inbox : InboxState) → inbox ≡ with_more inbox []
with_nothing inbox = ap (λ (kept : List ℕ). record inbox { kept = kept }) (sym (append-nil inbox.kept))

keeps_is_consumes : (a b : Option (List ℕ)) → Keeps a b → Consumes a b []
keeps_is_consumes None b kept = tt
keeps_is_consumes (Some xs) None kept = absurd kept
keeps_is_consumes (Some xs) (Some ys) kept = sym kept

-- a read that took no byte
pub hears_nothing : (a b : Option (List ℕ)) (old new : InboxState) (stays : Bool) → Keeps a b → new ≡ old → Hears a b old new stays
hears_nothing a b old new stays kept same = record {
  more = [];
  lost = [];
  read = keeps_is_consumes a b kept;
  none_lost = λ _. refl;
  kept = inl (same ∙ with_nothing old);
}

-- no read at all
pub hears_not : (a : Option (List ℕ)) (inbox : InboxState) (stays : Bool) → Hears a a inbox inbox stays
hears_not a inbox stays = record {
  more = [];
  lost = [];
  read = Consumes-nil a;
  none_lost = λ _. refl;
  kept = inl (with_nothing inbox);
}

none_left : (a b : Option (List ℕ)) → Consumes a b [] → IsAtEnd b → IfSome a (λ bytes. bytes ≡ [])
none_left None b read end = tt
none_left (Some xs) None read end = absurd read
none_left (Some xs) (Some ys) read end = read ∙ end

-- a read that found the end
pub hears_end : {E : Type 0} (a b : Option (List ℕ)) (old new : InboxState) (answer : Result ℕ E) (count : ℕ) (into : List ℕ)
    → answer ≡ Ok count → count ≡ 0 → 0 < length into → ReadConsumes a b answer into → new ≡ with_end old → Hears a b old new true
hears_end {E = E} a b old new answer count into answered none room consumed ended =
    let read : ReadConsumes {E = E} a b (Ok count) into = subst (λ (r : Result ℕ E). ReadConsumes a b r into) answered consumed in
    let nothing : Consumes a b [] = subst (λ n. Consumes a b (take n into)) none read.0 in
    record {
      more = [];
      lost = [];
      read = nothing;
      none_lost = λ _. refl;
      kept = inr (ended ∙ ap with_end (with_nothing old), none_left a b nothing (read.1 none room));
    }

-- a read whose bytes are kept
pub hears_more : (a b : Option (List ℕ)) (old new : InboxState) (count : ℕ) (into rest : List ℕ) → count ≤ length into
    → Consumes a b (take count into) → new ≡ with_more old (take count (into ++ rest)) → Hears a b old new true
hears_more a b old new count into rest within read kept = record {
  more = take count into;
  lost = [];
  read = subst (Consumes a b) (sym (append-nil (take count into))) read;
  none_lost = λ _. refl;
  kept = inl (kept ∙ ap (with_more old) (take-append-le count into rest within));
}

-- a read whose bytes are lost
pub hears_lost : (a b : Option (List ℕ)) (old new : InboxState) (bytes : List ℕ) → Consumes a b bytes → new ≡ old → Hears a b old new false
hears_lost a b old new bytes read same = record {
  more = [];
  lost = bytes;
  read = read;
  none_lost = λ stays. absurd cc;
  kept = inl (same ∙ with_nothing old);
}

no_bytes : (xs : List ℕ) → length xs ≡ 0 → xs ≡ []
no_bytes [] none = refl
no_bytes (x ∷ xs) none = absurd (omega (arith, none))

none_behind : (xs ys : List ℕ) → xs ≡ xs ++ ys → ys ≡ []
none_behind xs ys same = no_bytes ys (omega (arith, ap length same, length-append xs ys))

none_in_front : (xs ys : List ℕ) → [] ≡ xs ++ ys → xs ≡ []
none_in_front [] ys none = refl
none_in_front (x ∷ xs) ys none = absurd cc

all_later : (a b : Option (List ℕ)) (more again : List ℕ) → Consumes a b more → IfSome b (λ bytes. bytes ≡ again) → IfSome a (λ bytes. bytes ≡ more ++ again)
all_later None b more again first all = tt
all_later (Some xs) None more again first all = absurd first
all_later (Some xs) (Some ys) more again first all = first ∙ ap (λ ys. more ++ ys) all

all_before : (a b c : Option (List ℕ)) (more again lost : List ℕ) → IfSome a (λ bytes. bytes ≡ more) → Consumes a b more → Consumes b c (again ++ lost)
    → IfSome a (λ bytes. bytes ≡ more ++ again)
all_before None b c more again lost all first later = tt
all_before (Some xs) None c more again lost all first later = absurd first
all_before (Some xs) (Some ys) None more again lost all first later = absurd later
all_before (Some xs) (Some ys) (Some zs) more again lost all first later =
    let none = none_behind more ys (sym all ∙ first) in
    let front = none_in_front again (lost ++ zs) (sym none ∙ later ∙ append_assoc again lost zs) in
    all ∙ sym (append-nil more) ∙ ap (λ ys. more ++ ys) (sym front)

-- one kept what the other did not yet
twice : (old : InboxState) (more again : List ℕ) → with_more (with_more old more) again ≡ with_more old (more ++ again)
twice old more again = ap (λ (kept : List ℕ). record old { kept = kept }) (append_assoc old.kept more again)

abbrev IsKept : Option (List ℕ) → InboxState → InboxState → List ℕ → Type 0
IsKept left old new more = (new ≡ with_more old more) ⊎ ((new ≡ with_end (with_more old more)) × IfSome left (λ bytes. bytes ≡ more))

kept_then : (a b c : Option (List ℕ)) (old mid new : InboxState) (more again lost : List ℕ)
    → Consumes a b more → Consumes b c (again ++ lost) → IsKept a old mid more → IsKept b mid new again → IsKept a old new (more ++ again)
kept_then a b c old mid new more again lost first later (inl p) (inl q) =
    inl (q ∙ ap (λ i. with_more i again) p ∙ twice old more again)
kept_then a b c old mid new more again lost first later (inl p) (inr q) =
    inr (q.0 ∙ ap (λ i. with_end (with_more i again)) p ∙ ap with_end (twice old more again), all_later a b more again first q.1)
kept_then a b c old mid new more again lost first later (inr p) (inl q) =
    inr (q ∙ ap (λ i. with_more i again) p.0 ∙ ap with_end (twice old more again), all_before a b c more again lost p.1 first later)
kept_then a b c old mid new more again lost first later (inr p) (inr q) =
    inr (q.0 ∙ ap (λ i. with_end (with_more i again)) p.0 ∙ ap with_end (twice old more again), all_later a b more again first q.1)

-- what one read brought of which nothing was lost, and then a later one
pub hears_then : (a b c : Option (List ℕ)) (old mid new : InboxState) (stays : Bool) → Hears a b old mid true → Hears b c mid new stays → Hears a c old new stays
hears_then a b c old mid new stays first later =
    let none : first.more ++ first.lost ≡ first.more = ap (λ lost. first.more ++ lost) (first.none_lost refl) ∙ append-nil first.more in
    let read : Consumes a b first.more = subst (Consumes a b) none first.read in
    record {
      more = first.more ++ later.more;
      lost = later.lost;
      read = subst (Consumes a c) (sym (append_assoc first.more later.more later.lost)) (Consumes-trans a b c first.more (later.more ++ later.lost) read later.read);
      none_lost = later.none_lost;
      kept = kept_then a b c old mid new first.more later.more later.lost read later.read first.kept later.kept;
    }

-- a peer of which nothing was lost, also where it does not stay
pub hears_all : (a b : Option (List ℕ)) (old new : InboxState) (stays : Bool) → Hears a b old new true → Hears a b old new stays
hears_all a b old new stays heard = record {
  more = heard.more;
  lost = heard.lost;
  read = heard.read;
  none_lost = λ _. heard.none_lost refl;
  kept = heard.kept;
}

-- a peer that does not stay, and is no longer among those that wait
pub hears_gone : (old new : InboxState) (waits : Bool) → waits ≡ false → Hears None None old new false → Hears None None old new (false || waits)
hears_gone old new waits gone heard = subst (Hears None None old new) (sym gone) heard

-- a peer that is not next
pub not_next : (old new : InboxState) (waits : Bool) → Hears None None old new waits → GoesOn old new false waits
not_next old new waits heard = record {
  heard = new;
  hears = heard;
  opened = λ opens. absurd cc;
  not_opened = λ _. refl;
}

-- a peer that is next, as far as memory is found to open it
pub is_opened : {A E : Type 0} (old heard new : InboxState) (answer : Result A E) (waits : Bool)
    → Hears None None old heard true → OnOk answer (Opens heard new) → OnErr answer (new ≡ heard) → GoesOn old new (is_ok answer) waits
is_opened old heard new (Ok done) waits hears opened lost = record {
  heard = heard;
  hears = hears;
  opened = λ _. opened;
  not_opened = λ fails. absurd cc;
}
is_opened old heard new (Err fault) waits hears opened lost = record {
  heard = heard;
  hears = hears_all None None old heard waits hears;
  opened = λ opens. absurd cc;
  not_opened = λ _. lost;
}

-- a peer that waits, and then is next or not
pub goes_on_then : (old mid new : InboxState) (opens waits : Bool) → Hears None None old mid true → GoesOn mid new opens waits → GoesOn old new opens waits
goes_on_then old mid new opens waits first later = record {
  heard = later.heard;
  hears = hears_then None None None old mid later.heard (opens || waits) first later.hears;
  opened = later.opened;
  not_opened = later.not_opened;
}

-- a peer that was opened
pub opened_once : {A E : Type 0} (before now : InboxState) (answer : Result A E) → true ≡ is_ok answer → OnOk answer (Opens before now) → IsOpened now
opened_once before now (Ok done) opens opened = (before, opened)
opened_once before now (Err fault) opens opened = absurd cc

-- ---- what the office is given

-- nothing, where there is room: then all of it was given
pub all_given : (opened new : InboxState) (count room : ℕ) → count ≡ 0 → 0 < room → count ≡ min (length opened.giving) room → new ≡ without_front count opened
    → (opened.giving ≡ []) × (new ≡ opened)
all_given opened new count room none some least rest =
    (no_bytes opened.giving (omega (arith, none, some, least)), rest ∙ ap (λ n. without_front n opened) none)
