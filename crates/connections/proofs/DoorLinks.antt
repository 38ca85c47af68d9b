-- Links that came through a door: none, one, and some after others.
use Rattle.std.proofs.Common.{◌≡◌, ℕ, ◌-◌, ◌≤◌, List, [], ◌∷◌, ◌++◌, drop, length, Option, Some, None, IfSome, refl, sym, ◌∙◌, ap, subst, append-nil, append_assoc}
use Rattle.std.specs.Io.KnownBytes.{Appends}
use Rattle.std.specs.List.{AllZip}
use Rattle.gb_outside.specs.Doors as doors
use Rattle.gb_outside.specs.Doors.{NothingWritten, TakesFirst}
use Rattle.gb_outside.specs.Faults.{Counts}
use Rattle.intake.specs.Requests.{Held}
use Rattle.registry_http.specs.RequestLists.{AreRequests}
use Rattle.registry_http.specs.RequestParts.{RequestParts}
use Rattle.registry_http.specs.Requests.{AtFront}
use Rattle.connections.specs.Doors.{AskSo, LacksReply, LinkRequests, LinkServed, ServesLinks, left_after, pairs_of, turns_taken, whole_replies}
use Rattle.connections.specs.Served.{Connection, IsWhole, held_by, replies_of, taken_of, written_by}
use Rattle.connections.specs.Serving.{ServesLink, is_link_fault}
use Rattle.connections.specs.Turns.{Turn, Taken, held_after, turns}
use Rattle.connections.specs.declared.serving.Ended.{Ended}
use Rattle.connections.specs.declared.serving.Ended.TheVariants as ended
use Rattle.connections.specs.declared.serving.Served.{Served}
use Rattle.connections.proofs.LinksTaken.{drop_more, none_served, pairs_more, served_more, taken_more}
use Rattle.connections.proofs.TurnLists.{held_more}

-- ---- what the door tells

abbrev Pairs : Type 0
Pairs = List (List ℕ × ℕ)

told_none : (old new : Option Pairs) → new ≡ old → IfSome old (λ before. new ≡ Some (before ++ []))
told_none None new same = tt
told_none (Some before) new same = same ∙ ap (λ (l : Pairs). Some l) (sym (append-nil before))

all_written : (w0 w1 : Option (List ℕ)) (bytes : List ℕ) → w0 ≡ Some [] → Appends w0 w1 bytes → w1 ≡ Some bytes
all_written w0 w1 bytes none wrote = told w1 (subst (λ (w : Option (List ℕ)). Appends w w1 bytes) none wrote)
  where
    told : (w : Option (List ℕ)) → Appends (Some []) w bytes → w ≡ Some bytes
    told None wrote = absurd wrote
    told (Some all) wrote = ap (λ (l : List ℕ). Some l) wrote

told_one : (old mid new : Option Pairs) (w0 w1 : Option (List ℕ)) (bytes : List ℕ) (n : ℕ) → mid ≡ old → NothingWritten old w0 → Appends w0 w1 bytes → doors.Serves mid new w1 n
    → IfSome old (λ before. new ≡ Some (before ++ (bytes, n) ∷ []))
told_one None mid new w0 w1 bytes n same none wrote gives = tt
told_one (Some before) mid new w0 w1 bytes n same none wrote gives =
    let at : doors.Serves (Some before) new (Some bytes) n =
    subst (λ (w : Option (List ℕ)). doors.Serves (Some before) new w n) (all_written w0 w1 bytes none wrote) (subst (λ (m : Option Pairs). doors.Serves m new w1 n) same gives) in at

told_then : (old mid new : Option Pairs) (xs ys all : Pairs) → all ≡ xs ++ ys → IfSome old (λ before. mid ≡ Some (before ++ xs)) → IfSome mid (λ before. new ≡ Some (before ++ ys))
    → IfSome old (λ before. new ≡ Some (before ++ all))
told_then None mid new xs ys all are first second = tt
told_then (Some before) mid new xs ys all are first second =
    let at : new ≡ Some ((before ++ xs) ++ ys) = subst (λ (m : Option Pairs). IfSome m (λ b. new ≡ Some (b ++ ys))) first second in
    at ∙ ap (λ (l : Pairs). Some l) (append_assoc before xs ys ∙ ap (λ (l : Pairs). before ++ l) (sym are))

-- ---- what became of one

replies_are : (e : Ended) (us : List Turn) (c : Connection) (n : ℕ) → (e ≡ ended.Finished → IsWhole us c × (n ≡ replies_of c)) → ((e ≡ ended.Finished → ⊥) → n ≡ length c.replied) → n ≡ whole_replies e c
replies_are ended.Finished us c n finished unfinished = let whole = finished refl in whole.1
replies_are ended.LinkFault us c n finished unfinished = unfinished (λ is. absurd cc)
replies_are ended.Memory us c n finished unfinished = unfinished (λ is. absurd cc)

module _ {D : Type 0} (Takes : D → D → Held → List Taken → Type 0) where
  pub links_none : (disk : D) (held : Held) (left : ℕ) (waiting : List (List ℕ)) (asked : List LinkRequests) (waiting_new : Option (List (List ℕ))) (served_old served_new : Option Pairs) (HoldsNow : Held → Type 0)
      → Takes disk disk held [] → waiting_new ≡ Some waiting → served_new ≡ served_old → HoldsNow held
      → ServesLinks Takes disk disk held left waiting asked waiting_new served_old served_new HoldsNow []
  links_none disk held left waiting asked waiting_new served_old served_new HoldsNow none waits same holds = record {
    are = none_served held left asked;
    waits = waits;
    told = told_none served_old served_new same;
    holds = holds;
    disk = none;
  }

  -- one link was served: what became of its connection, with so many whole replies
  pub record OneServed (old new : D) (held : Held) (left : ℕ) (waiting : List (List ℕ)) (asked : List LinkRequests) (waiting_new : Option (List (List ℕ))) (served_old served_new : Option Pairs)
      (HoldsNow : Held → Type 0) (served : Served) : Type 0 where
    pub link : LinkServed
    pub ended_is : link.ended ≡ served.ended
    pub replies_is : served.replies ≡ whole_replies link.ended link.connection
    pub serves : ServesLinks Takes old new held left waiting asked waiting_new served_old served_new HoldsNow (link ∷ [])

  one_asked : (old new : D) (held : Held) (left : ℕ) (bytes : List ℕ) (waiting : List (List ℕ)) (first : LinkRequests) (asked : List LinkRequests) (waiting_new : Option (List (List ℕ)))
      (served_old served_mid served_new : Option Pairs) (w0 w1 : Option (List ℕ)) (link_faults : ℕ) (HoldsNow : Held → Type 0) (served : Served)
      → 1 ≤ left → served.replies ≤ left → waiting_new ≡ Some waiting → served_mid ≡ served_old → NothingWritten served_old w0 → Counts 0 link_faults (is_link_fault served.ended) → doors.Serves served_mid served_new w1 link_faults
      → ServesLink Takes old new held w0 w1 (turns left first.requests first.end) served HoldsNow
      → OneServed old new held left (bytes ∷ waiting) (first ∷ asked) waiting_new served_old served_new HoldsNow served
  one_asked old new held left bytes waiting first asked waiting_new served_old served_mid served_new w0 w1 link_faults HoldsNow served some few waits same none failed told is =
      let c = is.became in
      let replies : served.replies ≡ whole_replies served.ended c = replies_are served.ended (turns left first.requests first.end) c served.replies is.finished is.unfinished in
      let taken : taken_of c ≡ taken_of c ++ [] = sym (append-nil (taken_of c)) in record {
        link = record { connection = c; ended = served.ended; faults = link_faults };
        ended_is = refl;
        replies_is = replies;
        serves = record {
          are = (
            some,
            record {
              of_turns = is.of_turns;
              finished = λ end. let whole = is.finished end in whole.0;
              cut_off = is.cut_off;
              unwritten = is.unwritten;
              few = subst (λ n. n ≤ left) replies few;
              failed = failed;
            },
            λ lacks. refl,
            none_served (held_by held c) (left - whole_replies served.ended c) asked,
          );
          waits = waits;
          told = told_one served_old served_mid served_new w0 w1 (written_by held c) link_faults same none is.written told;
          holds = subst (λ l. HoldsNow (held_after held l)) taken is.holds;
          disk = subst (λ l. Takes old new held l) taken is.disk;
        };
      }

  pub links_one : (old new : D) (held : Held) (left : ℕ) (waiting : List (List ℕ)) (asked : List LinkRequests) (waiting_old waiting_mid waiting_new : Option (List (List ℕ)))
      (served_old served_mid served_new : Option Pairs) (link_left w0 w1 : Option (List ℕ)) (faults0 faults1 : ℕ) (HoldsNow : Held → Type 0) (served : Served)
      → 1 ≤ left → served.replies ≤ left → AllZip AskSo waiting asked → waiting_old ≡ Some waiting → TakesFirst waiting_old waiting_mid link_left → waiting_new ≡ waiting_mid → served_mid ≡ served_old → NothingWritten served_old w0
      → faults0 ≡ 0 → Counts faults0 faults1 (is_link_fault served.ended) → doors.Serves served_mid served_new w1 faults1
      → ((input : List ℕ) (requests : List RequestParts) (end : AtFront) → link_left ≡ Some input → AreRequests input requests end
      → ServesLink Takes old new held w0 w1 (turns left requests end) served HoldsNow)
      → OneServed old new held left waiting asked waiting_new served_old served_new HoldsNow served
  links_one old new held left waiting asked waiting_old waiting_mid waiting_new served_old served_mid served_new link_left w0 w1 faults0 faults1 HoldsNow served some few ask waits takes later same none sound counts told serves =
      let first : TakesFirst (Some waiting) waiting_mid link_left = subst (λ (w : Option (List (List ℕ))). TakesFirst w waiting_mid link_left) waits takes in
      at waiting asked first.0 first.1 first.2 (later ∙ first.3) first.4 ask
    where
      head_of : List (List ℕ) → List ℕ
      head_of [] = []
      head_of (bytes ∷ rest) = bytes

      tail_of : List (List ℕ) → List (List ℕ)
      tail_of [] = []
      tail_of (bytes ∷ rest) = rest

      at : (waiting : List (List ℕ)) (asked : List LinkRequests) (bytes : List ℕ) (rest : List (List ℕ)) → waiting ≡ bytes ∷ rest → waiting_new ≡ Some rest → link_left ≡ Some bytes → AllZip AskSo waiting asked
          → OneServed old new held left waiting asked waiting_new served_old served_new HoldsNow served
      at [] asked bytes rest is now left_is ask = absurd cc
      at (w ∷ ws) [] bytes rest is now left_is ask = absurd ask
      at (w ∷ ws) (a ∷ others) bytes rest is now left_is ask =
          one_asked old new held left w ws a others waiting_new served_old served_mid served_new w0 w1 faults1 HoldsNow served some few (now ∙ ap (λ (l : List (List ℕ)). Some (tail_of l)) (sym is)) same none
          (subst (λ n. Counts n faults1 (is_link_fault served.ended)) sound counts) told (serves w a.requests a.end (left_is ∙ ap (λ (l : List (List ℕ)). Some (head_of l)) (sym is)) ask.0)

  pub links_then : (old mid new : D) (held : Held) (left : ℕ) (waiting : List (List ℕ)) (asked : List LinkRequests) (waiting_mid waiting_new : Option (List (List ℕ)))
      (served_old served_mid served_new : Option Pairs) (HoldsMid HoldsNow : Held → Type 0) (xs ys : List LinkServed) → ((done more : List Taken) → Takes old mid held done → Takes mid new (held_after held done) more → Takes old new held (done ++ more))
      → ServesLinks Takes old mid held left waiting asked waiting_mid served_old served_mid HoldsMid xs → (LacksReply xs → ⊥)
      → ServesLinks Takes mid new (held_after held (turns_taken xs)) (left_after left xs) (drop (length xs) waiting) (drop (length xs) asked) waiting_new served_mid served_new HoldsNow ys
      → ServesLinks Takes old new held left waiting asked waiting_new served_old served_new HoldsNow (xs ++ ys)
  links_then old mid new held left waiting asked waiting_mid waiting_new served_old served_mid served_new HoldsMid HoldsNow xs ys joins first sound second = record {
    are = served_more held left asked xs ys first.are sound second.are;
    waits = second.waits ∙ ap (λ (l : List (List ℕ)). Some l) (drop_more xs ys waiting);
    told = told_then served_old served_mid served_new (pairs_of held xs) (pairs_of (held_after held (turns_taken xs)) ys) (pairs_of held (xs ++ ys)) (pairs_more held xs ys) first.told second.told;
    holds = subst HoldsNow (sym (held_more held (turns_taken xs) (turns_taken ys)) ∙ ap (λ l. held_after held l) (sym (taken_more xs ys))) second.holds;
    disk = subst (λ l. Takes old new held l) (sym (taken_more xs ys))
        (joins (turns_taken xs) (turns_taken ys) first.disk second.disk);
  }
