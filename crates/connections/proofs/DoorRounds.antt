-- How far serving a door has come, link by link.
use Rattle.std.proofs.Common.{◌≡◌, ◌⊎◌, inl, inr, ⊎_elim, ℕ, ◌+◌, ◌-◌, ◌<◌, ◌≤◌, List, [], ◌∷◌, ◌++◌, drop, length, Option, Some, Result, Ok, Err, refl, sym, ◌∙◌, ap, subst, arith, length-append}
use Rattle.intake.specs.Requests.{Held}
use Rattle.connections.specs.Doors.{LacksReply, LinkRequests, LinkServed, ServesDoor, ServesLinks, left_after, turns_taken}
use Rattle.connections.specs.Turns.{Taken, held_after}
use Rattle.connections.specs.declared.doors.DoorEnd.{DoorEnd}
use Rattle.connections.specs.declared.doors.DoorEnd.TheVariants as door
use Rattle.connections.specs.declared.serving.Ended.{Ended}
use Rattle.connections.specs.declared.serving.Ended.TheVariants as ended
use Rattle.connections.specs.declared.serving.Served.{Served}
use Rattle.connections.specs.inner.LinkRounds.{IsRound, after_end, after_link}
use Rattle.connections.proofs.DoorLinks.{OneServed, links_none, links_then}
use Rattle.connections.proofs.LinksTaken.{drop_more, lacks_later, lacks_more, left_more}

abbrev Pairs : Type 0
Pairs = List (List ℕ × ℕ)

-- what it goes on by, or ends with
abbrev or_zero : Result ℕ DoorEnd → ℕ
or_zero (Ok replies) = replies
or_zero (Err end) = 0

abbrev pub or_done : Result ℕ DoorEnd → DoorEnd
or_done (Ok replies) = door.Done
or_done (Err end) = end

-- ---- how a link ends

pub goes_by : (e : Ended) (n replies : ℕ) → after_end e n ≡ Ok replies → n ≡ replies
goes_by ended.Finished n replies is = ap or_zero is
goes_by ended.LinkFault n replies is = ap or_zero is
goes_by ended.Memory n replies is = absurd cc

never_done : (e : Ended) (n : ℕ) → after_end e n ≡ Err door.Done → ⊥
never_done ended.Finished n is = absurd cc
never_done ended.LinkFault n is = absurd cc
never_done ended.Memory n is = absurd cc

memory_is : (e : Ended) (n : ℕ) → after_end e n ≡ Err door.Memory → e ≡ ended.Memory
memory_is ended.Finished n is = absurd cc
memory_is ended.LinkFault n is = absurd cc
memory_is ended.Memory n is = refl

module _ {D : Type 0} (Takes : D → D → Held → List Taken → Type 0) where
  -- ---- one round

  pub round_of_link : (old new : D) (held : Held) (left : ℕ) (waiting : List (List ℕ)) (asked : List LinkRequests) (waiting_new : Option (List (List ℕ))) (served_old served_new : Option Pairs)
      (HoldsNow : Held → Type 0) (served : Served) (result : Result ℕ DoorEnd) → OneServed Takes old new held left waiting asked waiting_new served_old served_new HoldsNow served
      → result ≡ after_link served → IsRound Takes old new held left waiting asked waiting_new served_old served_new HoldsNow result
  round_of_link old new held left waiting asked waiting_new served_old served_new HoldsNow served result one is = record {
    links = one.link ∷ [];
    serves = one.serves;
    few = omega arith;
    goes_on = λ replies on. (refl, ap (λ n. left - n) (sym one.replies_is ∙ goes_by served.ended served.replies replies (sym is ∙ on)));
    done = λ on. absurd (never_done served.ended served.replies (sym is ∙ on));
    memory = λ lacks. ⊎_elim (λ at. is ∙ ap (λ (e : Ended). after_end e served.replies) (sym one.ended_is ∙ at)) (λ none. absurd none) lacks;
    wanting = λ on. inl (one.ended_is ∙ memory_is served.ended served.replies (sym is ∙ on));
  }

  -- no link came
  pub round_of_none : (disk : D) (held : Held) (left : ℕ) (waiting : List (List ℕ)) (asked : List LinkRequests) (waiting_new : Option (List (List ℕ))) (served_old served_new : Option Pairs) (HoldsNow : Held → Type 0) (end : DoorEnd)
      → Takes disk disk held [] → waiting_new ≡ Some waiting → served_new ≡ served_old → HoldsNow held → (end ≡ door.Done → waiting ≡ []) → (end ≡ door.Memory → ⊥)
      → IsRound Takes disk disk held left waiting asked waiting_new served_old served_new HoldsNow (Err end)
  round_of_none disk held left waiting asked waiting_new served_old served_new HoldsNow end none waits same holds done sound = record {
    links = [];
    serves = links_none Takes disk held left waiting asked waiting_new served_old served_new HoldsNow none waits same holds;
    few = omega arith;
    goes_on = λ replies on. absurd cc;
    done = λ on. done (ap or_done on);
    memory = λ lacks. absurd lacks;
    wanting = λ on. absurd (sound (ap or_done on));
  }

  -- ---- all rounds

  -- So many links were served, each with its last reply whole or by its own fault, and so many replies are left.
  pub record WentLinks (old now : D) (held : Held) (most : ℕ) (waiting : List (List ℕ)) (asked : List LinkRequests) (waiting_now : Option (List (List ℕ))) (served_old served_now : Option Pairs)
      (HoldsNow : Held → Type 0) (left count : ℕ) : Type 0 where
    pub links : List LinkServed
    pub serves : ServesLinks Takes old now held most waiting asked waiting_now served_old served_now HoldsNow links
    pub sound : LacksReply links → ⊥
    pub left_is : left_after most links ≡ left
    pub count_is : length links ≡ count

  pub links_begun : (disk : D) (held : Held) (most : ℕ) (waiting : List (List ℕ)) (asked : List LinkRequests) (waiting_now : Option (List (List ℕ))) (served : Option Pairs) (HoldsNow : Held → Type 0)
      → Takes disk disk held [] → waiting_now ≡ Some waiting → HoldsNow held
      → WentLinks disk disk held most waiting asked waiting_now served served HoldsNow most 0
  links_begun disk held most waiting asked waiting_now served HoldsNow none waits holds = record {
    links = [];
    serves = links_none Takes disk held most waiting asked waiting_now served served HoldsNow none waits refl holds;
    sound = λ lacks. absurd lacks;
    left_is = refl;
    count_is = refl;
  }

  module _ (old mid new : D) (held : Held) (most : ℕ) (waiting : List (List ℕ)) (asked : List LinkRequests) (waiting_mid waiting_new : Option (List (List ℕ))) (served_old served_mid served_new : Option Pairs)
      (HoldsMid HoldsNow : Held → Type 0) (left count : ℕ) (joins : (done more : List Taken) → Takes old mid held done → Takes mid new (held_after held done) more → Takes old new held (done ++ more)) (less : count < most)
      (went : WentLinks old mid held most waiting asked waiting_mid served_old served_mid HoldsMid left count) (result : Result ℕ DoorEnd)
      (round : IsRound Takes mid new (held_after held (turns_taken went.links)) left (drop (length went.links) waiting) (drop (length went.links) asked) waiting_new served_mid served_new HoldsNow result) where
    all_links : ServesLinks Takes old new held most waiting asked waiting_new served_old served_new HoldsNow (went.links ++ round.links)
    all_links = links_then Takes old mid new held most waiting asked waiting_mid waiting_new served_old served_mid served_new HoldsMid HoldsNow went.links round.links joins went.serves went.sound
        (subst (λ n. ServesLinks Takes mid new (held_after held (turns_taken went.links)) n (drop (length went.links) waiting) (drop (length went.links) asked) waiting_new served_mid served_new HoldsNow
        round.links) (sym went.left_is) round.serves)

    lacks_now : LacksReply (went.links ++ round.links) → result ≡ Err door.Memory
    lacks_now lacks = ⊎_elim (λ before. absurd (went.sound before)) (λ now. round.memory now) (lacks_more went.links round.links lacks)

    -- one link more
    pub links_on : (replies : ℕ) → result ≡ Ok replies → WentLinks old new held most waiting asked waiting_new served_old served_new HoldsNow (left - replies) (count + 1)
    links_on replies is = let on = round.goes_on replies is in record {
      links = went.links ++ round.links;
      serves = all_links;
      sound = λ lacks. let other : Ok replies ≡ Err door.Memory = sym is ∙ lacks_now lacks in absurd cc;
      left_is = left_more most went.links round.links ∙ ap (λ n. left_after n round.links) went.left_is ∙ on.1;
      count_is = omega (arith, length-append went.links round.links, went.count_is, on.0);
    }

    -- the last round
    pub links_end : (end : DoorEnd) → result ≡ Err end → ServesDoor Takes old new held most waiting asked waiting_new served_old served_new end HoldsNow
    links_end end is = record {
      links = went.links ++ round.links;
      serves = all_links;
      few = omega (arith, length-append went.links round.links, went.count_is, round.few, less);
      done = λ done. inr (inr (sym (drop_more went.links round.links waiting) ∙ round.done (is ∙ ap (λ (e : DoorEnd). Err e) done)));
      memory = λ lacks. ap or_done (sym is ∙ lacks_now lacks);
      wanting = λ memory. lacks_later went.links round.links (round.wanting (is ∙ ap (λ (e : DoorEnd). Err e) memory));
    }

  -- no reply is left, or no link more is to be served
  pub links_out : (old now : D) (held : Held) (most : ℕ) (waiting : List (List ℕ)) (asked : List LinkRequests) (waiting_now : Option (List (List ℕ))) (served_old served_now : Option Pairs)
      (HoldsNow : Held → Type 0) (left count : ℕ) → count ≤ most → (left ≡ 0) ⊎ (most ≤ count) → WentLinks old now held most waiting asked waiting_now served_old served_now HoldsNow left count
      → ServesDoor Takes old now held most waiting asked waiting_now served_old served_now door.Done HoldsNow
  links_out old now held most waiting asked waiting_now served_old served_now HoldsNow left count few over went = record {
    links = went.links;
    serves = went.serves;
    few = omega (arith, went.count_is, few);
    done = λ done. ⊎_elim (λ none. inl (went.left_is ∙ none)) (λ all. inr (inl (omega (arith, went.count_is, few, all)))) over;
    memory = λ lacks. absurd (went.sound lacks);
    wanting = λ memory. absurd cc;
  }
