-- In which order the links of a door are served, link by link.
use Rattle.std.proofs.Common.{◌≡◌, ◌⊎◌, ⊎_elim, inl, inr, ℕ, ◌+◌, ◌-◌, ◌<◌, ◌≤◌, List, [], ◌∷◌, ◌++◌, length, Option, Result, Ok, Err, refl, sym, ◌∙◌, ap, subst, arith, length-append}
use Rattle.registry_http.specs.RequestParts.{RequestParts}
use Rattle.connections.specs.DoorOrder.{ComesNone, LacksReply, ServesDoorInOrder, ServesEach, ServesOne, left_after}
use Rattle.connections.specs.LinkOrder.{Stage, stage}
use Rattle.connections.specs.Replies.{ReplyParts}
use Rattle.connections.specs.declared.doors.DoorEnd.{DoorEnd}
use Rattle.connections.specs.declared.doors.DoorEnd.TheVariants as door
use Rattle.connections.specs.declared.serving.Ended.{Ended}
use Rattle.connections.specs.declared.serving.Ended.TheVariants as ended
use Rattle.connections.specs.declared.serving.Served.{Served}
use Rattle.connections.specs.inner.LinkRounds.{ServesFirst, after_end}
use Rattle.connections.proofs.DoorRounds.{goes_by, or_done}
use Rattle.connections.proofs.OrderedTurns.{order_keeps}

-- ---- how a link ends, and how many replies are left

-- it goes on after one that did not lack memory
on_sound : (e : Ended) (n replies : ℕ) → after_end e n ≡ Ok replies → e ≡ ended.Memory → ⊥
on_sound ended.Finished n replies on is = absurd cc
on_sound ended.LinkFault n replies on is = absurd cc
on_sound ended.Memory n replies on is = absurd cc

-- and ends after one that did
ends_lacking : (e : Ended) (n : ℕ) (end : DoorEnd) → after_end e n ≡ Err end → (e ≡ ended.Memory) × (end ≡ door.Memory)
ends_lacking ended.Finished n end is = absurd cc
ends_lacking ended.LinkFault n end is = absurd cc
ends_lacking ended.Memory n end is = (refl, sym (ap or_done is))

left_after_more : (most : ℕ) (links : List Served) (one : Served) → left_after most (links ++ one ∷ []) ≡ left_after most links - one.replies
left_after_more most [] one = refl
left_after_more most (l ∷ links) one = left_after_more (most - l.replies) links one

reply_lacks : (links : List Served) (one : Served) → LacksReply (links ++ one ∷ []) → LacksReply links ⊎ (one.ended ≡ ended.Memory)
reply_lacks [] one (inl is) = inr is
reply_lacks [] one (inr none) = absurd none
reply_lacks (l ∷ links) one (inl is) = inl (inl is)
reply_lacks (l ∷ links) one (inr later) = ⊎_elim (λ some. inl (inr some)) (λ is. inr is) (reply_lacks links one later)

last_lacks : (links : List Served) (one : Served) → one.ended ≡ ended.Memory → LacksReply (links ++ one ∷ [])
last_lacks [] one is = inl is
last_lacks (l ∷ links) one is = inr (last_lacks links one is)

module _ {P L T : Type 0} (waiting : P → Option (List (List ℕ))) (served : P → Option (List (List ℕ × ℕ))) (faults : P → ℕ) (left written : L → Option (List ℕ)) (link_faults : L → ℕ) (Answers : RequestParts → ReplyParts → T → T → Type 0) where
  abbrev One : ℕ → Stage P T → Stage P T → Served → Type 0
  One most old new one = ServesOne waiting served faults left written link_faults Answers most old new one

  abbrev Each : ℕ → Stage P T → List Served → Stage P T → Type 0
  Each most old links new = ServesEach waiting served faults left written link_faults Answers most old links new

  abbrev First : ℕ → Stage P T → Stage P T → Result ℕ DoorEnd → Type 0
  First most old new result = ServesFirst waiting served faults left written link_faults Answers most old new result

  each_more : (most : ℕ) (old mid new : Stage P T) (links : List Served) (one : Served) → Each most old links mid → (LacksReply links → ⊥) → One (left_after most links) mid new one → Each most old (links ++ one ∷ []) new
  each_more most old mid new [] one done sound turn = (new, subst (λ (s : Stage P T). One most s new one) done turn, (λ is. refl), refl)
  each_more most old mid new (l ∷ links) one done sound turn =
      (done.0, done.1, (λ is. absurd (sound (inl is))), each_more (most - l.replies) done.0 mid new links one done.3 (λ lacks. sound (inr lacks)) turn)

  -- ---- all links so far

  -- So many links were served, memory was found for the replies to each, and so many replies are left.
  pub record WentEach (most : ℕ) (old now : Stage P T) (replies count : ℕ) : Type 0 where
    pub links : List Served
    pub each : Each most old links now
    pub sound : LacksReply links → ⊥
    pub left_is : left_after most links ≡ replies
    pub count_is : length links ≡ count

  pub each_none : (most : ℕ) (at : Stage P T) → WentEach most at at most 0
  each_none most at = record { links = []; each = refl; sound = λ lacks. absurd lacks; left_is = refl; count_is = refl }

  module _ (most : ℕ) (old mid new : Stage P T) (replies count : ℕ) (went : WentEach most old mid replies count) where
    all_links : (one : Served) → One replies mid new one → Each most old (went.links ++ one ∷ []) new
    all_links one turn = each_more most old mid new went.links one went.each went.sound (subst (λ k. One k mid new one) (sym went.left_is) turn)

    -- one link more
    pub each_on : (result : Result ℕ DoorEnd) → First replies mid new result → (n : ℕ) → result ≡ Ok n → WentEach most old new (replies - n) (count + 1)
    each_on result (inl (one, is, turn)) n on = record {
      links = went.links ++ one ∷ [];
      each = all_links one turn;
      sound = λ lacks. ⊎_elim (λ before. went.sound before) (λ now. on_sound one.ended one.replies n (sym is ∙ on) now) (reply_lacks went.links one lacks);
      left_is = left_after_more most went.links one ∙ ap (λ k. k - one.replies) went.left_is ∙ ap (λ k. replies - k) (goes_by one.ended one.replies n (sym is ∙ on));
      count_is = omega (arith, length-append went.links (one ∷ []), went.count_is);
    }
    each_on result (inr (end, is, none)) n on = let never : Err end ≡ Ok n = sym is ∙ on in absurd cc

    -- the last, or none came
    pub each_end : count < most → 1 ≤ replies → (result : Result ℕ DoorEnd) → First replies mid new result → (end : DoorEnd) → result ≡ Err end
        → ServesDoorInOrder waiting served faults left written link_faults Answers most old new end
    each_end less some result (inl (one, is, turn)) end on =
        let lacking = ends_lacking one.ended one.replies end (sym is ∙ on) in record {
          links = went.links ++ one ∷ [];
          few = omega (arith, length-append went.links (one ∷ []), went.count_is, less);
          mid = new;
          each = all_links one turn;
          ends = inr (inr (record { lacks = last_lacks went.links one lacking.0; unasked = refl; is = lacking.1 }));
        }
    each_end less some result (inr (other, is, none)) end on =
        let same : other ≡ end = ap or_done (sym is ∙ on) in record {
          links = went.links;
          few = omega (arith, went.count_is, less);
          mid = mid;
          each = went.each;
          ends = inr (inl (record {
            some_left = omega (arith, went.left_is, some);
            fewer = omega (arith, went.count_is, less);
            sound = went.sound;
            unmet = subst (λ (e : DoorEnd). ComesNone waiting served faults mid new e) same none;
          }));
        }

  -- no reply is left, or as many links were served
  pub each_out : (most : ℕ) (old now : Stage P T) (replies count : ℕ) → WentEach most old now replies count → count ≤ most → (replies ≡ 0) ⊎ (most ≤ count) → ServesDoorInOrder waiting served faults left written link_faults Answers most old now door.Done
  each_out most old now replies count went few over = record {
    links = went.links;
    few = omega (arith, went.count_is, few);
    mid = now;
    each = went.each;
    ends = inl (record {
      all = ⊎_elim (λ none. inl (went.left_is ∙ none)) (λ whole. inr (omega (arith, went.count_is, few, whole))) over;
      sound = went.sound;
      unasked = refl;
      is = refl;
    });
  }

  -- ---- what each link keeps

  module _ (Keeps : T → T → Type 0) (still : (t : T) → Keeps t t) (joins : (a b c : T) → Keeps a b → Keeps b c → Keeps a c)
      (answering : (request : RequestParts) (reply : ReplyParts) (a b : T) → Answers request reply a b → Keeps a b) where
    each_keeps : (most : ℕ) (old new : Stage P T) (links : List Served) → Each most old links new → Keeps old.tools new.tools
    each_keeps most old new [] done = subst (λ (s : Stage P T). Keeps old.tools s.tools) (sym done) (still old.tools)
    each_keeps most old new (l ∷ links) done =
        joins old.tools done.0.tools new.tools
        (order_keeps left written link_faults Answers Keeps still joins answering most (stage done.1.link old.tools) (stage done.1.back done.0.tools) l done.1.in_order)
        (each_keeps (most - l.replies) done.0 new links done.3)

    -- what each answer keeps a door keeps that was served in order
    pub links_keep : (most : ℕ) (old new : Stage P T) (end : DoorEnd) → ServesDoorInOrder waiting served faults left written link_faults Answers most old new end → Keeps old.tools new.tools
    links_keep most old new end order =
        let first = each_keeps most old order.mid order.links order.each in
        let same : new.tools ≡ order.mid.tools = ⊎_elim
        (λ all. ap (λ (s : Stage P T). s.tools) all.unasked)
        (λ other. ⊎_elim (λ unmet. unmet.unmet.same) (λ lacking. ap (λ (s : Stage P T). s.tools) lacking.unasked) other)
        order.ends in
        subst (λ (t : T). Keeps old.tools t) (sym same) first
