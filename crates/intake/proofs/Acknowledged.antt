-- Every image of the disk has the receipts of whatever was replied to.
use Rattle.std.proofs.Common.{◌≡◌, ℕ, List, [], ◌∷◌, ◌++◌, refl, sym, ◌∙◌, subst, append_assoc, Some, None}
use Rattle.std.proofs.lemmas.List.{append_cancel_left}
use Rattle.gb_base.specs.DayMinute.{DayMinute}
use Rattle.act_model.specs.declared.items.Item.{Item}
use Rattle.act_model.specs.declared.receipts.Receipt.{Receipt}
use Rattle.intake.specs.Grown.{IsFront}
use Rattle.intake.specs.Requests.{Medium, Held, received, received_text, replied_by_clock, reply_of, replies, held_after}
use Rattle.intake_requests.specs.declared.requests.Request.{Request}
use Rattle.intake_requests.specs.declared.requests.Request.TheVariants.{Nothing, Refused, Receive}
use Rattle.intake.proofs.Durable.{front_refl}
use Rattle.intake.proofs.Replies.{grows}

not_empty : {A : Type 0} (xs : List A) (x : A) → xs ++ x ∷ [] ≡ [] → ⊥
not_empty [] x is = absurd cc
not_empty (y ∷ ys) x is = absurd cc

-- a request that the clock stamps and that has no reply leaves the journal as it is
no_reply_by_clock : (medium : Medium) (journal : List Receipt) (ticks : List DayMinute) (sender reference : ℕ) (item : Item)
    → (replied_by_clock medium journal ticks sender reference item).text ≡ [] → (replied_by_clock medium journal ticks sender reference item).held.journal ≡ journal
no_reply_by_clock medium journal [] sender reference item none = refl
no_reply_by_clock medium journal (t ∷ []) sender reference item none = absurd (not_empty (received_text (received medium journal t sender reference item)) 10 none)
no_reply_by_clock medium journal (t ∷ u ∷ ticks) sender reference item none = absurd (not_empty (received_text (received medium journal t sender reference item)) 10 none)

no_reply : (medium : Medium) (held : Held) (request : Request) → (reply_of medium held request).text ≡ [] → (reply_of medium held request).held.journal ≡ held.journal
unfolding reply_of
no_reply medium held Nothing none = refl
no_reply medium held (Refused text) none = refl
no_reply medium held (Receive (Some stamp) from item) none = absurd (not_empty (received_text (received medium held.journal stamp from.sender from.reference item)) 10 none)
no_reply medium held (Receive None from item) none = no_reply_by_clock medium held.journal held.ticks from.sender from.reference item none

pub first_empty : (xs ys : List ℕ) → xs ++ ys ≡ [] → xs ≡ []
first_empty [] ys is = refl
first_empty (x ∷ xs) ys is = absurd cc

second_empty : (xs ys : List ℕ) → xs ++ ys ≡ [] → ys ≡ []
second_empty [] ys is = is
second_empty (x ∷ xs) ys is = absurd cc

-- requests none of which has a reply leave the journal as it is
none_replied : (medium : Medium) (held : Held) (requests : List Request) → replies medium held requests ≡ [] → IsFront (held_after medium held requests).journal held.journal
none_replied medium held [] none = front_refl held.journal
none_replied medium held (x ∷ xs) none =
    subst (IsFront (held_after medium held (x ∷ xs)).journal) (no_reply medium held x (first_empty (reply_of medium held x).text _ none))
    (none_replied medium (reply_of medium held x).held xs (second_empty (reply_of medium held x).text _ none))

-- where the replies to one front of the requests begin the replies to another front, the first has no more receipts than the second
pub front_by_replies : (medium : Medium) (held : Held) (front back done rest : List Request) (more : List ℕ) → front ++ back ≡ done ++ rest
    → replies medium held done ≡ replies medium held front ++ more → IsFront (held_after medium held front).journal (held_after medium held done).journal
front_by_replies medium held [] back done rest more same text = grows medium held done
front_by_replies medium held (x ∷ front) back [] rest more same text = none_replied medium held (x ∷ front) (first_empty (replies medium held (x ∷ front)) more (sym text))
front_by_replies medium held (x ∷ front) back (y ∷ done) rest more same text =
    let one : x ≡ y = cc in
    let others : front ++ back ≡ done ++ rest = cc in
    let reply = (reply_of medium held x).text in
    let here : reply ++ replies medium (reply_of medium held x).held done ≡ reply ++ (replies medium (reply_of medium held x).held front ++ more) =
    subst (λ z. (reply_of medium held z).text ++ replies medium (reply_of medium held z).held done ≡ reply ++ (replies medium (reply_of medium held x).held front ++ more)) (sym one)
    (text ∙ append_assoc reply (replies medium (reply_of medium held x).held front) more) in
    subst (λ z. IsFront (held_after medium (reply_of medium held x).held front).journal (held_after medium (reply_of medium held z).held done).journal) one
    (front_by_replies medium (reply_of medium held x).held front back done rest more others
    (append_cancel_left reply (replies medium (reply_of medium held x).held done) (replies medium (reply_of medium held x).held front ++ more) here))
