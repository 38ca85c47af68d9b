-- Links that were served, one list after another: what is held and left after them, and which wait then.
use Rattle.std.proofs.Common.{◌≡◌, ◌⊎◌, inl, inr, ⊎_elim, ℕ, zero, suc, List, [], ◌∷◌, ◌++◌, drop, length, refl, sym, ◌∙◌, ap, subst}
use Rattle.std.proofs.lemmas.Grind.{flat_map-append}
use Rattle.std.specs.List.{AllZip}
use Rattle.intake.specs.Requests.{Held}
use Rattle.connections.specs.Doors.{AreServed, AskSo, LacksReply, LinkRequests, LinkServed, left_after, left_by, pairs_of, turns_taken}
use Rattle.connections.specs.Served.{held_by, taken_of, written_by}
use Rattle.connections.specs.Turns.{held_after}
use Rattle.connections.proofs.TurnLists.{held_more}

pub taken_more : (xs ys : List LinkServed) → turns_taken (xs ++ ys) ≡ turns_taken xs ++ turns_taken ys
taken_more xs ys = flat_map-append (λ (link : LinkServed). taken_of link.connection) xs ys

pub left_more : (left : ℕ) (xs ys : List LinkServed) → left_after left (xs ++ ys) ≡ left_after (left_after left xs) ys
left_more left [] ys = refl
left_more left (x ∷ xs) ys = left_more (left_by left x) xs ys

pub pairs_more : (held : Held) (xs ys : List LinkServed) → pairs_of held (xs ++ ys) ≡ pairs_of held xs ++ pairs_of (held_after held (turns_taken xs)) ys
pairs_more held [] ys = refl
pairs_more held (x ∷ xs) ys =
    ap (λ (l : List (List ℕ × ℕ)). (written_by held x.connection, x.faults) ∷ l)
    (pairs_more (held_by held x.connection) xs ys
    ∙ ap (λ (h : Held). pairs_of (held_by held x.connection) xs ++ pairs_of h ys) (sym (held_more held (taken_of x.connection) (turns_taken xs))))

-- none were served
pub none_served : (held : Held) (left : ℕ) (asked : List LinkRequests) → AreServed held left asked []
none_served held left [] = tt
none_served held left (a ∷ asked) = tt

pub served_more : (held : Held) (left : ℕ) (asked : List LinkRequests) (xs ys : List LinkServed) → AreServed held left asked xs → (LacksReply xs → ⊥)
    → AreServed (held_after held (turns_taken xs)) (left_after left xs) (drop (length xs) asked) ys → AreServed held left asked (xs ++ ys)
served_more held left asked [] ys are sound more = more
served_more held left [] (x ∷ xs) ys are sound more = absurd are
served_more held left (a ∷ asked) (x ∷ xs) ys are sound more = (
  are.0,
  are.1,
  λ lacks. absurd (sound (inl lacks)),
  served_more (held_by held x.connection) (left_by left x) asked xs ys are.3 (λ lacks. sound (inr lacks))
      (subst (λ (h : Held). AreServed h (left_after (left_by left x) xs) (drop (length xs) asked) ys) (held_more held (taken_of x.connection) (turns_taken xs)) more),
)

-- ---- where memory ran out

pub lacks_more : (xs ys : List LinkServed) → LacksReply (xs ++ ys) → LacksReply xs ⊎ LacksReply ys
lacks_more [] ys lacks = inr lacks
lacks_more (x ∷ xs) ys (inl is) = inl (inl is)
lacks_more (x ∷ xs) ys (inr later) = ⊎_elim (λ first. inl (inr first)) (λ second. inr second) (lacks_more xs ys later)

pub lacks_later : (xs ys : List LinkServed) → LacksReply ys → LacksReply (xs ++ ys)
lacks_later [] ys lacks = lacks
lacks_later (x ∷ xs) ys lacks = inr (lacks_later xs ys lacks)

-- ---- what waits

drop_none : {A : Type 0} (n : ℕ) → drop {A = A} n [] ≡ []
drop_none zero = refl
drop_none (suc n) = refl

pub drop_more : {A : Type 0} (xs ys : List LinkServed) (l : List A) → drop (length ys) (drop (length xs) l) ≡ drop (length (xs ++ ys)) l
drop_more [] ys l = refl
drop_more (x ∷ xs) ys [] = drop_none (length ys)
drop_more (x ∷ xs) ys (a ∷ l) = drop_more xs ys l

pub zip_drop : (n : ℕ) (waiting : List (List ℕ)) (asked : List LinkRequests) → AllZip AskSo waiting asked → AllZip AskSo (drop n waiting) (drop n asked)
zip_drop zero waiting asked are = are
zip_drop (suc n) [] [] are = tt
zip_drop (suc n) [] (a ∷ asked) are = absurd are
zip_drop (suc n) (bytes ∷ waiting) [] are = absurd are
zip_drop (suc n) (bytes ∷ waiting) (a ∷ asked) are = zip_drop n waiting asked are.1
