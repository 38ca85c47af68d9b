-- The answers of a link are the requests of its bytes, one after another.
use Rattle.std.proofs.Common.{◌≡◌, ℕ, List, [], ◌∷◌, ◌++◌, Some, refl, sym, ap, subst, ◌∙◌, append_assoc, append-nil}
use Rattle.registry_http.specs.RequestParts.{RequestParts}
use Rattle.registry_http.specs.Requests.{AtFront, Whole, Nothing, Cut, HeadFault, BodyTooLong, StandsIn, Tells, ReadsNext}
use Rattle.registry_http.specs.RequestLists.{IsLast, AreRequests, IsNext}
use Rattle.registry_http.specs.declared.requests.Next.{Next}
use Rattle.registry_http.specs.declared.requests.Next.TheVariants as next
use Rattle.registry_http.proofs.OneFound.{one_found}
use Rattle.registry_http.proofs.OneRequest.{whole_stays, refused_stays, too_long_stays}

-- where a request stands at the front, it is the first of the list
first_is : (bytes rest : List ℕ) (request : RequestParts) (requests : List RequestParts) (last : AtFront) → StandsIn bytes (Whole request rest)
    → AreRequests bytes requests last → IsNext (next.Request request) rest requests last
first_is bytes rest request [] last x are = absurd (subst IsLast (one_found bytes last (Whole request rest) are.0 x) are.1)
first_is bytes rest request (other ∷ others) last x are =
    let same = one_found bytes (Whole other are.0) (Whole request rest) are.1 x in
    let parts : other ≡ request = ap (first_of other) same in
    let behind : are.0 ≡ rest = ap (rest_of are.0) same in
    (others, ap (λ r. r ∷ others) parts, subst (λ l. AreRequests l others last) behind are.2)
  where
    first_of : RequestParts → AtFront → RequestParts
    first_of d (Whole r s) = r
    first_of d Nothing = d
    first_of d Cut = d
    first_of d HeadFault = d
    first_of d BodyTooLong = d

    rest_of : List ℕ → AtFront → List ℕ
    rest_of d (Whole r s) = s
    rest_of d Nothing = d
    rest_of d Cut = d
    rest_of d HeadFault = d
    rest_of d BodyTooLong = d

-- where no request stands at the front, the list is empty
none_is : (bytes : List ℕ) (here : AtFront) (requests : List RequestParts) (last : AtFront) → IsLast here → StandsIn bytes here → AreRequests bytes requests last
    → (requests ≡ []) × (last ≡ here)
none_is bytes here [] last is x are = (refl, one_found bytes last here are.0 x)
none_is bytes here (other ∷ others) last is x are = absurd (subst IsLast (one_found bytes here (Whole other are.0) x are.1) is)

-- where no bytes are left, the bytes that came are all
all_came : (came left : List ℕ) → left ≡ [] → came ≡ came ++ left
all_came came left end = sym (append-nil came) ∙ sym (ap (λ l. came ++ l) end)

told : (came left kept : List ℕ) (answer : Next) (requests : List RequestParts) (last : AtFront) → Tells came kept (Some left) answer
    → AreRequests (came ++ left) requests last → IsNext answer (kept ++ left) requests last
told came left kept (next.Request request) requests last tells are =
    first_is (came ++ left) (kept ++ left) request requests last (whole_stays came left kept request tells) are
told came left kept next.End requests last tells are =
    none_is (came ++ left) Nothing requests last tt (subst (λ l. StandsIn l Nothing) (all_came came left tells.1) tells.0) are
told came left kept next.Cut requests last tells are =
    none_is (came ++ left) Cut requests last tt (subst (λ l. StandsIn l Cut) (all_came came left tells.1) tells.0) are
told came left kept next.HeadFault requests last tells are =
    none_is (came ++ left) HeadFault requests last tt (refused_stays came left tells) are
told came left kept next.BodyTooLong requests last tells are =
    none_is (came ++ left) BodyTooLong requests last tt (too_long_stays came left tells) are
told came left kept next.LinkFault requests last tells are = tt
told came left kept next.Memory requests last tells are = tt

pub in_turn : (left_old left_new kept_old kept_new : List ℕ) (answer : Next) (requests : List RequestParts) (last : AtFront)
    → ReadsNext (Some left_old) (Some left_new) kept_old kept_new answer → AreRequests (kept_old ++ left_old) requests last
    → IsNext answer (kept_new ++ left_new) requests last
in_turn left_old left_new kept_old kept_new answer requests last x are =
    told (kept_old ++ x.read) left_new kept_new answer requests last x.answered
    (subst (λ l. AreRequests l requests last) (ap (λ l. kept_old ++ l) x.consumed ∙ sym (append_assoc kept_old x.read left_new)) are)

-- a link's bytes are one list of requests
pub one_list : (bytes : List ℕ) (a b : List RequestParts) (last end : AtFront) → AreRequests bytes a last → AreRequests bytes b end → (a ≡ b) × (last ≡ end)
one_list bytes [] b last end x y = let same = none_is bytes last b end x.1 x.0 y in (sym same.0, sym same.1)
one_list bytes (r ∷ a) b last end x y =
    let first = first_is bytes x.0 r b end x.1 y in
    let others = one_list x.0 a first.0 last end x.2 first.2 in
    (ap (λ l. r ∷ l) others.0 ∙ sym first.1, others.1)
