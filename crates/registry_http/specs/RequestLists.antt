-- The requests of a link, one after another.
use Rattle.std.specs.Prelude.{◌≡◌, ℕ, List, [], ◌∷◌}
use Rattle.registry_http.specs.RequestParts.{RequestParts}
use Rattle.registry_http.specs.Requests.{AtFront, Whole, Nothing, Cut, HeadFault, BodyTooLong, StandsIn}
use Rattle.registry_http.specs.declared.requests.Next.{Next}
use Rattle.registry_http.specs.declared.requests.Next.TheVariants as next

-- what stands behind the last request of a link: no request
abbrev pub IsLast : AtFront → Type 0
IsLast (Whole request rest) = ⊥
IsLast Nothing = Unit {0}
IsLast Cut = Unit {0}
IsLast HeadFault = Unit {0}
IsLast BodyTooLong = Unit {0}

-- the bytes of a link are these requests, one after another, and then bytes at whose front this stands
abbrev pub AreRequests : List ℕ → List RequestParts → AtFront → Type 0
AreRequests bytes [] last = StandsIn bytes last × IsLast last
AreRequests bytes (request ∷ requests) last = (rest : List ℕ) × StandsIn bytes (Whole request rest) × AreRequests rest requests last

-- the answer is the first of the requests, and these bytes have the others; or there are no requests, and the answer is what stands behind them; where the link failed or memory ran out nothing is said
abbrev pub IsNext : Next → List ℕ → List RequestParts → AtFront → Type 0
IsNext (next.Request request) bytes requests last =
    (others : List RequestParts) × (requests ≡ request ∷ others) × AreRequests bytes others last
IsNext next.End bytes requests last = (requests ≡ []) × (last ≡ Nothing)
IsNext next.Cut bytes requests last = (requests ≡ []) × (last ≡ Cut)
IsNext next.HeadFault bytes requests last = (requests ≡ []) × (last ≡ HeadFault)
IsNext next.BodyTooLong bytes requests last = (requests ≡ []) × (last ≡ BodyTooLong)
IsNext next.LinkFault bytes requests last = Unit {0}
IsNext next.Memory bytes requests last = Unit {0}
