-- Each request asks for a route, or no route has its path, or one has it with another method.
use Rattle.std.proofs.Common.{◌≡◌, ◌≢◌, ◌⊎◌, inl, inr, ⊎_elim, ℕ, zero, suc, ◌-◌, ◌<◌, ◌^◌, Bool, true, false, List, sym, ◌∙◌, subst, arith}
use Rattle.std.specs.Str.{bytes_eq}
use Rattle.std.proofs.lemmas.Bool.{cases_Bool, cases_lt, true≢false}
use Rattle.std.proofs.lemmas.Slice.Eq.{bytes_eq-Decides}
use Rattle.registry_http.specs.RequestParts.{RequestParts}
use Rattle.registry_http.specs.Routes.{IsRoute, IsRouteNumber, method_of, path_of}
use Rattle.registry_http.specs.declared.routes.Route.{Route}
use Rattle.registry_http.specs.declared.routes.Route.TheVariants as route
use Rattle.connections.specs.Asking.{Asked, AskedFor, NoRoute, WrongMethod, Asks}

-- ---- a number below a bound passes a test, or none does

abbrev Finds : (ℕ → Bool) → ℕ → Type 0
Finds test bound = ((n : ℕ) × (n < bound) × (test n ≡ true)) ⊎ ((n : ℕ) → n < bound → test n ≡ false)

none_more : (test : ℕ → Bool) (m n : ℕ) → test m ≡ false → ((k : ℕ) → k < m → test k ≡ false) → n < suc m → test n ≡ false
none_more test m n here none below = ⊎_elim (λ less. none n less) (λ least. let same : m ≡ n = omega (arith, least, below) in subst (λ k. test k ≡ false) same here) (cases_lt n m)

finds : (test : ℕ → Bool) (bound : ℕ) → Finds test bound
finds test zero = inr (λ n below. absurd (omega (arith, below)))
finds test (suc m) = ⊎_elim
    (λ found. inl (found.0, omega (arith, found.1), found.2))
    (λ none. ⊎_elim (λ yes. inl (m, omega arith, yes)) (λ no. inr (λ n below. none_more test m n no none below)) (cases_Bool (test m)))
    (finds test m)

-- ---- a path is that of a route of this shape, or of none

abbrev IsOneOf : List ℕ → (ℕ → Route) → Type 0
IsOneOf path shape = (n : ℕ) × IsRouteNumber n × (path ≡ path_of (shape n))

abbrev IsNoneOf : List ℕ → (ℕ → Route) → Type 0
IsNoneOf path shape = (n : ℕ) → IsRouteNumber n → path ≢ path_of (shape n)

is_word : (path word : List ℕ) → (path ≡ word) ⊎ (path ≢ word)
is_word path word = ⊎_elim
    (λ yes. inl ((bytes_eq-Decides path word).0 yes))
    (λ no. inr (λ same. true≢false (sym ((bytes_eq-Decides path word).1 same) ∙ no)))
    (cases_Bool (bytes_eq path word))

none_of : (path : List ℕ) (shape : ℕ → Route) (bound n : ℕ) → ((k : ℕ) → k < bound → bytes_eq path (path_of (shape (suc k))) ≡ false) → 0 < n → n < suc bound → path ≢ path_of (shape n)
none_of path shape bound zero none above below same = absurd (omega (arith, above))
none_of path shape bound (suc k) none above below same =
    true≢false (sym ((bytes_eq-Decides path (path_of (shape (suc k)))).1 same) ∙ none k (omega (arith, below)))

one_below : (path : List ℕ) (shape : ℕ → Route) (bound : ℕ) → ((n : ℕ) × ((0 < n) × (n < suc bound)) × (path ≡ path_of (shape n))) ⊎ ((n : ℕ) → 0 < n → n < suc bound → path ≢ path_of (shape n))
one_below path shape bound = ⊎_elim
    (λ found. inl (suc found.0, (omega arith, omega (arith, found.1)), (bytes_eq-Decides path (path_of (shape (suc found.0)))).0 found.2))
    (λ none. inr (λ n above below. none_of path shape bound n none above below))
    (finds (λ n. bytes_eq path (path_of (shape (suc n)))) bound)

one_or_none : (path : List ℕ) (shape : ℕ → Route) → IsOneOf path shape ⊎ IsNoneOf path shape
one_or_none path shape = ⊎_elim
    (λ one. inl (one.0, (one.1.0, omega (arith, one.1.1)), one.2))
    (λ none. inr (λ n is. none n is.0 (omega (arith, is.1))))
    (one_below path shape (2 ^ 32 - 1))

-- ---- a path is that of a route, or of none

abbrev HasRoute : List ℕ → Type 0
HasRoute path = (r : Route) × IsRoute r × (path ≡ path_of r)

abbrev HasNoRoute : List ℕ → Type 0
HasNoRoute path = (r : Route) → IsRoute r → path ≢ path_of r

no_route : (path : List ℕ) → path ≢ path_of route.Post → path ≢ path_of route.Report → IsNoneOf path route.Receipt → IsNoneOf path route.Folio → IsNoneOf path route.Ranks
    → IsNoneOf path route.Plan → IsNoneOf path route.PlanCsv → HasNoRoute path
no_route path post report receipt folio ranks plan csv route.Post is = post
no_route path post report receipt folio ranks plan csv (route.Receipt n) is = receipt n is
no_route path post report receipt folio ranks plan csv (route.Folio n) is = folio n is
no_route path post report receipt folio ranks plan csv (route.Ranks n) is = ranks n is
no_route path post report receipt folio ranks plan csv (route.Plan n) is = plan n is
no_route path post report receipt folio ranks plan csv (route.PlanCsv n) is = csv n is
no_route path post report receipt folio ranks plan csv route.Report is = report

has_route : (path : List ℕ) → HasRoute path ⊎ HasNoRoute path
has_route path =
    ⊎_elim (λ is. inl (route.Post, tt, is)) (λ post.
    ⊎_elim (λ is. inl (route.Report, tt, is)) (λ report.
    ⊎_elim (λ one. inl (route.Receipt one.0, one.1, one.2)) (λ receipt.
    ⊎_elim (λ one. inl (route.Folio one.0, one.1, one.2)) (λ folio.
    ⊎_elim (λ one. inl (route.Ranks one.0, one.1, one.2)) (λ ranks.
    ⊎_elim (λ one. inl (route.Plan one.0, one.1, one.2)) (λ plan.
    ⊎_elim (λ one. inl (route.PlanCsv one.0, one.1, one.2)) (λ csv.
    inr (no_route path post report receipt folio ranks plan csv))
    (one_or_none path (λ n. route.PlanCsv n))) (one_or_none path (λ n. route.Plan n))) (one_or_none path (λ n. route.Ranks n)))
    (one_or_none path (λ n. route.Folio n))) (one_or_none path (λ n. route.Receipt n))) (is_word path (path_of route.Report))) (is_word path (path_of route.Post))

-- ---- what a request asks for

pub record Wants (request : RequestParts) : Type 0 where
  pub wants : Asked
  pub asks : Asks request wants

by_method : (request : RequestParts) (r : Route) → IsRoute r → request.path ≡ path_of r → (request.method ≡ method_of r) ⊎ (request.method ≢ method_of r) → Wants request
by_method request r is path method = ⊎_elim
    (λ same. record { wants = AskedFor r; asks = (is, path, same) })
    (λ other. record { wants = WrongMethod; asks = (r, is, path, other) }) method

pub always_asked : (request : RequestParts) → Wants request
always_asked request = ⊎_elim
    (λ found. by_method request found.0 found.1 found.2 (is_word request.method (method_of found.0)))
    (λ none. record { wants = NoRoute; asks = none })
    (has_route request.path)
