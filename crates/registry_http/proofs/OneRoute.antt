-- A path is that of one route.
use Rattle.std.proofs.Common.{◌≡◌, ℕ, List, [], ◌∷◌, Some, sym, ap, subst, ◌∙◌, arith}
use Rattle.std.specs.Str.Parse.{digits_value}
use Rattle.std.proofs.lemmas.Fmt.{decimal_is_IsNumeral}
use Rattle.matchit.specs.Router.{RouteOf}
use Rattle.matchit.specs.Seek.{first}
use Rattle.matchit.specs.Params.{walk}
use Rattle.registry_http.specs.declared.rows.Row.{Row}
use Rattle.registry_http.specs.declared.rows.Row.TheVariants as row
use Rattle.registry_http.specs.declared.routes.Route.{Route}
use Rattle.registry_http.specs.declared.routes.Route.TheVariants.{Post, Receipt, Folio, Ranks, Plan, PlanCsv, Report}
use Rattle.registry_http.specs.Routes.{path_of, IsRouteNumber, IsRoute}
use Rattle.registry_http.specs.inner.Finding.{the_table, IsNumberPart, FitsRoute}
use Rattle.registry_http.proofs.FoundRows.{finds}

-- the route of a row and a number
abbrev route_by : Row → ℕ → Route
route_by row.Post n = Post
route_by row.Receipt n = Receipt n
route_by row.Folio n = Folio n
route_by row.Ranks n = Ranks n
route_by row.Plan n = Plan n
route_by row.PlanCsv n = PlanCsv n
route_by row.Report n = Report

abbrev number_of : List (List ℕ × List ℕ) → ℕ
number_of [] = 0
number_of (part ∷ parts) = digits_value 10 part.1

number_is : (n : ℕ) (parts : List (List ℕ × List ℕ)) → IsRouteNumber n → IsNumberPart n parts → n ≡ number_of parts
number_is n parts is one = sym (ap number_of one ∙ (decimal_is_IsNumeral n (omega (arith, is.1))).1)

fits_is : (a : Route) (v : Row) (parts : List (List ℕ × List ℕ)) → IsRoute a → FitsRoute a v parts → a ≡ route_by v (number_of parts)
fits_is Post v parts is fits = ap (λ r. route_by r (number_of parts)) (sym fits)
fits_is (Receipt n) v parts is fits = ap (λ m. Receipt m) (number_is n parts is fits.1) ∙ ap (λ r. route_by r (number_of parts)) (sym fits.0)
fits_is (Folio n) v parts is fits = ap (λ m. Folio m) (number_is n parts is fits.1) ∙ ap (λ r. route_by r (number_of parts)) (sym fits.0)
fits_is (Ranks n) v parts is fits = ap (λ m. Ranks m) (number_is n parts is fits.1) ∙ ap (λ r. route_by r (number_of parts)) (sym fits.0)
fits_is (Plan n) v parts is fits = ap (λ m. Plan m) (number_is n parts is fits.1) ∙ ap (λ r. route_by r (number_of parts)) (sym fits.0)
fits_is (PlanCsv n) v parts is fits = ap (λ m. PlanCsv m) (number_is n parts is fits.1) ∙ ap (λ r. route_by r (number_of parts)) (sym fits.0)
fits_is Report v parts is fits = ap (λ r. route_by r (number_of parts)) (sym fits)

pub one_route : (a b : Route) → IsRoute a → IsRoute b → path_of a ≡ path_of b → a ≡ b
one_route a b is_a is_b same =
    let x = finds a is_a in
    let y = finds b is_b in
    let both : Some x.found ≡ Some y.found = sym x.is_found ∙ ap (first the_table) same ∙ y.is_found in
    let one : x.found ≡ y.found = cc in
    let here = subst (λ (m : RouteOf Row). FitsRoute a m.value (walk m.pattern m.text (path_of a) m.names 0 0)) one x.fits in
    let there = subst (λ p. FitsRoute a y.found.value (walk y.found.pattern y.found.text p y.found.names 0 0)) same here in
    fits_is a y.found.value _ is_a there ∙ sym (fits_is b y.found.value _ is_b y.fits)
