-- The routes: a table has the method and the path of each row, and a route is a row with its number.
use Rattle.std.specs.Prelude.{ℕ, ◌^◌, ◌<◌, List, [], ◌++◌, codes}
use Rattle.std.specs.Fmt.{decimal}
use Rattle.registry_http.specs.declared.rows.Row.{Row}
use Rattle.registry_http.specs.declared.rows.Row.TheVariants as row
use Rattle.registry_http.specs.declared.routes.Route.{Route}
use Rattle.registry_http.specs.declared.routes.Route.TheVariants.{Post, Receipt, Folio, Ranks, Plan, PlanCsv, Report}

-- ---- the table

-- the path of a row, with this in the place of its number
abbrev pub path_at : Row → List ℕ → List ℕ
path_at row.Post number = codes "/receipts"
path_at row.Receipt number = codes "/receipts/" ++ number
path_at row.Folio number = codes "/folios/" ++ number
path_at row.Ranks number = codes "/folios/" ++ (number ++ codes "/ranks")
path_at row.Plan number = codes "/plans/" ++ number
path_at row.PlanCsv number = codes "/plans/" ++ (number ++ codes "/csv")
path_at row.Report number = codes "/report"

-- the method of a row: one receives, and all others read
abbrev pub method_in : Row → List ℕ
method_in row.Post = codes "POST"
method_in other = codes "GET"

-- ---- the routes

-- the row of a route
abbrev pub row_of : Route → Row
row_of Post = row.Post
row_of (Receipt n) = row.Receipt
row_of (Folio f) = row.Folio
row_of (Ranks f) = row.Ranks
row_of (Plan n) = row.Plan
row_of (PlanCsv n) = row.PlanCsv
row_of Report = row.Report

-- the number of a route, as it is printed; nothing where it has none
abbrev pub number_of : Route → List ℕ
number_of Post = []
number_of (Receipt n) = decimal n
number_of (Folio f) = decimal f
number_of (Ranks f) = decimal f
number_of (Plan n) = decimal n
number_of (PlanCsv n) = decimal n
number_of Report = []

-- the path of a route
abbrev pub path_of : Route → List ℕ
path_of route = path_at (row_of route) (number_of route)

-- the method of a route
abbrev pub method_of : Route → List ℕ
method_of route = method_in (row_of route)

-- the number of a folio or of a receipt, from 1 to 4,294,967,295
abbrev pub IsRouteNumber : ℕ → Type 0
IsRouteNumber n = (0 < n) × (n < 2 ^ 32)

-- the number of a route is one of a folio or of a receipt
abbrev pub IsRoute : Route → Type 0
IsRoute Post = Unit {0}
IsRoute (Receipt n) = IsRouteNumber n
IsRoute (Folio f) = IsRouteNumber f
IsRoute (Ranks f) = IsRouteNumber f
IsRoute (Plan n) = IsRouteNumber n
IsRoute (PlanCsv n) = IsRouteNumber n
IsRoute Report = Unit {0}
