-- How the route of a path is found in the table of routes.
use Rattle.std.specs.Prelude.{◌≡◌, ℕ, ◌+◌, ◌==◌, cond, List, [], ◌∷◌, Ok, codes}
use Rattle.std.specs.Fmt.{decimal}
use Rattle.matchit.specs.Route.{parse_route}
use Rattle.matchit.specs.Router.{InsertsRead, RouteOf}
use Rattle.matchit.specs.Rows.{RowsOf, param_token}
use Rattle.registry_http.specs.declared.routes.Route.{Route}
use Rattle.registry_http.specs.declared.routes.Route.TheVariants.{Post, Receipt, Folio, Ranks, Plan, PlanCsv, Report}
use Rattle.registry_http.specs.declared.rows.PathNumber.TheVariants.{Named}
use Rattle.registry_http.specs.declared.rows.Row.{Row}
use Rattle.registry_http.specs.declared.rows.Row.TheVariants as row
use Rattle.registry_http.specs.Routes.{path_at}
use Rattle.registry_http.specs.inner.RowPaths.{number_text}

-- the text of a row, by which the search takes it in
abbrev pub row_text : Row → List ℕ
row_text value = path_at value (number_text Named)

-- how many bytes stand ahead of the brace of a name
abbrev pub ahead_of_brace : List ℕ → ℕ
ahead_of_brace [] = 0
ahead_of_brace (byte ∷ rest) = cond (byte == 123) 0 (ahead_of_brace rest + 1)

-- a row of the table whose path has no number
abbrev pub plain : Row → List ℕ × RouteOf Row
plain value = (row_text value, record { pattern = row_text value; text = row_text value; names = []; value = value })

-- a row whose path has a number
abbrev pub numbered : Row → List ℕ × RouteOf Row
numbered value = (
  path_at value (param_token ∷ []),
  record {
    pattern = path_at value (param_token ∷ []);
    text = row_text value;
    names = (ahead_of_brace (row_text value) + 1, ahead_of_brace (row_text value) + 7) ∷ [];
    value = value;
  },
)

-- the rows in the order of the search
abbrev pub the_table : RowsOf (RouteOf Row)
the_table =
    numbered row.Ranks
    ∷ numbered row.Folio
    ∷ numbered row.PlanCsv
    ∷ numbered row.Plan
    ∷ numbered row.Receipt
    ∷ plain row.Post
    ∷ plain row.Report
    ∷ []

-- once this row is added to one table, it is the other
abbrev pub Adds : Row → RowsOf (RouteOf Row) → RowsOf (RouteOf Row) → Unit {0} → Type 0
Adds value old new done = InsertsRead (parse_route (row_text value)) value old new (Ok done)

-- the parameters took one part of the path, and it is this number
abbrev pub IsNumberPart : ℕ → List (List ℕ × List ℕ) → Type 0
IsNumberPart n parts = parts ≡ (codes "number", decimal n) ∷ []

-- the row and the parts of its path are those of a route
abbrev pub FitsRoute : Route → Row → List (List ℕ × List ℕ) → Type 0
FitsRoute Post value parts = value ≡ row.Post
FitsRoute (Receipt n) value parts = (value ≡ row.Receipt) × IsNumberPart n parts
FitsRoute (Folio f) value parts = (value ≡ row.Folio) × IsNumberPart f parts
FitsRoute (Ranks f) value parts = (value ≡ row.Ranks) × IsNumberPart f parts
FitsRoute (Plan n) value parts = (value ≡ row.Plan) × IsNumberPart n parts
FitsRoute (PlanCsv n) value parts = (value ≡ row.PlanCsv) × IsNumberPart n parts
FitsRoute Report value parts = value ≡ row.Report
