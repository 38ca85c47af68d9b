use Rattle.std.proofs.Common.{◌≡◌, ◌∙◌, ℕ, List, Result, Ok, Err, IfOk, subst}
use Rattle.matchit.specs.Route.{parse_route}
use Rattle.matchit.specs.Router.{InsertsRead, RouteOf}
use Rattle.matchit.specs.Rows.{RowsOf}
use Rattle.matchit.specs.declared.error.InsertError.{InsertError}
use Rattle.registry_http.specs.declared.rows.Row.{Row}
use Rattle.registry_http.specs.inner.Finding.{Adds, row_text}
use Rattle.registry_http.proofs.finding.add.Goals as goal

-- what `insert` says of a text that is the row's
added : (text : List ℕ) (value : Row) (old new : RowsOf (RouteOf Row)) (answer : Result (Unit {0}) InsertError) → text ≡ row_text value
    → InsertsRead (parse_route text) value old new answer → IfOk answer (Adds value old new)
added text value old new (Ok done) same inserts = subst (λ (bytes : List ℕ). InsertsRead (parse_route bytes) value old new (Ok done)) same inserts
added text value old new (Err fault) same inserts = tt

pub returns : goal.returns
returns c = added c.as_str.result.now c.args.row c.args.table.now c.insert.new.self c.insert.result (c.as_str.ensures.value ∙ c.in_ok-text.ensures.ok) c.insert.ensures
