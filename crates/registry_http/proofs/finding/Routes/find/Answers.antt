use Rattle.std.proofs.Common.{◌≡◌, Some, None, sym, ap, ◌∙◌}
use Rattle.registry_http.specs.Routes.{path_of}
use Rattle.registry_http.proofs.FoundRows.{path_is_text_at, never_missing, row_fits, spelled_so}
use Rattle.registry_http.proofs.finding.Routes.find.Goals as goal

pub returns-in_default-clause-none : goal.returns-in_default-clause-none
returns-in_default-clause-none c = λ none route is same. c.in_default.ensures.cases.0 (path_is_text_at route c.args.path.now is same)

pub returns-in_default-at-clause-none : goal.returns-in_default-at-clause-none
returns-in_default-at-clause-none c = λ none route is same.
    never_missing route c.args.path.now c.in-Ok.path.now _ c.self.invariant c.in-Ok.ensures.cases.0 is same c.in_default-at.ensures.missing

pub returns-in_default-read_row-clause-none : goal.returns-in_default-read_row-clause-none
returns-in_default-read_row-clause-none c = λ none route is same.
    let fits = row_fits route c.args.path.now c.in-Ok.path.now _ _ _ c.self.invariant c.in-Ok.ensures.cases.0 c.in-Ok-at.ensures.path is same c.in-Ok-at.ensures.found in
    let e : None ≡ Some route = c.in_default-read_row.ensures.fits route is fits in
    absurd (cc)

pub returns-clause-none : goal.returns-clause-none
returns-clause-none c = λ none route is same.
    let fits = row_fits route c.args.path.now c.in-Ok.path.now _ _ _ c.self.invariant c.in-Ok.ensures.cases.0 c.in-Ok-at.ensures.path is same c.in-Ok-at.ensures.found in
    let e : Some c.in-Some.route ≡ Some route = c.in-Some.ensures.fits route is fits in
    let one : c.in-Some.route ≡ route = cc in
    spelled_so c.as_str.result.now c.in-Ok.path.now c.eq.result c.eq.ensures c.if-eq.false
    (c.as_str.ensures.value ∙ c.in_ok-spelled.ensures.ok ∙ ap path_of one ∙ sym same ∙ sym c.in-Ok.ensures.cases.0)
