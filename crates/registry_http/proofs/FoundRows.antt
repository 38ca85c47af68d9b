-- The row of the table that the path of a route finds, and the number that its parameter takes.
use Rattle.std.proofs.Common.{◌≡◌, ℕ, ◌+◌, ◌-◌, ◌<◌, ◌≤◌, Bool, true, false, cond, ◌&&◌, List, [], ◌∷◌, ◌++◌, length, codes, Option, Some, None, refl, sym, ap, subst, ◌∙◌, arith, append-nil, length-append, zero-add, ltb}
use Rattle.std.specs.Fmt.{decimal}
use Rattle.std.specs.Str.{IsUtf8}
use Rattle.std.specs.Str.Parse.{AllDigits, IsNumeral}
use Rattle.std.specs.Str.{bytes_eq}
use Rattle.std.proofs.lemmas.Bool.{ne_eqb, false≢true}
use Rattle.std.proofs.lemmas.Slice.Eq.{bytes_eq-Decides}
use Rattle.std.proofs.lemmas.Fmt.{decimal_is_IsNumeral, IsAscii-decimal}
use Rattle.std.proofs.lemmas.Str.{IsUtf8-from_ascii, IsAscii-append}
use Rattle.matchit.specs.Rows.{RowsOf, param_token}
use Rattle.matchit.specs.Router.{RouteOf}
use Rattle.std.specs.List.{list_all}
use Rattle.matchit.specs.Seek.{segment, step, longest_from, seek, first, param_step}
use Rattle.matchit.specs.Params.{walk, wild_from, wild_stop, part_of}
use Rattle.registry_http.specs.declared.rows.Row.{Row}
use Rattle.registry_http.specs.declared.rows.Row.TheVariants as row
use Rattle.registry_http.specs.declared.routes.Route.{Route}
use Rattle.registry_http.specs.declared.routes.Route.TheVariants.{Post, Receipt, Folio, Ranks, Plan, PlanCsv, Report}
use Rattle.registry_http.specs.Routes.{path_of, IsRouteNumber, IsRoute}
use Rattle.registry_http.specs.inner.Finding.{plain, numbered, the_table, IsNumberPart, FitsRoute}
use Rattle.registry_http.proofs.Numbers.{ascii_text}
use Rattle.registry_http.proofs.Walks.{steps, seek_text, seek_number, seek_number_then, digits_not_cut, slash_cut, segment_to_slash, wild_at, are_bytes, part_is}

numeral : (n : ℕ) → IsRouteNumber n → IsNumeral 10 (decimal n)
numeral n is = (decimal_is_IsNumeral n (omega (arith, is.1))).0

-- a row that goes on with a parameter does not go on with a byte
miss : (b : ℕ) (t : List ℕ) (k : RouteOf Row) (rs : RowsOf (RouteOf Row)) → b < 256 → step b ((param_token ∷ t, k) ∷ rs) ≡ step b rs
miss b t k rs low = rw (ne_eqb 256 b (λ e. absurd (omega (arith, low, e)))) refl

-- a text alone
text_found : (w : List ℕ) (o : Option (RouteOf Row)) → seek 0 the_table (w ++ []) ≡ o → first the_table w ≡ o
text_found w o is = ap (seek 0 the_table) (sym (append-nil w)) ∙ is

-- ---- what the table gives at the path of a route

receipt_found : (n : ℕ) → IsRouteNumber n → first the_table (path_of (Receipt n)) ≡ Some (numbered row.Receipt).1
receipt_found n is =
    let d = numeral n is in
    let rs = steps (codes "/receipts/") the_table in
    seek_text (codes "/receipts/") (decimal n) the_table refl
    ∙ seek_number rs (decimal n) _ d.1 d.0 (λ b low. miss b [] (numbered row.Receipt).1 [] low) refl refl refl

folio_found : (n : ℕ) → IsRouteNumber n → first the_table (path_of (Folio n)) ≡ Some (numbered row.Folio).1
folio_found n is =
    let d = numeral n is in
    let rs = steps (codes "/folios/") the_table in
    let x = decimal n in
    seek_text (codes "/folios/") x the_table refl
    ∙ seek_number rs x _ d.1 d.0 (λ b low. miss b (codes "/ranks") ((numbered row.Ranks).1) ((param_token ∷ [], (numbered row.Folio).1) ∷ []) low ∙ miss b [] ((numbered row.Folio).1) [] low) refl
    (ap (λ v. longest_from {K = RouteOf Row} x (cond (true && v) (47 ∷ []) []) (([], (numbered row.Folio).1) ∷ [])) (digits_not_cut x d.1)) refl

plan_found : (n : ℕ) → IsRouteNumber n → first the_table (path_of (Plan n)) ≡ Some (numbered row.Plan).1
plan_found n is =
    let d = numeral n is in
    let rs = steps (codes "/plans/") the_table in
    let x = decimal n in
    seek_text (codes "/plans/") x the_table refl
    ∙ seek_number rs x _ d.1 d.0 (λ b low. miss b (codes "/csv") ((numbered row.PlanCsv).1) ((param_token ∷ [], (numbered row.Plan).1) ∷ []) low ∙ miss b [] ((numbered row.Plan).1) [] low) refl
    (ap (λ v. longest_from {K = RouteOf Row} x (cond (true && v) (47 ∷ []) []) (([], (numbered row.Plan).1) ∷ [])) (digits_not_cut x d.1)) refl

-- the last text of a path alone finds its row
tail_found : (t : List ℕ) (k : RouteOf Row) → seek 0 ((t, k) ∷ []) (t ++ []) ≡ Some k → seek 0 ((t, k) ∷ []) t ≡ Some k
tail_found t k is = ap (seek 0 ((t, k) ∷ [])) (sym (append-nil t)) ∙ is

ranks_tail : seek 0 ((codes "/ranks", (numbered row.Ranks).1) ∷ []) (codes "/ranks") ≡ Some (numbered row.Ranks).1
unfolding seek param_step
ranks_tail = refl

csv_tail : seek 0 ((codes "/csv", (numbered row.PlanCsv).1) ∷ []) (codes "/csv") ≡ Some (numbered row.PlanCsv).1
unfolding seek param_step
csv_tail = refl

ranks_found : (n : ℕ) → IsRouteNumber n → first the_table (path_of (Ranks n)) ≡ Some (numbered row.Ranks).1
ranks_found n is =
    let d = numeral n is in
    let rs = steps (codes "/folios/") the_table in
    let x = decimal n in
    seek_text (codes "/folios/") (x ++ codes "/ranks") the_table refl
    ∙ seek_number_then rs x (codes "ranks") _ d.1 d.0 (λ b low. miss b (codes "/ranks") ((numbered row.Ranks).1) ((param_token ∷ [], (numbered row.Folio).1) ∷ []) low ∙ miss b [] ((numbered row.Folio).1) [] low) refl
    (ap (λ v. longest_from {K = RouteOf Row} (x ++ 47 ∷ []) (cond (true && v) (47 ∷ []) []) (([], (numbered row.Folio).1) ∷ [])) (slash_cut x d.0)) ranks_tail

csv_found : (n : ℕ) → IsRouteNumber n → first the_table (path_of (PlanCsv n)) ≡ Some (numbered row.PlanCsv).1
csv_found n is =
    let d = numeral n is in
    let rs = steps (codes "/plans/") the_table in
    let x = decimal n in
    seek_text (codes "/plans/") (x ++ codes "/csv") the_table refl
    ∙ seek_number_then rs x (codes "csv") _ d.1 d.0 (λ b low. miss b (codes "/csv") ((numbered row.PlanCsv).1) ((param_token ∷ [], (numbered row.Plan).1) ∷ []) low ∙ miss b [] ((numbered row.Plan).1) [] low) refl
    (ap (λ v. longest_from {K = RouteOf Row} (x ++ 47 ∷ []) (cond (true && v) (47 ∷ []) []) (([], (numbered row.Plan).1) ∷ [])) (slash_cut x d.0)) csv_tail

post_found : first the_table (path_of Post) ≡ Some (plain row.Post).1
unfolding seek
post_found = text_found (codes "/receipts") _ (seek_text (codes "/receipts") [] the_table refl)

report_found : first the_table (path_of Report) ≡ Some (plain row.Report).1
unfolding seek
report_found = text_found (codes "/report") _ (seek_text (codes "/report") [] the_table refl)

-- ---- the number that the parameter takes

walk_one : (w back x rest text name : List ℕ) (start end : ℕ) → are_bytes w ≡ true → part_of text start end ≡ name
    → wild_stop (w ++ param_token ∷ back) (length w) (w ++ (x ++ rest)) (length w) ≡ length w + length x
    → walk (w ++ param_token ∷ back) text (w ++ (x ++ rest)) ((start, end) ∷ []) 0 0 ≡ (name, x) ∷ []
walk_one w back x rest text name start end all named stop =
    let path = w ++ (x ++ rest) in
    let pattern = w ++ param_token ∷ back in
    let fits : 0 + length w ≤ length path = omega (arith, length-append w (x ++ rest)) in
    let begins : wild_from pattern (length path) 0 0 ≡ (0 + length w, 0 + length w) = wild_at w back (length path) 0 0 all fits in
    let same : 0 + length w ≡ length w = zero-add (length w) in
    let took : part_of path (length w) (wild_stop pattern (length w) path (length w)) ≡ x =
    ap (part_of path (length w)) stop ∙ part_is w x rest in
    ap (λ (z : ℕ × ℕ). (part_of text start end, part_of path z.1 (wild_stop pattern z.0 path z.1)) ∷ []) begins
    ∙ ap (λ (m : ℕ). (part_of text start end, part_of path m (wild_stop pattern m path m)) ∷ []) same
    ∙ (λ i. (named i, took i) ∷ [])

-- the parameter is at the end of the path
walk_end : (w text name x : List ℕ) (start end : ℕ) → are_bytes w ≡ true → part_of text start end ≡ name
    → wild_stop (w ++ param_token ∷ []) (length w) (w ++ (x ++ [])) (length w) ≡ length (w ++ (x ++ []))
    → walk (w ++ param_token ∷ []) text (w ++ x) ((start, end) ∷ []) 0 0 ≡ (name, x) ∷ []
walk_end w text name x start end all named stop =
    let size : length (w ++ (x ++ [])) ≡ length w + length x = omega (arith, length-append w (x ++ []), length-append x []) in
    subst (λ l. walk (w ++ param_token ∷ []) text (w ++ l) ((start, end) ∷ []) 0 0 ≡ (name, x) ∷ []) (append-nil x)
    (walk_one w [] x [] text name start end all named (stop ∙ size))

slash_size : (n : ℕ) (x rest : List ℕ) → AllDigits 10 x → n + length (segment (x ++ 47 ∷ rest)) - 1 ≡ n + length x
slash_size n x rest d = ap (λ l. n + length l - 1) (segment_to_slash x rest d) ∙ omega (arith, length-append x (47 ∷ []))

receipt_part : (n : ℕ) → IsRouteNumber n → IsNumberPart n (walk (codes "/receipts/" ++ param_token ∷ []) (codes "/receipts/{number}") (path_of (Receipt n)) ((11, 17) ∷ []) 0 0)
receipt_part n is = walk_end (codes "/receipts/") (codes "/receipts/{number}") (codes "number") (decimal n) 11 17 refl refl refl

folio_part : (n : ℕ) → IsRouteNumber n → IsNumberPart n (walk (codes "/folios/" ++ param_token ∷ []) (codes "/folios/{number}") (path_of (Folio n)) ((9, 15) ∷ []) 0 0)
folio_part n is = walk_end (codes "/folios/") (codes "/folios/{number}") (codes "number") (decimal n) 9 15 refl refl refl

plan_part : (n : ℕ) → IsRouteNumber n → IsNumberPart n (walk (codes "/plans/" ++ param_token ∷ []) (codes "/plans/{number}") (path_of (Plan n)) ((8, 14) ∷ []) 0 0)
plan_part n is = walk_end (codes "/plans/") (codes "/plans/{number}") (codes "number") (decimal n) 8 14 refl refl refl

ranks_part : (n : ℕ) → IsRouteNumber n
    → IsNumberPart n (walk (codes "/folios/" ++ param_token ∷ codes "/ranks") (codes "/folios/{number}/ranks") (path_of (Ranks n)) ((9, 15) ∷ []) 0 0)
ranks_part n is =
    walk_one (codes "/folios/") (codes "/ranks") (decimal n) (codes "/ranks") (codes "/folios/{number}/ranks") (codes "number") 9 15 refl refl
    (slash_size 8 (decimal n) (codes "ranks") (numeral n is).1)

csv_part : (n : ℕ) → IsRouteNumber n
    → IsNumberPart n (walk (codes "/plans/" ++ param_token ∷ codes "/csv") (codes "/plans/{number}/csv") (path_of (PlanCsv n)) ((8, 14) ∷ []) 0 0)
csv_part n is =
    walk_one (codes "/plans/") (codes "/csv") (decimal n) (codes "/csv") (codes "/plans/{number}/csv") (codes "number") 8 14 refl refl
    (slash_size 7 (decimal n) (codes "csv") (numeral n is).1)

-- ---- the row and the number together

-- the path of a route finds a row that fits the route
pub record Finds (route : Route) : Type 0 where
  pub found : RouteOf Row
  pub is_found : first the_table (path_of route) ≡ Some found
  pub fits : FitsRoute route found.value (walk found.pattern found.text (path_of route) found.names 0 0)

pub finds : (route : Route) → IsRoute route → Finds route
finds Post is = record { found = (plain row.Post).1; is_found = post_found; fits = refl }
finds (Receipt n) is = record { found = (numbered row.Receipt).1; is_found = receipt_found n is; fits = (refl, receipt_part n is) }
finds (Folio f) is = record { found = (numbered row.Folio).1; is_found = folio_found f is; fits = (refl, folio_part f is) }
finds (Ranks f) is = record { found = (numbered row.Ranks).1; is_found = ranks_found f is; fits = (refl, ranks_part f is) }
finds (Plan n) is = record { found = (numbered row.Plan).1; is_found = plan_found n is; fits = (refl, plan_part n is) }
finds (PlanCsv n) is = record { found = (numbered row.PlanCsv).1; is_found = csv_found n is; fits = (refl, csv_part n is) }
finds Report is = record { found = (plain row.Report).1; is_found = report_found; fits = refl }

number_ascii : (front back : List ℕ) (n : ℕ) → list_all (λ b. ltb b 128) front ≡ true → list_all (λ b. ltb b 128) back ≡ true → IsRouteNumber n
    → IsUtf8 (front ++ (decimal n ++ back))
number_ascii front back n f b is =
    IsUtf8-from_ascii _
    (IsAscii-append front (decimal n ++ back) (ascii_text front f) (IsAscii-append (decimal n) back (IsAscii-decimal n (omega (arith, is.1))) (ascii_text back b)))

number_last : (front : List ℕ) (n : ℕ) → list_all (λ b. ltb b 128) front ≡ true → IsRouteNumber n → IsUtf8 (front ++ decimal n)
number_last front n f is = IsUtf8-from_ascii _ (IsAscii-append front (decimal n) (ascii_text front f) (IsAscii-decimal n (omega (arith, is.1))))

-- the path of a route is a text
pub path_is_text : (route : Route) → IsRoute route → IsUtf8 (path_of route)
path_is_text Post is = IsUtf8-from_ascii _ (ascii_text (codes "/receipts") refl)
path_is_text (Receipt n) is = number_last (codes "/receipts/") n refl is
path_is_text (Folio f) is = number_last (codes "/folios/") f refl is
path_is_text (Ranks f) is = number_ascii (codes "/folios/") (codes "/ranks") f refl refl is
path_is_text (Plan n) is = number_last (codes "/plans/") n refl is
path_is_text (PlanCsv n) is = number_ascii (codes "/plans/") (codes "/csv") n refl refl is
path_is_text Report is = IsUtf8-from_ascii _ (ascii_text (codes "/report") refl)

pub path_is_text_at : (route : Route) (path : List ℕ) → IsRoute route → path ≡ path_of route → IsUtf8 path
path_is_text_at route path is same = subst IsUtf8 (sym same) (path_is_text route is)

-- the table always has a row for the path of a route
pub never_missing : (route : Route) (path seen : List ℕ) (table : RowsOf (RouteOf Row)) → table ≡ the_table → seen ≡ path → IsRoute route → path ≡ path_of route
    → first table seen ≡ None → ⊥
never_missing route path seen table table_is seen_is is same missing =
    let found = finds route is in
    let e : Some found.found ≡ None =
    sym found.is_found ∙ sym (ap (first the_table) (seen_is ∙ same)) ∙ sym (ap (λ t. first t seen) table_is) ∙ missing in
    absurd (cc)

-- the row that is found for the path of a route fits it
pub row_fits : (route : Route) (path seen taken : List ℕ) (table : RowsOf (RouteOf Row)) (m : RouteOf Row) → table ≡ the_table → seen ≡ path → taken ≡ seen → IsRoute route
    → path ≡ path_of route → first table seen ≡ Some m → FitsRoute route m.value (walk m.pattern m.text taken m.names 0 0)
row_fits route path seen taken table m table_is seen_is taken_is is same there =
    let found = finds route is in
    let both : Some found.found ≡ Some m =
    sym found.is_found ∙ sym (ap (first the_table) (seen_is ∙ same)) ∙ sym (ap (λ t. first t seen) table_is) ∙ there in
    let one : found.found ≡ m = cc in
    subst (λ (x : RouteOf Row). FitsRoute route x.value (walk x.pattern x.text taken x.names 0 0)) one
    (subst (λ p. FitsRoute route found.found.value (walk found.found.pattern found.found.text p found.found.names 0 0)) (sym (taken_is ∙ seen_is ∙ same)) found.fits)

-- a text that is the path is found to be equal to it
pub spelled_so : (spelled path : List ℕ) (r : Bool) → r ≡ bytes_eq spelled path → r ≡ false → spelled ≡ path → ⊥
spelled_so spelled path r is other same = false≢true (sym other ∙ is ∙ (bytes_eq-Decides spelled path).1 same)
