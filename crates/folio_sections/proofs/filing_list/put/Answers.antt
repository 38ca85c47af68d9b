-- A value takes the place of that of its filing, or stands between those of lower and of higher filings.
use Rattle.std.proofs.Common.{◌≡◌, ◌∙◌, ◌+◌, ◌≤◌, cond, count_by, false, if◌then◌else◌, List, Some, None, Result, Ok, Err, IsOk, is_ok, length, option_map, set, slice_get, sym, ap, subst, take, arith}
use Rattle.std.specs.List.{AllByRecursion, insert}
use Rattle.std.proofs.lemmas.Bool.{false≢true}
use Rattle.folio_sections.specs.inner.FilingLists.{Ascends, at_filing, value_in}
use Rattle.folio_sections.proofs.FilingsInOrder.{AreBelow, IsNotBelow, counted_put_in, counted_written, first_put_in, first_written, is_behind, is_not_there, is_there, put_in, put_in_ascends, value_put, written, written_ascends}
use Rattle.folio_sections.proofs.filing_list.put.Goals as goal

-- where there is room the list has the element put in
put_if : {X Y E : Type 0} (r : Result X E) (before with_it after : List Y) → IsOk r → after ≡ (if is_ok r then with_it else before) → after ≡ with_it
put_if (Ok x) before with_it after ok is = is
put_if (Err e) before with_it after ok is = absurd (false≢true ok)

pub returns-in-Some-clause-order : goal.returns-in-Some-clause-order
returns-in-Some-clause-order g c =
    let xs = c.args.list.now.items in
    let i = c.count_below-index.result in
    let at = subst (λ ys. option_map (λ x. x.value) (at_filing c.args.one.filing (slice_get ys i)) ≡ Some c.in-Some.field-0) c.as_slice-2.ensures.value (sym c.value_at.ensures ∙ c.in-Some.is) in
    let of_it = is_there c.args.one.filing (slice_get xs i) c.in-Some.field-0 at in
    written_ascends 1 xs i of_it.0 c.args.one c.requires.order of_it.1.0 of_it.1.1

pub returns-in-Some-clause-there : goal.returns-in-Some-clause-there
returns-in-Some-clause-there g c = λ m.
    let xs = c.args.list.now.items in
    let i = c.count_below-index.result in
    let at = subst (λ ys. option_map (λ x. x.value) (at_filing c.args.one.filing (slice_get ys i)) ≡ Some c.in-Some.field-0) c.as_slice-2.ensures.value (sym c.value_at.ensures ∙ c.in-Some.is) in
    let of_it = is_there c.args.one.filing (slice_get xs i) c.in-Some.field-0 at in
    let below = subst (λ ys. AreBelow c.args.one.filing ys i) c.as_slice.ensures.value c.count_below-index.ensures.below in
    value_put c.args.one m (set xs i c.args.one) xs (written xs i of_it.0 c.args.one below of_it.1.0 of_it.1.1 m)

pub returns-in-Some-clause-first : goal.returns-in-Some-clause-first
returns-in-Some-clause-first g c = λ t n all is. first_written (λ x. t x ≡ false) n c.args.list.now.items c.count_below-index.result c.args.one all is

pub returns-in-Some-clause-counted : goal.returns-in-Some-clause-counted
returns-in-Some-clause-counted g c = λ t. counted_written t c.args.list.now.items c.count_below-index.result c.args.one

pub returns-in-None-clause-order : goal.returns-in-None-clause-order
returns-in-None-clause-order g c =
    let xs = c.args.list.now.items in
    let i = c.count_below-index.result in
    let within : i ≤ length xs = subst (λ ys. i ≤ length ys) c.as_slice.ensures.value c.count_below-index.ensures.within in
    let below = subst (λ ys. AreBelow c.args.one.filing ys i) c.as_slice.ensures.value c.count_below-index.ensures.below in
    let low = subst (λ ys. IsNotBelow c.args.one.filing ys i) c.as_slice.ensures.value c.count_below-index.ensures.behind in
    let none = subst (λ ys. option_map (λ x. x.value) (at_filing c.args.one.filing (slice_get ys i)) ≡ None) c.as_slice-2.ensures.value (sym c.value_at.ensures ∙ c.in-None.is) in
    let behind = is_behind c.args.one.filing xs i (is_not_there (at_filing c.args.one.filing (slice_get xs i)) none) low in
    let items = put_if c.insert.result xs (insert xs i c.args.one) c.insert.new.self.items (c.insert.ensures.succeeds c.requires.room) c.insert.ensures.items in
    subst (Ascends 1) (sym items) (put_in_ascends 1 xs i c.args.one c.requires.order (omega (arith, c.count_below-index.ensures.positive)) within below behind)

pub returns-in-None-clause-there : goal.returns-in-None-clause-there
returns-in-None-clause-there g c = λ m.
    let xs = c.args.list.now.items in
    let i = c.count_below-index.result in
    let within : i ≤ length xs = subst (λ ys. i ≤ length ys) c.as_slice.ensures.value c.count_below-index.ensures.within in
    let below = subst (λ ys. AreBelow c.args.one.filing ys i) c.as_slice.ensures.value c.count_below-index.ensures.below in
    let items = put_if c.insert.result xs (insert xs i c.args.one) c.insert.new.self.items (c.insert.ensures.succeeds c.requires.room) c.insert.ensures.items in
    ap (value_in m) items ∙ value_put c.args.one m (insert xs i c.args.one) xs (put_in xs i c.args.one within below m)

pub returns-in-None-clause-first : goal.returns-in-None-clause-first
returns-in-None-clause-first g c = λ t n all is.
    let xs = c.args.list.now.items in
    let i = c.count_below-index.result in
    let within : i ≤ length xs = subst (λ ys. i ≤ length ys) c.as_slice.ensures.value c.count_below-index.ensures.within in
    let items = put_if c.insert.result xs (insert xs i c.args.one) c.insert.new.self.items (c.insert.ensures.succeeds c.requires.room) c.insert.ensures.items in
    subst (λ ys. AllByRecursion (λ x. t x ≡ false) (take n ys)) (sym items) (first_put_in (λ x. t x ≡ false) n xs i c.args.one within all is)

pub returns-in-None-clause-counted : goal.returns-in-None-clause-counted
returns-in-None-clause-counted g c = λ t.
    let xs = c.args.list.now.items in
    let i = c.count_below-index.result in
    let items = put_if c.insert.result xs (insert xs i c.args.one) c.insert.new.self.items (c.insert.ensures.succeeds c.requires.room) c.insert.ensures.items in
    subst (λ ys. count_by t ys ≤ count_by t xs + cond (t c.args.one) 1 0) (sym items) (counted_put_in t xs i c.args.one)
