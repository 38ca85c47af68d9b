use Rattle.std.proofs.Common.{◌≤◌, drop, filter, length, subst, sym}
use Rattle.std.proofs.lemmas.List.Sums.{length-filter}
use Rattle.folio_sections.specs.Rights.{is_exchange}
use Rattle.folio_sections.specs.declared.entries.Entry.{Entry}
use Rattle.folio_line.proofs.ExchangesAhead.{front_has_all}
use Rattle.folio_line.proofs.folio_reads.up_to_exchange.Goals as goal

pub loop-index-init : goal.loop-index-init
loop-index-init c = subst (λ n. n ≤ c.args.most) (sym (length-filter (λ (e : Entry). is_exchange e.what) c.args.entries.now)) c.requires

pub returns-then-left-eq0 : goal.returns-then-left-eq0
returns-then-left-eq0 c =
    let none : length (filter (λ (e : Entry). is_exchange e.what) (drop c.loop-index.index c.args.entries.now)) ≤ 0 = subst (λ n. length (filter (λ (e : Entry). is_exchange e.what) (drop c.loop-index.index c.args.entries.now)) ≤ n) c.if-left-eq0.true c.loop-index.invariant in
    front_has_all (λ e. is_exchange e.what) c.loop-index.index c.args.entries.now none
