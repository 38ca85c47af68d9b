-- Either all members have one of the names, or one has another.
use Rattle.std.proofs.Common.{ap, ◌∙◌, sym}
use Rattle.std.specs.Prelude.{if◌then◌else◌, Ok, Err, codes}
use Rattle.act_json.proofs.Names.{are_all_among, only_of_list}
use Rattle.act_json.proofs.reading.only_of_both.Goals as goal

pub returns-then-are_named-clause-exact : goal.returns-then-are_named-clause-exact
returns-then-are_named-clause-exact c =
    ap (λ b. if b then Ok tt else Err (codes "*")) (sym c.if-are_named.true)
    ∙ only_of_list c.args.value.now c.in-Object.members c.args.names.now c.args.others.now c.are_named.result c.in-Object.is
    (c.are_named.ensures ∙ ap (are_all_among c.args.names.now c.args.others.now) c.as_slice.ensures.value)

pub returns-else-are_named-clause-exact : goal.returns-else-are_named-clause-exact
returns-else-are_named-clause-exact c =
    ap (λ path. Err path) c.of.ensures ∙ ap (λ b. if b then Ok tt else Err (codes "*")) (sym c.if-are_named.false)
    ∙ only_of_list c.args.value.now c.in-Object.members c.args.names.now c.args.others.now c.are_named.result c.in-Object.is
    (c.are_named.ensures ∙ ap (are_all_among c.args.names.now c.args.others.now) c.as_slice.ensures.value)
