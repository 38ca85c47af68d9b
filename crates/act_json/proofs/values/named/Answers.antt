-- A member of a tree says what the member of the object says.
use Rattle.std.proofs.Common.{ap, ◌∙◌, option_map}
use Rattle.json.specs.Value.{value_view}
use Rattle.act_json.specs.inner.Values.{said}
use Rattle.act_json.proofs.Said.{get_said, said_found}
use Rattle.act_json.proofs.values.named.Goals as goal

pub returns : goal.returns
returns c = said_found c.get.result ∙ ap (option_map said) c.get.ensures ∙ get_said c.args.name.now (value_view c.args.value.now)
