-- The task of words whose command is known.
use Rattle.std.proofs.Common.{◌≡◌, ◌∙◌, ap, Option, Some}
use Rattle.command_words.specs.declared.commands.Command.{Command}
use Rattle.registry_office.specs.Tasks.{task_of, task_where}

pub task_is : (said : Option Command) (command this : Command) → said ≡ Some command → command ≡ this → task_where said ≡ task_of this
task_is said command this says is = ap task_where (says ∙ ap (λ (known : Command). Some known) is)
