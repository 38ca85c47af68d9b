use Rattle.registrar.proofs.StepLemmas.{brings_leaves}
use Rattle.registrar.proofs.laws.items_keep.Goals as goal

pub returns : goal.returns
returns c = record { kept = λ journal i register stands kept before. (brings_leaves journal i register stands kept before).kept }
