use Rattle.desk_pool.proofs.FewFolios.{few_folios}
use Rattle.desk_pool.proofs.laws.items_touch_few_folios.Goals as goal

pub returns : goal.returns
returns c = record { few = λ journal i j k l numbered of_j of_k of_l apart. few_folios journal i numbered j k l of_j of_k of_l apart }
