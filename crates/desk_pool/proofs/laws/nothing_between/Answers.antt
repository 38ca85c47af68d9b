use Rattle.desk_pool.proofs.NothingBetween.{nothing_between}
use Rattle.desk_pool.proofs.laws.nothing_between.Goals as goal

pub returns : goal.returns
returns c = record {
  stays = λ journal n m k stands within lacks. nothing_between journal k stands (c.empty_register_is_kept.ensures.kept journal) n m within lacks;
}
