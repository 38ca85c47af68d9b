use Rattle.registrar.proofs.RankedRights.{rank_order}
use Rattle.registrar.proofs.laws.rank_order.Goals as goal

pub returns : goal.returns
returns c = record { order = λ journal folio x y a b stands first second. rank_order journal (c.empty_register_is_kept.ensures.kept journal) folio x y a b stands first second }
