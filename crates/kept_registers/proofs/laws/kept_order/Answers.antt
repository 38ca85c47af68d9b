use Rattle.kept_registers.proofs.KeptOrder.{kept_is_order}
use Rattle.kept_registers.proofs.laws.kept_order.Goals as goal

pub returns : goal.returns
returns c = record { order = λ journal at folio x y a b stands kept first second. kept_is_order journal at folio x y a b stands kept first second }
