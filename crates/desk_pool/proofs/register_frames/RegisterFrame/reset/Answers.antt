use Rattle.std.proofs.Common.{refl}
use Rattle.desk_pool.proofs.PreparedRegisters.{cleared}
use Rattle.desk_pool.proofs.register_frames.RegisterFrame.reset.Goals as goal

pub returns : goal.returns
returns c = record {
  prepared = λ journal places. cleared journal c.args.self.now _ places c.clear.ensures.held c.clear.ensures.entries c.clear.ensures.room refl refl refl;
}
