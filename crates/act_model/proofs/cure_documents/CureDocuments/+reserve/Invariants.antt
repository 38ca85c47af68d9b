use Rattle.std.proofs.Common.{length}
use Rattle.act_model.proofs.cure_documents.CureDocuments.+reserve.Given as goal

abbrev pub decreases-reserve : goal.decreases-reserve
decreases-reserve l = length l.docs.now
