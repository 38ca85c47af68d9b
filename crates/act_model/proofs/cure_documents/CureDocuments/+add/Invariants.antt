use Rattle.std.proofs.Common.{length}
use Rattle.act_model.proofs.cure_documents.CureDocuments.+add.Given as goal

abbrev pub decreases-add : goal.decreases-add
decreases-add l = length l.docs.now
