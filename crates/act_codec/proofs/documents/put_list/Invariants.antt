use Rattle.std.proofs.Common.{◌≡◌, ◌++◌, take}
use Rattle.std.specs.List.{AllByRecursion, flat_map}
use Rattle.act_codec.specs.Spelling.{doc_bytes}
use Rattle.act_codec.specs.Values.{IsDoc}
use Rattle.act_codec.proofs.documents.put_list.Given as goal

abbrev pub invariant-loop-doc : goal.invariant-loop-doc
invariant-loop-doc l = record {
  wrote : l.to ≡ l.fn.to ++ flat_map doc_bytes (take l.doc-index l.docs);
  each : AllByRecursion IsDoc (take l.doc-index l.docs);
}
