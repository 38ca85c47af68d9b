-- The documents that count for a filing (GBO §§ 18, 19, 29).
-- Why so: docs/DECISIONS.md, "A document of no act counts for none".
pub use Rattle.act_model.specs.DocumentTests.{act_of_doc, docs_by_cure, docs_of_cure, given, has_proof, is_agreement, is_certified_consent_of, is_clearance, is_consent_by, is_consent_of, is_plain, is_proof, is_strangers_consent}
use Rattle.std.specs.Prelude.{ℕ, nat_le, List, ◌++◌, length, filter, flat_map}
use Rattle.gb_base.specs.Limits.{is_between}
use Rattle.act_model.specs.declared.documents.Doc.{Doc}
use Rattle.act_model.specs.declared.items.Filing.{Filing}
use Rattle.act_model.specs.declared.matters.Matter.{Matter}
use Rattle.act_model.specs.declared.receipts.Receipt.{Receipt}
use Rattle.act_model.specs.Cures.{cures_of}

-- The documents of filing m, and then those of each of its cures up to receipt i, in order. A document for an act that the
-- filing does not have counts for nothing.
abbrev pub documents : List Receipt → ℕ → Filing → ℕ → List Doc
documents journal m f i =
    filter (λ d. is_between 1 (length f.acts) (act_of_doc d))
    (f.docs ++ flat_map (docs_by_cure journal) (filter (λ n. nat_le n i) (cures_of journal m)))

-- the documents that count for a filing as it is judged with an item
unfoldable pub docs_of : Matter → List Doc
docs_of matter = documents matter.journal.now.receipts matter.number matter.filing.now matter.item
