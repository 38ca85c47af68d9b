-- Who consents in the documents that count for a filing, as they are walked.
use Rattle.std.specs.Prelude.{ℕ, Bool, ◌&&◌, ◌||◌, nat_le, List, length}
use Rattle.std.specs.List.{list_any}
use Rattle.gb_base.specs.Limits.{is_between}
use Rattle.act_model.specs.declared.cure_documents.Consenter.{Consenter}
use Rattle.act_model.specs.declared.matters.Matter.{Matter}
use Rattle.act_model.specs.DocumentTests.{is_consent_by}

-- somebody who passes consents to act a: in a document of the filing's own, or as one of `in_cures`, whose first consent is in a cure up to the item
abbrev pub consents_with : Matter → ℕ → (ℕ → Bool) → List Consenter → Bool
consents_with matter a passes in_cures =
    is_between 1 (length matter.filing.now.acts) a
    && (list_any (is_consent_by a passes) matter.filing.now.docs || list_any (λ c. nat_le c.first matter.item && passes c.person) in_cures)
