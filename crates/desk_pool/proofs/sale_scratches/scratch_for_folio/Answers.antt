-- A folio that has a sale has its room, and in a folio that has none no lowest bid is computed.
use Rattle.std.proofs.Common.{None, ◌∙◌, sym}
use Rattle.std.proofs.lemmas.Bool.{false≢true}
use Rattle.gb_base.specs.declared.keys.Key.TheVariants.{Case}
use Rattle.desk_pool.specs.FolioStates.{scratch_of}
use Rattle.desk_pool.proofs.PreparedScratches.{serves_own}
use Rattle.desk_pool.proofs.sale_scratches.scratch_for_folio.Goals as goal

pub returns : goal.returns
returns c = serves_own c.args.journal.now.receipts c.reserve_at.new.scratch c.args.folio (λ _. c.in_ok-reserve_at.ensures.served)

pub returns-then-not-contains_key : goal.returns-then-not-contains_key
returns-then-not-contains_key c =
    serves_own c.args.journal.now.receipts (scratch_of None) c.args.folio
    (λ given. absurd (false≢true (sym c.if-not-contains_key.true ∙ c.contains_key.ensures ∙ c.requires.rooms.keys (Case c.args.folio) ∙ given)))
