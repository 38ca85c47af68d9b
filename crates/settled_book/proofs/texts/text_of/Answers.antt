use Rattle.std.proofs.Common.{◌≡◌, ℕ, IfOk, List, Option, option_map, subst}
use Rattle.settled_book.proofs.RegisterTold.{text_is_read}
use Rattle.settled_book.proofs.texts.text_of.Goals as goal

pub returns : goal.returns
returns c =
    subst (λ (bytes : Option (List ℕ)). IfOk c.text_read.result (λ text. option_map (λ t. t.items) text ≡ bytes))
    (text_is_read c.args.journal.now.receipts c.args.register.now c.args.route c.requires) c.text_read.ensures
