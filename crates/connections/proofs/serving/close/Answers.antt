use Rattle.std.proofs.Common.{[], ◌∷◌}
use Rattle.connections.specs.Replies.{bytes_of}
use Rattle.connections.proofs.ToldLinks.{still_told}
use Rattle.connections.proofs.serving.close.Goals as goal

pub returns-in-Ok-clause-told : goal.returns-in-Ok-clause-told
returns-in-Ok-clause-told g c = λ told. still_told (g.L.Link.written c.args.link.now) (g.L.Link.written c.send.new.link) (bytes_of (c.args.reply ∷ [])) c.in-Ok.ensures.whole told

pub returns-clause-told : goal.returns-clause-told
returns-clause-told g c = λ told. still_told (g.L.Link.written c.args.link.now) (g.L.Link.written c.send.new.link) c.in-Err.ensures.part.front c.in-Err.ensures.part.added told
