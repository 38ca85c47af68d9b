use Rattle.std.proofs.Common.{ap, vec_capacity}
use Rattle.folio_line.specs.FolioLine.{LineState}
use Rattle.folio_line.proofs.LineRead.{ids_fit}
use Rattle.folio_line.proofs.line.FolioLine.read_live.Goals as goal

pub write_live-requires-clause-live_room : goal.write_live-requires-clause-live_room
write_live-requires-clause-live_room g c = ids_fit c.args.ids.now c.args.self.now.right_room c.self.inside.right_room (vec_capacity c.self.inside.live) c.requires.rights (ap (λ (s : LineState). s.right_room) c.self.view_is) c.self.invariant.1

pub write_live-requires-clause-room : goal.write_live-requires-clause-room
write_live-requires-clause-room g c = ids_fit c.args.ids.now c.args.self.now.right_room c.self.inside.right_room (vec_capacity c.self.inside.by_act) c.requires.rights (ap (λ (s : LineState). s.right_room) c.self.view_is) c.self.invariant.3
