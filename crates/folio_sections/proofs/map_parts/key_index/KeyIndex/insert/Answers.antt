use Rattle.folio_sections.proofs.KeysAtHand.{still_at_hand}
use Rattle.folio_sections.proofs.map_parts.key_index.KeyIndex.insert.Goals as goal

pub have_at_hand-requires-clause-at_hand : goal.have_at_hand-requires-clause-at_hand
have_at_hand-requires-clause-at_hand c =
    still_at_hand c.args.self.now.places c.insert.new.self c.args.key.now c.args.place c.args.self.now.slots.items c.make_slots.new.slots.items c.requires.absent c.in_ok-insert.ensures.updates
    c.requires.at_hand c.make_slots.ensures
