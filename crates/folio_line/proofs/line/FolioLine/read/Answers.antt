use Rattle.std.proofs.Common.{◌≡◌, ◌≤◌, ◌∙◌, [], ap, flat_map, length, subst, sym, true, vec_capacity}
use Rattle.std.specs.List.{AllByRecursion}
use Rattle.folio_line.specs.Exchanges.{counted_at}
use Rattle.folio_line.specs.FolioLine.{LineState}
use Rattle.folio_line.specs.FolioReading.{reads}
use Rattle.folio_line.specs.FolioRights.{rights_where}
use Rattle.folio_line.specs.FolioSlots.{stands_on_line}
use Rattle.folio_line.specs.inner.RightWalk.{right_found}
use Rattle.folio_line.specs.inner.Turns.{has_turn}
use Rattle.folio_line.proofs.LiveLists.{are_live}
use Rattle.folio_line.proofs.LineRead.{counted_fit, exchanges_written, exercises_written, have_turns, ids_fit, rights_fit, written}
use Rattle.folio_line.proofs.line.FolioLine.read.Goals as goal

pub write_live-requires-clause-live_room : goal.write_live-requires-clause-live_room
write_live-requires-clause-live_room g c = ids_fit c.args.ids.now c.args.self.now.right_room c.self.inside.right_room (vec_capacity c.self.inside.live) c.requires.rights (ap (λ (s : LineState). s.right_room) c.self.view_is) c.self.invariant.1

pub write_live-requires-clause-room : goal.write_live-requires-clause-room
write_live-requires-clause-room g c = ids_fit c.args.ids.now c.args.self.now.right_room c.self.inside.right_room (vec_capacity c.self.inside.by_act) c.requires.rights (ap (λ (s : LineState). s.right_room) c.self.view_is) c.self.invariant.3

pub write_exercises-requires-clause-room : goal.write_exercises-requires-clause-room
write_exercises-requires-clause-room g c =
    let at = reads g.P.Parts.holds g.P.Parts.at c.args.reading.now in
    rights_fit (right_found (stands_on_line []) at c.args.reading.now.folio) c.args.ids.now c.deref.result.now c.args.self.now.right_room c.self.inside.right_room (vec_capacity c.self.inside.exercises)
    (c.deref.ensures.value ∙ c.write_live.ensures.by_act) c.requires.rights (ap (λ (s : LineState). s.right_room) c.self.view_is) c.self.invariant.2

pub write_counted-requires-clause-live : goal.write_counted-requires-clause-live
write_counted-requires-clause-live g c =
    let at = reads g.P.Parts.holds g.P.Parts.at c.args.reading.now in
    let folio = c.args.reading.now.folio in
    are_live at folio c.deref-2.result.now
    (c.deref-2.ensures.value ∙ c.write_live.ensures.live)

pub write_counted-requires-clause-room : goal.write_counted-requires-clause-room
write_counted-requires-clause-room g c =
    let at = reads g.P.Parts.holds g.P.Parts.at c.args.reading.now in
    let folio = c.args.reading.now.folio in
    counted_fit at folio c.args.ids.now c.deref-2.result.now c.args.self.now.exchange_room c.self.inside.exchange_room (vec_capacity c.self.inside.exchanges) c.requires.all (c.deref-2.ensures.value ∙ c.write_live.ensures.live)
    c.requires.exchanges (ap (λ (s : LineState). s.exchange_room) c.self.view_is) c.self.invariant.4

pub put_in_turn-requires-clause-turns : goal.put_in_turn-requires-clause-turns
put_in_turn-requires-clause-turns g c =
    let at = reads g.P.Parts.holds g.P.Parts.at c.args.reading.now in
    subst (AllByRecursion (λ x. has_turn x ≡ true)) (sym c.write_counted.ensures.items) (have_turns (flat_map (counted_at at c.args.reading.now.folio) c.deref-2.result.now))

pub put_in_turn-requires-clause-room : goal.put_in_turn-requires-clause-room
put_in_turn-requires-clause-room g c =
    let at = reads g.P.Parts.holds g.P.Parts.at c.args.reading.now in
    let folio = c.args.reading.now.folio in
    subst (λ xs. length xs ≤ vec_capacity c.self.inside.turns) (sym c.write_counted.ensures.items)
    (counted_fit at folio c.args.ids.now c.deref-2.result.now c.args.self.now.exchange_room c.self.inside.exchange_room (vec_capacity c.self.inside.turns) c.requires.all (c.deref-2.ensures.value ∙ c.write_live.ensures.live)
    c.requires.exchanges (ap (λ (s : LineState). s.exchange_room) c.self.view_is) c.self.invariant.5)

pub write_by_group-requires : goal.write_by_group-requires
write_by_group-requires g c =
    let at = reads g.P.Parts.holds g.P.Parts.at c.args.reading.now in
    record {
      room = rights_fit (right_found (stands_on_line c.deref-3.result.now) at c.args.reading.now.folio) c.args.ids.now c.deref-4.result.now c.args.self.now.right_room c.self.inside.right_room (vec_capacity c.self.inside.rights)
          (c.deref-4.ensures.value ∙ c.write_receding.ensures.items) c.requires.rights (ap (λ (s : LineState). s.right_room) c.self.view_is) c.self.invariant.0;
    }

pub returns-clause-line : goal.returns-clause-line
returns-clause-line g c =
    let at = reads g.P.Parts.holds g.P.Parts.at c.args.reading.now in
    let folio = c.args.reading.now.folio in
    let ids = c.args.ids.now in
    let by_act = c.write_live.ensures.by_act in
    let exchanges =
    exchanges_written at folio c.deref-2.result.now c.write_counted.new.list.items c.put_in_turn.new.exchanges.items (c.deref-2.ensures.value ∙ c.write_live.ensures.live) c.write_counted.ensures.items c.put_in_turn.ensures.items in
    let on_line : c.deref-4.result.now ≡ _ = c.deref-4.ensures.value ∙ c.write_receding.ensures.items in
    record {
      rights = written (stands_on_line c.deref-3.result.now) at folio ids c.deref-4.result.now c.write_by_group.new.list.items c.requires.all on_line c.write_by_group.ensures.items
          ∙ ap (λ xs. rights_where (stands_on_line xs) at folio) (c.deref-3.ensures.value ∙ exchanges);
      live = c.write_live.ensures.live;
      exchanges = exchanges;
      exercises = exercises_written at folio ids c.deref.result.now c.write_exercises.new.list.items c.requires.all (c.deref.ensures.value ∙ by_act) c.write_exercises.ensures.items;
    }
