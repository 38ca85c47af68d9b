use Rattle.std.proofs.Common.{◌∙◌, ◌≤◌, ap, subst, sym, arith}
use Rattle.folio_sections.specs.inner.Listed.{GoWith}
use Rattle.folio_sections.proofs.Listed.{goes_on}
use Rattle.folio_sections.proofs.entry_list.EntryList.append.Goals as goal

pub invariant_of-self : goal.invariant_of-self
invariant_of-self c =
    let is = c.self.inside in
    let room = c.self.invariant.1 in
    let one : 1 ≤ is.room = subst (λ v. 1 ≤ v.room) (sym c.self.view_is) c.requires.room in (
      subst (λ xs. GoWith is.key xs c.note.new.self c.push_if.new.numbers.items) (sym c.push_reserved.ensures.items)
          (goes_on is.key is.entries.items c.args.entry is.waiters c.note.new.self is.naming.items c.push_if.new.numbers.items c.args.names c.self.invariant.0
          (c.requires.key ∙ sym (ap (λ v. v.key) c.self.view_is))
          c.note.ensures.order c.note.ensures.few c.note.ensures.until c.len-ahead.result (c.len-ahead.ensures ∙ is.entries.ok.0) c.note.ensures.notice c.push_if.ensures.items),
      record {
        few_until = omega (arith, c.note.ensures.len_until, c.push_reserved.ensures.len, room.few_until);
        few_notices = omega (arith, c.note.ensures.len_notices, c.push_reserved.ensures.len, room.few_notices);
        few_naming = omega (arith, c.push_if.ensures.len, c.push_reserved.ensures.len, room.few_naming);
        room_entries = omega (arith, one, c.push_reserved.ensures.len, c.push_reserved.ensures.capacity, room.room_entries);
        room_until = omega (arith, one, c.push_reserved.ensures.len, c.note.ensures.capacity_until, room.room_until);
        room_notices = omega (arith, one, c.push_reserved.ensures.len, c.note.ensures.capacity_notices, room.room_notices);
        room_naming = omega (arith, one, c.push_reserved.ensures.len, c.push_if.ensures.capacity, room.room_naming);
      },
    )
