use Rattle.std.proofs.Common.{ap, length}
use Rattle.folio_sections.proofs.Marks.{marks_push}
use Rattle.folio_sections.proofs.Rights.{right_push}
use Rattle.folio_sections.proofs.right_part.RightPart.append.Goals as goal

pub invariant_of-self : goal.invariant_of-self
invariant_of-self c =
    let is = c.self.inside in
    let after = c.append.new.self in
    let right = right_push is.state c.state_by-self-inside.result is.exchanges c.exchanges_by-self-inside.result is.list.entries after.entries is.list.naming after.naming c.args.entry
    c.names_holder-names.result c.self.invariant.0 c.state_by-self-inside.ensures c.exchanges_by-self-inside.ensures c.append.ensures.entries c.names_holder-names.ensures
    c.append.ensures.naming in (
      right,
      marks_push is.marks.states.items c.note.new.self.states.items is.list.entries after.entries c.args.entry c.state_by-self-inside.result (length c.entries-ahead.result.now) _ _
          c.self.invariant.1 right.state c.append.ensures.entries (ap length c.entries-ahead.ensures.value) is.marks.states.ok.0 c.note.ensures,
    )
