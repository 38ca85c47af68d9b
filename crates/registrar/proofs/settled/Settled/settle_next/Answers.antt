use Rattle.std.proofs.Common.{◌<◌, ◌+◌, [], ◌∷◌, ◌++◌, All, filter, filter_map, refl, sym, ap, subst, ◌∙◌}
use Rattle.std.proofs.lemmas.Bool.{or_right}
use Rattle.std.proofs.lemmas.Result.{MatchResult-from_err}
use Rattle.gb_base.specs.declared.keys.Key.TheVariants.{Title}
use Rattle.folio_sections.specs.Held.{entries_at, is_given, is_held, room_at}
use Rattle.folio_sections.specs.Titles.{is_open}
use Rattle.kept_registers.specs.Kept.{Kept}
use Rattle.registrar.proofs.GoingOn.{next_behind, nothing_added, still_settled}
use Rattle.registrar.proofs.JournalKeys.{has_its_room, touched_is_given}
use Rattle.registrar.specs.KeptAwards.{AwardsKept}
use Rattle.registrar.specs.inner.Listed.{closed_folio_of_title}
use Rattle.registrar.proofs.settled.Settled.settle_next.Goals as goal

pub make_scratch-requires : goal.make_scratch-requires
make_scratch-requires c = record {
  held = λ k there.
      c.in_ok-make_room.ensures.held k
      ∙ or_right (is_held c.args.self.now.parts k) (is_given c.as_slice.result.now k)
      (touched_is_given c.args.journal.now.receipts c.next_number-item.result c.as_slice.result.now k (c.as_slice.ensures.value ∙ c.in_ok-keys.ensures) there);
}

pub step-verdict-requires-clause-held : goal.step-verdict-requires-clause-held
step-verdict-requires-clause-held c = λ k there.
    c.in_ok-make_room.ensures.held k
    ∙ or_right (is_held c.args.self.now.parts k) (is_given c.as_slice.result.now k)
    (touched_is_given c.args.journal.now.receipts c.next_number-item.result c.as_slice.result.now k (c.as_slice.ensures.value ∙ c.in_ok-keys.ensures) there)

pub step-verdict-requires-clause-room : goal.step-verdict-requires-clause-room
step-verdict-requires-clause-room c =
    has_its_room c.args.journal.now.receipts c.next_number-item.result c.as_slice.result.now (entries_at c.make_room.new.parts) (room_at c.make_room.new.parts)
    (c.as_slice.ensures.value ∙ c.in_ok-keys.ensures) c.in_ok-make_room.ensures.room

pub step-verdict-requires-clause-kept : goal.step-verdict-requires-clause-kept
step-verdict-requires-clause-kept c = record {
  register = entries_at c.make_room.new.parts;
  stands = λ k held. refl;
  kept = subst (Kept c.args.journal.now.receipts) (sym c.make_room.ensures.entries) c.requires.behind.settled.kept;
  awards = subst (AwardsKept c.args.journal.now.receipts) (sym c.make_room.ensures.entries) c.requires.behind.settled.awards;
}

pub step-verdict-requires-clause-earlier : goal.step-verdict-requires-clause-earlier
step-verdict-requires-clause-earlier c = λ k there.
    subst (λ stands. All (λ e. e.receipt < c.next_number-item.result) (stands k)) (sym c.make_room.ensures.entries)
    (subst (λ n. All (λ e. e.receipt < n) (entries_at c.args.self.now.parts k)) (sym (c.next_number-item.ensures.value ∙ ap (λ n. n + 1) (c.len.ensures ∙ c.args.self.now.verdicts.ok.0))) (c.requires.behind.settled.earlier k))

pub returns-clause-behind : goal.returns-clause-behind
returns-clause-behind c =
    let kept = subst (Kept c.args.journal.now.receipts) (sym c.make_room.ensures.entries) c.requires.behind.settled.kept in
    next_behind c.args.journal.now.receipts c.args.self.now _ c.next_number-item.result c.as_slice.result.now c.in_ok-closed.closed.items c.make_room.new.parts c.step-verdict.result
    (c.next_number-item.ensures.value ∙ ap (λ n. n + 1) (c.len.ensures ∙ c.args.self.now.verdicts.ok.0)) c.next_number-item.ensures.journal c.requires.behind (c.as_slice.ensures.value ∙ c.in_ok-keys.ensures)
    c.make_room.ensures.entries c.in_ok-make_room.ensures.held c.step-verdict.ensures.held
    (c.step-verdict.ensures.verdict (entries_at c.make_room.new.parts) (λ k held. refl) kept)
    (c.step-verdict.ensures.added (entries_at c.make_room.new.parts) (λ k held. refl) kept).there
    c.step-verdict.ensures.others (c.push_reserved.ensures.items ∙ ap (λ vs. vs ++ c.step-verdict.result ∷ []) c.reserve-2.ensures.items)
    (c.in_ok-closed.ensures ∙ ap (filter_map (closed_folio_of_title (entries_at c.make_room.new.parts))) (c.as_slice-2.ensures.value ∙ sym c.as_slice.ensures.value))
    (c.list_open.ensures ∙ ap (λ fs. fs ++ filter (λ folio. is_open (entries_at c.step-verdict.new.parts (Title folio))) c.as_slice-3.result.now) c.reserve.ensures.items
    ∙ ap (λ fs. c.args.self.now.folios.items ++ filter (λ folio. is_open (entries_at c.step-verdict.new.parts (Title folio))) fs) c.as_slice-3.ensures.value)

pub returns-clause-folios : goal.returns-clause-folios
returns-clause-folios c = λ short.
    nothing_added c.args.self.now.folios.items (filter (λ folio. is_open (entries_at c.step-verdict.new.parts (Title folio))) c.as_slice-3.result.now) c.list_open.new.list.items
    (c.list_open.ensures ∙ ap (λ fs. fs ++ filter (λ folio. is_open (entries_at c.step-verdict.new.parts (Title folio))) c.as_slice-3.result.now) c.reserve.ensures.items) short

pub returns-in_err-make_room-clause-remains : goal.returns-in_err-make_room-clause-remains
returns-in_err-make_room-clause-remains c =
    MatchResult-from_err c.from_residual-in_err-make_room.result _ _ c.from_residual-in_err-make_room.ensures.0
    (λ _. still_settled c.args.journal.now.receipts c.args.self.now _ c.next_number-item.result c.as_slice.result.now
    (c.next_number-item.ensures.value ∙ ap (λ n. n + 1) (c.len.ensures ∙ c.args.self.now.verdicts.ok.0)) (c.as_slice.ensures.value ∙ c.in_ok-keys.ensures)
    c.make_room.ensures.widens c.make_room.ensures.entries refl refl)

pub returns-in_err-make_scratch-clause-remains : goal.returns-in_err-make_scratch-clause-remains
returns-in_err-make_scratch-clause-remains c =
    MatchResult-from_err c.from_residual-in_err-make_scratch.result _ _ c.from_residual-in_err-make_scratch.ensures.0
    (λ _. still_settled c.args.journal.now.receipts c.args.self.now _ c.next_number-item.result c.as_slice.result.now
    (c.next_number-item.ensures.value ∙ ap (λ n. n + 1) (c.len.ensures ∙ c.args.self.now.verdicts.ok.0)) (c.as_slice.ensures.value ∙ c.in_ok-keys.ensures)
    c.make_room.ensures.widens c.make_room.ensures.entries refl refl)

pub returns-in_err-closed-clause-remains : goal.returns-in_err-closed-clause-remains
returns-in_err-closed-clause-remains c =
    MatchResult-from_err c.from_residual-in_err-closed.result _ _ c.from_residual-in_err-closed.ensures.0
    (λ _. still_settled c.args.journal.now.receipts c.args.self.now _ c.next_number-item.result c.as_slice.result.now
    (c.next_number-item.ensures.value ∙ ap (λ n. n + 1) (c.len.ensures ∙ c.args.self.now.verdicts.ok.0)) (c.as_slice.ensures.value ∙ c.in_ok-keys.ensures)
    c.make_room.ensures.widens c.make_room.ensures.entries refl refl)

pub returns-in_err-reserve-clause-remains : goal.returns-in_err-reserve-clause-remains
returns-in_err-reserve-clause-remains c =
    MatchResult-from_err c.from_residual-in_err-reserve.result _ _ c.from_residual-in_err-reserve.ensures.0
    (λ _. still_settled c.args.journal.now.receipts c.args.self.now _ c.next_number-item.result c.as_slice.result.now
    (c.next_number-item.ensures.value ∙ ap (λ n. n + 1) (c.len.ensures ∙ c.args.self.now.verdicts.ok.0)) (c.as_slice.ensures.value ∙ c.in_ok-keys.ensures)
    c.make_room.ensures.widens c.make_room.ensures.entries refl c.reserve.ensures.items)

pub returns-in_err-reserve-2-clause-remains : goal.returns-in_err-reserve-2-clause-remains
returns-in_err-reserve-2-clause-remains c =
    MatchResult-from_err c.from_residual-in_err-reserve-2.result _ _ c.from_residual-in_err-reserve-2.ensures.0
    (λ _. still_settled c.args.journal.now.receipts c.args.self.now _ c.next_number-item.result c.as_slice.result.now
    (c.next_number-item.ensures.value ∙ ap (λ n. n + 1) (c.len.ensures ∙ c.args.self.now.verdicts.ok.0)) (c.as_slice.ensures.value ∙ c.in_ok-keys.ensures)
    c.make_room.ensures.widens c.make_room.ensures.entries c.reserve-2.ensures.items c.reserve.ensures.items)
