-- More cents of the last piece's right, or one more piece.
use Rattle.std.proofs.Common.{◌≡◌, ◌-◌, ◌++◌, [], ◌∷◌, ap, length, replicate, sym, vec_len, arith, ◌∙◌}
use Rattle.std.proofs.lemmas.Grind.{common_steps}
use Rattle.std.proofs.lemmas.List.{nil_from_length}
use Rattle.gb_base.proofs.SameRights.{right_is}
use Rattle.rank_slots.specs.inner.Pieces.{line_of}
use Rattle.rank_slots.proofs.Joined.{joined_behind, joined_first, joined_grown, line_grown}
use Rattle.rank_slots.proofs.pieces.add_cents.Goals as goal
use Rattle.rank_slots.proofs.pieces.add_cents.Goals.{in_default-via-in-Some+else-eq, in_default-via-in-None-1}

pub returns-in-Some-clause-line : goal.returns-in-Some-clause-line
returns-in-Some-clause-line c =
    line_grown c.args.pieces.now.items (vec_len c.args.pieces.now - 1) c.args.cents c.in-Some.last.now (omega (arith, c.args.pieces.now.ok.0, c.in-Some.ensures.item.3.0)) c.in-Some.ensures.value
    ∙ ap (λ r. line_of c.args.pieces.now.items ++ replicate c.args.cents r) (right_is c.in-Some.last.now.right c.args.right (sym c.eq.ensures ∙ c.if-eq.true))

pub returns-in-Some-clause-joined : goal.returns-in-Some-clause-joined
returns-in-Some-clause-joined c =
    joined_grown c.args.pieces.now.items (vec_len c.args.pieces.now - 1) c.args.cents c.in-Some.last.now (omega (arith, c.args.pieces.now.ok.0, c.in-Some.ensures.item.3.0)) c.in-Some.ensures.value (omega arith) c.requires.joined

pub returns-in_default-clause-joined : goal.returns-in_default-clause-joined
returns-in_default-clause-joined c = elim c.in_default.branch [
  | in_default-via-in-Some+else-eq w ↦
      let same : c.in_default.pieces.items ≡ c.args.pieces.now.items = grind (arith, common_steps) in
      joined_behind c.args.pieces.now.items _ (vec_len c.args.pieces.now - 1) w.in-Some.last.now (record { right = c.args.right; cents = c.args.cents })
      (omega (arith, c.args.pieces.now.ok.0, w.in-Some.ensures.item.3.0)) w.in-Some.ensures.value (sym w.eq.ensures ∙ w.if-eq.false) (omega arith) c.requires.joined
      (c.push_reserved.ensures.items ∙ ap (λ ps. ps ++ (record { right = c.args.right; cents = c.args.cents }) ∷ []) same)
  | in_default-via-in-None-1 w ↦
      let none : length c.args.pieces.now.items ≡ 0 = grind (arith, common_steps) in
      joined_first (record { right = c.args.right; cents = c.args.cents }) c.args.pieces.now.items _ (omega arith) (nil_from_length c.args.pieces.now.items none)
      (c.push_reserved.ensures.items ∙ ap (λ v. v.items ++ (record { right = c.args.right; cents = c.args.cents }) ∷ []) w.pieces-is)
]
