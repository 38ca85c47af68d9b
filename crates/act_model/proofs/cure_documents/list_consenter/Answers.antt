-- Who consents is listed after the others.
use Rattle.std.proofs.Common.{◌≡◌, ℕ, ◌+◌, ◌≤◌, cond, [], ◌∷◌, ◌++◌, subst, sym}
use Rattle.std.specs.Ordering.{is_eq}
use Rattle.act_model.specs.inner.Index.{pair_cmp}
use Rattle.act_model.specs.inner.Lists.{listed, room}
use Rattle.act_model.proofs.ConsenterLemmas.{consents, listed_behind, room_taken}
use Rattle.act_model.proofs.DocumentRoom.{eqb-itself}
use Rattle.act_model.proofs.cure_documents.list_consenter.Goals as goal

pub push-requires : goal.push-requires
push-requires c =
    subst (λ f. 1 ≤ room pair_cmp c.args.lists.now (f, c.in-Consent.act)) (sym c.get.ensures.value)
    (c.requires c.in-Consent.act (consents c.args.doc.now c.in-Consent.act c.in-Consent.person c.in-Consent.form c.in-Consent.is (eqb-itself c.in-Consent.act)))

pub returns-then-is_wanted-clause-listed : goal.returns-then-is_wanted-clause-listed
returns-then-is_wanted-clause-listed c =
    listed_behind c.push.new.lists c.args.n c.args.filing c.in-Consent.act c.in-Consent.person c.in-Consent.form c.args.doc.now c.args.is_wanted (λ m a. listed pair_cmp c.args.lists.now (m, a)) c.in-Consent.is
    c.if-is_wanted.true
    (subst (λ f. (q : ℕ × ℕ) → listed pair_cmp c.push.new.lists q ≡ cond (is_eq (pair_cmp (f, c.in-Consent.act) q)) (listed pair_cmp c.args.lists.now (f, c.in-Consent.act) ++ record { person = c.in-Consent.person; first = c.args.n } ∷ []) (listed pair_cmp c.args.lists.now q))
    c.get.ensures.value c.push.ensures.listed)

pub returns-then-is_wanted-clause-room : goal.returns-then-is_wanted-clause-room
returns-then-is_wanted-clause-room c =
    room_taken (λ m a. room pair_cmp c.args.lists.now (m, a)) (λ m a. room pair_cmp c.push.new.lists (m, a)) c.args.filing c.in-Consent.act c.in-Consent.person c.in-Consent.form c.args.doc.now c.in-Consent.is
    (eqb-itself c.args.filing)
    (subst (λ f. (q : ℕ × ℕ) → room pair_cmp c.args.lists.now q ≤ room pair_cmp c.push.new.lists q + cond (is_eq (pair_cmp (f, c.in-Consent.act) q)) 1 0) c.get.ensures.value c.push.ensures.room)
