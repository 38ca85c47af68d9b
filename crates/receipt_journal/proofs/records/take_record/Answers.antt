use Rattle.std.proofs.Common.{◌≡◌, sym, ◌∙◌, ap}
use Rattle.act_codec.specs.Spelling.{spelling}
use Rattle.act_model.specs.Receiving.{stamp_after}
use Rattle.receipt_journal.proofs.Taking.{stamp_in_order, no_record, record_taken, same_stamp, other_stamp, not_added, accepted}
use Rattle.receipt_journal.proofs.records.take_record.Goals as goal

pub returns-then-ne-clause-refused : goal.returns-then-ne-clause-refused
returns-then-ne-clause-refused c =
    let journal = c.args.journal.now.receipts in
    let r = c.in-Some.receipt in
    let spelled : c.args.frame.now.body ≡ spelling r = cc c.in-Some.ensures.found.1 in (
      no_record journal c.args.frame.now.body r c.in-Some.ensures.found.0 spelled
          (λ is. other_stamp c.next_stamp.result r.stamp c.ne.result c.ne.ensures c.if-ne.true (c.next_stamp.ensures ∙ stamp_in_order journal r is)),
      ap (λ f. f.at) c.frame.view_is,
    )

pub returns-in-Accepted-clause-taken : goal.returns-in-Accepted-clause-taken
returns-in-Accepted-clause-taken c =
    let journal = c.args.journal.now.receipts in
    let r = c.in-Some.receipt in
    let spelled : c.args.frame.now.body ≡ spelling r = cc c.in-Some.ensures.found.1 in
    let stamped : stamp_after journal r.stamp ≡ r.stamp = sym c.next_stamp.ensures ∙ same_stamp c.next_stamp.result r.stamp c.ne.result c.ne.ensures c.if-ne.false in
    record_taken journal c.add.new.self.receipts c.args.frame.now.body r c.requires c.in-Some.ensures.found.0 spelled stamped (accepted _ _ c.in-Accepted.ensures.answer) c.in-Accepted.ensures.journal

pub returns-in-Repeated : goal.returns-in-Repeated
returns-in-Repeated c =
    let journal = c.args.journal.now.receipts in
    let r = c.in-Some.receipt in
    let spelled : c.args.frame.now.body ≡ spelling r = cc c.in-Some.ensures.found.1 in
    record {
      taken = tt;
      refused = (no_record journal c.args.frame.now.body r c.in-Some.ensures.found.0 spelled (not_added journal r c.add.result c.add.ensures.answer c.in-Repeated.is), ap (λ f. f.at) c.frame.view_is);
    }
