-- Answers on a stop.
use Rattle.std.proofs.Common.{◌≡◌, ℕ, ◌-◌, List, [], min, take, length, sym, ap, subst, ◌∙◌}
use Rattle.std.proofs.lemmas.Result.{IfOk-weaker}
use Rattle.gb_outside.specs.MemDisks.{DiskInMemory, file_of, images_of}
use Rattle.gb_outside.specs.Stops.{first_calls, disk_then, disk_left, left_after}
use Rattle.gb_outside.specs.inner.Calls.{events, ArePlaced}
use Rattle.gb_outside.specs.inner.Remaking.{Remade, begun, remade, CanRemake}
use Rattle.gb_outside.specs.declared.mem_disk.Call.{Call}
use Rattle.gb_outside.proofs.FilesLeft.{left_length, left_is_image, placed_first, remade_left, can_remake}
use Rattle.gb_outside.proofs.mem_disk.MemDisk.stopped.Goals as goal

pub make_all-requires : goal.make_all-requires
make_all-requires c =
    let inside = c.self.inside in
    let start : begun inside.first.items inside.written.items ≡ c.in_ok-replay.replay = cc (c.in_ok-replay.ensures, c.deref.ensures.value, c.deref-2.ensures.value) in
    let calls : take c.min-count.result inside.calls.items ≡ take c.min-count.result c.deref-3.result.now = ap (λ (l : List Call). take c.min-count.result l) (sym c.deref-3.ensures.value) in
    subst (λ (s : Remade). CanRemake c.args.fill s (take c.min-count.result c.deref-3.result.now)) start
    (subst (λ (l : List Call). CanRemake c.args.fill (begun inside.first.items inside.written.items) l) calls
    (can_remake c.args.fill inside.first.items inside.written.items inside.calls.items c.min-count.result c.self.invariant.3.placed c.self.invariant.3.all_written))

pub returns : goal.returns
returns c =
    let inside = c.self.inside in
    let self = c.args.self.now in
    let done = events inside.calls.items inside.written.items in
    let start : c.in_ok-replay.replay ≡ begun inside.first.items inside.written.items = cc (c.in_ok-replay.ensures, c.deref.ensures.value, c.deref-2.ensures.value) in
    let count : c.min-count.result ≡ min (length inside.calls.items) c.args.calls = cc (c.min-count.ensures, c.len.ensures) in
    let last : c.make_all.new.self ≡ remade c.args.fill (begun inside.first.items inside.written.items) (take c.min-count.result inside.calls.items) =
    c.in_ok-make_all.ensures
    ∙ ap (λ (s : Remade). remade c.args.fill s (take c.min-count.result c.deref-3.result.now)) start
    ∙ ap (λ (l : List Call). remade c.args.fill (begun inside.first.items inside.written.items) (take c.min-count.result l)) c.deref-3.ensures.value in
    let file : c.left.result.now ≡ left_after c.args.fill inside.first.items (first_calls c.args.calls done) =
    c.left.ensures ∙ ap (λ (s : Remade). s.left) last ∙ remade_left c.args.fill inside.first.items inside.written.items inside.calls.items c.args.calls c.min-count.result count in
    let with_file = λ (l : List ℕ). let disk : DiskInMemory = record {
      first = l;
      done = [];
      longest = inside.longest;
      most_calls = inside.most_calls;
      most_written = inside.most_written;
      failing = [];
      faults = 0;
    } in disk in
    let is_left = λ (disk : DiskInMemory) (is : disk ≡ with_file c.left.result.now). is ∙ ap with_file file ∙ ap (disk_left c.args.calls c.args.fill) c.self.view_is in
    let placed : ArePlaced self.first (first_calls c.args.calls self.done) =
    placed_first (length self.done - c.args.calls) self.first self.done (subst (λ (d : DiskInMemory). ArePlaced d.first d.done) c.self.view_is c.self.invariant.3.placed) in
    record {
      left = IfOk-weaker c.new-2.result _ (λ disk. disk ≡ disk_left c.args.calls c.args.fill self) is_left c.new-2.ensures.made;
      size = IfOk-weaker c.new-2.result _ (λ disk. length (file_of disk) ≡ length (file_of (disk_then c.args.calls self)))
          (λ disk is. ap (λ (d : DiskInMemory). length (file_of d)) (is_left disk is) ∙ left_length c.args.fill self.first (first_calls c.args.calls self.done) placed) c.new-2.ensures.made;
      image = IfOk-weaker c.new-2.result _ (λ disk. images_of (disk_then c.args.calls self) (file_of disk))
          (λ disk is. subst (λ (d : DiskInMemory). images_of (disk_then c.args.calls self) (file_of d)) (sym (is_left disk is)) (left_is_image c.args.fill self.first (first_calls c.args.calls self.done) placed)) c.new-2.ensures.made;
    }
