-- What became of a connection: its one turn, or what no memory was found for; and turns that were taken before it.
use Rattle.std.proofs.Common.{◌≡◌, ◌⊎◌, inl, inr, ⊎_elim, ℕ, ◌+◌, ◌<◌, false, List, [], ◌∷◌, ◌++◌, length, take, Option, refl, sym, ◌∙◌, ap, subst, arith, append_assoc, append-nil, length-append}
use Rattle.std.proofs.KnownBytes.{Appends-nil, Appends-trans}
use Rattle.std.specs.Io.KnownBytes.{Appends}
use Rattle.std.specs.List.{AllZip, list_any}
use Rattle.intake.specs.Grown.{IsFront}
use Rattle.intake.specs.Requests.{Held}
use Rattle.registry_http.specs.Replies.{AppendsPart}
use Rattle.connections.specs.LinkOrder.{WritesLast}
use Rattle.connections.specs.Replies.{ReplyParts, bytes_of, out_of_memory}
use Rattle.connections.specs.Served.{Connection, IsClosing, next_reply, taken_of, written_by}
use Rattle.connections.specs.Serving as serving
use Rattle.connections.specs.Turns.{Turn, Taken, IsOf, answer_in, held_after, is_owed, replies_in}
use Rattle.connections.specs.declared.serving.Ended.{Ended}
use Rattle.connections.specs.declared.serving.Ended.TheVariants as ended
use Rattle.connections.specs.declared.serving.Served.{Served}
use Rattle.connections.proofs.TurnLists.{bytes_more, held_more, turns_after, zip_more}

-- the connection is finished or not
pub cases_ended : (e : Ended) → (e ≡ ended.Finished) ⊎ (e ≡ ended.Finished → ⊥)
cases_ended ended.Finished = inl refl
cases_ended ended.LinkFault = inr (λ is. absurd cc)
cases_ended ended.Memory = inr (λ is. absurd cc)

-- ---- a reply that is not whole

-- A front of these bytes that is not the whole was written, and none of them where no memory was found.
pub record IsPart (w0 w1 : Option (List ℕ)) (bytes : List ℕ) (e : Ended) : Type 0 where
  pub front : List ℕ
  pub is_front : IsFront front bytes
  pub short : length front < length bytes
  pub added : Appends w0 w1 front
  pub nothing : e ≡ ended.Memory → front ≡ []

less_by : (front rest bytes : List ℕ) → bytes ≡ front ++ rest → 0 < length rest → length front < length bytes
less_by front rest bytes whole short = omega (arith, ap length whole, length-append front rest, short)

none_of : (w0 w1 : Option (List ℕ)) (bytes : List ℕ) (e : Ended) → AppendsPart w0 w1 bytes → w1 ≡ w0 → IsPart w0 w1 bytes e
none_of w0 w1 bytes e part same = record {
  front = [];
  is_front = (bytes, refl);
  short = omega (arith, less_by part.front part.rest bytes part.whole part.short);
  added = subst (λ w. Appends w0 w []) (sym same) (Appends-nil w0);
  nothing = λ is. refl;
}

some_of : (w0 w1 : Option (List ℕ)) (bytes : List ℕ) (e : Ended) → AppendsPart w0 w1 bytes → (e ≡ ended.Memory → ⊥) → IsPart w0 w1 bytes e
some_of w0 w1 bytes e part other = record {
  front = part.front;
  is_front = (part.rest, part.whole);
  short = less_by part.front part.rest bytes part.whole part.short;
  added = part.added;
  nothing = λ is. absurd (other is);
}

part_by : (w0 w1 : Option (List ℕ)) (bytes : List ℕ) (e : Ended) → AppendsPart w0 w1 bytes → (e ≡ ended.Memory → w1 ≡ w0) → IsPart w0 w1 bytes e
part_by w0 w1 bytes ended.Finished part nothing = some_of w0 w1 bytes ended.Finished part (λ is. absurd cc)
part_by w0 w1 bytes ended.LinkFault part nothing = some_of w0 w1 bytes ended.LinkFault part (λ is. absurd cc)
part_by w0 w1 bytes ended.Memory part nothing = none_of w0 w1 bytes ended.Memory part (nothing refl)

-- ---- what became of it

-- some turns, replied to whole and begun, and what closes it
abbrev became_of : List Taken → List Taken → List ReplyParts → List ℕ → Connection
became_of replied begun closing front = record { replied = replied; begun = begun; closing = closing; front = front }

-- a connection after turns that were replied to
abbrev after : List Taken → Connection → Connection
after done c = became_of (done ++ c.replied) c.begun c.closing c.front

none_owed : (us : List Turn) → us ≡ [] → list_any is_owed us ≡ false
none_owed us none = ap (λ (l : List Turn). list_any is_owed l) none

module _ {D : Type 0} (Takes : D → D → Held → List Taken → Type 0) (old new : D) (w0 w1 : Option (List ℕ)) (served : Served) where
  abbrev Serves : Held → List Turn → (Held → Type 0) → Type 0
  Serves held us HoldsNow = serving.ServesLink Takes old new held w0 w1 us served HoldsNow

  -- nothing was written, and no turn taken up: none is owed a reply, or the link failed
  pub served_none : (held : Held) (us : List Turn) (HoldsNow : Held → Type 0) → HoldsNow held → Takes old new held [] → w1 ≡ w0 → (served.ended ≡ ended.Finished → list_any is_owed us ≡ false)
      → ((served.ended ≡ ended.Finished → ⊥) → 0 < length us) → (served.ended ≡ ended.Memory → ⊥) → served.replies ≡ 0 → Serves held us HoldsNow
  served_none held us HoldsNow holds disk same all more sound none = record {
    became = became_of [] [] [] [];
    of_turns = record { are = tt; one = omega arith; closes = inl refl; apart = inl refl; part = ([], refl) };
    written = subst (λ w. Appends w0 w []) (sym same) (Appends-nil w0);
    holds = holds;
    disk = disk;
    finished = λ is. (record { none_begun = refl; written = refl; all = λ closed. all is }, none);
    unfinished = λ no. none;
    cut_off = λ no. record { left = more no; short = inl refl };
    unwritten = λ is. absurd (sound is);
  }

  -- the reply that says that no memory was found for what comes next
  pub served_close : (held : Held) (us : List Turn) (HoldsNow : Held → Type 0) → HoldsNow held → Takes old new held [] → 0 < length us → WritesLast w0 w1 out_of_memory served → Serves held us HoldsNow
  served_close held us HoldsNow holds disk more ends =
      ⊎_elim (λ (is : served.ended ≡ ended.Finished). let whole = ends.whole is in record {
        became = became_of [] [] (out_of_memory ∷ []) (bytes_of (out_of_memory ∷ []));
        of_turns = record { are = tt; one = omega arith; closes = inr (refl, more); apart = inl refl; part = ([], sym (append-nil (bytes_of (out_of_memory ∷ [])))) };
        written = whole.0;
        holds = holds;
        disk = disk;
        finished = λ again. (record { none_begun = refl; written = refl; all = λ closed. absurd cc }, whole.1);
        unfinished = λ no. absurd (no is);
        cut_off = λ no. absurd (no is);
        unwritten = λ memory. let never : ended.Finished ≡ ended.Memory = sym is ∙ memory in absurd cc;
      })
      (λ (no : served.ended ≡ ended.Finished → ⊥). let cut = ends.part no in let part = part_by w0 w1 (bytes_of (out_of_memory ∷ [])) served.ended cut.0 ends.nothing in record {
        became = became_of [] [] (out_of_memory ∷ []) part.front;
        of_turns = record { are = tt; one = omega arith; closes = inr (refl, more); apart = inl refl; part = part.is_front };
        written = part.added;
        holds = holds;
        disk = disk;
        finished = λ is. absurd (no is);
        unfinished = λ still. cut.1;
        cut_off = λ still. record { left = more; short = inr part.short };
        unwritten = λ memory. record { owed = λ none. absurd cc; nothing = part.nothing memory };
      }) (cases_ended served.ended)

  -- the one turn that is left was taken up, or the first of more where its reply was not written whole
  pub served_turn : (held : Held) (u : Turn) (us : List Turn) (t : Taken) (HoldsNow : Held → Type 0) → IsOf u t → HoldsNow (answer_in held t).held → Takes old new held (t ∷ [])
      → (served.ended ≡ ended.Finished → us ≡ []) → WritesLast w0 w1 (answer_in held t).reply served → Serves held (u ∷ us) HoldsNow
  served_turn held u us t HoldsNow is_of holds disk all ends =
      let reply = bytes_of ((answer_in held t).reply ∷ []) in
      ⊎_elim (λ (is : served.ended ≡ ended.Finished). let whole = ends.whole is in record {
        became = became_of (t ∷ []) [] [] [];
        of_turns = record { are = (is_of, tt); one = omega arith; closes = inl refl; apart = inr refl; part = ([], refl) };
        written = subst (λ bytes. Appends w0 w1 bytes) (sym (append-nil reply)) whole.0;
        holds = holds;
        disk = disk;
        finished = λ again. (record { none_begun = refl; written = refl; all = λ closed. none_owed us (all is) }, whole.1);
        unfinished = λ no. absurd (no is);
        cut_off = λ no. absurd (no is);
        unwritten = λ memory. let never : ended.Finished ≡ ended.Memory = sym is ∙ memory in absurd cc;
      })
      (λ (no : served.ended ≡ ended.Finished → ⊥). let cut = ends.part no in let part = part_by w0 w1 reply served.ended cut.0 ends.nothing in record {
        became = became_of [] (t ∷ []) [] part.front;
        of_turns = record { are = (is_of, tt); one = omega arith; closes = inl refl; apart = inr refl; part = part.is_front };
        written = part.added;
        holds = holds;
        disk = disk;
        finished = λ is. absurd (no is);
        unfinished = λ still. cut.1;
        cut_off = λ still. record { left = omega arith; short = inr part.short };
        unwritten = λ memory. record { owed = λ none. absurd cc; nothing = part.nothing memory };
      }) (cases_ended served.ended)

closes_later : (ahead us : List Turn) (done replied : List Taken) (closing : List ReplyParts) → length ahead ≡ length done → IsClosing us replied closing → IsClosing (ahead ++ us) (done ++ replied) closing
closes_later ahead us done replied closing same (inl none) = inl none
closes_later ahead us done replied closing same (inr closes) = inr (closes.0, omega (arith, length-append done replied, length-append ahead us, same, closes.1))

-- some turns were replied to, and then a connection was served
pub served_later : {D : Type 0} (Takes : D → D → Held → List Taken → Type 0) (old mid new : D) (w0 w1 w2 : Option (List ℕ)) (held : Held)
    (ahead us : List Turn) (done : List Taken) (HoldsNow : Held → Type 0) (served all : Served) → ((xs : List Taken) → Takes old mid held done → Takes mid new (held_after held done) xs → Takes old new held (done ++ xs))
    → AllZip IsOf ahead done → length ahead ≡ length done → Appends w0 w1 (bytes_of (replies_in held done)) → Takes old mid held done
    → serving.ServesLink Takes mid new (held_after held done) w1 w2 us served HoldsNow → all.ended ≡ served.ended → all.replies ≡ length done + served.replies
    → serving.ServesLink Takes old new held w0 w2 (ahead ++ us) all HoldsNow
served_later Takes old mid new w0 w1 w2 held ahead us done HoldsNow served all joins are same wrote first is ends adds =
    let c = is.became in
    let next : next_reply (held_after held done) c ≡ next_reply held (after done c) = ap (λ (h : Held). replies_in h c.begun ++ c.closing) (sym (held_more held done c.replied)) in
    let taken : done ++ taken_of c ≡ taken_of (after done c) = sym (append_assoc done c.replied c.begun) in
    let disk : Takes old new held (taken_of (after done c)) =
    subst (λ l. Takes old new held l) taken (joins (taken_of c) first is.disk) in record {
      became = after done c;
      of_turns = record {
        are = subst (λ l. AllZip IsOf (take (length l) (ahead ++ us)) l) taken (zip_more ahead us done (taken_of c) are is.of_turns.are);
        one = is.of_turns.one;
        closes = closes_later ahead us done c.replied c.closing same is.of_turns.closes;
        apart = is.of_turns.apart;
        part = subst (λ l. IsFront c.front (bytes_of l)) next is.of_turns.part;
      };
      written = subst (λ bytes. Appends w0 w2 bytes)
          (sym (append_assoc (bytes_of (replies_in held done)) (bytes_of (replies_in (held_after held done) c.replied)) c.front) ∙ ap (λ bytes. bytes ++ c.front) (sym (bytes_more held done c.replied)))
          (Appends-trans w0 w1 w2 (bytes_of (replies_in held done)) (written_by (held_after held done) c) wrote is.written);
      holds = subst HoldsNow (sym (held_more held done (taken_of c)) ∙ ap (λ l. held_after held l) taken) is.holds;
      disk = disk;
      finished = λ end. let whole = is.finished (sym ends ∙ end) in (
        record {
          none_begun = whole.0.none_begun;
          written = whole.0.written;
          all = λ closed. ap (λ (l : List Turn). list_any is_owed l) (turns_after ahead us done c.replied are) ∙ whole.0.all closed;
        },
        omega (arith, adds, whole.1, length-append done c.replied),
      );
      unfinished = λ no. omega (arith, adds, is.unfinished (λ end. no (ends ∙ end)), length-append done c.replied);
      cut_off = λ no. let cut = is.cut_off (λ end. no (ends ∙ end)) in record {
        left = omega (arith, length-append done c.replied, length-append ahead us, same, cut.left);
        short = subst (λ l. (l ≡ []) ⊎ (length c.front < length (bytes_of l))) next cut.short;
      };
      unwritten = λ memory. let none = is.unwritten (sym ends ∙ memory) in record {
        owed = λ empty. none.owed (next ∙ empty);
        nothing = none.nothing;
      };
    }
