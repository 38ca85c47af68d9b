-- Turns that are taken one list after another: their replies, what is held, and what is told.
use Rattle.std.proofs.Common.{◌≡◌, ℕ, List, [], ◌∷◌, ◌++◌, drop, length, map, take, refl, sym, ◌∙◌, ap, subst, arith, append_assoc}
use Rattle.std.proofs.lemmas.Grind.{flat_map-append}
use Rattle.std.specs.List.{AllZip}
use Rattle.act_model.specs.declared.receipts.Receipt.{Receipt}
use Rattle.intake.specs.Grown.{GrownFrom}
use Rattle.intake.specs.Requests.{Held}
use Rattle.registry_http.specs.RequestParts.{RequestParts}
use Rattle.registry_http.specs.Replies.{reply_bytes}
use Rattle.connections.specs.Answering.{AllBegin}
use Rattle.connections.specs.Answers.{answer}
use Rattle.connections.specs.Asking.{Asked}
use Rattle.connections.specs.Fates.{Fate}
use Rattle.connections.specs.Replies.{ReplyParts, bytes_of}
use Rattle.connections.specs.Served.{IsLeftIn, unfailed}
use Rattle.connections.specs.Serving.{AllMayLack, AllTold}
use Rattle.connections.specs.Turns.{Turn, Taken, Answering, IsOf, answer_in, held_after, replies_in}

pub held_more : (held : Held) (xs ys : List Taken) → held_after held (xs ++ ys) ≡ held_after (held_after held xs) ys
held_more held [] ys = refl
held_more held (x ∷ xs) ys = held_more (answer_in held x).held xs ys

pub replies_more : (held : Held) (xs ys : List Taken) → replies_in held (xs ++ ys) ≡ replies_in held xs ++ replies_in (held_after held xs) ys
replies_more held [] ys = refl
replies_more held (x ∷ xs) ys = ap (λ l. (answer_in held x).reply ∷ l) (replies_more (answer_in held x).held xs ys)

pub bytes_more : (held : Held) (xs ys : List Taken) → bytes_of (replies_in held (xs ++ ys)) ≡ bytes_of (replies_in held xs) ++ bytes_of (replies_in (held_after held xs) ys)
bytes_more held xs ys = ap bytes_of (replies_more held xs ys) ∙ flat_map-append (λ (r : ReplyParts). reply_bytes r.status r.body) (replies_in held xs) (replies_in (held_after held xs) ys)

-- ---- what is told

pub told_still : (old new : List ℕ → Type 0) (held : Held) (xs : List Taken) → ((front : List Receipt) → AllBegin front old → AllBegin front new) → AllTold old held xs → AllTold new held xs
told_still old new held [] kept told = tt
told_still old new held (x ∷ xs) kept told = (λ from_disk. kept (answer_in held x).held.journal (told.0 from_disk), told_still old new (answer_in held x).held xs kept told.1)

pub told_more : (images : List ℕ → Type 0) (held : Held) (xs ys : List Taken) → AllTold images held xs → AllTold images (held_after held xs) ys → AllTold images held (xs ++ ys)
told_more images held [] ys first second = second
told_more images held (x ∷ xs) ys first second = (first.0, told_more images (answer_in held x).held xs ys first.1 second)

-- ---- where memory may run out

pub lack_more : (held : Held) (xs ys : List Taken) → AllMayLack held xs → AllMayLack (held_after held xs) ys → AllMayLack held (xs ++ ys)
lack_more held [] ys first second = second
lack_more held (x ∷ xs) ys first second = (first.0, lack_more (answer_in held x).held xs ys first.1 second)

-- ---- what a stop leaves

pub left_first : (held : Held) (xs ys : List Taken) (file : List ℕ) → IsLeftIn held xs file → IsLeftIn held (xs ++ ys) file
left_first held xs ys file is = record {
  done = is.done;
  next = is.next;
  rest = is.rest ++ ys;
  all = ap (λ l. l ++ ys) is.all ∙ append_assoc is.done (is.next ++ is.rest) ys ∙ ap (λ l. is.done ++ l) (append_assoc is.next is.rest ys);
  one = is.one;
  left = is.left;
}

pub left_later : (held : Held) (xs ys : List Taken) (file : List ℕ) → IsLeftIn (held_after held xs) ys file → IsLeftIn held (xs ++ ys) file
left_later held xs ys file is = record {
  done = xs ++ is.done;
  next = is.next;
  rest = is.rest;
  all = ap (λ l. xs ++ l) is.all ∙ sym (append_assoc xs is.done (is.next ++ is.rest));
  one = is.one;
  left = subst (λ (h : Held). GrownFrom h.journal (held_after held ((xs ++ is.done) ++ map unfailed is.next)).journal file) (sym (held_more held xs is.done))
      (subst (λ (h : Held). GrownFrom (held_after (held_after held xs) is.done).journal h.journal file)
      (sym (ap (λ l. held_after held l) (append_assoc xs is.done (map unfailed is.next)) ∙ held_more held xs (is.done ++ map unfailed is.next))) is.left);
}

pub left_one : (held : Held) (request : RequestParts) (asked : Asked) (fate : Fate) (file : List ℕ) → GrownFrom held.journal (answer held request.body asked).held.journal file
    → IsLeftIn held (Answering request asked fate ∷ []) file
left_one held request asked fate file grown = record {
  done = [];
  next = Answering request asked fate ∷ [];
  rest = [];
  all = refl;
  one = omega arith;
  left = grown;
}

-- ---- which turns they are

pub zip_push : (ahead : List Turn) (done : List Taken) (u : Turn) (t : Taken) → AllZip IsOf ahead done → IsOf u t → AllZip IsOf (ahead ++ u ∷ []) (done ++ t ∷ [])
zip_push [] [] u t all is = (is, tt)
zip_push [] (d ∷ done) u t all is = absurd all
zip_push (a ∷ ahead) [] u t all is = absurd all
zip_push (a ∷ ahead) (d ∷ done) u t all is = (all.0, zip_push ahead done u t all.1 is)

pub zip_more : (ahead us : List Turn) (done xs : List Taken) → AllZip IsOf ahead done → AllZip IsOf (take (length xs) us) xs → AllZip IsOf (take (length (done ++ xs)) (ahead ++ us)) (done ++ xs)
zip_more [] us [] xs all more = more
zip_more [] us (d ∷ done) xs all more = absurd all
zip_more (a ∷ ahead) us [] xs all more = absurd all
zip_more (a ∷ ahead) us (d ∷ done) xs all more = (all.0, zip_more ahead us done xs all.1 more)

-- the turns after those that were taken first
pub turns_after : (ahead us : List Turn) (done xs : List Taken) → AllZip IsOf ahead done → drop (length (done ++ xs)) (ahead ++ us) ≡ drop (length xs) us
turns_after [] us [] xs all = refl
turns_after [] us (d ∷ done) xs all = absurd all
turns_after (a ∷ ahead) us [] xs all = absurd all
turns_after (a ∷ ahead) us (d ∷ done) xs all = turns_after ahead us done xs all.1
