-- What is held after an answer begins with the journal that was held.
use Rattle.std.proofs.Common.{◌≡◌, true, false, is_ok, refl, List, ℕ, Result, Ok, Err, [], ◌∷◌, None}
use Rattle.act_json.specs.Lines.{item_of}
use Rattle.act_json.specs.declared.lines.LineFault.{LineFault}
use Rattle.act_model.specs.declared.items.Item.{Item}
use Rattle.intake.specs.Grown.{IsFront}
use Rattle.intake.specs.Requests.{Held, OnDisk}
use Rattle.intake.proofs.Durable.{front_refl}
use Rattle.intake.proofs.Replies.{grows}
use Rattle.intake_requests.specs.declared.requests.Request.TheVariants.{Receive}
use Rattle.intake_requests.specs.declared.requests.SenderReference.{SenderReference}
use Rattle.registry_http.specs.declared.routes.Route.{Route}
use Rattle.registry_http.specs.declared.routes.Route.TheVariants as route
use Rattle.settled_book.specs.Texts.{reads_register}
use Rattle.connections.specs.Answering.{may_call_disk, posts_item, reads_text}
use Rattle.connections.specs.Answers.{answer, body_answer, item_answer, only, read_reply}
use Rattle.connections.specs.Asking.{Asked, AskedFor, NoRoute, WrongMethod}

pub item_grows : (held : Held) (from : SenderReference) (item : Item) → IsFront held.journal (item_answer held from item).held.journal
item_grows held from item = grows OnDisk held (Receive None from item ∷ [])

pub body_grows : (held : Held) (read : Result (ℕ × ℕ × Item) LineFault) → IsFront held.journal (body_answer held read).held.journal
body_grows held (Ok found) = item_grows held (record { sender = found.0; reference = found.1 }) found.2
body_grows held (Err fault) = front_refl held.journal

pub answer_grows : (held : Held) (body : List ℕ) (asked : Asked) → IsFront held.journal (answer held body asked).held.journal
answer_grows held body (AskedFor route.Post) = body_grows held (item_of body)
answer_grows held body (AskedFor other) = front_refl held.journal
answer_grows held body NoRoute = front_refl held.journal
answer_grows held body WrongMethod = front_refl held.journal

-- every route but that which receives reads a text
pub answer_reads : (held : Held) (body : List ℕ) (asked : Route) → (asked ≡ route.Post → ⊥) → answer held body (AskedFor asked) ≡ only held (read_reply held.journal asked)
answer_reads held body route.Post other = absurd (other refl)
answer_reads held body (route.Receipt n) other = refl
answer_reads held body (route.Folio f) other = refl
answer_reads held body (route.Ranks f) other = refl
answer_reads held body (route.Plan n) other = refl
answer_reads held body (route.PlanCsv n) other = refl
answer_reads held body route.Report other = refl

pub reading_calls : (body : List ℕ) (asked : Route) → (asked ≡ route.Post → ⊥) → may_call_disk (AskedFor asked) body ≡ true
reading_calls body route.Post other = absurd (other refl)
reading_calls body (route.Receipt n) other = refl
reading_calls body (route.Folio f) other = refl
reading_calls body (route.Ranks f) other = refl
reading_calls body (route.Plan n) other = refl
reading_calls body (route.PlanCsv n) other = refl
reading_calls body route.Report other = refl

pub reading_posts_none : (body : List ℕ) (asked : Route) → (asked ≡ route.Post → ⊥) → posts_item (AskedFor asked) body ≡ false
reading_posts_none body route.Post other = absurd (other refl)
reading_posts_none body (route.Receipt n) other = refl
reading_posts_none body (route.Folio f) other = refl
reading_posts_none body (route.Ranks f) other = refl
reading_posts_none body (route.Plan n) other = refl
reading_posts_none body (route.PlanCsv n) other = refl
reading_posts_none body route.Report other = refl

pub other_reads : (asked : Route) → (asked ≡ route.Post → ⊥) → reads_register asked ≡ true
other_reads route.Post other = absurd (other refl)
other_reads (route.Receipt n) other = refl
other_reads (route.Folio f) other = refl
other_reads (route.Ranks f) other = refl
other_reads (route.Plan n) other = refl
other_reads (route.PlanCsv n) other = refl
other_reads route.Report other = refl

-- the disk may be called for each text
pub text_calls : (asked : Asked) (body : List ℕ) → reads_text asked ≡ true → may_call_disk asked body ≡ true
text_calls (AskedFor route.Post) body reads = absurd cc
text_calls (AskedFor other) body reads = refl
text_calls NoRoute body reads = absurd cc
text_calls WrongMethod body reads = absurd cc

-- so it may for an item that is posted
pub posting_calls : (asked : Asked) (body : List ℕ) → posts_item asked body ≡ true → may_call_disk asked body ≡ true
posting_calls (AskedFor route.Post) body posts = posts
posting_calls (AskedFor other) body posts = absurd cc
posting_calls NoRoute body posts = absurd cc
posting_calls WrongMethod body posts = absurd cc

-- where the disk is not called, what is held stays
body_held : (held : Held) (read : Result (ℕ × ℕ × Item) LineFault) → is_ok read ≡ false → (body_answer held read).held ≡ held
body_held held (Ok found) none = absurd cc
body_held held (Err fault) none = refl

pub uncalled_held : (held : Held) (body : List ℕ) (asked : Asked) → may_call_disk asked body ≡ false → (answer held body asked).held ≡ held
uncalled_held held body (AskedFor route.Post) none = body_held held (item_of body) none
uncalled_held held body (AskedFor other) none = refl
uncalled_held held body NoRoute none = refl
uncalled_held held body WrongMethod none = refl
