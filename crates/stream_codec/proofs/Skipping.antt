-- Changes that are skipped, and frames that are looked at in steps.
use Rattle.std.proofs.Common.{◌≡◌, ℕ, zero, suc, ◌+◌, ◌-◌, ◌<◌, ◌≤◌, true, false, List, [], ◌∷◌, ◌++◌, length, take, drop, map, Option, None, Some, Ok, Err, refl, sym, ap, subst, ◌∙◌, arith}
use Rattle.std.proofs.lemmas.Bool.Decides.{nat_tests}
use Rattle.std.proofs.lemmas.List.{take-append-drop, drop-append-le, drop_at, append_assoc, append-nil, length-append}
use Rattle.kv_types.specs.declared.change.Change.{Change}
use Rattle.kv_types.specs.Change.{change_text}
use Rattle.kv_types.proofs.ChangeTextLemmas.{change_text_nonempty}
use Rattle.kv_types.specs.declared.stop.Stop.{Stop}
use Rattle.kv_types.specs.declared.stop.Stop.TheVariants.{Short, Broken}
use Rattle.kv_types.specs.Reader.{◌>>=◌, skipped}
use Rattle.kv_types.proofs.ReaderLemmas.{bind_ok, ok_parts}
use Rattle.stream_codec.specs.declared.change.Body.{Body}
use Rattle.stream_codec.specs.declared.change.Body.TheVariants as bodies
use Rattle.stream_codec.specs.declared.head.Head.TheVariants as head
use Rattle.frames.specs.declared.ack.Ack.{Ack}
use Rattle.stream_codec.specs.Message.{Sent, Changes, Acknowledged, WantsCopy, CopiesPart, EndsCopy, IsChange, IsPut, put_of, put_in, sent_of}
use Rattle.stream_codec.specs.Bytes.{Outcome, IsBytes}
use Rattle.stream_codec.specs.Reading.{change_at, changes_at, head_at, body_at, message_at}
use Rattle.std.specs.Prelude.{option_map}
use Rattle.std.specs.Option.{IsSome}
use Rattle.stream_codec.specs.declared.message.Message.{Message}
use Rattle.stream_codec.specs.declared.scan.Progress.{Progress}
use Rattle.stream_codec.specs.declared.step.Next.{Next}
use Rattle.stream_codec.specs.declared.step.Next.TheVariants as next
use Rattle.stream_codec.specs.Stepping.{is_more, end_from}
use Rattle.stream_codec.specs.Scanning.{with_front, IsEnd, Waits, EndsAlike, IsAt, IsTaken, sent_of_all}
use Rattle.stream_codec.specs.Stream.{with_first, stream_at}
use Rattle.stream_codec.proofs.Readers.{grows}
use Rattle.stream_codec.proofs.Numbers.{IsBytes-append}
use Rattle.stream_codec.proofs.Streams.{behind, stream_at-read, stream_at-short}
use Rattle.stream_codec.proofs.Bodies.{changes_at-step, changes_at-stop, changes_at-none}
use Rattle.kv_types.specs.declared.change.Change.TheVariants.{Put, Drop, DropKey, Clear}
use Rattle.kv_types.specs.declared.record_id.RecordId.{RecordId}
use Rattle.stream_codec.proofs.Changes.{IsChangeWithin, change_reads, change_fits}

-- ---- what is skipped

pub skipped_map : {A B : Type 0} (r : Outcome A) (f : A → B) → skipped (r >>= λ x. Ok (f x.0, x.1)) ≡ skipped r
skipped_map (Ok x) f = refl
skipped_map (Err stop) f = refl

pub skipped_err : {A : Type 0} (r : Outcome A) (stop : Stop Unit) → skipped r ≡ Err stop → r ≡ Err stop
skipped_err (Ok x) stop e = absurd cc
skipped_err (Err other) stop e = cc

pub skipped_ok : {A : Type 0} (r : Outcome A) (rest : List ℕ) → skipped r ≡ Ok rest → (x : A) × (r ≡ Ok (x, rest))
skipped_ok (Ok x) rest e = let same : x.1 ≡ rest = cc in (x.0, ap (λ s. Ok (x.0, s)) same)
skipped_ok (Err stop) rest e = absurd cc

pub IsEnd-then : (a b c : List ℕ) → IsEnd a b → IsEnd b c → IsEnd a c
IsEnd-then a b c p q = (p.0 ++ q.0, p.1 ∙ ap (λ s. p.0 ++ s) q.1 ∙ sym (append_assoc p.0 q.0 c))

pub IsEnd-length : (a b : List ℕ) → IsEnd a b → length b ≤ length a
IsEnd-length a b p = omega (arith, ap length p.1, length-append p.0 b)

pub IsEnd-drop : (a b : List ℕ) → IsEnd a b → drop (length a - length b) a ≡ b
IsEnd-drop a b p =
    let n : length a - length b ≡ length p.0 = omega (arith, ap length p.1, length-append p.0 b) in
    ap (λ k. drop k a) n ∙ ap (drop (length p.0)) p.1 ∙ drop_at p.0 b (length p.0) refl

-- ---- one change after the other

-- how many bytes the change at the front has
pub taken_size : (b : Body) (left : ℕ) (rest : List ℕ) (c : Change) (after : List ℕ) → change_at b left rest ≡ Ok (c, after) → (length rest - length after ≡ length (change_text c)) × (length (change_text c) ≤ left) × (0 < length (change_text c)) × IsChange c × IsEnd rest after
taken_size b left rest c after e =
    let t = (change_reads b left (change_fits b left rest c after e)).takes rest c after e in
    let n = ap length t.2 ∙ length-append t.0 after in
    let k = ap length t.1.text_is in
    (omega (arith, n, k), t.1.fits, change_text_nonempty c, t.1.within, (t.0, t.2))

pub passed_size : (b : Body) (left : ℕ) (rest : List ℕ) (c : Change) (after : List ℕ) → 0 < left → change_at b left rest ≡ Ok (c, after) → (more : List ℕ) → skipped (changes_at b left (rest ++ more)) ≡ skipped (changes_at b (left - (length rest - length after)) (after ++ more))
passed_size b left rest c after h e more =
    let size = (taken_size b left rest c after e).0 in
    let grown = grows (change_at b left) (IsChangeWithin b left) (change_reads b left (change_fits b left rest c after e)) rest more c after e in
    ap skipped (changes_at-step b left (rest ++ more) c (after ++ more) h grown)
    ∙ skipped_map (changes_at b (left - length (change_text c)) (after ++ more)) (λ others. c ∷ others)
    ∙ ap (λ n. skipped (changes_at b (left - n) (after ++ more))) (sym size)

-- of puts it is one
pub taken_put : (left : ℕ) (rest : List ℕ) (c : Change) (after : List ℕ) → change_at bodies.Puts left rest ≡ Ok (c, after) → IsPut c
taken_put left rest c after e = ((change_reads bodies.Puts left (change_fits bodies.Puts left rest c after e)).takes rest c after e).1.member

-- the changes read so far and those that are left
regrouped : (front : List Change) (c : Change) (r : Outcome (List Change)) → with_front front (r >>= λ others. Ok (c ∷ others.0, others.1)) ≡ with_front (front ++ c ∷ []) r
regrouped front c (Ok others) = ap (λ all. Ok (all, others.1)) (sym (append_assoc front (c ∷ []) others.0))
regrouped front c (Err stop) = refl

pub with_front_step : (b : Body) (front : List Change) (left : ℕ) (rest : List ℕ) (c : Change) (after : List ℕ) → 0 < left → change_at b left rest ≡ Ok (c, after) → with_front front (changes_at b left rest) ≡ with_front (front ++ c ∷ []) (changes_at b (left - (length rest - length after)) after)
with_front_step b front left rest c after h e =
    let size = (taken_size b left rest c after e).0 in
    ap (with_front front) (changes_at-step b left rest c after h e)
    ∙ regrouped front c (changes_at b (left - length (change_text c)) after)
    ∙ ap (λ n. with_front (front ++ c ∷ []) (changes_at b (left - n) after)) (sym size)

-- ---- puts that are copied

pub map_one_more : (puts : List (RecordId × List ℕ)) (put : RecordId × List ℕ) → map put_of (puts ++ put ∷ []) ≡ map put_of puts ++ put_of put ∷ []
map_one_more [] put = refl
map_one_more (first ∷ puts) put = ap (λ s. put_of first ∷ s) (map_one_more puts put)

-- what was copied is the put
pub is_copied : (put : RecordId × List ℕ) (c : Change) → IsPut c → option_map put_of (Some put) ≡ put_in c → put_of put ≡ c
is_copied put (Put id value) is e = cc
is_copied put (Drop id) is e = absurd is
is_copied put (DropKey key) is e = absurd is
is_copied put Clear is e = absurd is

pub not_copied : (c : Change) → IsPut c → option_map put_of None ≡ put_in c → ⊥
not_copied (Put id value) is e = absurd cc
not_copied (Drop id) is e = absurd is
not_copied (DropKey key) is e = absurd is
not_copied Clear is e = absurd is

-- ---- frames

pub ack_ends : (bytes : List ℕ) (ack : Ack) (rest : List ℕ) → head_at bytes ≡ Ok (head.Ack ack, rest) → message_at bytes ≡ Ok (Acknowledged ack.epoch ack.position, rest)
unfolding message_at
ack_ends bytes ack rest e = ap (λ r. r >>= λ h. body_at h.0 h.1) e

pub group_read : (bytes : List ℕ) (epoch before after size : ℕ) (rest : List ℕ) → head_at bytes ≡ Ok (head.Group epoch before after size, rest) → message_at bytes ≡ (changes_at bodies.Changes size rest >>= λ changes. Ok (Changes epoch before after changes.0, changes.1))
unfolding message_at
group_read bytes epoch before after size rest e = ap (λ r. r >>= λ h. body_at h.0 h.1) e

pub part_read : (bytes : List ℕ) (epoch position number size : ℕ) (rest : List ℕ) → head_at bytes ≡ Ok (head.Part epoch position number size, rest) → message_at bytes ≡ (changes_at bodies.Puts size rest >>= λ puts. Ok (CopiesPart epoch position number puts.0, puts.1))
unfolding message_at
part_read bytes epoch position number size rest e = ap (λ r. r >>= λ h. body_at h.0 h.1) e

pub wanted_ends : (bytes : List ℕ) (epoch : ℕ) (rest : List ℕ) → head_at bytes ≡ Ok (head.Wanted epoch, rest) → message_at bytes ≡ Ok (WantsCopy epoch, rest)
unfolding message_at
wanted_ends bytes epoch rest e = ap (λ r. r >>= λ h. body_at h.0 h.1) e

pub copy_ends : (bytes : List ℕ) (epoch position parts : ℕ) (rest : List ℕ) → head_at bytes ≡ Ok (head.End epoch position parts, rest) → message_at bytes ≡ Ok (EndsCopy epoch position parts, rest)
unfolding message_at
copy_ends bytes epoch position parts rest e = ap (λ r. r >>= λ h. body_at h.0 h.1) e

pub head_stops : (bytes : List ℕ) (stop : Stop Unit) → head_at bytes ≡ Err stop → message_at bytes ≡ Err stop
unfolding message_at
head_stops bytes stop e = ap (λ r. r >>= λ h. body_at h.0 h.1) e

-- ---- where a frame ends

-- with nothing more to come
pub EndsAlike-now : (a : Next) (x : List ℕ) (b : Next) (y : List ℕ) → EndsAlike a x b y → end_from a x ≡ end_from b y
EndsAlike-now a x b y p = ap (end_from a) (sym (append-nil x)) ∙ p [] ∙ ap (end_from b) (append-nil y)

pub stopped_after : (a : Next) (x : List ℕ) (b : Next) (y : List ℕ) (stop : Stop Unit) → EndsAlike a x b y → end_from b y ≡ Err stop → end_from a x ≡ Err stop
stopped_after a x b y stop p e = EndsAlike-now a x b y p ∙ e

ended : (next : Next) (bytes : List ℕ) → is_more next ≡ false → end_from next bytes ≡ Ok bytes
ended (next.Changes b zero) bytes e = ap skipped (changes_at-none b bytes)
ended (next.Changes b (suc left)) bytes e = let more : is_more (next.Changes b (suc left)) ≡ true = grind (arith, nat_tests) in absurd cc
ended (next.Numbers zero) bytes e = refl
ended (next.Numbers (suc left)) bytes e = let more : is_more (next.Numbers (suc left)) ≡ true = grind (arith, nat_tests) in absurd cc
ended _ bytes e = absurd cc

pub whole_after : (a : Next) (x : List ℕ) (b : Next) (y : List ℕ) → EndsAlike a x b y → is_more b ≡ false → end_from a x ≡ Ok y
whole_after a x b y p e = EndsAlike-now a x b y p ∙ ended b y e

-- what is at the front, from a place in it on
from_place : (bytes : List ℕ) (progress : Progress) → IsAt bytes progress → skipped (message_at bytes) ≡ end_from progress.next (drop progress.at bytes)
from_place bytes progress i = ap (λ s. skipped (message_at s)) (sym (append-nil bytes)) ∙ i.same [] ∙ ap (end_from progress.next) (append-nil (drop progress.at bytes))

-- the bytes from the place on
place_end : (bytes : List ℕ) (at : ℕ) (body : List ℕ) → body ≡ drop at bytes → IsEnd bytes body
place_end bytes at body is = (take at bytes, sym (take-append-drop at bytes) ∙ ap (λ s. take at bytes ++ s) (sym is))

pub look_whole : (bytes : List ℕ) (progress : Progress) (body rest : List ℕ) → IsAt bytes progress → body ≡ drop progress.at bytes → (end_from progress.next body ≡ Ok rest) × IsEnd body rest → (skipped (message_at bytes) ≡ Ok rest) × IsEnd bytes rest
look_whole bytes progress body rest i is h =
    (from_place bytes progress i ∙ ap (end_from progress.next) (sym is) ∙ h.0, IsEnd-then bytes body rest (place_end bytes progress.at body is) h.1)

pub look_begun : (bytes : List ℕ) (progress : Progress) (body : List ℕ) (next : Next) (rest : List ℕ) (wanted missing : ℕ) → IsAt bytes progress → body ≡ drop progress.at bytes → EndsAlike progress.next body next rest → IsEnd body rest → end_from next rest ≡ Err Short → Waits (end_from next) rest missing → wanted ≤ length bytes + missing → (message_at bytes ≡ Err Short) × IsAt bytes (record { at = length bytes - length rest; next = next; wanted = wanted })
look_begun bytes progress body next rest wanted missing i is alike end short waits fits =
    let last = IsEnd-then bytes body rest (place_end bytes progress.at body is) end in
    let same : (more : List ℕ) → skipped (message_at (bytes ++ more)) ≡ end_from next (rest ++ more) = λ more. i.same more ∙ ap (λ d. end_from progress.next (d ++ more)) (sym is) ∙ alike more in (
      skipped_err (message_at bytes) Short (from_place bytes progress i ∙ ap (end_from progress.next) (sym is) ∙ EndsAlike-now progress.next body next rest alike ∙ short),
      record {
        within = omega arith;
        same = λ more. same more ∙ ap (λ d. end_from next (d ++ more)) (sym (IsEnd-drop bytes rest last));
        waits = λ more are h. skipped_err (message_at (bytes ++ more)) Short (same more ∙ waits more are (omega (arith, h, fits)));
      },
    )

pub look_broken : (bytes : List ℕ) (progress : Progress) (body : List ℕ) → IsAt bytes progress → body ≡ drop progress.at bytes → end_from progress.next body ≡ Err (Broken tt) → message_at bytes ≡ Err (Broken tt)
look_broken bytes progress body i is e = skipped_err (message_at bytes) (Broken tt) (from_place bytes progress i ∙ ap (end_from progress.next) (sym is) ∙ e)

-- a place stays what it is when bytes come
still_at : (bytes piece : List ℕ) (progress : Progress) → IsAt bytes progress → IsBytes piece → IsAt (bytes ++ piece) progress
still_at bytes piece progress i are =
    record {
      within = omega (arith, i.within, length-append bytes piece);
      same = λ more.
          ap (λ s. skipped (message_at s)) (append_assoc bytes piece more) ∙ i.same (piece ++ more)
          ∙ ap (end_from progress.next) (sym (append_assoc (drop progress.at bytes) piece more))
          ∙ ap (λ d. end_from progress.next (d ++ more)) (sym (drop-append-le progress.at bytes piece i.within));
      waits = λ more more_are h.
          ap message_at (append_assoc bytes piece more)
          ∙ i.waits (piece ++ more) (IsBytes-append piece more are more_are) (omega (arith, h, length-append bytes piece, length-append piece more));
    }

pub kept_at : (all bytes piece : List ℕ) (progress : Progress) → all ≡ bytes ++ piece → IsAt bytes progress → IsBytes piece → IsAt all progress
kept_at all bytes piece progress is i are = subst (λ b. IsAt b progress) (sym is) (still_at bytes piece progress i are)

-- with fewer bytes than are wanted there is no frame, and no fault
pub still_taken : (bytes : List ℕ) (progress : Progress) (messages : List Message) → IsAt bytes progress → length bytes < progress.wanted → messages ≡ [] → IsTaken bytes messages false bytes progress
still_taken bytes progress messages i h none =
    let begun : message_at bytes ≡ Err Short = ap message_at (sym (append-nil bytes)) ∙ i.waits [] (λ k. omega arith) (omega (arith, h)) in
    record {
      stream = stream_at-short bytes begun ∙ ap (λ m. record { messages = sent_of_all m; unread = Some bytes }) (sym none);
      at = i;
    }

pub at_start : (bytes : List ℕ) → IsAt bytes (record { at = 0; next = next.Kind; wanted = 0 })
at_start bytes = record { within = omega arith; same = λ more. refl; waits = λ more are h. absurd (omega (arith, h)) }

-- ---- frames that are read

pub found_group : (bytes : List ℕ) (epoch before after size : ℕ) (rest : List ℕ) (items : List Change) → head_at bytes ≡ Ok (head.Group epoch before after size, rest) → ((changes : List Change) (r : List ℕ) → changes_at bodies.Changes size rest ≡ Ok (changes, r) → items ≡ changes) → (m : Sent) (r : List ℕ) → message_at bytes ≡ Ok (m, r) → Some (Changes epoch before after items) ≡ Some m
found_group bytes epoch before after size rest items e same m r f =
    let k = bind_ok (λ changes. Ok (Changes epoch before after changes.0, changes.1)) (changes_at bodies.Changes size rest) (m, r) (sym (group_read bytes epoch before after size rest e) ∙ f) in
    let is = ok_parts (Changes epoch before after k.0.0) m k.0.1 r k.2 in
    ap (λ cs. Some (Changes epoch before after cs)) (same k.0.0 k.0.1 k.1) ∙ ap Some is.0

pub found_part : (bytes : List ℕ) (epoch position number size : ℕ) (rest : List ℕ) (items : List Change) → head_at bytes ≡ Ok (head.Part epoch position number size, rest) → ((puts : List Change) (r : List ℕ) → changes_at bodies.Puts size rest ≡ Ok (puts, r) → items ≡ puts) → (m : Sent) (r : List ℕ) → message_at bytes ≡ Ok (m, r) → Some (CopiesPart epoch position number items) ≡ Some m
found_part bytes epoch position number size rest items e same m r f =
    let k = bind_ok (λ puts. Ok (CopiesPart epoch position number puts.0, puts.1)) (changes_at bodies.Puts size rest) (m, r) (sym (part_read bytes epoch position number size rest e) ∙ f) in
    let is = ok_parts (CopiesPart epoch position number k.0.0) m k.0.1 r k.2 in
    ap (λ ps. Some (CopiesPart epoch position number ps)) (same k.0.0 k.0.1 k.1) ∙ ap Some is.0

pub found_wanted : (bytes : List ℕ) (epoch : ℕ) (rest : List ℕ) → head_at bytes ≡ Ok (head.Wanted epoch, rest) → (m : Sent) (r : List ℕ) → message_at bytes ≡ Ok (m, r) → Some (WantsCopy epoch) ≡ Some m
found_wanted bytes epoch rest e m r f = ap Some (ok_parts (WantsCopy epoch) m rest r (sym (wanted_ends bytes epoch rest e) ∙ f)).0

pub found_end : (bytes : List ℕ) (epoch position parts : ℕ) (rest : List ℕ) → head_at bytes ≡ Ok (head.End epoch position parts, rest) → (m : Sent) (r : List ℕ) → message_at bytes ≡ Ok (m, r) → Some (EndsCopy epoch position parts) ≡ Some m
found_end bytes epoch position parts rest e m r f = ap Some (ok_parts (EndsCopy epoch position parts) m rest r (sym (copy_ends bytes epoch position parts rest e) ∙ f)).0

pub found_ack : (bytes : List ℕ) (ack : Ack) (rest : List ℕ) → head_at bytes ≡ Ok (head.Ack ack, rest) → (m : Sent) (r : List ℕ) → message_at bytes ≡ Ok (m, r) → Some (Acknowledged ack.epoch ack.position) ≡ Some m
found_ack bytes ack rest e m r f = ap Some (ok_parts (Acknowledged ack.epoch ack.position) m rest r (sym (ack_ends bytes ack rest e) ∙ f)).0

pub found_none : (bytes : List ℕ) (stop : Stop Unit) → head_at bytes ≡ Err stop → (m : Sent) (r : List ℕ) → message_at bytes ≡ Ok (m, r) → ⊥
found_none bytes stop e m r f = let bad = head_stops bytes stop e in absurd cc

-- ---- many frames

pub sent_of_all_more : (messages : List Message) (message : Message) → sent_of_all (messages ++ message ∷ []) ≡ sent_of_all messages ++ sent_of message ∷ []
sent_of_all_more [] message = refl
sent_of_all_more (first ∷ messages) message = ap (λ s. sent_of first ∷ s) (sent_of_all_more messages message)

-- one more frame was given
pub given_more : (bytes rest after : List ℕ) (messages more : List Message) (message : Message) (m : Sent) → stream_at bytes ≡ behind (sent_of_all messages) (stream_at rest) → message_at rest ≡ Ok (m, after) → sent_of message ≡ m → more ≡ messages ++ message ∷ [] → stream_at bytes ≡ behind (sent_of_all more) (stream_at after)
given_more bytes rest after messages more message m p e is pushed =
    p
    ∙ ap (behind (sent_of_all messages)) (stream_at-read rest m after e ∙ ap (λ x. with_first x (stream_at after)) (sym is))
    ∙ ap (λ l. record { messages = l; unread = (stream_at after).unread }) (sym (append_assoc (sent_of_all messages) (sent_of message ∷ []) (stream_at after).messages) ∙ ap (λ l. l ++ (stream_at after).messages) (sym (ap sent_of_all pushed ∙ sent_of_all_more messages message)))

pub given_all : (bytes rest : List ℕ) (messages : List Message) (unread : Option (List ℕ)) → stream_at bytes ≡ behind (sent_of_all messages) (stream_at rest) → stream_at rest ≡ record { messages = []; unread = unread } → stream_at bytes ≡ record { messages = sent_of_all messages; unread = unread }
given_all bytes rest messages unread p e = p ∙ ap (behind (sent_of_all messages)) e ∙ ap (λ l. record { messages = l; unread = unread }) (append-nil (sent_of_all messages))

pub some_is : (message : Message) (m : Sent) → option_map sent_of (Some message) ≡ Some m → sent_of message ≡ m
some_is message m e = cc

pub is_some_of : (found : Option Message) (m : Sent) → option_map sent_of found ≡ Some m → IsSome found
is_some_of None m e = absurd cc
is_some_of (Some message) m e = refl

-- ---- changes that are copied

pub all_read : (k : Body) (a : ℕ) (x : List ℕ) (b : ℕ) (y : List ℕ) (front : List Change) → changes_at k a x ≡ with_front front (changes_at k b y) → b ≤ 0 → (changes : List Change) (rest : List ℕ) → changes_at k a x ≡ Ok (changes, rest) → front ≡ changes
all_read k a x b y front p h changes rest e =
    let none : b ≡ 0 = omega (arith, h) in
    let is = p ∙ ap (λ n. with_front front (changes_at k n y)) none ∙ ap (with_front front) (changes_at-none k y) in
    sym (append-nil front) ∙ (ok_parts (front ++ []) changes y rest (sym is ∙ e)).0

pub cut_short : (k : Body) (a : ℕ) (x : List ℕ) (b : ℕ) (y : List ℕ) (front : List Change) (stop : Stop Unit) → changes_at k a x ≡ with_front front (changes_at k b y) → 0 < b → change_at k b y ≡ Err stop → (changes : List Change) (rest : List ℕ) → changes_at k a x ≡ Ok (changes, rest) → front ≡ changes
cut_short k a x b y front stop p h e changes rest f =
    let is = p ∙ ap (with_front front) (changes_at-stop k b y stop h e) in
    absurd cc
