-- Frames that were told as one, in a run and where a link ends.
use Rattle.std.proofs.Common.{◌≡◌, ℕ, suc, ◌+◌, ◌<◌, ◌⊎◌, inl, inr, List, [], ◌∷◌, ◌++◌, length, drop, get_or, slice_get, ◌≤◌, refl, sym, ap, subst, ◌∙◌, append-nil, append_assoc, arith, Option, Some, rules}
use Rattle.std.proofs.lemmas.List.{map-append}
use lib.Seq.{get_or-append_seam, drop-append_seam}
use Rattle.std.specs.Io.KnownBytes.{Appends}
use Rattle.extent_heap.specs.Room.{Room}
use Rattle.placing.specs.Place.{HasRoomFor}
use Rattle.model.specs.declared.record.Record.{Record}
use Rattle.frames.specs.declared.ack.Ack.{Ack}
use Rattle.frames.specs.declared.frame.Frame.{Frame}
use Rattle.frames.specs.Copy.{IsCopy}
use Rattle.frames.specs.Joining.{IsJoined, JoinsOn}
use Rattle.model.specs.Group.{Contents}
use Rattle.mv_keyspace.specs.Table.{Table}
use Rattle.standby.specs.declared.standby.Standby.{Standby}
use Rattle.standby.specs.Taking.{IsDue}
use Rattle.stream_codec.specs.declared.message.Message.{Message}
use Rattle.stream_codec.specs.declared.message.Message.TheVariants.{Group}
use Rattle.stream_codec.specs.Message.{Sent, sent_of, sent_of_frame}
use Rattle.stream_codec.specs.Scanning.{sent_of_all}
use Rattle.links.specs.declared.joining.Joined.{Joined}
use Rattle.links.specs.Joining.{AreBegun, AreJoinedAs, AreTold, JoinsFirst, alone, longer}
use Rattle.links.proofs.Says.{IsLeft-refl}
use Rattle.links.specs.Serving.{Held, HasRun, IsLeft, Leaves, Run, Says, acks_text, as_one, left_as_one, held, none}

-- ---- which frames are joined

-- a copy says the same
pub same_sent : (frame copy : Frame) → IsCopy frame copy → sent_of_frame copy ≡ sent_of_frame frame
same_sent frame copy is = cc (is.epoch, is.before, is.after, is.changes)

-- the first message alone
pub begun-alone : (messages : List Message) (first whole : Frame) (joined : Joined) → (later : List Message) → messages ≡ Group first ∷ later → IsCopy first whole → joined ≡ record { whole = whole; count = 1 }
    → AreBegun messages joined
begun-alone messages first whole joined later are copy is = record {
  frames = Group first ∷ [];
  later = later;
  are = are;
  count_is = ap (λ (j : Joined). j.count) is;
  joined_are = subst (λ (frame : Frame). AreJoinedAs (sent_of_frame first ∷ []) frame) (sym (ap (λ (j : Joined). j.whole) is))
      (subst (λ (sent : Sent). AreJoinedAs (sent ∷ []) whole) (same_sent first whole copy) (alone whole));
}

pub begun-first : (messages : List Message) (message : Message) (first whole : Frame) → Some message ≡ slice_get messages 0 → message ≡ Group first → IsCopy first whole
    → AreBegun messages (record { whole = whole; count = 1 })
begun-first [] message first whole at is copy = absurd cc
begun-first (m ∷ later) message first whole at is copy =
    let one : m ≡ Group first = cc in
    begun-alone (m ∷ later) first whole (record { whole = whole; count = 1 }) later (ap (λ (x : Message). x ∷ later) one) copy refl

-- what follows, by a copy of the next frame
pub joined-by_copy : (first next copy whole : Frame) → IsCopy next copy → IsJoined first copy whole → IsJoined first next whole
joined-by_copy first next copy whole same is = record {
  epoch = is.epoch;
  before = is.before;
  after = is.after ∙ same.after;
  changes = is.changes ∙ ap (λ changes. first.changes.items ++ changes) same.changes;
}

begun-longer_at : (messages frames later : List Message) (message : Message) (next : Frame) (before after : Joined) → messages ≡ frames ++ later → before.count ≡ length frames
    → AreJoinedAs (sent_of_all frames) before.whole → before.count < length messages → message ≡ get_or messages before.count message → message ≡ Group next
    → JoinsOn before.whole next → IsJoined before.whole next after.whole → after.count ≡ before.count + 1 → AreBegun messages after
begun-longer_at messages frames [] message next before after are count_is joined_are within at is on joins more =
    let same : length messages ≡ length frames = ap length (are ∙ append-nil frames) in
    absurd (omega (arith, same, count_is, within))
begun-longer_at messages frames (m ∷ later) message next before after are count_is joined_are within at is on joins more =
    let found : message ≡ m = at ∙ ap (λ (ms : List Message). get_or ms before.count message) are ∙ ap (λ (n : ℕ). get_or (frames ++ m ∷ later) n message) count_is
    ∙ get_or-append_seam frames m later message in
    let sent : sent_of_all (frames ++ m ∷ []) ≡ sent_of_all frames ++ sent_of_frame next ∷ [] =
    map-append sent_of frames (m ∷ []) ∙ ap (λ (x : Message). sent_of_all frames ++ sent_of x ∷ []) (sym found ∙ is) in
    record {
      frames = frames ++ m ∷ [];
      later = later;
      are = are ∙ sym (append_assoc frames (m ∷ []) later);
      count_is = more ∙ ap (λ (n : ℕ). n + 1) count_is ∙ sym (length-more frames m);
      joined_are = subst (λ (ms : List Sent). AreJoinedAs ms after.whole) (sym sent) (longer (sent_of_all frames) before.whole next after.whole joined_are on joins);
    }
  where
    length-more : (xs : List Message) (x : Message) → length (xs ++ x ∷ []) ≡ length xs + 1
    length-more [] x = refl
    length-more (y ∷ xs) x = omega (arith, length-more xs x)

-- one frame more
pub begun-longer : (messages : List Message) (message : Message) (next : Frame) (before after : Joined) → AreBegun messages before → before.count < length messages
    → message ≡ get_or messages before.count message → message ≡ Group next → JoinsOn before.whole next → IsJoined before.whole next after.whole → after.count ≡ before.count + 1
    → AreBegun messages after
begun-longer messages message next before after begun within at is on joins more =
    begun-longer_at messages begun.frames begun.later message next before after begun.are begun.count_is begun.joined_are within at is on joins more

-- no more are joined than came
pub begun-few : (messages : List Message) (joined : Joined) → AreBegun messages joined → joined.count ≤ length messages
begun-few messages joined begun =
    let long : length messages ≡ length begun.frames + length begun.later = ap length begun.are ∙ length-both begun.frames begun.later in
    omega (arith, long, begun.count_is)
  where
    length-both : (xs ys : List Message) → length (xs ++ ys) ≡ length xs + length ys
    length-both [] ys = omega arith
    length-both (x ∷ xs) ys = omega (arith, length-both xs ys)

-- what is told of them
pub told-joined : (current : Record) (room : Room) (messages told : List Message) (joined : Joined) → AreBegun messages joined → IsDue current joined.whole
    → HasRoomFor room joined.whole.changes.items → told ≡ Group joined.whole ∷ drop joined.count messages → AreTold current room (sent_of_all messages) (sent_of_all told)
told-joined current room messages told joined begun due fits is =
    let rest : drop joined.count messages ≡ begun.later =
    ap (λ (n : ℕ). drop n messages) begun.count_is ∙ ap (λ (ms : List Message). drop (length begun.frames) ms) begun.are ∙ drop-append_seam begun.frames begun.later in
    inr (record {
      frames = sent_of_all begun.frames;
      later = sent_of_all begun.later;
      whole = joined.whole;
      are = ap sent_of_all begun.are ∙ map-append sent_of begun.frames begun.later;
      told_are = ap sent_of_all (is ∙ ap (λ (ms : List Message). Group joined.whole ∷ ms) rest);
      joined = begun.joined_are;
      due = due;
      fits = fits;
    })

-- ---- what was answered of them

Run-joined : (frames : List Sent) (whole : Frame) (first last : Held) (later : List Sent) (acks : List Ack) → AreJoinedAs frames whole
    → Run first (sent_of_frame whole ∷ later) acks last → Run first (frames ++ later) acks last
Run-joined _ _ first last later acks (alone frame) run = run
Run-joined _ _ first last later acks (longer messages one next whole before on is) run =
    subst (λ (ms : List Sent). Run first ms acks last) (sym (append_assoc messages (sent_of_frame next ∷ []) later))
    (Run-joined messages one first last (sent_of_frame next ∷ later) acks before (as_one first last [] later acks one next whole on is run))

Leaves-joined : (frames : List Sent) (whole : Frame) (node last : Held) (later : List Sent) (part : List ℕ) → AreJoinedAs frames whole
    → Leaves node (sent_of_frame whole ∷ later) part last → Leaves node (frames ++ later) part last
Leaves-joined _ _ node last later part (alone frame) left = left
Leaves-joined _ _ node last later part (longer messages one next whole before on is) left =
    subst (λ (ms : List Sent). Leaves node ms part last) (sym (append_assoc messages (sent_of_frame next ∷ []) later))
    (Leaves-joined messages one node last (sent_of_frame next ∷ later) part before (left_as_one node last later part one next whole on is left))

pub HasRun-told : (current : Record) (room : Room) (messages told : List Sent) (first last : Held) (before after : Option (List ℕ)) → AreTold current room messages told
    → HasRun first told before last after → HasRun first messages before last after
HasRun-told current room messages told first last before after (inl same) ran = subst (λ (ms : List Sent). HasRun first ms before last after) same ran
HasRun-told current room messages told first last before after (inr joins) ran = record {
  acks = ran.acks;
  run = subst (λ (ms : List Sent). Run first ms ran.acks last) (sym joins.are)
      (Run-joined joins.frames joins.whole first last joins.later ran.acks joins.joined (subst (λ (ms : List Sent). Run first ms ran.acks last) joins.told_are ran.run));
  written = ran.written;
}

says-joined : (frames : List Sent) (whole : Frame) (first middle last : Held) (later done others : List Sent) (acks : List Ack) (before after : Option (List ℕ)) (part : List ℕ)
    → AreJoinedAs frames whole → sent_of_frame whole ∷ later ≡ done ++ others → Run first done acks middle → Leaves middle others part last → Appends before after (acks_text acks ++ part)
    → Says first (frames ++ later) before last after part
says-joined frames whole first middle last later [] others acks before after part joined are run leaves written = record {
  done = [];
  others = frames ++ later;
  acks = acks;
  middle = middle;
  are = refl;
  run = run;
  leaves = Leaves-joined frames whole middle last later part joined (subst (λ (ms : List Sent). Leaves middle ms part last) (sym are) leaves);
  written = written;
}
says-joined frames whole first middle last later (message ∷ done) others acks before after part joined are run leaves written =
    let one : message ≡ sent_of_frame whole = cc in
    let rest : later ≡ done ++ others = cc in
    record {
      done = frames ++ done;
      others = others;
      acks = acks;
      middle = middle;
      are = ap (λ (ms : List Sent). frames ++ ms) rest ∙ sym (append_assoc frames done others);
      run = Run-joined frames whole first middle done acks joined (subst (λ (sent : Sent). Run first (sent ∷ done) acks middle) one run);
      leaves = leaves;
      written = written;
    }

pub says-told : (current : Record) (room : Room) (messages told : List Sent) (first last : Held) (before after : Option (List ℕ)) (part : List ℕ) → AreTold current room messages told
    → Says first told before last after part → Says first messages before last after part
says-told current room messages told first last before after part (inl same) says = subst (λ (ms : List Sent). Says first ms before last after part) same says
says-told current room messages told first last before after part (inr joins) says =
    subst (λ (ms : List Sent). Says first ms before last after part) (sym joins.are)
    (says-joined joins.frames joins.whole first says.middle last joins.later says.done says.others says.acks before after part joins.joined (sym joins.told_are ∙ says.are) says.run says.leaves says.written)

-- ---- the same from a node that is as it was

pub ran-from : {E K D : Type 0} (contents : E → Contents) (table : K → Table) (old now : Standby E K D) (messages : List Message) (told : List Message) (came : List Sent) (last : Held)
    (before after : Option (List ℕ)) → now ≡ old → AreTold (contents old.engine).current old.heap (sent_of_all messages) (sent_of_all told) → sent_of_all messages ≡ came
    → HasRun (held (contents now.engine) (table now.keyspace)) (sent_of_all told) before last after → HasRun (held (contents old.engine) (table old.keyspace)) came before last after
ran-from contents table old now messages told came last before after same are given ran =
    subst (λ (ms : List Sent). HasRun (held (contents old.engine) (table old.keyspace)) ms before last after) given
    (HasRun-told (contents old.engine).current old.heap (sent_of_all messages) (sent_of_all told) _ last before after are
    (subst (λ (node : Standby _ _ _). HasRun (held (contents node.engine) (table node.keyspace)) (sent_of_all told) before last after) same ran))

pub says-from : {E K D : Type 0} (contents : E → Contents) (table : K → Table) (old now : Standby E K D) (messages : List Message) (told : List Message) (came : List Sent) (last : Held)
    (before after : Option (List ℕ)) (part : List ℕ) → now ≡ old → AreTold (contents old.engine).current old.heap (sent_of_all messages) (sent_of_all told) → sent_of_all messages ≡ came
    → Says (held (contents now.engine) (table now.keyspace)) (sent_of_all told) before last after part → Says (held (contents old.engine) (table old.keyspace)) came before last after part
says-from contents table old now messages told came last before after part same are given says =
    subst (λ (ms : List Sent). Says (held (contents old.engine) (table old.keyspace)) ms before last after part) given
    (says-told (contents old.engine).current old.heap (sent_of_all messages) (sent_of_all told) _ last before after part are
    (subst (λ (node : Standby _ _ _). Says (held (contents node.engine) (table node.keyspace)) (sent_of_all told) before last after part) same says))

-- nothing came of it
pub IsLeft-same : {E K D : Type 0} (contents : E → Contents) (table : K → Table) (old now : Standby E K D) → now ≡ old
    → IsLeft (held (contents old.engine) (table old.keyspace)) (held (contents now.engine) (table now.keyspace))
IsLeft-same contents table old now same =
    subst (λ (node : Standby _ _ _). IsLeft (held (contents old.engine) (table old.keyspace)) (held (contents node.engine) (table node.keyspace))) (sym same) (IsLeft-refl _)
