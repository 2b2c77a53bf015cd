-- A reply by its depth, and the replies of an array, where some are still to be read.
use Rattle.std.proofs.Common.{◌≡◌, ℕ, zero, suc, ◌+◌, ◌-◌, ◌<◌, ◌≤◌, List, [], ◌∷◌, ◌++◌, Option, None, Some, Result, Ok, Err, refl, ap, sym, ◌∙◌, append_assoc, append-nil, option_map, arith}
use Rattle.kv_types.specs.declared.item.ProtocolFault.{ProtocolFault}
use Rattle.kv_types.specs.declared.reply.Reply.{Reply, Array}
use Rattle.kv_types.specs.declared.stop.Stop.{Stop}
use Rattle.kv_types.specs.declared.stop.Stop.TheVariants.{Short}
use Rattle.kv_types.specs.Reader.{Read, ◌>>=◌}
use Rattle.resp_codec.specs.declared.reply_limits.ReplyLimits.{ReplyLimits}
use Rattle.kv_types.specs.Reader.{skipped}
use Rattle.resp_codec.specs.GivesReplies.{most_at, element_at, read_in, behind, array_of}
use Rattle.resp_codec.specs.ReplyReading.{Head, Opens, head_at, elements_at, reply_from, reply_at}

-- the reply that begins with a head, at this depth
abbrev pub from_head : ReplyLimits → ℕ → Read Head → Result (Read Reply) (Stop ProtocolFault)
from_head limits depth head = reply_from (element_at limits depth) head.0 head.1

pub reply_at-by_depth : (limits : ReplyLimits) (depth : ℕ) (bytes : List ℕ) → reply_at limits depth bytes ≡ (head_at limits.bulk_bytes (most_at limits depth) bytes >>= from_head limits depth)
reply_at-by_depth limits zero bytes = refl
reply_at-by_depth limits (suc depth) bytes = refl

pub reply_at-head : (limits : ReplyLimits) (depth : ℕ) (bytes : List ℕ) (head : Head) (rest : List ℕ) → head_at limits.bulk_bytes (most_at limits depth) bytes ≡ Ok (head, rest) → reply_at limits depth bytes ≡ reply_from (element_at limits depth) head rest
reply_at-head limits depth bytes head rest e = reply_at-by_depth limits depth bytes ∙ ap (λ r. r >>= from_head limits depth) e

-- before a reply is read, one more reply is left than after it
one_more : (count i : ℕ) → i < count → count - i ≡ suc (count - (i + 1))
one_more count i h = omega arith

-- the depth of an array's replies, as the code finds it
abbrev pub IsInner : ℕ → ℕ → Type 0
IsInner depth inner = (1 ≤ depth) × (inner ≡ depth - 1)

element_at-inner : (limits : ReplyLimits) (depth inner : ℕ) (bytes : List ℕ) → IsInner depth inner → element_at limits depth bytes ≡ reply_at limits inner bytes
element_at-inner limits zero inner bytes h = absurd (omega (arith, h.0))
element_at-inner limits (suc depth) inner bytes h = let same : depth ≡ inner = omega (arith, h.1) in ap (λ d. reply_at limits d bytes) same

-- the elements, once one is read
elements-one : (element : List ℕ → Result (Read Reply) (Stop ProtocolFault)) (count i : ℕ) (bytes : List ℕ) (reply : Reply) (rest : List ℕ) → i < count → element bytes ≡ Ok (reply, rest) → elements_at element (count - i) bytes ≡ (elements_at element (count - (i + 1)) rest >>= λ others. Ok (reply ∷ others.0, others.1))
elements-one element count i bytes reply rest h e =
    ap (λ n. elements_at element n bytes) (one_more count i h)
    ∙ ap (λ r. r >>= λ first. elements_at element (count - (i + 1)) first.1 >>= λ others. Ok (first.0 ∷ others.0, others.1)) e

pub elements-stop : (element : List ℕ → Result (Read Reply) (Stop ProtocolFault)) (count i : ℕ) (bytes : List ℕ) (stop : Stop ProtocolFault) → i < count → element bytes ≡ Err stop → elements_at element (count - i) bytes ≡ Err stop
elements-stop element count i bytes stop h e =
    ap (λ n. elements_at element n bytes) (one_more count i h)
    ∙ ap (λ r. r >>= λ first. elements_at element (count - (i + 1)) first.1 >>= λ others. Ok (first.0 ∷ others.0, others.1)) e

-- ---- what follows

skipped-first : (reply : Reply) (read : Result (Read (List Reply)) (Stop ProtocolFault)) → skipped (read >>= λ others. Ok (reply ∷ others.0, others.1)) ≡ skipped read
skipped-first reply (Ok others) = refl
skipped-first reply (Err stop) = refl

pub skipped-array : (read : Result (Read (List Reply)) (Stop ProtocolFault)) → skipped (read >>= λ replies. Ok (Array replies.0, replies.1)) ≡ skipped read
skipped-array (Ok replies) = refl
skipped-array (Err stop) = refl

-- a result whose rest is known is a value with that rest
skipped-ok : (element : Result (Read Reply) (Stop ProtocolFault)) (rest : List ℕ) → skipped element ≡ Ok rest → (reply : Reply) × (element ≡ Ok (reply, rest))
skipped-ok (Ok read) rest e = let same : read.1 ≡ rest = cc in (read.0, ap (λ r. Ok (read.0, r)) same)
skipped-ok (Err stop) rest e = absurd (cc)

pub skipped-err : (element : Result (Read Reply) (Stop ProtocolFault)) (stop : Stop ProtocolFault) → skipped element ≡ Err stop → element ≡ Err stop
skipped-err (Ok read) stop e = absurd (cc)
skipped-err (Err other) stop e = let same : other ≡ stop = cc in ap Err same

pub skipped-element : (limits : ReplyLimits) (depth inner count i : ℕ) (bytes rest : List ℕ) → IsInner depth inner → i < count → skipped (reply_at limits inner bytes) ≡ Ok rest → skipped (elements_at (element_at limits depth) (count - i) bytes) ≡ skipped (elements_at (element_at limits depth) (count - (i + 1)) rest)
skipped-element limits depth inner count i bytes rest is h e =
    let read = skipped-ok (reply_at limits inner bytes) rest e in
    ap skipped (elements-one (element_at limits depth) count i bytes read.0 rest h (element_at-inner limits depth inner bytes is ∙ read.1))
    ∙ skipped-first read.0 (elements_at (element_at limits depth) (count - (i + 1)) rest)

pub stopped-element : (limits : ReplyLimits) (depth inner count i : ℕ) (bytes : List ℕ) (stop : Stop ProtocolFault) → IsInner depth inner → i < count → skipped (reply_at limits inner bytes) ≡ Err stop → elements_at (element_at limits depth) (count - i) bytes ≡ Err stop
stopped-element limits depth inner count i bytes stop is h e =
    elements-stop (element_at limits depth) count i bytes stop h (element_at-inner limits depth inner bytes is ∙ skipped-err (reply_at limits inner bytes) stop e)

-- at depth 0 there is no element
pub no-element : (limits : ReplyLimits) (depth count i : ℕ) (bytes : List ℕ) → ¬ (1 ≤ depth) → i < count → elements_at (element_at limits depth) (count - i) bytes ≡ Err Short
no-element limits zero count i bytes is h = elements-stop (element_at limits zero) count i bytes Short h refl
no-element limits (suc depth) count i bytes is h = absurd (is (omega arith))

-- ---- copies

pub array_of-read : (read : Result (Read (List Reply)) (Stop ProtocolFault)) → array_of (behind [] (read_in read)) ≡ read_in (read >>= λ replies. Ok (Array replies.0, replies.1))
array_of-read (Ok replies) = refl
array_of-read (Err stop) = refl

behind-first : (replies : List Reply) (reply : Reply) (read : Result (Read (List Reply)) (Stop ProtocolFault)) → behind replies (read_in (read >>= λ others. Ok (reply ∷ others.0, others.1))) ≡ behind (replies ++ reply ∷ []) (read_in read)
behind-first replies reply (Ok others) = ap (λ all. Some (all, others.1)) (sym (append_assoc replies (reply ∷ []) others.0))
behind-first replies reply (Err stop) = refl

pub read_in-ok : (element : Result (Read Reply) (Stop ProtocolFault)) (reply : Reply) (rest : List ℕ) → Some (reply, rest) ≡ read_in element → element ≡ Ok (reply, rest)
read_in-ok (Ok read) reply rest e = let same : read ≡ (reply, rest) = cc in ap Ok same
read_in-ok (Err stop) reply rest e = absurd (cc)

read_in-none : (element : Result (Read Reply) (Stop ProtocolFault)) → None ≡ read_in element → (stop : Stop ProtocolFault) × (element ≡ Err stop)
read_in-none (Ok read) e = absurd (cc)
read_in-none (Err stop) e = (stop, refl)

pub copied-element : (limits : ReplyLimits) (depth inner count i : ℕ) (replies : List Reply) (bytes : List ℕ) (reply : Reply) (rest : List ℕ) → IsInner depth inner → i < count → Some (reply, rest) ≡ read_in (reply_at limits inner bytes) → behind replies (read_in (elements_at (element_at limits depth) (count - i) bytes)) ≡ behind (replies ++ reply ∷ []) (read_in (elements_at (element_at limits depth) (count - (i + 1)) rest))
copied-element limits depth inner count i replies bytes reply rest is h e =
    ap (λ r. behind replies (read_in r)) (elements-one (element_at limits depth) count i bytes reply rest h (element_at-inner limits depth inner bytes is ∙ read_in-ok (reply_at limits inner bytes) reply rest e))
    ∙ behind-first replies reply (elements_at (element_at limits depth) (count - (i + 1)) rest)

pub uncopied-element : (limits : ReplyLimits) (depth inner count i : ℕ) (replies : List Reply) (bytes : List ℕ) → IsInner depth inner → i < count → None ≡ read_in (reply_at limits inner bytes) → array_of (behind replies (read_in (elements_at (element_at limits depth) (count - i) bytes))) ≡ None
uncopied-element limits depth inner count i replies bytes is h e =
    let read = read_in-none (reply_at limits inner bytes) e in
    ap (λ r. array_of (behind replies (read_in r))) (elements-stop (element_at limits depth) count i bytes read.0 h (element_at-inner limits depth inner bytes is ∙ read.1))

-- ---- the head of an array

head_is : (limits : ReplyLimits) (depth : ℕ) (bytes : List ℕ) (most count : ℕ) (head : Head) (rest : List ℕ) → most ≡ most_at limits depth → head_at limits.bulk_bytes most bytes ≡ Ok (head, rest) → head ≡ Opens count → reply_at limits depth bytes ≡ reply_from (element_at limits depth) (Opens count) rest
head_is limits depth bytes most count head rest same read is =
    reply_at-head limits depth bytes head rest (ap (λ m. head_at limits.bulk_bytes m bytes) (sym same) ∙ read) ∙ ap (λ h. reply_from (element_at limits depth) h rest) is

pub skipped-opens : (limits : ReplyLimits) (depth : ℕ) (bytes : List ℕ) (most count : ℕ) (head : Head) (rest : List ℕ) → most ≡ most_at limits depth → head_at limits.bulk_bytes most bytes ≡ Ok (head, rest) → head ≡ Opens count → skipped (elements_at (element_at limits depth) (count - 0) rest) ≡ skipped (reply_at limits depth bytes)
skipped-opens limits depth bytes most count head rest same read is =
    let all : count - 0 ≡ count = omega arith in
    ap (λ n. skipped (elements_at (element_at limits depth) n rest)) all
    ∙ sym (ap skipped (head_is limits depth bytes most count head rest same read is) ∙ skipped-array (elements_at (element_at limits depth) count rest))

pub copied-opens : (limits : ReplyLimits) (depth : ℕ) (bytes : List ℕ) (most count : ℕ) (head : Head) (rest : List ℕ) (replies : List Reply) → most ≡ most_at limits depth → head_at limits.bulk_bytes most bytes ≡ Ok (head, rest) → head ≡ Opens count → replies ≡ [] → array_of (behind replies (read_in (elements_at (element_at limits depth) (count - 0) rest))) ≡ read_in (reply_at limits depth bytes)
copied-opens limits depth bytes most count head rest replies same read is none =
    let all : count - 0 ≡ count = omega arith in
    ap (λ n. array_of (behind replies (read_in (elements_at (element_at limits depth) n rest)))) all
    ∙ ap (λ r. array_of (behind r (read_in (elements_at (element_at limits depth) count rest)))) none
    ∙ array_of-read (elements_at (element_at limits depth) count rest)
    ∙ sym (ap read_in (head_is limits depth bytes most count head rest same read is))

-- the array once all its replies are copied
pub copied-all : (element : List ℕ → Result (Read Reply) (Stop ProtocolFault)) (count i : ℕ) (replies : List Reply) (rest : List ℕ) → count ≤ i → Some (Array replies, rest) ≡ array_of (behind replies (read_in (elements_at element (count - i) rest)))
copied-all element count i replies rest h =
    let none : count - i ≡ 0 = omega arith in
    sym (ap (λ n. array_of (behind replies (read_in (elements_at element n rest)))) none ∙ ap (λ rs. Some (Array rs, rest)) (append-nil replies))

-- ---- what a copy answers

pub none_copied : {A B : Type 0} (view : A → B) (copy : Option A) (read : Option B) → option_map view copy ≡ read → copy ≡ None → None ≡ read
none_copied view copy read e none = sym (ap (option_map view) none) ∙ e

pub some_copied : {A B : Type 0} (view : A → B) (copy : Option A) (read : Option B) (x : A) → option_map view copy ≡ read → copy ≡ Some x → Some (view x) ≡ read
some_copied view copy read x e some = sym (ap (option_map view) some) ∙ e

-- a reply that was seen to be whole is copied
pub copied-whole : (element : Result (Read Reply) (Stop ProtocolFault)) (rest : List ℕ) → skipped element ≡ Ok rest → None ≡ read_in element → ⊥
copied-whole (Ok read) rest e none = absurd (cc)
copied-whole (Err stop) rest e none = absurd (cc)
