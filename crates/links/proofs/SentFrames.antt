-- The frames that a link has sent, one after another, and their bytes.
use Rattle.std.proofs.Common.{◌≡◌, ℕ, ◌+◌, ◌-◌, ◌<◌, ◌≤◌, List, [], ◌∷◌, ◌++◌, length, Option, Some, None, take, drop, get_or, sym, ap, subst, ◌∙◌, append-nil, append_assoc, arith, true≢false}
use Rattle.std.specs.Prelude.{slice_get, IfSome, is_none, false}
use Rattle.std.proofs.lemmas.List.{drop-append-le, flat_map_more, get_or-drop, length-drop, take-append-le, take_more}
use Rattle.std.proofs.lemmas.Option.{get_or_from_slice_get}
use Rattle.frames.specs.declared.frame.Frame.{Frame}
use Rattle.standby_stream.specs.Sent.{Grows, IsSent, MaySend, between}
use Rattle.standby_stream.specs.Stream.{Stream}
use Rattle.links.specs.Sending.{frame_text, frames_text}

-- none yet
pub none-between : (next : ℕ) (kept : List Frame) → between next next kept ≡ []
none-between next kept =
    let nothing : next - next ≡ 0 = omega arith in
    ap (λ (n : ℕ). take n (drop next kept)) nothing

pub Grows-none : (kept : List Frame) → Grows kept kept
Grows-none kept = record { more = []; is = sym (append-nil kept) }

pub Grows-then : (first middle last : List Frame) → Grows first middle → Grows middle last → Grows first last
Grows-then first middle last one two = record {
  more = one.more ++ two.more;
  is = two.is ∙ ap (λ (frames : List Frame). frames ++ two.more) one.is ∙ append_assoc first one.more two.more;
}

-- the frame that was sent stands behind those that were sent before
pub one-more-between : (first : ℕ) (old new : Stream) (index : ℕ) (frame : Frame) → first ≤ old.next → IsSent old index new → slice_get new.kept index ≡ Some frame
    → between first new.next new.kept ≡ between first old.next old.kept ++ frame ∷ []
one-more-between first old new index frame rises sent is =
    let rest : drop first new.kept ≡ drop first old.kept ++ sent.grows.more =
    ap (drop first) sent.grows.is ∙ drop-append-le first old.kept sent.grows.more (omega (arith, rises, sent.was_within)) in
    let count : new.next - first ≡ old.next - first + 1 = omega (arith, rises, sent.next_is) in
    let short : old.next - first < length (drop first new.kept) = subst (λ (n : ℕ). old.next - first < n) (sym (length-drop first new.kept)) (omega (arith, rises, sent.within)) in
    let few : old.next - first ≤ length (drop first old.kept) = subst (λ (n : ℕ). old.next - first ≤ n) (sym (length-drop first old.kept)) (omega (arith, rises, sent.was_within)) in
    let at : first + (old.next - first) ≡ index = omega (arith, rises, sent.index_is) in
    let last : get_or (drop first new.kept) (old.next - first) frame ≡ frame =
    get_or-drop first new.kept (old.next - first) frame ∙ ap (λ (n : ℕ). get_or new.kept n frame) at ∙ get_or_from_slice_get new.kept index frame frame is in
    ap (λ (n : ℕ). take n (drop first new.kept)) count
    ∙ take_more (drop first new.kept) (old.next - first) frame short
    ∙ ap (λ (x : Frame). take (old.next - first) (drop first new.kept) ++ x ∷ []) last
    ∙ ap (λ (frames : List Frame). frames ++ frame ∷ []) (ap (take (old.next - first)) rest ∙ take-append-le (old.next - first) (drop first old.kept) sent.grows.more few)

-- and so do its bytes
pub one-more-text : (before text : List ℕ) (first : ℕ) (old new : Stream) (index : ℕ) (frame : Frame) → first ≤ old.next → IsSent old index new → slice_get new.kept index ≡ Some frame
    → text ≡ before ++ frames_text (between first old.next old.kept) → text ++ frame_text frame ≡ before ++ frames_text (between first new.next new.kept)
one-more-text before text first old new index frame rises sent is so_far =
    ap (λ (bytes : List ℕ). bytes ++ frame_text frame) so_far
    ∙ flat_map_more frame_text before (between first old.next old.kept) frame
    ∙ ap (λ (frames : List Frame). before ++ frames_text frames) (sym (one-more-between first old new index frame rises sent is))

-- what was put before, and then the frame that was sent
pub after-one : (given : Option ℕ) (before text after : List ℕ) (first old new : Stream) → is_none given ≡ false
    → text ≡ before ++ frames_text (between first.next old.next old.kept) → first.next ≤ old.next → Grows first.kept old.kept → MaySend old given new
    → IfSome given (λ index. (frame : Frame) × (slice_get new.kept index ≡ Some frame) × (after ≡ text ++ frame_text frame))
    → (after ≡ before ++ frames_text (between first.next new.next new.kept)) × (first.next ≤ new.next) × Grows first.kept new.kept
after-one None before text after first old new some put rises grows sent told = absurd (true≢false some)
after-one (Some index) before text after first old new some put rises grows sent told = (
  told.2 ∙ one-more-text before text first.next old new index told.0 rises sent told.1 put,
  omega (arith, rises, sent.next_is),
  Grows-then first.kept old.kept new.kept grows sent.grows,
)
