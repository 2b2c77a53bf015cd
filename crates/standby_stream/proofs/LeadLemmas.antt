-- A frame that leads over others leads from one keyspace of a history to another, and is the opening's delta where none is aside.
use Rattle.std.proofs.Common.{◌≡◌, ℕ, List, [], ◌∷◌, ◌++◌, sym, ap, ap₂, subst, ◌∙◌}
use Rattle.kv_types.specs.declared.change.Change.{Change}
use Rattle.kv_types.specs.Keyspace.{Keyspace, play_all}
use Rattle.kv_types.proofs.PlayLemmas.{play_all-append}
use Rattle.frames.specs.declared.frame.Frame.{Frame}
use Rattle.standby_stream.specs.declared.opening.Opening.{Opening}
use Rattle.standby_stream.specs.Delta.{IsDelta}
use Rattle.standby_stream.specs.Leading.{LeadOn, Leads, LeadsFromBehind, end_of, ending_above, followed_by}

-- changes that lead to a position, and then those of frames that lead on from there
played-followed : (past : ℕ → Keyspace) (s : Keyspace) (at : ℕ) (changes : List Change) (frames : List Frame) → play_all s changes ≡ past at → LeadOn past at frames
    → play_all s (followed_by changes frames) ≡ past (end_of at frames)
played-followed past s at changes [] leads on = leads
played-followed past s at changes (frame ∷ frames) leads on =
    played-followed past s frame.after (changes ++ frame.changes.items) frames
    (play_all-append s changes frame.changes.items ∙ ap (λ (t : Keyspace). play_all t frame.changes.items) leads ∙ on.1) on.2

pub leads_on : (past : ℕ → Keyspace) (epoch from at : ℕ) (changes : List Change) (frames : List Frame) (whole : Frame) → play_all (past from) changes ≡ past at → LeadOn past at frames
    → Leads epoch from at changes frames whole → play_all (past whole.before) whole.changes.items ≡ past whole.after
leads_on past epoch from at changes frames whole leads on is =
    ap (λ n. play_all (past n) whole.changes.items) is.before ∙ ap (play_all (past from)) is.changes_are ∙ played-followed past (past from) at changes frames leads on ∙ ap past (sym is.after)

pub is_delta : (epoch : ℕ) (opening : Opening) (aside : List Frame) (from : ℕ) (frame : Frame) → aside ≡ [] → LeadsFromBehind epoch opening aside from frame → IsDelta epoch opening from frame
is_delta epoch opening aside from frame none leads =
    let is = subst (λ (frames : List Frame). LeadsFromBehind epoch opening frames from frame) none leads in
    record { epoch_is = is.epoch_is; before = is.before; after = is.after; changes = is.changes_are }

-- the opening's delta, led on over what is aside
pub leads-behind : (epoch : ℕ) (opening : Opening) (aside : List Frame) (from : ℕ) (first whole : Frame) → IsDelta epoch opening from first
    → Leads first.epoch first.before first.after first.changes.items (ending_above first.before aside) whole → LeadsFromBehind epoch opening aside from whole
leads-behind epoch opening aside from first whole is leads = record {
  epoch_is = leads.epoch_is ∙ is.epoch_is;
  before = leads.before ∙ is.before;
  after = leads.after ∙ ap₂ (λ (n m : ℕ). end_of n (ending_above m aside)) is.after is.before;
  changes_are = leads.changes_are ∙ ap₂ (λ (changes : List Change) (m : ℕ). followed_by changes (ending_above m aside)) is.changes is.before;
}
