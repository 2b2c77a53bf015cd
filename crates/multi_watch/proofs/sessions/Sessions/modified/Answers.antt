use Rattle.std.proofs.Common.{◌≡◌, ℕ, ap, ◌∙◌, rules}
use Rattle.std.specs.Option.{option_map}
use Rattle.multi_watch.specs.Session.{modified}
use Rattle.multi_watch.specs.Sessions.{slot, session_of, session_at, marked_if}
use Rattle.multi_watch.proofs.SessionsLemmas.{all_marked, agrees_still, marked_session}
use Rattle.multi_watch.proofs.sessions.Sessions.modified.Goals as goal

pub invariant_of-self : goal.invariant_of-self
invariant_of-self c =
    let key = c.args.key.now in
    let old = c.self.inside.sessions.slots in
    let table = c.self.inside.watchers.table.entries in
    let all : (n : ℕ) → slot c.mark_all.new.sessions.slots n ≡ option_map (modified key) (slot old n)
    = λ n. (c.mark_all.ensures n ∙ ap (λ b. marked_if key b (slot old n)) (c.of.ensures n) ∙ all_marked table old key c.self.invariant n) in
    agrees_still table old key c.self.invariant c.mark_all.new.sessions.slots all

pub returns-clause-sessions : goal.returns-clause-sessions
returns-clause-sessions c =
    let key = c.args.key.now in
    let old = c.self.inside.sessions.slots in
    let table = c.self.inside.watchers.table.entries in
    let all : (n : ℕ) → session_at c.mark_all.new.sessions.slots n ≡ modified key (session_at old n)
    = λ n. (ap session_of (c.mark_all.ensures n ∙ ap (λ b. marked_if key b (slot old n)) (c.of.ensures n) ∙ all_marked table old key c.self.invariant n) ∙ marked_session key (slot old n)) in
    search (rules, all)

pub returns-clause-slots : goal.returns-clause-slots
returns-clause-slots c =
    let key = c.args.key.now in
    let old = c.self.inside.sessions.slots in
    let table = c.self.inside.watchers.table.entries in
    let all : (n : ℕ) → slot c.mark_all.new.sessions.slots n ≡ option_map (modified key) (slot old n)
    = λ n. (c.mark_all.ensures n ∙ ap (λ b. marked_if key b (slot old n)) (c.of.ensures n) ∙ all_marked table old key c.self.invariant n) in
    search (rules, all)
