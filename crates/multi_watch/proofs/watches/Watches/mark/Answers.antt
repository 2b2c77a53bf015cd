use Rattle.std.proofs.Common.{◌≡◌, true, map, None, rules, sym, ap, ◌∙◌}
use Rattle.std.specs.Map.{lookup}
use Rattle.multi_watch.specs.Session.{marked}
use Rattle.multi_watch.specs.Watches.{watches_of}
use Rattle.multi_watch.proofs.WatchesLemmas.{is_at, one_marked, none_marked}
use Rattle.multi_watch.proofs.watches.Watches.mark.Goals as goal

pub returns-in_default : goal.returns-in_default
returns-in_default c =
    let key = c.args.key.now in
    let old = c.self.inside.marks in
    let none : lookup (is_at key) old.entries ≡ None = search rules in
    let same : c.get_mut.follows.lender-at-none ≡ old = search rules in
    ap (λ m. watches_of m.entries) same ∙ sym (none_marked key old.entries none) ∙ ap (map (marked key)) c.self.view_is

pub returns : goal.returns
returns c =
    let key = c.args.key.now in
    let old = c.self.inside.marks in
    ap watches_of (c.get_mut.follows.holds true).0 ∙ one_marked key old.entries c.get_mut.ensures.unique ∙ ap (map (marked key)) c.self.view_is
