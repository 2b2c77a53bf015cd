use Rattle.std.proofs.Common.{◌≡◌, ◌||◌, nat_lt, ap, ◌∙◌, rules}
use Rattle.std.specs.Prelude.{filter}
use Rattle.std.proofs.lemmas.Fn.{filter_same}
use Rattle.mv_keyspace.specs.declared.past.Ended.{Ended}
use Rattle.mv_keyspace.specs.Versions.{is_pinned, version_of, versions_of}
use Rattle.mv_keyspace.proofs.PastLemmas.{versions-reclaimed}
use Rattle.mv_keyspace.proofs.past.Past.reclaim.Goals as goal

pub returns-clause-versions : goal.returns-clause-versions
returns-clause-versions c =
    let pins = c.args.self.now.pins.items in
    let before = c.args.self.now.ended.items in
    let left : c.retain.new.self.items ≡ filter (λ (e : Ended). nat_lt c.args.horizon e.end || is_pinned pins (version_of e).1) before = filter_same _ (λ (e : Ended). nat_lt c.args.horizon e.end || is_pinned pins (version_of e).1) _ (λ e b f' called. search rules) before c.retain.new.self.items c.retain.ensures.filtered in
    ap versions_of left ∙ versions-reclaimed c.args.horizon pins before
