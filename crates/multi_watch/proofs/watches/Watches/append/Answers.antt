use Rattle.std.proofs.Common.{◌≡◌, false, ◌++◌, sym, ap, ap₂, subst, ◌∙◌}
use Rattle.std.specs.List.{list_any}
use Rattle.multi_watch.specs.Session.{is_watched}
use Rattle.multi_watch.specs.Watches.{watches_of, keys_of, AreShort}
use Rattle.multi_watch.proofs.TableLemmas.{either_way}
use Rattle.multi_watch.proofs.WatchesLemmas.{all_added, short-append, watches_of-append, then_on_ok}
use Rattle.multi_watch.proofs.watches.Watches.append.Goals as goal

pub invariant_of-self : goal.invariant_of-self
invariant_of-self c =
    let old = c.self.inside.marks.entries in
    let more = c.more.inside.marks.entries in
    let apart : list_any (λ watch. is_watched watch.key (watches_of old)) (watches_of more) ≡ false =
    ap₂ (λ watched fresh. list_any (λ watch. is_watched watch.key watched) fresh) c.self.view_is c.more.view_is ∙ c.requires.new in
    either_way c.append.result c.append.ensures.entries c.append.ensures.err
    (λ made. subst (λ marks. AreShort (keys_of marks)) (sym (made ∙ all_added old more c.len-count.ensures.unique apart)) (short-append old more c.self.invariant c.more.invariant))
    (λ same. subst (λ marks. AreShort (keys_of marks)) (sym same) c.self.invariant)

pub returns-clause-ok : goal.returns-clause-ok
returns-clause-ok c =
    let old = c.self.inside.marks.entries in
    let more = c.more.inside.marks.entries in
    let apart : list_any (λ watch. is_watched watch.key (watches_of old)) (watches_of more) ≡ false =
    ap₂ (λ watched fresh. list_any (λ watch. is_watched watch.key watched) fresh) c.self.view_is c.more.view_is ∙ c.requires.new in
    then_on_ok c.append.result c.append.ensures.entries
    (λ made. ap watches_of (made ∙ all_added old more c.len-count.ensures.unique apart) ∙ watches_of-append old more ∙ ap₂ (λ first second. first ++ second) c.self.view_is c.more.view_is)
