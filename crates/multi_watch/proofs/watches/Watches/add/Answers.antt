use Rattle.std.proofs.Common.{◌≡◌, ◌≤◌, false, [], ◌∷◌, ◌++◌, length, rules, sym, ap, ap₂, subst, ◌∙◌}
use Rattle.kv_types.specs.declared.limits.TheConstants.{MAX_KEY_BYTES}
use Rattle.multi_watch.specs.Session.{is_watched, unmodified}
use Rattle.multi_watch.specs.Watches.{watches_of, keys_of, AreShort}
use Rattle.multi_watch.proofs.WatchesLemmas.{one_added, short-append, watches_of-append}
use Rattle.multi_watch.proofs.watches.Watches.add.Goals as goal

pub invariant_of-self-2 : goal.invariant_of-self-2
invariant_of-self-2 c =
    let own = c.in_ok-to_vec.field-0 in
    let old = c.self.inside.marks.entries in
    let copied : own.items ≡ c.args.key.now = search rules in
    let new : is_watched c.args.key.now (watches_of old) ≡ false = ap (is_watched c.args.key.now) c.self.view_is ∙ c.requires.new in
    let made : c.insert.new.self.entries ≡ old ++ (own, false) ∷ [] = c.in_ok-insert.ensures.entries ∙ one_added own c.args.key.now false old copied new in
    subst (λ marks. AreShort (keys_of marks)) (sym made)
    (short-append old ((own, false) ∷ []) c.self.invariant (subst (λ bytes. length bytes ≤ MAX_KEY_BYTES) (sym copied) c.requires.short, tt))

pub returns-clause-ok : goal.returns-clause-ok
returns-clause-ok c =
    let own = c.in_ok-to_vec.field-0 in
    let old = c.self.inside.marks.entries in
    let copied : own.items ≡ c.args.key.now = search rules in
    let new : is_watched c.args.key.now (watches_of old) ≡ false = ap (is_watched c.args.key.now) c.self.view_is ∙ c.requires.new in
    let made : c.insert.new.self.entries ≡ old ++ (own, false) ∷ [] = c.in_ok-insert.ensures.entries ∙ one_added own c.args.key.now false old copied new in
    ap watches_of made ∙ watches_of-append old ((own, false) ∷ []) ∙ ap₂ (λ watches key. watches ++ unmodified key ∷ []) c.self.view_is copied
