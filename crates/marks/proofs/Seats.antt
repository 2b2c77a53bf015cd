-- A split and a join keep the mark rule.
use Rattle.std.proofs.Common.{◌≡◌, ◌≢◌, ◌⊎◌, ℕ, zero, suc, ◌≤◌, Bool, true, false, not, ◌&&◌, ◌||◌, if◌then◌else◌, List, [], ◌∷◌, ◌++◌, length, set, sym, refl, ap, ◌∙◌, subst, inl, inr, ⊎_elim, arith}
use mathlib.Core.Option.{some, some-ne-none, some-injective}
use lib.ListN.{get_elem?}
use Rattle.atomic_table.specs.Table.{Splits, Joins}
use Rattle.atomic_table.proofs.Lists.{at_set, at_last, at_longer, set_else}
use Rattle.marks.proofs.Holders.{has_after, set_at, unset}
use Rattle.marks.specs.declared.view.MarkView.{MarkView}
use Rattle.marks.specs.View.{keeping, taking, number_of_both, joined, spent}
use Rattle.marks.specs.Rule.{Suits, Has, Marked}

-- a seat that raises a word knows it exactly
abbrev Raises : ℕ → ℕ → ℕ → ℕ → Bool → Type 0
Raises raiser word seat known raises = raises ≡ true → (seat ≡ raiser) × (known ≡ word)

module _ (n raiser word own : ℕ) where
  kept : (known : ℕ) (raises takes : Bool) → Raises raiser word own known raises → Raises (if raises && takes then n else raiser) word own known (raises && not takes)
  kept known true true was is = unset is
  kept known true false was is = was refl
  kept known false takes was is = unset is

  given : (known : ℕ) (raises takes : Bool) → Raises raiser word own known raises → Raises (if raises && takes then n else raiser) word n known (raises && takes)
  given known true true was is = (refl, (was refl).1)
  given known true false was is = unset is
  given known false takes was is = unset is

  uncut : (seat known mine : ℕ) (flag raises takes : Bool) → seat ≢ own → Raises raiser word own mine raises → Raises raiser word seat known flag → Raises (if raises && takes then n else raiser) word seat known flag
  uncut seat known mine flag true true apart own's was is = absurd (apart ((was is).0 ∙ sym (own's refl).0))
  uncut seat known mine flag true false apart own's was is = was is
  uncut seat known mine flag false takes apart own's was is = was is

at_end : {A : Type 0} (l : List A) (a b : A) (j : ℕ) → get_elem? (l ++ a ∷ []) j ≡ some b → (get_elem? l j ≡ some b) ⊎ ((j ≡ length l) × (a ≡ b))
at_end [] a b zero e = inr (refl, some-injective a b e)
at_end [] a b (suc j) e = absurd (some-ne-none b (sym e))
at_end (x ∷ xs) a b zero e = inl e
at_end (x ∷ xs) a b (suc j) e = ⊎_elim (λ t. inl t) (λ t. inr (ap suc t.0, t.1)) (at_end xs a b j e)

has_split : (raise : MarkView → Bool) (views : List MarkView) (own raiser : ℕ) (v left right : MarkView) (raises takes : Bool) → get_elem? views own ≡ some v
    → raise v ≡ raises → raise left ≡ (raises && not takes) → raise right ≡ (raises && takes) → Has raise views raiser
    → Has raise (set views own left ++ right ∷ []) (if raises && takes then length (set views own left) else raiser)
has_split raise views own raiser v left right true true at is l r has = (right, at_last (set views own left) right (length (set views own left)) refl, r)
has_split raise views own raiser v left right true false at is l r has = let h = has_after raise views own raiser v left at (l ∙ sym is) has in (h.0, at_longer (set views own left) (right ∷ []) raiser h.0 h.1, h.2)
has_split raise views own raiser v left right false takes at is l r has = let h = has_after raise views own raiser v left at (l ∙ sym is) has in (h.0, at_longer (set views own left) (right ∷ []) raiser h.0 h.1, h.2)

pub splits : (own : ℕ) (v : MarkView) (takes_local takes_remote : Bool) → Splits Marked own v (keeping takes_local takes_remote v) (taking takes_local takes_remote v)
splits own v a b t m at =
    let mine = m.each own v at in
    let left = keeping a b v in
    let right = taking a b v in
    let n : ℕ = length (set t.views own left) in
    let committer : ℕ = if v.raises_local && a then n else m.committer in
    let link : ℕ = if v.raises_remote && b then n else m.link in
    let fits : ℕ → MarkView → Type 0 = λ seat u. Suits committer link m.local m.remote m.heard seat u in
    let its_left : fits own left = record {
      below_local = mine.below_local;
      below_remote = mine.below_remote;
      below_heard = mine.below_heard;
      raising_local = kept n m.committer m.local own v.local v.raises_local a mine.raising_local;
      raising_remote = kept n m.link m.remote own v.remote v.raises_remote b mine.raising_remote;
    } in
    let its_right : fits n right = record {
      below_local = mine.below_local;
      below_remote = mine.below_remote;
      below_heard = mine.below_heard;
      raising_local = given n m.committer m.local own v.local v.raises_local a mine.raising_local;
      raising_remote = given n m.link m.remote own v.remote v.raises_remote b mine.raising_remote;
    } in
    let other : (seat : ℕ) (u : MarkView) → seat ≢ own → get_elem? t.views seat ≡ some u → fits seat u = λ seat u apart there.
    let was = m.each seat u there in
    record {
      below_local = was.below_local;
      below_remote = was.below_remote;
      below_heard = was.below_heard;
      raising_local = uncut n m.committer m.local own seat u.local v.local u.raises_local v.raises_local a apart mine.raising_local was.raising_local;
      raising_remote = uncut n m.link m.remote own seat u.remote v.remote u.raises_remote v.raises_remote b apart mine.raising_remote was.raising_remote;
    } in
    record {
      committer = committer;
      link = link;
      local = m.local;
      remote = m.remote;
      heard = m.heard;
      words = m.words;
      heard_once = m.heard_once;
      has_committer = has_split (λ u. u.raises_local) t.views own m.committer v left right v.raises_local a at refl refl refl m.has_committer;
      has_link = has_split (λ u. u.raises_remote) t.views own m.link v left right v.raises_remote b at refl refl refl m.has_link;
      each = λ seat u there. ⊎_elim
          (λ was. ⊎_elim
          (λ (x : (seat ≡ own) × (left ≡ u)). subst (λ (y : ℕ × MarkView). fits y.0 y.1) (λ k. (sym x.0 k, x.1 k)) its_left)
          (λ (x : (seat ≢ own) × (get_elem? t.views seat ≡ some u)). other seat u x.0 x.1)
          (at_set t.views own seat left u was))
          (λ (x : (seat ≡ n) × (right ≡ u)). subst (λ (y : ℕ × MarkView). fits y.0 y.1) (λ k. (sym x.0 k, x.1 k)) its_right)
          (at_end (set t.views own left) right u seat there);
    }

module _ (raiser word own other : ℕ) (apart : ¬ (other ≡ own)) where
  both : (a b : Bool) (x y : ℕ) → Raises raiser word own x a → Raises raiser word other y b → Raises (if b then own else raiser) word own (number_of_both a b x y) (a || b)
  both true true x y mine theirs is = absurd (apart ((theirs refl).0 ∙ sym (mine refl).0))
  both true false x y mine theirs is = mine refl
  both false true x y mine theirs is = (refl, (theirs refl).1)
  both false false x y mine theirs is = unset is

  untaken : (seat known y : ℕ) (flag b : Bool) → seat ≢ other → Raises raiser word other y b → Raises raiser word seat known flag → Raises (if b then own else raiser) word seat known flag
  untaken seat known y flag true away theirs was is = absurd (away ((was is).0 ∙ sym (theirs refl).0))
  untaken seat known y flag false away theirs was is = was is

below_both : (a b : Bool) (x y word : ℕ) → x ≤ word → y ≤ word → number_of_both a b x y ≤ word
below_both true b x y word h k = h
below_both false true x y word h k = k
below_both false false x y word h k = omega arith

has_joined : (raise : MarkView → Bool) (views : List MarkView) (own other raiser : ℕ) (v w both : MarkView) (a b : Bool) → get_elem? views own ≡ some v → ¬ (other ≡ own) → get_elem? views other ≡ some w
    → raise v ≡ a → raise w ≡ b → raise both ≡ (a || b) → Has raise views raiser → raise spent ≡ false → Has raise (set (set views own both) other spent) (if b then own else raiser)
has_joined raise views own other raiser v w both true true at apart there is_v is_w is_both has none = (both, set_else (set views own both) other own spent (λ e. apart (sym e)) ∙ set_at views own v both at, is_both)
has_joined raise views own other raiser v w both false true at apart there is_v is_w is_both has none = (both, set_else (set views own both) other own spent (λ e. apart (sym e)) ∙ set_at views own v both at, is_both)
has_joined raise views own other raiser v w both true false at apart there is_v is_w is_both has none =
    has_after raise (set views own both) other raiser w spent (set_else views own other both apart ∙ there) (none ∙ sym is_w) (has_after raise views own raiser v both at (is_both ∙ sym is_v) has)
has_joined raise views own other raiser v w both false false at apart there is_v is_w is_both has none =
    has_after raise (set views own both) other raiser w spent (set_else views own other both apart ∙ there) (none ∙ sym is_w) (has_after raise views own raiser v both at (is_both ∙ sym is_v) has)

pub joins : (own : ℕ) (v : MarkView) (other : ℕ) (w : MarkView) → Joins Marked own v other w (joined v w) spent
joins own v other w t m at apart there =
    let mine = m.each own v at in
    let there_before : get_elem? t.views other ≡ some w = ⊎_elim (λ (x : (other ≡ own) × (joined v w ≡ w)). absurd (apart x.0)) (λ (x : (other ≢ own) × (get_elem? t.views other ≡ some w)). x.1) (at_set t.views own other (joined v w) w there) in
    let theirs = m.each other w there_before in
    let committer : ℕ = if w.raises_local then own else m.committer in
    let link : ℕ = if w.raises_remote then own else m.link in
    let fits : ℕ → MarkView → Type 0 = λ seat u. Suits committer link m.local m.remote m.heard seat u in
    let its_both : fits own (joined v w) = record {
      below_local = below_both v.raises_local w.raises_local v.local w.local m.local mine.below_local theirs.below_local;
      below_remote = below_both v.raises_remote w.raises_remote v.remote w.remote m.remote mine.below_remote theirs.below_remote;
      below_heard = omega (arith, mine.below_heard, theirs.below_heard);
      raising_local = both m.committer m.local own other apart v.raises_local w.raises_local v.local w.local mine.raising_local theirs.raising_local;
      raising_remote = both m.link m.remote own other apart v.raises_remote w.raises_remote v.remote w.remote mine.raising_remote theirs.raising_remote;
    } in
    let its_spent : fits other spent = record {
      below_local = omega arith;
      below_remote = omega arith;
      below_heard = omega arith;
      raising_local = λ is. unset is;
      raising_remote = λ is. unset is;
    } in
    let others : (seat : ℕ) (u : MarkView) → seat ≢ other → get_elem? t.views seat ≡ some u → fits seat u = λ seat u away here.
    let was = m.each seat u here in
    record {
      below_local = was.below_local;
      below_remote = was.below_remote;
      below_heard = was.below_heard;
      raising_local = untaken m.committer m.local own other apart seat u.local w.local u.raises_local w.raises_local away theirs.raising_local was.raising_local;
      raising_remote = untaken m.link m.remote own other apart seat u.remote w.remote u.raises_remote w.raises_remote away theirs.raising_remote was.raising_remote;
    } in
    record {
      committer = committer;
      link = link;
      local = m.local;
      remote = m.remote;
      heard = m.heard;
      words = m.words;
      heard_once = m.heard_once;
      has_committer = has_joined (λ u. u.raises_local) t.views own other m.committer v w (joined v w) v.raises_local w.raises_local at apart there_before refl refl refl m.has_committer refl;
      has_link = has_joined (λ u. u.raises_remote) t.views own other m.link v w (joined v w) v.raises_remote w.raises_remote at apart there_before refl refl refl m.has_link refl;
      each = λ seat u here. ⊎_elim
          (λ (x : (seat ≡ other) × (spent ≡ u)). subst (λ (y : ℕ × MarkView). fits y.0 y.1) (λ k. (sym x.0 k, x.1 k)) its_spent)
          (λ (x : (seat ≢ other) × (get_elem? (set t.views own (joined v w)) seat ≡ some u)). ⊎_elim
          (λ (y : (seat ≡ own) × (joined v w ≡ u)). subst (λ (z : ℕ × MarkView). fits z.0 z.1) (λ k. (sym y.0 k, y.1 k)) its_both)
          (λ (y : (seat ≢ own) × (get_elem? t.views seat ≡ some u)). others seat u x.0 y.1)
          (at_set t.views own seat (joined v w) u x.1))
          (at_set (set t.views own (joined v w)) other seat spent u here);
    }
