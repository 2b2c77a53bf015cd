use Rattle.std.proofs.Common.{◌≡◌, ℕ, ◌*◌, ◌≤◌, Bool, true, List, [], ◌∷◌, ◌++◌, Option, Some, None, IfSome, sym, subst, ap, ◌∙◌, arith}
use Rattle.journal.specs.declared.shape.Head.{Head}
use Rattle.model.specs.declared.image.TheConstants.{MIN_LINES, MAX_LINES}
use Rattle.pmem_file.specs.Byte.{words_in}
use Rattle.pmem_file.specs.Opening.{Step, ReadAt, steps_of}
use Rattle.pmem_file.specs.Finding.{IsTold, IsSeenWhere}
use Rattle.pmem_file.proofs.finding.find_journal.Goals as goal

some-below : (o : Option Head) (n low : ℕ) → low ≤ n → IfSome o (λ head. head.shape.lines ≡ n) → IfSome o (λ head. low ≤ head.shape.lines)
some-below None n low e is = tt
some-below (Some head) n low e is = omega (arith, e, is)

some-above : (o : Option Head) (n high : ℕ) → n ≤ high → IfSome o (λ head. head.shape.lines ≡ n) → IfSome o (λ head. head.shape.lines ≤ high)
some-above None n high e is = tt
some-above (Some head) n high e is = omega (arith, e, is)

seen-where : (found : Option Head) (image : ℕ) (front line words : List ℕ) (old new : List Step)
    → new ≡ ReadAt (64 * image) line true ∷ ReadAt 0 front true ∷ old → words ≡ words_in line → IfSome found (λ head. head.shape.lines ≡ image)
    → IfSome found (λ head. IsTold head.shape head.generation words) → IsSeenWhere found old new
seen-where None image front line words old new asked are lines told = tt
seen-where (Some head) image front line words old new asked are lines told =
    record {
      front = front;
      line = line;
      calls = asked ∙ ap (λ (n : ℕ). ReadAt (64 * n) line true ∷ ReadAt 0 front true ∷ old) (sym lines);
      told = subst (λ (ws : List ℕ). IsTold head.shape head.generation ws) are told;
    }

pub returns-then-image-lt-MIN_LINES-clause-looks : goal.returns-then-image-lt-MIN_LINES-clause-looks
returns-then-image-lt-MIN_LINES-clause-looks c =
    let old = steps_of c.args.opening.now.calls in
    let front = c.read.new.block.items in (
      ReadAt 0 front true ∷ [],
      tt,
      c.read.ensures.noted ∙ ap (λ (b : Bool). ReadAt 0 front b ∷ old) c.if-not-read.false,
    )

pub returns-clause-looks : goal.returns-clause-looks
returns-clause-looks c =
    let old = steps_of c.args.opening.now.calls in
    let front = c.read.new.block.items in
    let line = c.read-2.new.block.items in
    let image = c.word_at-image.result in (
      ReadAt (64 * image) line true ∷ ReadAt 0 front true ∷ [],
      tt,
      c.read-2.ensures.noted
          ∙ ap (λ (b : Bool). ReadAt (64 * image) line b ∷ steps_of c.read.new.self.calls) c.if-not-read-2.false
          ∙ ap (λ (steps : List Step). ReadAt (64 * image) line true ∷ steps)
          (c.read.ensures.noted ∙ ap (λ (b : Bool). ReadAt 0 front b ∷ old) c.if-not-read.false),
    )

pub returns-clause-many : goal.returns-clause-many
returns-clause-many c = some-below c.head_told.result c.word_at-image.result MIN_LINES c.if-image-lt-MIN_LINES.false c.head_told.ensures.image

pub returns-clause-few : goal.returns-clause-few
returns-clause-few c = some-above c.head_told.result c.word_at-image.result MAX_LINES c.if-image-gt-MAX_LINES.false c.head_told.ensures.image

pub returns-clause-seen : goal.returns-clause-seen
returns-clause-seen c =
    let old = steps_of c.args.opening.now.calls in
    let front = c.read.new.block.items in
    let line = c.read-2.new.block.items in
    let image = c.word_at-image.result in
    let asked : steps_of c.read-2.new.self.calls ≡ ReadAt (64 * image) line true ∷ ReadAt 0 front true ∷ old =
    c.read-2.ensures.noted
    ∙ ap (λ (b : Bool). ReadAt (64 * image) line b ∷ steps_of c.read.new.self.calls) c.if-not-read-2.false
    ∙ ap (λ (steps : List Step). ReadAt (64 * image) line true ∷ steps)
    (c.read.ensures.noted ∙ ap (λ (b : Bool). ReadAt 0 front b ∷ old) c.if-not-read.false) in
    let words : c.deref-3.result.now ≡ words_in line =
    c.deref-3.ensures.value ∙ c.in_ok-decode.ensures.words
    ∙ ap (λ (ws : List ℕ). ws ++ words_in c.deref-2.result.now) c.in_ok-words.ensures.items
    ∙ ap words_in c.deref-2.ensures.value in
    seen-where c.head_told.result image front line c.deref-3.result.now old (steps_of c.read-2.new.self.calls) asked words c.head_told.ensures.image
    c.head_told.ensures.told
