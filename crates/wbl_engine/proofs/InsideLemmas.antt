-- Where the versions lie that an image holds.
use Rattle.std.proofs.Common.{◌≡◌, ℕ, ◌+◌, ◌≤◌, Bool, true, false, cond, IsTrue, None, Some, refl, sym, subst, ◌∙◌, arith}
use Rattle.std.proofs.lemmas.Option.{none-some}
use Rattle.heap_layout.specs.Entry.{IsEntry}
use Rattle.model.specs.declared.record.Record.{Record}
use Rattle.model.specs.Group.{Contents, IsConsistent}
use Rattle.model.specs.Image.{Image, Version, counts, entry_word, first_extent_line, version_in}
use Rattle.model.proofs.DirectoryLemmas.{in-directory}
use Rattle.wbl_engine.specs.Contents.{Keeps}

-- the version lies in the lines of the extents
pub record IsInside (lines' : ℕ) (version : Version) : Type 0 where
  pub above : first_extent_line lines' ≤ version.first_line
  pub within : version.first_line + version.lines ≤ lines'

same_some : {X : Type 0} {x y : X} → Some x ≡ Some y → x ≡ y
same_some e = cc

inside_if : (lines' : ℕ) (counted : Bool) (made version : Version) → (IsTrue counted → IsInside lines' made) → cond counted (Some made) None ≡ Some version
    → IsInside lines' version
inside_if lines' true made version inside is = subst (IsInside lines') (same_some is) (inside refl)
inside_if lines' false made version inside is = cc

inside_entry : (lines' : ℕ) (r : Record) (image : Image) (i : ℕ) → IsEntry lines' image i → IsInside lines' (version_in r image i)
inside_entry lines' r image i entry =
    let lines_are = entry.lines_are in
    let within = entry.in_format.extent in
    record { above = entry.above; within = omega (arith, lines_are, within) }

-- a version lies in an image that holds it
pub inside-from_keeps : (contents : Contents) (image : Image) → IsConsistent contents → Keeps contents image → (i : ℕ) (version : Version)
    → contents.versions i ≡ Some version → IsInside contents.lines version
inside-from_keeps contents image consistent keeps i version begun =
    let within = in-directory contents consistent i (λ none. none-some version (sym none ∙ begun)) in
    inside_if contents.lines (counts contents.current (image (entry_word i 0))) (version_in contents.current image i) version
    (λ counted. inside_entry contents.lines contents.current image i ((keeps.entries i within).whole counted)) (keeps.versions i within ∙ begun)
