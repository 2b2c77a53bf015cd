-- What is recalled of the list, by contents and by what is told of an opening, while it grows, is cut, or its floor is raised.
use Rattle.std.proofs.Common.{◌≡◌, ◌≤◌, ℕ, List, [], sym, subst, arith, le_refl, ◌+◌, ◌<◌, ◌++◌, inl, inr, ◌⊎◌, ◌==◌, Bool, true, false, cond, IsTrue, drop, length, take, None, Some, refl, ap, ◌∙◌}
use Rattle.world.specs.Words.{Call, cleared_contents, Contents, cut_at, FreeList, Past, Remembers, Sequencing, Work, delta_changes, entries_of, Image, Opening, play_all, Record, Shows}
use Rattle.standby_stream.specs.Delta.{Recalls, HaveTheirLines}
use Rattle.primary.proofs.NumberedLemmas.{renumbered}
use Rattle.primary.proofs.RecallLemmas.{recalls-each, remembers-new, remembers-on, remembers-same}
use Rattle.world.specs.Recalling.{RecallsFor, RemembersFor, past_of, OpeningLeads}
use Rattle.world.proofs.CutLemmas.{keyspace_after-cut_at-cut}
use Rattle.world.proofs.Words.{cases_lt, keyspace_after-cut_at-append, length-drop, position_of_grows}
use Rattle.std.proofs.lemmas.List.{length-take-le}
use Rattle.kv_types.specs.declared.record_id.RecordId.TheVariants.{Field, Str}
use Rattle.kv_types.specs.Keyspace.{Keyspace}
use Rattle.model.specs.Group.{bytes_of_id}
use Rattle.model.specs.Image.{Version, bytes_at, counts, entry_bytes, entry_word, field_bytes, id_of, key_bytes, lines_of_bytes, version_in}
use Rattle.model.proofs.ReadEntryLemmas.{length-bytes_at}
use Rattle.placing.specs.Read.{AreInOrder}
use Rattle.placing.proofs.ReadLemmas.{read_is_of}

-- ---- while it runs

pub remembered-from : (low position : ℕ) (past : Past) (contents : Contents) (items : List Work) (aside : List FreeList) (s : Sequencing) → contents.current.floor ≤ low
    → Remembers contents.current.floor position past contents items aside s → RemembersFor low position past contents items aside s
remembered-from low position past contents items aside s floored remembers = record { floored = floored; remembers = remembers }

-- at first there is nothing to remember
pub remembered-new : (past : Past) (contents : Contents) (s : Sequencing) → contents.current.floor ≡ 0 → RemembersFor 0 0 past contents [] [] s
remembered-new past contents s none =
    record { floored = omega (arith, none); remembers = remembers-new past contents s contents.current.floor }

-- the standby goes on, and the sequencer has listed what it had listed
pub remembered-on : (low low' position : ℕ) (past : Past) (contents : Contents) (items : List Work) (aside : List FreeList) (old new : Sequencing) → low ≤ low' → new.ended ≡ old.ended
    → new.newest ≡ old.newest → RemembersFor low position past contents items aside old → RemembersFor low' position past contents items aside new
remembered-on low low' position past contents items aside old new rises ended newest remembers =
    let floor = contents.current.floor in
    record {
      floored = omega (arith, rises, remembers.floored);
      remembers = remembers-on floor floor position past contents items aside old new (le_refl floor) ended newest remembers.remembers;
    }

-- contents with the same versions and the same floor
pub remembered-same : (low position : ℕ) (past : Past) (contents new : Contents) (items : List Work) (aside : List FreeList) (s : Sequencing) → new.current.floor ≡ contents.current.floor
    → ((i : ℕ) → new.versions i ≡ contents.versions i) → RemembersFor low position past contents items aside s → RemembersFor low position past new items aside s
remembered-same low position past contents new items aside s floor versions remembers =
    record {
      floored = subst (λ n. n ≤ low) (sym floor) remembers.floored;
      remembers = subst (λ n. Remembers n position past new items aside s) (sym floor)
          (remembers-same contents.current.floor position past contents new items aside s versions remembers.remembers);
    }

-- from a higher floor on
pub remembers-raised : (floor higher position : ℕ) (past : Past) (contents : Contents) (items : List Work) (aside : List FreeList) (s : Sequencing) → floor ≤ higher
    → Remembers floor position past contents items aside s → Remembers higher position past contents items aside s
remembers-raised floor higher position past contents items aside s rises remembers =
    record { earlier = λ p from below. remembers.earlier p (omega (arith, rises, from)) below; groups = remembers.groups }

-- under a record of another number, with this floor
pub remembers-renumbered : (floor number position : ℕ) (past : Past) (contents : Contents) (items : List Work) (aside : List FreeList) (s : Sequencing)
    → Remembers floor position past contents items aside s → Remembers floor position past (renumbered number floor contents) items aside s
remembers-renumbered floor number position past contents items aside s remembers = record { earlier = remembers.earlier; groups = remembers.groups }

-- ---- as a crash leaves it

pub recalled-each : (low position : ℕ) (past : Past) (contents : Contents) (items : List Work) (aside : List FreeList) (s : Sequencing) → RemembersFor low position past contents items aside s
    → RecallsFor low position past contents
recalled-each low position past contents items aside s remembers =
    record { floored = remembers.floored; recalls = recalls-each contents.current.floor position past contents items aside s remembers.remembers }

-- the standby goes on
pub recalled-on : (low low' position : ℕ) (past : Past) (contents : Contents) → low ≤ low' → RecallsFor low position past contents → RecallsFor low' position past contents
recalled-on low low' position past contents rises recalls = record { floored = omega (arith, rises, recalls.floored); recalls = recalls.recalls }

-- the list is cut at the position
pub recalled-cut : (low position : ℕ) (calls : List Call) (contents : Contents) → RecallsFor low position (past_of calls) contents → RecallsFor low position (past_of (cut_at calls position)) contents
recalled-cut low position calls contents recalls = record {
  floored = recalls.floored;
  recalls = λ p from below.
      subst (Recalls contents.versions (λ i. Unit {0}) p) (sym (keyspace_after-cut_at-cut calls position p (omega (arith, below)))) (recalls.recalls p from below);
}

-- a crash cuts it at the image's position
pub recalls-crashed : (low position : ℕ) (calls : List Call) (contents : Contents) (items : List Work) (aside : List FreeList) (s : Sequencing)
    → RemembersFor low position (past_of calls) contents items aside s → RecallsFor low position (past_of (cut_at calls position)) contents
recalls-crashed low position calls contents items aside s remembers =
    recalled-cut low position calls contents (recalled-each low position (past_of calls) contents items aside s remembers)

-- its oldest gap is cleared
pub recalled-cleared : (low position : ℕ) (past : Past) (contents : Contents) → RecallsFor low position past contents → RecallsFor low position past (cleared_contents contents)
recalled-cleared low position past contents recalls = record { floored = recalls.floored; recalls = recalls.recalls }

-- its floor is its position
pub recalled-none : (low position : ℕ) (past : Past) (contents : Contents) → contents.current.floor ≤ low → position ≤ contents.current.floor → RecallsFor low position past contents
recalled-none low position past contents floored all = record { floored = floored; recalls = λ p from below. absurd (omega (arith, all, from, below)) }

-- of a primary that was formatted
pub opening-none : (low : ℕ) (calls : List Call) (opening : Opening) → opening.position ≡ 0 → opening.floor ≡ 0 → OpeningLeads low 0 calls opening
opening-none low calls opening at floor = record {
  within = omega arith;
  opened_at = at;
  floored = omega (arith, floor);
  leads = λ p from below. absurd (omega (arith, below));
  size = λ p from below. absurd (omega (arith, below));
}

-- the standby goes on
pub opening-on : (low low' opened : ℕ) (calls : List Call) (opening : Opening) → low ≤ low' → OpeningLeads low opened calls opening → OpeningLeads low' opened calls opening
opening-on low low' opened calls opening rises leads = record {
  within = leads.within;
  opened_at = leads.opened_at;
  floored = omega (arith, rises, leads.floored);
  leads = λ p from below. leads.leads p (omega (arith, rises, from)) below;
  size = λ p from below. leads.size p (omega (arith, rises, from)) below;
}

-- and the list grows
pub opening-still : (low low' opened : ℕ) (calls more : List Call) (opening : Opening) → low ≤ low' → OpeningLeads low opened calls opening → OpeningLeads low' opened (calls ++ more) opening
opening-still low low' opened calls more opening rises leads =
    let on = opening-on low low' opened calls opening rises leads in
    record {
      within = omega (arith, on.within, position_of_grows calls more);
      opened_at = on.opened_at;
      floored = on.floored;
      leads = λ p from below.
          ap (λ (s : Keyspace). play_all s (delta_changes opening p)) (keyspace_after-cut_at-append calls more p (omega (arith, below, on.within)))
          ∙ on.leads p from below ∙ sym (keyspace_after-cut_at-append calls more opened on.within);
      size = on.size;
    }

-- it is forgotten once no standby can be below its position
pub opening-forgotten : (low opened : ℕ) (calls : List Call) (opening new : Opening) → new.position ≡ opening.position → new.floor ≡ opening.floor → opened ≤ low
    → OpeningLeads low opened calls opening → OpeningLeads low opened calls new
opening-forgotten low opened calls opening new at floor passed leads = record {
  within = leads.within;
  opened_at = at ∙ leads.opened_at;
  floored = omega (arith, floor, leads.floored);
  leads = λ p from below. absurd (omega (arith, passed, from, below));
  size = λ p from below. absurd (omega (arith, passed, from, below));
}

-- ---- the versions of an image

-- the versions of an image that breaks no rule are in order
pub in_order : (contents : Contents) (image : Image) → Shows contents image → AreInOrder contents
in_order contents image shows = (read_is_of contents image shows).lawful

-- the kind of an entry is that of a field, as `id_of` has it, or that of a string, which has no field
abbrev IsNamed : ℕ → ℕ → Type 0
IsNamed kind field = ((kind == 2) ≡ true) ⊎ (((kind == 2) ≡ false) × (field ≡ 0))

-- the name of a record has the bytes that its entry tells
bytes_of_name : (kind key field : ℕ) (bytes : List ℕ) → IsNamed kind field → key + field ≤ length bytes → bytes_of_id (id_of kind key field bytes) ≡ key + field
bytes_of_name kind key field bytes (inl of_field) fit =
    let named : bytes_of_id (id_of kind key field bytes) ≡ length (take key bytes) + length (take field (drop key bytes)) =
    ap (λ (b : Bool). bytes_of_id (cond b (Field (take key bytes) (take field (drop key bytes))) (Str (take key bytes)))) of_field in
    let left = length-drop key bytes in
    omega (arith, named, length-take-le key bytes (omega (arith, fit)), length-take-le field (drop key bytes) (omega (arith, fit, left)))
bytes_of_name kind key field bytes (inr string) fit =
    let named : bytes_of_id (id_of kind key field bytes) ≡ length (take key bytes) =
    ap (λ (b : Bool). bytes_of_id (cond b (Field (take key bytes) (take field (drop key bytes))) (Str (take key bytes)))) string.0 in
    omega (arith, named, length-take-le key bytes (omega (arith, fit)), string.1)

-- an entry that has just the lines of its bytes has those that its record needs
lines_in : (r : Record) (image : Image) (i : ℕ) → IsNamed (image (entry_word i 5)) (field_bytes image i) → image (entry_word i 4) ≡ lines_of_bytes (entry_bytes image i)
    → (version_in r image i).lines ≡ lines_of_bytes (bytes_of_id (version_in r image i).id + length (version_in r image i).value)
lines_in r image i is_named lines_are =
    let key = key_bytes image i in
    let field = field_bytes image i in
    let bytes = bytes_at image (image (entry_word i 3)) (entry_bytes image i) in
    let all : length bytes ≡ entry_bytes image i = length-bytes_at image (image (entry_word i 3)) (entry_bytes image i) in
    let name = bytes_of_name (image (entry_word i 5)) key field bytes is_named (omega (arith, all)) in
    let value = length-drop (key + field) bytes in
    let same : entry_bytes image i ≡ bytes_of_id (version_in r image i).id + length (version_in r image i).value = omega (arith, name, value, all) in
    lines_are ∙ ap lines_of_bytes same

-- an entry with a version has a begin that counts
version_found : (r : Record) (image : Image) (i : ℕ) (version : Version) (counted : Bool) → counts r (image (entry_word i 0)) ≡ counted → cond counted (Some (version_in r image i)) None ≡ Some version
    → IsTrue (counts r (image (entry_word i 0))) × (version_in r image i ≡ version)
version_found r image i version true is found = (is, cc)
version_found r image i version false is found = cc

-- the versions of an image whose entries obey the format have the lines that they need
pub have_their_lines : (contents : Contents) (image : Image) → Shows contents image → HaveTheirLines contents
have_their_lines contents image shows i version is =
    let within : i < entries_of contents = elim (cases_lt i (entries_of contents)) [
      | inl within ↦ within
      | inr beyond ↦ let none : None ≡ Some version = sym (shows.consistent.beyond i beyond) ∙ is in cc
    ] in
    let found = version_found contents.current image i version (counts contents.current (image (entry_word i 0))) refl (shows.versions i within ∙ is) in
    let entry = (shows.rules.entries i within).whole found.0 in
    let is_named : IsNamed (image (entry_word i 5)) (field_bytes image i) = elim entry.kind [
      | inl string ↦ inr (ap (λ (kind : ℕ). kind == 2) string.0, string.1)
      | inr of_field ↦ inl (ap (λ (kind : ℕ). kind == 2) of_field)
    ] in
    subst (λ (one : Version). one.lines ≡ lines_of_bytes (bytes_of_id one.id + length one.value)) found.1 (lines_in contents.current image i is_named entry.lines_are)
