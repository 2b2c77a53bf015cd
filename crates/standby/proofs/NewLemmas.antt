-- New images, and the tables and heaps that follow them.
use Rattle.std.proofs.Common.{◌≡◌, ℕ, ◌<◌, ◌≤◌, ◌↔◌, [], IsTrue, None, ap, ap₂, sym, subst, ◌∙◌, arith}
use Rattle.std.proofs.lemmas.Bool.{true≢false}
use Rattle.std.proofs.lemmas.Option.{none-some}
use Rattle.model.specs.declared.layout.TheConstants.{LAYOUT}
use Rattle.model.specs.Layout.{entries_of_lines, first_extent_line}
use Rattle.model.specs.Group.{Contents, IsConsistent, is_ended_version, entries_of}
use Rattle.model.specs.declared.record.Role.{Role}
use Rattle.extent_heap.specs.Room.{Room, is_free_entry, is_free_line}
use Rattle.mv_keyspace.specs.Table.{Table, IsTable}
use Rattle.mv_keyspace.proofs.PartTables.{table-none}
use Rattle.wbl_engine.specs.Contents.{IsNew}
use Rattle.placing.specs.Back.{HasOut, has_version}
use Rattle.placing.specs.Left.{IsLeftOf}
use Rattle.placing.proofs.CountLemmas.{none_counted}
use Rattle.standby.specs.Following.{Follows}

-- the heap has all lines and entries of a new image
pub record HasAll (lines : ℕ) (room : Room) : Type 0 where
  pub lines_free : (line : ℕ) → IsTrue (is_free_line room line) ↔ ((first_extent_line lines ≤ line) × (line < lines))
  pub entries_free : (i : ℕ) → IsTrue (is_free_entry room i) ↔ (i < entries_of_lines LAYOUT lines)
  pub end_line : room.end_line ≡ lines
  pub end_entry : room.end_entry ≡ entries_of_lines LAYOUT lines

pub new-table : (lines : ℕ) (role : Role) (epoch : ℕ) (contents : Contents) (table : Table) → IsNew lines role epoch contents → table ≡ [] → IsTable contents.versions table
new-table lines role epoch contents table new empty = subst (IsTable contents.versions) (sym empty) (table-none contents.versions new.versions)

entries-left : (lines : ℕ) (role : Role) (epoch : ℕ) (contents : Contents) (room : Room) → IsNew lines role epoch contents → HasAll lines room
    → (i : ℕ) → IsTrue (is_free_entry room i) → (i < entries_of contents) × IsTrue (contents.is_free i) × (contents.versions i ≡ None)
entries-left lines role epoch contents room new all i free =
    let within : i < entries_of contents = subst (λ n. i < n) (sym (ap₂ entries_of_lines new.layout new.line_count)) ((all.entries_free i).0 free) in
    (within, new.is_free i within, new.versions i)

lines-left : (lines : ℕ) (role : Role) (epoch : ℕ) (contents : Contents) (room : Room) → IsNew lines role epoch contents → HasAll lines room
    → (line : ℕ) → IsTrue (is_free_line room line) → (first_extent_line contents.lines ≤ line) × (line < contents.lines)
lines-left lines role epoch contents room new all line free =
    subst (λ n. (first_extent_line n ≤ line) × (line < n)) (sym new.line_count) ((all.lines_free line).0 free)

pub left-new : (lines : ℕ) (role : Role) (epoch : ℕ) (contents : Contents) (room : Room) → IsNew lines role epoch contents → HasAll lines room → IsLeftOf contents room
left-new lines role epoch contents room new all = record {
  entries = entries-left lines role epoch contents room new all;
  lines = lines-left lines role epoch contents room new all;
  apart = λ i version begun. absurd (none-some version (sym (new.versions i) ∙ begun));
}

pub new-consistent : (lines : ℕ) (role : Role) (epoch : ℕ) (contents : Contents) → IsNew lines role epoch contents → IsConsistent contents
new-consistent lines role epoch contents new = record { free = λ i free. new.versions i; beyond = λ i past. new.versions i }

-- nothing is out of the heap
out-new : (lines : ℕ) (role : Role) (epoch : ℕ) (contents : Contents) (room : Room) → IsNew lines role epoch contents → HasAll lines room → HasOut contents room 0
out-new lines role epoch contents room new all =
    let none = none_counted contents.versions (entries_of contents) (λ i lt. ap has_version (new.versions i)) in
    record {
      end_line = all.end_line ∙ sym new.line_count;
      end_entry = all.end_entry ∙ sym (ap₂ entries_of_lines new.layout new.line_count);
      held = omega (arith, none);
    }

pub follows-new : (lines : ℕ) (role : Role) (epoch : ℕ) (contents : Contents) (table : Table) (room : Room) → IsNew lines role epoch contents → HasAll lines room → table ≡ []
    → Follows contents table room []
follows-new lines role epoch contents table room new all empty =
    record {
      consistent = new-consistent lines role epoch contents new;
      left = left-new lines role epoch contents room new all;
      table_is = new-table lines role epoch contents table new empty;
      apart = λ i j v w differ is_v is_w. absurd (none-some v (sym (new.versions i) ∙ is_v));
      out = out-new lines role epoch contents room new all;
      listed = tt;
      all = λ i is. absurd (true≢false (sym is ∙ ap is_ended_version (new.versions i)));
    }
