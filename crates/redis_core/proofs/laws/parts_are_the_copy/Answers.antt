use Rattle.std.proofs.Common.{◌≡◌, Option, sym, subst, ◌∙◌}
use Rattle.kv_types.specs.declared.record_id.RecordId.{RecordId}
use Rattle.mv_keyspace.specs.Paging.{rows_after}
use Rattle.mv_keyspace.proofs.TableMembers.{is_sorted-records}
use Rattle.redis_core.proofs.CopyLemmas.{all-rows, parts-end, parts-same, parts-whole, parts-within}
use Rattle.redis_core.proofs.laws.parts_are_the_copy.Goals as goal

pub returns : goal.returns
returns c = record {
  whole = λ bytes copy parts lawful first are.
      parts-whole bytes copy parts (sym (is_sorted-records copy.rows) ∙ lawful.sorted) are
      ∙ subst (λ (after : Option RecordId). rows_after after copy.rows ≡ copy.rows) (sym first) (all-rows copy.rows);
  within = parts-within;
  ends = λ bytes copy lawful. parts-end bytes copy (sym (is_sorted-records copy.rows) ∙ lawful.sorted);
  same = parts-same;
}
