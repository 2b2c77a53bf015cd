-- The lemmas of the crates below that several files here cite.
pub use Rattle.connections.proofs.SessionLemmas.{length-released, on_err_from, released-told}
pub use Rattle.group_commit.proofs.FreedLemmas.{AllEnded-listed}
pub use Rattle.group_commit.proofs.GroupsLemmas.{Same-is}
pub use Rattle.machine.proofs.GroupLemmas.{chain-le}
pub use Rattle.machine.proofs.GrowLemmas.{grows-step}
pub use Rattle.machine.proofs.PromiseLemmas.{released-held}
pub use Rattle.machine.proofs.RunLemmas.{sound-start}
pub use Rattle.machine.proofs.SoundEvents.{sound-step}
pub use Rattle.machine.proofs.StandbyLemmas.{all-at}
pub use Rattle.machine.proofs.StandingLemmas.{rests-Fails}
pub use Rattle.machine.proofs.SureLemmas.{IsAt, remains-primary, retired-still}
pub use Rattle.model.proofs.CallsLemmas.{IsKeyspace-keyspace_after, keyspace_after-cut_at-append, position_of-cut_at, position_of_grows}
pub use Rattle.model.proofs.DirectoryLemmas.{entries_same}
pub use Rattle.model.proofs.PositionsLemmas.{keyspace_after-cut_at-since}
pub use Rattle.model.proofs.RecordLemmas.{HasRecord-lines}
pub use Rattle.model.proofs.StandingLemmas.{Holds-versions}
pub use Rattle.mv_keyspace.proofs.PartTables.{map-from_table}
pub use Rattle.node_steps.proofs.EngineLemmas.{AreContentsAt-grows, EngineStands-grows}
pub use Rattle.node_steps.proofs.GroupSpanLemmas.{length-groups}
pub use Rattle.pmem.proofs.Leaving.{LeavesOnly-then, LeavesOnly-weaken, none_leaves}
pub use Rattle.primary.proofs.AheadLemmas.{laid-engine}
pub use Rattle.primary.proofs.NumberedLemmas.{lawful_raised, leads_renumbered}
pub use Rattle.standby.proofs.NewLemmas.{HasAll}
pub use Rattle.std.proofs.Math.Nat.{le-max_left}
pub use Rattle.std.proofs.lemmas.Bool.{and_parts, cases_lt, eqb-false, eqb-true, le-leb, le-ltb, lt-ltb, ltb-true, or_right}
pub use Rattle.std.proofs.lemmas.List.{length-drop, length-map, map-append}
pub use Rattle.std.proofs.lemmas.List.Elements.{All-append, All-cons, All-head, All-nil, All-tail}
pub use Rattle.std.proofs.lemmas.Option.{slice_get-get_or, slice_get_within}
pub use Rattle.std.proofs.lemmas.Result.{IfOk-weaker, err_from_is_err_and}
pub use Rattle.wbl_engine.proofs.LawfulLemmas.{group_lawful, lawful_undamaged}
pub use Rattle.wbl_engine.proofs.WithoutLemmas.{AllEnded, lawful_without}
