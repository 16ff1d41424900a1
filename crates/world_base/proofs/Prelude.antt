-- The names that most proofs here cite, passed on from one place. Declares nothing.
pub use Rattle.std.specs.List.{sum_by, list_all}
pub use Rattle.std.proofs.Common.{◌≡◌, ℕ, zero, suc, get_or, replicate, refl, arith, ◌+◌, ◌<◌, ◌≤◌, if◌then◌else◌, Bool, true, false, List, [], ◌∷◌, length, ◌==◌, Option, Some, None, IsSomeAnd, sym, subst, ◌≢◌, ◌-◌, ap, ◌∙◌, ◌⊎◌, inl, inr, ◌&&◌, ◌++◌, length-append, append_assoc, take, vec_capacity, ◌*◌, IsTrue, get_or-set_same, get_or-set_other, length-set, eq-eqb, slice_get, ◌||◌, is_some, map, drop, add-one, rules}
pub use Rattle.std.proofs.Math.ListN.{set}
pub use Rattle.std.proofs.lemmas.Bool.Decides.{nat_tests}
pub use Rattle.std.proofs.lemmas.List.{take_more, take_all, length-replicate, replicate-append-replicate, get_or_default}
pub use Rattle.std.proofs.lemmas.List.Sums.{sum_by-cons, get_or-le-sum_by, sum_by-set, sum_by-le}
pub use Rattle.std.proofs.lemmas.Option.{none-some, same_Some, slice_get_past}
pub use Rattle.lock_event.specs.Lists.{is_marked, marked_count, is_marked_at, IsMarkedFirst, entry, notified, mark_waiting, without, mark_at, is_listed, joined, key_at, with_key, passed_on, left}
pub use Rattle.lock_event.specs.Slots.{has_id, slot_of}
pub use Rattle.lock_event.specs.declared.event.Entry.{Entry}
pub use Rattle.lock_event.specs.declared.event.Mark.{Mark}
pub use Rattle.lock_event.specs.declared.event.Mark.TheVariants.{Waiting, Notified, Additional}
pub use Rattle.lock_program.specs.declared.refusal.Refusal.{Refusal}
pub use Rattle.world_base.specs.Frame.{call_of, IsPossible, EndsProperly, is_poll_after_ready, IsRefusedForCause}
pub use Rattle.world_base.specs.Runs.{Runs}
pub use Rattle.world_base.specs.Standings.{outside, inside, refused, is_outside_stage, Standing, call_in, is_outside, is_possible, decision, StandsAfter, is_stepped, forgotten, is_decided, may_end, Decides, forgets}
pub use Rattle.world_base.specs.Whole.{going_on, moves_of, answers_of}
pub use Rattle.world_base.specs.any_world.Steps.{left_by, known_by, KeepsPromises, beginning}
pub use Rattle.world_base.specs.declared.moves.Answer.{Answer}
pub use Rattle.world_base.specs.declared.moves.Call.{Call}
pub use Rattle.world_base.specs.declared.moves.Inputs.{Inputs}
pub use Rattle.world_base.specs.declared.moves.Move.{Move}
pub use Rattle.world_base.specs.declared.moves.What.{What}
pub use Rattle.world_base.specs.declared.moves.What.TheVariants.{Begin, Go}
pub use Rattle.world_base.specs.declared.standing.Rest.{Rest}
pub use Rattle.world_base.specs.declared.standing.Rest.TheVariants.{Idle, Pending, Holding, Finished}
pub use Rattle.world_base.specs.declared.standing.Stage.{Stage}
pub use Rattle.world_base.specs.declared.standing.Stage.TheVariants.{Forgotten, Outside, Inside}
pub use Rattle.world_base.specs.declared.standing.Within.{Within}
pub use Rattle.world_base.specs.queue.Parties.{is_party, entries_of, is_unmarked, by_party, party_of, rekeyed}
pub use Rattle.world_base.specs.queue.Queues.{IsWaiting, IsQueue, queue}
pub use Rattle.world_base.specs.queue.Seats.{seat_of, Joins, Departs, Asked, IsSeated, IsSeatedIf, IsSeatOf, taken, seat_at}
pub use Rattle.world_base.specs.queue.Weighted.{unladen, unweighed, weight_in, IsWeighed, IsWeightedWaiting, IsWeightedQueue, IsListedSeat, JoinsWeighted, DepartsWeighted, AskedWeighted, weighted_queue, weighted_seat}
pub use Rattle.world_base.specs.table.Stages.{stage_at, stands_as, stage_after, call_at, polls_again}
pub use Rattle.world_base.specs.table.Tables.{Table, IsTable, Acted, Does, IsStep}
pub use Rattle.world_base.specs.table.Views.{standings, standings_from}
