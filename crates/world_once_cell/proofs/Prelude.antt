-- The names that most proofs here cite, passed on from one place. Declares nothing.
pub use Rattle.std.specs.List.{list_all, sum_by}
pub use Rattle.std.proofs.Common.{◌≡◌, ℕ, ◌+◌, ◌≤◌, if◌then◌else◌, Bool, true, false, List, [], ◌∷◌, refl, arith, ap, sym, ◌∙◌, ◌≢◌, zero, suc, ◌<◌, ◌⊎◌, inl, inr, length, Option, Some, subst, ◌==◌, ◌*◌, get_or, length-set, get_or-set_same, get_or-set_other, replicate, None, ◌&&◌, ◌||◌, is_some, ◌-◌}
pub use Rattle.std.proofs.Math.Decide.{ℕ_discrete}
pub use Rattle.std.proofs.Math.ListN.{set}
pub use Rattle.std.proofs.lemmas.List.Sums.{get_or-le-sum_by, sum_by-set, sum_by-le, sum_by-le-sum_by, sum_by-cons}
pub use Rattle.lock_event.specs.Lists.{is_marked_at, marked_count, mark_waiting, IsMarkedFirst, without, mark_at}
pub use Rattle.lock_event.specs.declared.event.Entry.{Entry}
pub use Rattle.lock_event.specs.declared.event.Mark.TheVariants.{Additional, Waiting as Waits_unmarked, Notified}
pub use Rattle.lock_program.specs.declared.refusal.Refusal.{Refusal}
pub use Rattle.sync_program.specs.declared.once_cell.ListName.{ListName}
pub use Rattle.sync_program.specs.declared.once_cell.ListName.TheVariants.{Active, Passive}
pub use Rattle.sync_program.specs.declared.once_cell.Maker.TheVariants.{Closure, Given}
pub use Rattle.sync_program.specs.declared.once_cell.Place.TheVariants.{Claim, ClaimListed, AskActive, LeaveToMake, NotifyActive, NotifyPassive, TryNotifyActive, TryNotifyPassive, FailNotify, CancelNotify, LeaveFull, LookListed, AskPassive, LeavePassive, CancelLeave, Abandon, JoinActive, JoinPassive, Make, Fill, Fail, RefuseActive, Look, RefusePassive, Try, TryFill, CancelMake}
pub use Rattle.sync_program.specs.declared.once_cell.Position.TheVariants.{Out, ToMake, WaitingToMake, Making, ToWait, Waiting, At}
pub use Rattle.world_base.specs.Frame.{is_drop, is_giving_back, is_poll_after_ready, is_refusal}
pub use Rattle.world_base.specs.Standings.{inside, is_outside, is_outside_stage, is_possible, Standing, outside, forgotten, is_decided, decision, inputs_of, call_in, is_stepped, may_end, refused, IsUndecided}
pub use Rattle.world_base.specs.Steps.{Effect, nothing, changes, does, joins, asks, leaves, notifies, notifies_additionally, ListFunction, list_after}
pub use Rattle.world_base.specs.Whole.{going_on, moves_of, answers_of}
pub use Rattle.world_base.specs.any_world.Steps.{StepsWell, left_by, beginning}
pub use Rattle.world_base.specs.declared.moves.Answer.{Answer}
pub use Rattle.world_base.specs.declared.moves.Call.{Call}
pub use Rattle.world_base.specs.declared.moves.Got.{Got}
pub use Rattle.world_base.specs.declared.moves.Inputs.{Inputs}
pub use Rattle.world_base.specs.declared.moves.Made.{Made}
pub use Rattle.world_base.specs.declared.moves.Move.{Move}
pub use Rattle.world_base.specs.declared.moves.What.{What}
pub use Rattle.world_base.specs.declared.moves.What.TheVariants.{Begin, Go}
pub use Rattle.world_base.specs.declared.standing.Kind.{Kind}
pub use Rattle.world_base.specs.declared.standing.Rest.{Rest}
pub use Rattle.world_base.specs.declared.standing.Stage.{Stage}
pub use Rattle.world_base.specs.declared.standing.Stage.TheVariants.{Outside, Inside, Forgotten}
pub use Rattle.world_base.specs.declared.standing.Within.{Within}
pub use Rattle.world_base.specs.queue.Parties.{is_party, entries_of, is_unmarked}
pub use Rattle.world_base.specs.queue.Queues.{queue, Queue}
pub use Rattle.world_base.specs.table.Lending.{table_with}
pub use Rattle.world_base.specs.table.Stages.{stage_at, stands_as, call_at, polls_again, stage_after}
pub use Rattle.world_base.specs.table.Tables.{Table, Keeps, Acted, new_table}
pub use Rattle.world_base.proofs.Equations.{both, some_eq, none_some, finished_number, not_one, some_none}
pub use Rattle.world_base.proofs.Lists.{counted, mark_some, CanList, joined_own, asked_own, asked_not, left_own, notified_own, notified_additionally_own, Counted, unmarked_before, notified_marked, joined_unmarked}
pub use Rattle.world_base.proofs.of_queue.Marks.{else_marked, never_unlisted, all_marked}
pub use Rattle.world_base.proofs.of_table.Calls.{within, call_seen, again_seen, stands_seen, decided_after, decision_seen, later_ends, decides_so, undecided_so}
pub use Rattle.world_base.proofs.of_table.Mapped.{past_last, mapped_alike, mapped_at}
pub use Rattle.world_base.proofs.of_table.Past.{by_stage_or_past, by_stage_or_past_at, by_stage}
pub use Rattle.world_base.proofs.of_table.Views.{outside_so, rest_seen, outside_at, length-standings, all_idle, standings_at}
pub use Rattle.world_once_cell.specs.AtOnce.{AnswersAtOnce, KeepsLists, TriesAtOnce, MakesAtOnce, WaitsAtOnce, PollsMaker, DropsMaker, AsksAtOnce, is_try, is_poll, would_make, is_first_making, waits_for, is_first_wait, first_answer, maker_answer, got_by}
pub use Rattle.world_once_cell.specs.Laws.{IsSound, IsAwake, IsFreeAndWanted, IsDue, is_due, IsStillThere, is_at_rest, is_long_call, may_be_maker}
pub use Rattle.world_once_cell.specs.Legal.{IsAllowed, Legal, call_of, HasItsOwn, DecidesOn, gives_something_back, IsItsList, MayTell, ChangesOneThing, KnowsTask, Carried, IsGranted, Carries, IsPendingMaker, WaitsInList, Waits, IsCause, IsRefusedForCause, LeavesClear, IsTold, TellsOthers, EndsProperly, HasByTask, IsClear, HasGranted, gives_up}
pub use Rattle.world_once_cell.specs.Runs.{Known, Runs, learn, enters, entered, known_of, Tells, HoldsWell, no_account, value_after}
pub use Rattle.world_once_cell.specs.State.{World, is_full, list_in, standing_of, task_of, HasOneTeller, is_empty, new_world}
pub use Rattle.world_once_cell.specs.Steps.{Steps, IsCellTable, TableSteps, Stands}
pub use Rattle.world_once_cell.specs.Tasks.{task_in, or_before, task_then, makes, list_for, given, is_open}
pub use Rattle.world_once_cell.specs.View.{view_of}
pub use Rattle.world_once_cell.specs.declared.program.words.Content.{Content}
pub use Rattle.world_once_cell.specs.declared.program.words.Content.TheVariants.{Empty, BeingMade, Full}
pub use Rattle.world_once_cell.specs.machine.Machine.{OnceCell, IsCell, IsAtRest, goes_with, runs, is_begun, is_abandoning, is_maker, position_at, AllTold, knows, answer_by, IsKept, is_polling, is_trying, is_cancelling, Acts, is_pending, Moves, with_value, new_cell}
pub use Rattle.world_once_cell.specs.machine.Seats.{fills_with, task_at, makes_at, in_active, in_passive_at, waits, owes, value_known, is_late, will_tell, verdict, is_resting, Seat, seat_of, seated, Task, failed, task_of as place_task, verdict_of, no_task, waits_only, task_by, sets, initializes}
pub use Rattle.world_once_cell.specs.machine.Tally.{tally_of, free_of, Tally, Counts, counts_of}
pub use Rattle.world_once_cell.specs.program.Effects.{Change, begins, fills, empties, content_after, Finds, effect_of, active_after, passive_after, CanDo, everyone, list_of, claimed_after, IsDone, FindsContent, FindsMade, FindsAsk}
pub use Rattle.world_once_cell.specs.program.Program.{Place, Position, action_of, position_after, Found, Action, next_of, place_for, Maker, Next, got_of, got_left}
pub use Rattle.world_once_cell.specs.program.Words.{value_in, content_of, kept_of, content_by, kept_by, refilled}
