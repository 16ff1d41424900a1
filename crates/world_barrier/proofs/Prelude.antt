-- The names that most proofs here cite, passed on from one place. Declares nothing.
pub use Rattle.std.specs.List.{list_all, sum_by}
pub use Rattle.std.proofs.Common.{◌≡◌, ℕ, true, false, Some, None, refl, ◌+◌, ◌⊎◌, inl, inr, if◌then◌else◌, Bool, List, [], ◌∷◌, Option, arith, ap, sym, ◌∙◌, subst, ◌≢◌, zero, suc, ◌*◌, ◌/◌, ◌%◌, ◌^◌, ◌<◌, ◌≤◌, length, get_or, length-set, get_or-set_same, get_or-set_other, replicate, ◌-◌, ◌==◌, ◌||◌, is_some, ◌&&◌, is_none, map}
pub use Rattle.std.proofs.Math.Decide.{ℕ_discrete}
pub use Rattle.std.proofs.Math.ListN.{set}
pub use Rattle.std.proofs.lemmas.Bool.{cases_lt, false≢true, true≢false}
pub use Rattle.std.proofs.lemmas.Bool.Decides.{nat_tests}
pub use Rattle.lock_event.specs.Lists.{is_marked_at, IsMarkedFirst, marked_count, notified, mark_at, without}
pub use Rattle.lock_event.specs.declared.event.Entry.{Entry}
pub use Rattle.lock_program.specs.Refusals.{number_of}
pub use Rattle.lock_program.specs.declared.end.End.{End}
pub use Rattle.lock_program.specs.declared.mutex.Step.{Step as LockStep}
pub use Rattle.lock_program.specs.declared.refusal.Refusal.{Refusal}
pub use Rattle.sync_program.specs.declared.barrier.Action.{Action}
pub use Rattle.sync_program.specs.declared.barrier.Aim.{Aim}
pub use Rattle.sync_program.specs.declared.barrier.Ending.{Ending}
pub use Rattle.sync_program.specs.declared.barrier.Found.{Found}
pub use Rattle.sync_program.specs.declared.barrier.Place.{Place}
pub use Rattle.sync_program.specs.declared.barrier.Place.TheVariants.{EnterLock, WaitLock, TakeLock, Look, Join, Arrive, Complete, ReleaseLock, ReleasingLock, CancelLock, CancellingLock, CancelLeave, Abandon, NotifyAll, Check, JoinAgain, Ask}
pub use Rattle.sync_program.specs.declared.barrier.Position.{Position}
pub use Rattle.sync_program.specs.declared.barrier.Position.TheVariants.{Out, Made, Locking, Waiting, At}
pub use Rattle.world_base.specs.Accounts.{Account, accounts_after, account_after}
pub use Rattle.world_base.specs.Frame.{is_drop, is_poll_after_ready, is_refusal}
pub use Rattle.world_base.specs.Rosters.{is_on, how_many}
pub use Rattle.world_base.specs.Standings.{is_decided, Standing, outside, inside, forgotten, is_outside, is_outside_stage, is_possible, inputs_of, call_in, is_stepped, may_end, refused, IsUndecided, Decides, StandsAfter}
pub use Rattle.world_base.specs.Steps.{Effect, nothing, changes, does, joins, asks, leaves, notifies, notifies_additionally, list_after}
pub use Rattle.world_base.specs.Whole.{going_on, moves_of, answers_of}
pub use Rattle.world_base.specs.any_world.Steps.{StepsWell, left_by, beginning}
pub use Rattle.world_base.specs.declared.moves.Answer.{Answer}
pub use Rattle.world_base.specs.declared.moves.Call.{Call}
pub use Rattle.world_base.specs.declared.moves.Got.{Got}
pub use Rattle.world_base.specs.declared.moves.Inputs.{Inputs}
pub use Rattle.world_base.specs.declared.moves.Move.{Move}
pub use Rattle.world_base.specs.declared.moves.What.{What}
pub use Rattle.world_base.specs.declared.moves.What.TheVariants.{Begin, Go}
pub use Rattle.world_base.specs.declared.standing.Kind.{Kind}
pub use Rattle.world_base.specs.declared.standing.Rest.{Rest}
pub use Rattle.world_base.specs.declared.standing.Stage.{Stage}
pub use Rattle.world_base.specs.declared.standing.Stage.TheVariants.{Outside, Inside, Forgotten}
pub use Rattle.world_base.specs.declared.standing.Within.{Within}
pub use Rattle.world_base.specs.queue.Parties.{is_party, entries_of, is_unmarked}
pub use Rattle.world_base.specs.queue.Queues.{queue, Queue}
pub use Rattle.world_base.specs.table.Ends.{answer_of}
pub use Rattle.world_base.specs.table.Stages.{stage_at, stands_as, stage_after, call_at, polls_again}
pub use Rattle.world_base.specs.table.Tables.{Table, Keeps, Acted, new_table}
pub use Rattle.world_base.proofs.Equations.{decided_inside, outside_says, inside_begins, both, some_eq, none_some, not_one, same_test}
pub use Rattle.world_base.proofs.Lists.{joined_unmarked, joined_own, asked_own, asked_not, left_own, notified_own, unmarked_before}
pub use Rattle.world_base.proofs.of_any_world.Runs.{Onward, along}
pub use Rattle.world_base.proofs.of_table.Calls.{within, decides_so, undecided_so, call_seen, again_seen, stands_seen, decided_after, decision_seen}
pub use Rattle.world_base.proofs.of_table.Past.{by_stage_or_past, by_stage_or_past_at, inside_or_past}
pub use Rattle.world_base.proofs.of_table.Views.{outside_so, none_decided, inside_as, rest_seen, outside_at, all_idle, standings_at, outside_stage}
pub use Rattle.world_base.proofs.of_table.Ways.{way, by_way, acted, onward}
pub use Rattle.world_mutex.specs.machine.Alone.{GaveWay, StandsBack, HasBegun, HasGoneOn, GoesOnAlone, last, further, PollsAlone, at_once, begun, Took, IsCalled, SoloPolls}
pub use Rattle.world_mutex.specs.machine.Conduct.{IsLegal, IsReason, decided_then, IsAllowed as MayDo, HandsOn}
pub use Rattle.world_mutex.specs.machine.Course.{Course, bit, counted as starved_there, listed as listed_there, is_resting as rests_there, taking, releasing, undecided, called, counting, has_lock, gives_up as giving_up, is_out, is_holding, is_waiting, is_cancelling, is_due as is_due_there, holds, Takes, Releases, Cancels, is_counting, is_releasing, decision, may_tell, out, holding, waiting, cancelling, is_taking, is_told}
pub use Rattle.world_mutex.specs.machine.Mutex.{course_at, IsAtRest as LockAtRest, Mutex, left_after as lock_left_after, steps_left as lock_steps_left, IsMutex, holder_from, holders, new_mutex, starved, holder_of, starved_of, IsStarved}
pub use Rattle.world_mutex.proofs.of_machine.callers.Callers.{out_rests, waiting_rests, out_unlisted, holding_unlisted, listed_once, may_lock, may_poll, may_cancel, may_release, holding_holds, out_free, waiting_free, new_is_out, new_parties, waiting_listed, IsPolls, releasing_free, out_unstarved, taking_decided, releasing_decided, cancelling_decided, new_has_no_holder, new_has_none_starved, gave_way, out_uncounted, waiting_uncounted}
pub use Rattle.world_mutex.proofs.of_machine.callers.Holders.{held_at, none_held, holds_it, held_seen, how_many_counted}
pub use Rattle.world_barrier.specs.AtOnce.{TakesAtOnce, AnswersAtOnce, entries_in, is_first_poll, is_later_poll, is_dropping}
pub use Rattle.world_barrier.specs.Bound.{GivesWay, PassesOver, IsBounded, WaitsOn, ComesTo, IsSolo, IsNotified, IsToldOfLock, SoloPoll, Promises}
pub use Rattle.world_barrier.specs.Changes.{Change, takes, releases, starves, recovers, arrives, arrivals_after, lock_after, wait_then, wait_after, lock_list_after, gives_back, gives_up, generation_list_after}
pub use Rattle.world_barrier.specs.Laws.{IsSound, IsAwake, IsWanted, IsStillThere, is_at_rest, is_long_call, is_due, is_refused, IsDue}
pub use Rattle.world_barrier.specs.Legal.{Legal, HasItsOwn, call_of, DecidesOn, MayTake, IsAllowed, ChangesOneThing, TellsOnRelease, IsTakenFairly, Carried, Carries, Waits, IsCause, IsRefusedForCause, LeavesClear, EndsProperly, HasToWait, IsAnswered, IsAsBefore, IsCounted}
pub use Rattle.world_barrier.specs.Numbers.{Leads, generations_of, IsFinished, count_of}
pub use Rattle.world_barrier.specs.Runs.{Runs, is_leaders, leaders_in, leaders, known_of, TellsNoRights, HoldsWell, no_account}
pub use Rattle.world_barrier.specs.State.{World, standing_of, wait_of, list_in, is_starved, is_held_by, IsClear, is_free, has_to_tell, LockState, told_in, new_world}
pub use Rattle.world_barrier.specs.Steps.{IsBarrierTable, Stands, Steps, TableSteps}
pub use Rattle.world_barrier.specs.View.{verdict_in, view_of, waits_of}
pub use Rattle.world_barrier.specs.declared.program.words.Progress.{Progress}
pub use Rattle.world_barrier.specs.declared.program.words.Words.{Words}
pub use Rattle.world_barrier.specs.declared.world.ListName.{ListName}
pub use Rattle.world_barrier.specs.declared.world.ListName.TheVariants.{Lock, Generation}
pub use Rattle.world_barrier.specs.machine.Machine.{Barrier, IsBarrier, HasArrived, IsAtRest, goes_with, is_begun, is_abandoning, runs, position_at, arrival_at, knows, answer_by, IsKept, AreApart, AllTold, new_barrier, is_polling, Moves, Acts, is_own_marked, steps_left, left_from, left_after}
pub use Rattle.world_barrier.specs.machine.Roles.{fits_lock, in_lock, listed, follows, HasOutcome, Outcome, is_resting, Sure, InLock, holds as holds_there, is_late, will_tell, ending_listed, ending_follows}
pub use Rattle.world_barrier.specs.machine.Waits.{Wait, no_wait, uncounted, counted, is_counted, wait_for, wait_until, wait_of as place_wait, wait_at, verdict, verdict_of, refused_by, verdict_until}
pub use Rattle.world_barrier.specs.program.Effects.{Finds, words_after, arrival_after, entries_after, CanDo, everyone, FindsAsk}
pub use Rattle.world_barrier.specs.program.Locks.{OnLock, LockBegins, LockGoesOn}
pub use Rattle.world_barrier.specs.program.Program.{action_of, position_after, next_of, after_lock, after_cancel, after_release, released, place_for, Next, got_left, with_lock, position_left, start_of}
pub use Rattle.world_barrier.specs.program.Words.{progress, arrivals_at, IsPast, IsWithin, IsFollower, new_words, with_progress}
