-- The names that most proofs here cite, passed on from one place. Declares nothing.
pub use Rattle.std.specs.List.{list_all, sum_by}
pub use Rattle.std.specs.Prelude.{slice_get, is_none}
pub use Rattle.std.proofs.Common.{◌≡◌, ◌≢◌, ℕ, zero, suc, ◌<◌, Bool, true, false, [], ◌∷◌, ◌++◌, length, replicate, Option, Some, None, refl, sym, ap, ◌∙◌, subst, get_or-set_same, set-set, ◌⊎◌, inl, inr, arith, ◌+◌, List, IsSomeAnd, ◌≤◌, map, ◌-◌, get_or, if◌then◌else◌, ◌==◌, length-set, get_or-set_other, IsSome, ◌↔◌, is_some, ◌||◌, ◌&&◌}
pub use Rattle.std.proofs.Math.Decide.{ℕ_discrete}
pub use Rattle.std.proofs.Math.ListN.{set}
pub use Rattle.std.proofs.Math.Seq.{map-set_same}
pub use Rattle.std.proofs.lemmas.Bool.{true≢false, false≢true}
pub use Rattle.std.proofs.lemmas.Bool.Decides.{nat_tests}
pub use Rattle.std.proofs.lemmas.List.Sums.{sum_by-set, sum_by-cons, get_or-le-sum_by, sum_by-le-sum_by}
pub use Rattle.lock_event.specs.Lists.{is_marked_at, marked_count, without, IsMarkedFirst, mark_at, joined, notified, entry, mark_waiting}
pub use Rattle.lock_event.specs.declared.event.Entry.{Entry}
pub use Rattle.lock_event.specs.declared.event.Mark.TheVariants.{Waiting, Notified}
pub use Rattle.lock_program.specs.MutexRoles.{bit, holds, listed, counted, is_resting, waits, owes}
pub use Rattle.lock_program.specs.declared.end.End.{End}
pub use Rattle.lock_program.specs.declared.end.End.TheVariants.{Pending, Refused, Got, GivenBack, NotFree}
pub use Rattle.lock_program.specs.declared.mutex.Action.{Action}
pub use Rattle.lock_program.specs.declared.mutex.Found.{Found}
pub use Rattle.lock_program.specs.declared.mutex.Found.TheVariants.{Done, Free, Held, SomeStarved, Yes, No, AtLimit, NoMemory}
pub use Rattle.lock_program.specs.declared.mutex.LockCall.{LockCall}
pub use Rattle.lock_program.specs.declared.mutex.Place.{Place}
pub use Rattle.lock_program.specs.declared.mutex.Place.TheVariants.{Out, Enter, Holding, Clear, Try, CancelUncount, CancelLeave, Join, Look, Ask, Retry, PassOn, Count, JoinStarved, LookAlone, PassOnListed, AskStarved, Seize, Uncount, Leave, RefuseUncount, RefuseLeave, RefuseNotifyMemory, RefuseNotifyStarved, ReleaseNotify}
pub use Rattle.lock_program.specs.declared.mutex.Step.{Step}
pub use Rattle.lock_program.specs.declared.refusal.Refusal.{Refusal}
pub use Rattle.lock_program.specs.declared.refusal.Refusal.TheVariants.{Starved, Memory, Finished}
pub use Rattle.world_base.specs.Accounts.{Account, accounts_after, account_after, HasByAnswers}
pub use Rattle.world_base.specs.Bounds.{unstarved_in}
pub use Rattle.world_base.specs.Frame.{put_in, is_drop, is_refusal, is_poll_after_ready}
pub use Rattle.world_base.specs.Marks.{MarksNobody}
pub use Rattle.world_base.specs.Rosters.{how_many, is_on}
pub use Rattle.world_base.specs.Standings.{inputs_of, is_outside_stage, Standing, outside, inside, forgotten, is_outside, is_possible, call_in, is_stepped, may_end, is_decided, decision as decided_on, refused, IsUndecided}
pub use Rattle.world_base.specs.Steps.{Effect, nothing, changes, does, joins, asks, leaves, notifies, notifies_additionally, ListFunction, asked}
pub use Rattle.world_base.specs.Whole.{going_on, moves_of, answers_of}
pub use Rattle.world_base.specs.any_world.Steps.{beginning, StepsWell, left_by}
pub use Rattle.world_base.specs.declared.moves.Answer.{Answer}
pub use Rattle.world_base.specs.declared.moves.Call.{Call}
pub use Rattle.world_base.specs.declared.moves.Got.TheVariants.{Value}
pub use Rattle.world_base.specs.declared.moves.Inputs.{Inputs}
pub use Rattle.world_base.specs.declared.moves.Move.{Move}
pub use Rattle.world_base.specs.declared.moves.What.{What}
pub use Rattle.world_base.specs.declared.moves.What.TheVariants.{Begin, Go}
pub use Rattle.world_base.specs.declared.standing.Kind.{Kind}
pub use Rattle.world_base.specs.declared.standing.Rest.{Rest}
pub use Rattle.world_base.specs.declared.standing.Stage.{Stage}
pub use Rattle.world_base.specs.declared.standing.Stage.TheVariants.{Outside, Inside, Forgotten}
pub use Rattle.world_base.specs.declared.standing.Within.{Within}
pub use Rattle.world_base.specs.queue.Parties.{entries_of, is_party}
pub use Rattle.world_base.specs.queue.Queues.{Queue}
pub use Rattle.world_base.specs.table.Stages.{stage_at, call_at, polls_again, stage_after, stands_as}
pub use Rattle.world_base.specs.table.Tables.{Table, Acted, Keeps, Called, new_table}
pub use Rattle.world_base.proofs.Bounds.{marked_listed, one_takes, some_listed}
pub use Rattle.world_base.proofs.Equations.{some_eq, is_some_and, witness, none_some, chosen, some_none, same_test, other_test, not_one, outside_inside, is_granted, granted_eq}
pub use Rattle.world_base.proofs.Lists.{notified_marked, joined_unmarked, counted_by, OneAtMost, own_by, others_by, unchanged, done, Counted, is_there}
pub use Rattle.world_base.proofs.of_any_world.Runs.{along, Onward, first_of, last_of, at_first}
pub use Rattle.world_base.proofs.of_table.Mapped.{past_last, set_same, mapped_alike}
pub use Rattle.world_base.proofs.of_table.Past.{by_stage_or_past_at, by_stage_or_past, by_stage}
pub use Rattle.world_base.proofs.of_table.Calls.{within}
pub use Rattle.world_base.proofs.of_table.Views.{outside_so, rest_seen, outside_stage, outside_at, length-standings, all_idle}
pub use Rattle.world_base.proofs.of_table.Ways.{acted, way, by_way}
pub use Rattle.world_mutex.specs.Bound.{IsSolo, GivesWay, SoloPoll, PassesOver, IsBounded, IsNotified, Promises}
pub use Rattle.world_mutex.specs.Guarded.{Guarded, knows, place_of, answer_by, Carries, Moves, MovesBy, goes_with, Carried, place_for, with_value, is_try_kind, is_within, start_by, lock_call_of, new_guarded}
pub use Rattle.world_mutex.specs.Laws.{is_at_rest, IsSound, IsAwake, IsFreeAndWanted, HasRight, is_long_call, is_due, IsDue}
pub use Rattle.world_mutex.specs.Legal.{HasItsOwn, Legal, state_after, notifies_one, call_of, DecidesOn, ChangesOneThing, IsTakenFairly, OthersKeepTheirs, Carries as CarriesValue, Waits, IsCause, IsRefusedForCause, LeavesClear, IsValueKept, EndsProperly, is_try, is_first_poll, is_later_poll, AnswersAtOnce, is_held, puts}
pub use Rattle.world_mutex.specs.Runs.{Runs, accounts_of, HoldsWell, TellsRights, right_by}
pub use Rattle.world_mutex.specs.State.{World, is_starved, standing_of, State, mark_of, is_free, IsClear, new_world}
pub use Rattle.world_mutex.specs.Steps.{Steps, TableSteps, Stands, IsMutexTable}
pub use Rattle.world_mutex.specs.View.{verdict, view_of, answer_on}
pub use Rattle.world_mutex.specs.declared.program.led.Next.{Next}
pub use Rattle.world_mutex.specs.declared.program.word.Word.{Word}
pub use Rattle.world_mutex.specs.machine.Acts.{Acts, IsMutex, IsStarved, starved, Finds, holders, IsAtRest, TakenFairly}
pub use Rattle.world_mutex.specs.machine.Alone.{HasBegun, further, IsDone}
pub use Rattle.world_mutex.specs.machine.Behind.{reveal, revealed, place_behind, conceal}
pub use Rattle.world_mutex.specs.machine.Conduct.{Asks, TakesAtOnce, CountsNobody, HandsOn, BeginsToHandOn}
pub use Rattle.world_mutex.specs.machine.Course.{Course, out, holding, waiting, taking, releasing, cancelling, undecided, called, counting, has_lock, is_out, is_holding, is_taking, is_releasing, is_cancelling, may_begin, Begins, is_called}
pub use Rattle.world_mutex.specs.machine.Courses.{is_waiting, is_due as is_due_there, Takes, Cancels, GoesOn, HeedsClock, is_counting, is_told, may_tell, Tries, Releases}
pub use Rattle.world_mutex.specs.machine.Effects.{decided_by, entries_after, Change, ListName, for_the_lock, takes, releases, starves, recovers, holder_after, starved_after, gives_back, gives_up, is_release, is_fresh}
pub use Rattle.world_mutex.specs.machine.Legal.{IsLegal, decision, decided_then, IsReason, IsAllowed, IsUnrefused}
pub use Rattle.world_mutex.specs.machine.Machine.{Lock, place_at, SameRoles, IsLock, new_lock}
pub use Rattle.world_mutex.specs.machine.Mutex.{Mutex, course_at, new_mutex}
pub use Rattle.world_mutex.specs.machine.Parties.{OnParties}
pub use Rattle.world_mutex.specs.machine.Ranks.{left, left_after, is_own_marked, is_open, most_steps, steps_left}
pub use Rattle.world_mutex.specs.machine.Seen.{seen, course_of, AreKept, is_kept, steps_from}
pub use Rattle.world_mutex.specs.machine.Solo.{GoesOnAlone, last, step, PollsAlone, at_once, begun, BeginsPoll, IsCalled, Took, StandsBack, GaveWay, unstarved, unstarved_listed, PollsInTurn, SoloPolls}
pub use Rattle.world_mutex.specs.machine.State.{is_counted, holder_of, first_from, is_holder, holder_from, starved_of}
pub use Rattle.world_mutex.specs.machine.Tally.{Tally, tally_of, Counts, counts_of}
pub use Rattle.world_mutex.specs.program.Program.{start_of, action_of, next_of, place_after, led_by, stands_by, step_of, go_to, ends}
pub use Rattle.world_mutex.specs.program.Seats.{OnList, CanDo}
pub use Rattle.world_mutex.specs.program.Words.{OnWord, word}
