-- The names that most proofs here cite, passed on from one place. Declares nothing.
pub use Rattle.std.specs.List.{list_all, sum_by}
pub use Rattle.std.proofs.Common.{◌≡◌, ◌≢◌, ℕ, zero, suc, ◌<◌, Bool, true, [], ◌∷◌, ◌++◌, length, replicate, refl, sym, ap, ◌∙◌, subst, arith, get_or-set_same, length-set, set-set, ◌⊎◌, inl, inr, false, map, Option, ◌≤◌, List, Some, None, IsSomeAnd, ◌+◌, get_or, ◌-◌, nat_eq, get_or-set_other, ◌==◌, if◌then◌else◌, is_some, ◌&&◌, ◌↔◌, ◌||◌, nat_lt, not}
pub use Rattle.std.proofs.Math.Decide.{ℕ_discrete}
pub use Rattle.std.proofs.Math.ListN.{set}
pub use Rattle.std.proofs.lemmas.Bool.{false≢true, and_parts, cases_Bool, true≢false, eqb-true, eq-eqb, ltb-true, lt-ltb}
pub use Rattle.std.proofs.lemmas.Bool.Decides.{nat_tests}
pub use Rattle.std.proofs.lemmas.List.{set-get_or, length-replicate, length-map, map-set}
pub use Rattle.std.proofs.lemmas.List.Sums.{sum_by-cons, get_or-le-sum_by, sum_by-set, sum_by-le-sum_by}
pub use Rattle.lock_event.specs.Lists.{is_marked_at, marked_count, IsMarkedFirst, without, notified}
pub use Rattle.lock_event.specs.declared.event.Entry.{Entry}
pub use Rattle.lock_program.specs.Refusals.{number_of}
pub use Rattle.lock_program.specs.declared.end.End.{End}
pub use Rattle.lock_program.specs.declared.end.End.TheVariants.{Got, Pending, Refused, Granted, NotFree, GivenBack}
pub use Rattle.lock_program.specs.declared.mutex.LockCall.{LockCall}
pub use Rattle.lock_program.specs.declared.mutex.Step.{Step as TurnStep}
pub use Rattle.lock_program.specs.declared.refusal.Refusal.{Refusal}
pub use Rattle.sync_program.specs.declared.rwlock.Action.{Action}
pub use Rattle.sync_program.specs.declared.rwlock.Ending.{Ending}
pub use Rattle.sync_program.specs.declared.rwlock.Found.{Found}
pub use Rattle.sync_program.specs.declared.rwlock.Found.TheVariants.{Done, Writer, NoneLeft, Yes, Turn, Full, SomeLeft, NoMemory, No}
pub use Rattle.sync_program.specs.declared.rwlock.Place.{Place}
pub use Rattle.sync_program.specs.declared.rwlock.Place.TheVariants.{Out, Made, Reading, Upgradable, Writing, JoinNoWriter, AskNoWriter, WaitTurn, JoinNoReaders, AwaitNoReaders, LookUnlisted, EnterRead, LookNoWriter, PassOn, LeaveNoWriter, RefuseLeave, RefuseNotify, CancelRead, TryRead, EnterTurn, TakeTurn, TryTurn, CancelTurn, CancellingTurn, ReleaseTurn, ReleasingTurn, Add, TryUpgrade, Upgrade, Mark, TryWrite, LookNoReaders, AskNoReaders, LeaveNoReaders, DropRead, DropReadNotify, DropUpgradable, DropUpgradableNotify, DropWrite, CancelAwait, Unmark, UnmarkNotify, Down, DownNotify, DowngradeNotify}
pub use Rattle.sync_program.specs.declared.rwlock.Purpose.{Purpose}
pub use Rattle.sync_program.specs.declared.rwlock.Wanted.{Wanted}
pub use Rattle.world_base.specs.Accounts.{Account, accounts_after, HasByAnswers, sought_after, takes_away, has_after, account_after, aim}
pub use Rattle.world_base.specs.Frame.{put_in, is_poll_after_ready, is_refusal, is_drop, is_giving_back}
pub use Rattle.world_base.specs.Rights.{Right, read, upgradable, write, wait_to_write, excludes}
pub use Rattle.world_base.specs.Rosters.{how_many, is_on}
pub use Rattle.world_base.specs.Standings.{inputs_of, outside, is_outside_stage, is_outside, is_decided, forgotten, is_possible, Standing, inside, kind_of, may_begin, call_in, may_end, refused, leaves_as_it_was, StandsAfter, IsUndecided, is_stepped}
pub use Rattle.world_base.specs.Steps.{ListFunction, joins, asks, leaves, notifies, list_after, Effect, changes, nothing, does, notifies_additionally}
pub use Rattle.world_base.specs.Whole.{going_on, moves_of, answers_of}
pub use Rattle.world_base.specs.any_world.Steps.{StepsWell, left_by, beginning}
pub use Rattle.world_base.specs.declared.moves.Answer.{Answer}
pub use Rattle.world_base.specs.declared.moves.Call.{Call}
pub use Rattle.world_base.specs.declared.moves.Got.TheVariants.{Value}
pub use Rattle.world_base.specs.declared.moves.Inputs.{Inputs}
pub use Rattle.world_base.specs.declared.moves.Move.{Move}
pub use Rattle.world_base.specs.declared.moves.What.{What}
pub use Rattle.world_base.specs.declared.moves.What.TheVariants.{Begin, Go}
pub use Rattle.world_base.specs.declared.standing.Kind.{Kind}
pub use Rattle.world_base.specs.declared.standing.Rest.{Rest}
pub use Rattle.world_base.specs.declared.standing.Rest.TheVariants.{Holding, Idle, Finished}
pub use Rattle.world_base.specs.declared.standing.Stage.{Stage}
pub use Rattle.world_base.specs.declared.standing.Stage.TheVariants.{Outside, Inside, Forgotten}
pub use Rattle.world_base.specs.declared.standing.Within.{Within}
pub use Rattle.world_base.specs.queue.Parties.{is_party, entries_of}
pub use Rattle.world_base.specs.queue.Queues.{Queue, queue}
pub use Rattle.world_base.specs.table.Rights.{account_by, TellsAccounts}
pub use Rattle.world_base.specs.table.Stages.{stage_at, stage_after, call_at, polls_again, stands_as}
pub use Rattle.world_base.specs.table.Tables.{Table, Keeps, Called, new_table, IsTable}
pub use Rattle.world_base.proofs.Equations.{decided_inside, outside_says, inside_begins, some_eq, is_some_and, none_some, chosen, same_test, other_test, both, some_none, outside_inside, is_granted, granted_eq, witness}
pub use Rattle.world_base.proofs.Lists.{joined_unmarked, CanList, done, counted_by, own_by, others_by, notified_marked, others}
pub use Rattle.world_base.proofs.of_any_world.Runs.{first_of, last_of, along, Onward}
pub use Rattle.world_base.proofs.of_table.Calls.{within, call_seen, again_seen, decided_after, decision_seen, stands_seen}
pub use Rattle.world_base.proofs.of_table.Mapped.{set_same, mapped_at, past_last, mapped_alike}
pub use Rattle.world_base.proofs.of_table.Past.{inside_or_past, by_stage_or_past}
pub use Rattle.world_base.proofs.of_table.Views.{outside_so, none_decided, inside_as, rest_seen, outside_stage, outside_at, standings_at, length-standings, all_idle}
pub use Rattle.world_mutex.specs.machine.Conduct.{IsLegal, decided_then, IsReason, IsAllowed as MayDo, HandsOn}
pub use Rattle.world_mutex.specs.machine.Course.{Course as TurnCourse, listed, out, holding, taking, releasing, undecided, called, counting, has_lock, gives_up as giving_up, is_out, is_holding, is_waiting, is_cancelling, is_releasing, is_due, counted, is_resting as rests_in_turn, holds, Takes, Tries, Releases, Cancels, is_counting, decision, waiting as waiting_there, is_taking, cancelling, may_tell, is_told}
pub use Rattle.world_mutex.specs.machine.Effects.{most_steps as most_turn_steps, decided_by}
pub use Rattle.world_mutex.specs.machine.Mutex.{course_at as turn_at, IsStarved, holders, starved, holder_of, is_counted, steps_left as turn_steps_left, Mutex, left_after as turn_left_after, IsMutex, IsAtRest as IsTurnAtRest, new_mutex, TakenFairly, starved_of, is_holder}
pub use Rattle.world_mutex.proofs.of_machine.callers.Callers.{out_unlisted, holding_unlisted, gave_way, may_lock, may_try, may_poll, may_cancel, may_release, out_rests, holding_rests, waiting_rests, listed_once, new_is_out, new_parties, holding_holds, first_marked, out_free, waiting_listed, waiting_free, releasing_free, out_unstarved, holding_unstarved, releasing_decided, cancelling_decided, IsPolls, taking_decided, new_has_no_holder, new_has_none_starved, out_uncounted, holding_uncounted, waiting_uncounted}
pub use Rattle.world_rwlock.specs.Bound.{IsSoloForTurn, IsToldOfTurn, IsToldToRead, IsSoloToWrite, TakesTurn, GivesTurnWay, SoloPollForTurn, TakesToRead, TakesToWrite, Promises, PassesTurnOver, IsTurnBounded, IsReadingBounded, IsWritingBounded}
pub use Rattle.world_rwlock.specs.Changes.{turn_after, readers_after, IsAllowed, Change, takes_turn, leaves_turn, starves, recovers, begins_to_read, stops_reading, becomes_upgradable, stops_upgradable, begins_to_wait, begins_to_write, upgrades_at_once, unmarks, downgrades_to_upgradable, puts, starved_after, value_after, gives_back, entries_after, gives_up}
pub use Rattle.world_rwlock.specs.Guarded.{Guarded, answer_by, Does, with_value, parties, knows as knows_there, Moves as MovesThere, place_for, place_of, Acted, new_guarded}
pub use Rattle.world_rwlock.specs.Laws.{is_at_rest, IsSound, IsAwake, IsTurnWanted, IsReadingWanted, IsWritingWanted, is_due_for_turn, is_due_to_readers, is_due_to_writer, is_drop_kind, is_refused, is_to_read, OwesIn, HasRight, IsDueForTurn, IsDueToReaders, IsDueToWriter, is_long_call}
pub use Rattle.world_rwlock.specs.Legal.{HasItsOwn, knows_of, HasJust, knows, Legal, call_of, DecidesOn, AsksIn, is_first_poll, is_try_for_turn, MayMeet, IsCause, HasSought, may_read, granted_if, AnswersAtOnce, TellsOnRelease, LeavesLists, IsPossible, ChangesOneThing, LeavesClear, Carries, Waits, list_for, IsRefusedForCause, IsValueKept, EndsProperly, KeepsUpgrades, HasNothing, is_first}
pub use Rattle.world_rwlock.specs.Runs.{Runs, accounts_of, HoldsWell, TellsRights, right_by, right_in, HasJustItsRights, HasItsRights}
pub use Rattle.world_rwlock.specs.Stages.{Course, upgrades, course_of, is_on_course, is_future, goes_with, sought_at, drops, tries_upgrade, is_inside, right_for, tries, polls, downgrades, strays, course_until, is_guard}
pub use Rattle.world_rwlock.specs.State.{World, nobody, is_upgradable, waits_to_write, standing_of, is_starved, is_upgrader, how_many_read, is_marked, for_the_turn, for_no_readers, for_no_writer, HasTurn, entries_in, ListName, list_of, passes, sought_by, is_for_turn, told_in, is_nobody, is_turn_free, State, IsClear, nothing_owed, owes_in, has_to_tell, new_world}
pub use Rattle.world_rwlock.specs.Steps.{Stands, Steps as Moved, IsRwLockTable, TableSteps}
pub use Rattle.world_rwlock.specs.View.{upgrading, waiting, writing, turn_as, share_of, turn_by, is_reading, is_upgrade, verdict, standing_at, view_of, verdict_of, Share, passing, seen, verdict_until, refused_by, owing_at}
pub use Rattle.world_rwlock.specs.Whole.{IsWholeCall, most_steps_of, steps_left_of}
pub use Rattle.world_rwlock.specs.declared.program.led.Next.{Next}
pub use Rattle.world_rwlock.specs.declared.program.word.Word.{Word}
pub use Rattle.world_rwlock.specs.machine.Acts.{Acts, IsRwLock, readers, IsAtRest, writers, marked, Finds}
pub use Rattle.world_rwlock.specs.machine.Machine.{place_at, RwLock, SameRoles, IsMachine}
pub use Rattle.world_rwlock.specs.machine.Ranks.{left, left_from, left_after, most_steps, steps_left}
pub use Rattle.world_rwlock.specs.machine.Roles.{has_turn, in_no_writer, in_no_readers, fits_turn, waits_no_writer, owes_no_writer, waits_no_readers, owes_no_readers, is_resting, bit, reads, marks, writes, only_turns}
pub use Rattle.world_rwlock.specs.machine.Solo.{GoesOnAlone, last, step, PollsAlone, at_once, begun, BeginsPoll, waits_to_read, looks_for_readers, waits_for_turn, IsCalledToTurn, Took, TookTurn, StandsBack, GaveTurnWay, HasEnough, SoloPolls}
pub use Rattle.world_rwlock.specs.machine.Tally.{Counts, tally_of, counts_of}
pub use Rattle.world_rwlock.specs.program.Calls.{knows_at, may_upgrade, may_downgrade, may_put}
pub use Rattle.world_rwlock.specs.program.Parties.{FindsMemory, OnNoWriter, OnNoReaders, Joins, Asks, Leaves, Notifies}
pub use Rattle.world_rwlock.specs.program.Program.{start_of, action_of, next_of, place_after, led_by, go_to, ends, after_lock, with_turn, poll_from, first_poll, drop_from, released, after_turn}
pub use Rattle.world_rwlock.specs.program.Turns.{OnTurn, LockBegins, LockGoesOn}
pub use Rattle.world_rwlock.specs.program.Words.{OnWord, new_word}
