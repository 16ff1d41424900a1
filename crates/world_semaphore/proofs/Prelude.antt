-- The names that most proofs here cite, passed on from one place. Declares nothing.
pub use Rattle.std.specs.List.{list_all, sum_by}
pub use Rattle.std.proofs.Common.{◌≡◌, ℕ, zero, suc, ◌+◌, ◌<◌, ◌≤◌, ◌⊎◌, inl, inr, ◌==◌, Bool, true, false, List, [], ◌∷◌, length, is_some, refl, arith, ap, sym, ◌∙◌, Option, subst, ◌≢◌, get_or, if◌then◌else◌, nat_le, Some, None, nat_lt, length-set, get_or-set_same, get_or-set_other, replicate, ◌&&◌, ◌-◌, ◌↔◌, ◌||◌, map}
pub use Rattle.std.proofs.Math.Decide.{ℕ_discrete}
pub use Rattle.std.proofs.Math.ListN.{set}
pub use Rattle.std.proofs.lemmas.Bool.{le-leb, leb-true, lt-leb, false≢true}
pub use Rattle.std.proofs.lemmas.Bool.Decides.{nat_tests}
pub use Rattle.std.proofs.lemmas.List.{get_or_default, length-replicate, map-set}
pub use Rattle.std.proofs.lemmas.List.Sums.{get_or-le-sum_by, sum_by-cons, sum_by-set}
pub use Rattle.lock_event.specs.Lists.{is_marked, is_marked_at, marked_count, without, entry, mark_at}
pub use Rattle.weighted_event.specs.Weights.{is_wanted, is_enough, fit_first, fitted}
pub use Rattle.lock_event.specs.declared.event.Entry.{Entry}
pub use Rattle.lock_event.proofs.Counts.{length-joined, length-without, marked_count-without_marked, marked_count-without_waiting}
pub use Rattle.lock_event.proofs.Marks.{marked_count-joined}
pub use Rattle.lock_program.specs.declared.refusal.Refusal.{Refusal}
pub use Rattle.sync_program.specs.Permits.{told_more, after_taking_with, is_told, available_in}
pub use Rattle.sync_program.specs.declared.permits.Action.{Action}
pub use Rattle.sync_program.specs.declared.permits.Found.{Found}
pub use Rattle.sync_program.specs.declared.permits.Found.TheVariants.{Done, Left, Short, Available, PastLimit, NoMemory, Yes, No}
pub use Rattle.sync_program.specs.declared.permits.Place.{Place}
pub use Rattle.sync_program.specs.declared.permits.Place.TheVariants.{Take, Retake, Ask, Remove, PassOn, Try, Lower, CancelRemove, CancelLoad, FitGivenBack, Abandon, Join, Load, HandOn, RefuseFit, GiveBack, Raise, GiveAdded, FitAdded}
pub use Rattle.sync_program.specs.declared.permits.Position.{Position}
pub use Rattle.sync_program.specs.declared.permits.Position.TheVariants.{Out, Unlisted, Waiting, Holding, At}
pub use Rattle.world_base.specs.Frame.{is_giving_back, is_poll_after_ready, is_refusal, is_drop}
pub use Rattle.world_base.specs.Standings.{outside, inside, is_outside, is_outside_stage, is_possible, inputs_of, Standing, forgotten, refused, call_in, is_stepped, is_decided, may_end, decision, IsUndecided, StandsAfter}
pub use Rattle.world_base.specs.Whole.{going_on, moves_of, answers_of}
pub use Rattle.world_base.specs.any_world.Steps.{StepsWell, left_by, beginning}
pub use Rattle.world_base.specs.declared.moves.Answer.{Answer}
pub use Rattle.world_base.specs.declared.moves.Call.{Call}
pub use Rattle.world_base.specs.declared.moves.Got.TheVariants.{Plain}
pub use Rattle.world_base.specs.declared.moves.Inputs.{Inputs}
pub use Rattle.world_base.specs.declared.moves.Move.{Move}
pub use Rattle.world_base.specs.declared.moves.What.{What}
pub use Rattle.world_base.specs.declared.moves.What.TheVariants.{Begin, Go}
pub use Rattle.world_base.specs.declared.standing.Kind.{Kind}
pub use Rattle.world_base.specs.declared.standing.Rest.{Rest}
pub use Rattle.world_base.specs.declared.standing.Stage.{Stage}
pub use Rattle.world_base.specs.declared.standing.Stage.TheVariants.{Outside, Inside, Forgotten}
pub use Rattle.world_base.specs.declared.standing.Within.{Within}
pub use Rattle.world_base.specs.queue.Parties.{is_party, entries_of}
pub use Rattle.world_base.specs.queue.Weighted.{weighted_queue, weight_in, WeightedQueue}
pub use Rattle.world_base.specs.table.Stages.{stage_at, stands_as, call_at, polls_again, stage_after}
pub use Rattle.world_base.specs.table.Tables.{Table, Keeps, Acted, new_table}
pub use Rattle.world_base.proofs.Bounds.{marked_listed, some_listed}
pub use Rattle.world_base.proofs.Equations.{both, same_test, some_eq, none_some, other_test, finished_number, not_one, outside_inside, chosen}
pub use Rattle.world_base.proofs.Lists.{is_there, unlisted_unmarked, joined_unmarked}
pub use Rattle.world_base.proofs.of_table.Calls.{within, call_seen, again_seen, stands_seen, decided_after, decision_seen, later_ends, decides_so, undecided_so}
pub use Rattle.world_base.proofs.of_table.Mapped.{past_last, set_same, mapped_alike, mapped_at, sum_mapped}
pub use Rattle.world_base.proofs.of_table.Past.{by_stage_or_past, by_stage_or_past_at, by_stage}
pub use Rattle.world_base.proofs.of_table.Views.{outside_so, rest_seen, outside_at, all_idle, standings_at, outside_stage}
pub use Rattle.world_semaphore.specs.AtOnce.{AnswersAtOnce, AddsAtOnce, GivesInTurn, TellsInTurn, is_try, is_poll, is_first_poll}
pub use Rattle.world_semaphore.specs.Bound.{HandsOver, PassesOver, IsBounded, IsSolo, Takes, Promises}
pub use Rattle.world_semaphore.specs.Laws.{IsSound, IsAwake, IsFreeAndWanted, is_at_rest, is_long_call}
pub use Rattle.world_semaphore.specs.Legal.{size_after, HasItsOwn, call_of, DecidesOn, state_after, added_in, wanted, wanted_in, IsAllowed, ChangesOneThing, KnowsSizes, KnowsDebts, Carries, Waits, IsCause, IsRefusedForCause, LeavesClear, EndsProperly, Legal, is_forget, is_poll_call}
pub use Rattle.world_semaphore.specs.Runs.{known_of, Known, Tells, HoldsWell, learn, accounts_of, sizes_after, added_by, forgotten_by, Runs}
pub use Rattle.world_semaphore.specs.State.{World, available, has_permits, size_of, standing_of, debt_of, share_at, State, new_world, held, under_way}
pub use Rattle.world_semaphore.specs.Steps.{IsSemaphoreTable, Steps, TableSteps, Stands}
pub use Rattle.world_semaphore.specs.View.{view_of}
pub use Rattle.world_semaphore.specs.declared.machine.words.Words.{Words}
pub use Rattle.world_semaphore.specs.machine.Effects.{Finds, effect_of, words_after, entries_after, weights_after, FindsSo, words, told_by, CanDo, Effect, ListFunction, nothing, changes, does, joins, asks, removes, fits, list_after, takes, gives_back, forgets, raises, gives, share_after, FindsPermits, FindsRoom, Change, gives_something_back, gives_up}
pub use Rattle.world_semaphore.specs.machine.Machine.{Semaphore, IsSemaphore, IsAtRest, goes_with, runs, is_begun, position_at, sizes_of, knows, answer_by, IsKept, is_polling, Acts, is_adding, Moves, new_semaphore}
pub use Rattle.world_semaphore.specs.machine.Program.{action_of, position_after, next_of, place_for, Next}
pub use Rattle.world_semaphore.specs.machine.Seats.{Share, bit, pays, listed, waits, owes, size_at, debt_at, is_short, verdict, is_resting, Seat, seat_of, seated, permits_of, permits_at, under_way_at, waits_for, fit_if, is_short_at, guard_of, share_of, Debt, a_fit, verdict_of, a_look, nothing_owed, nothing_had}
pub use Rattle.world_semaphore.specs.machine.Tally.{tally_of, Tally, Counts, counts_of}
pub use Rattle.world_semaphore.specs.machine.Owing.{Owes}
