-- The names that most proofs here cite, passed on from one place. Declares nothing.
pub use Rattle.std.specs.List.{list_all, sum_by}
pub use Rattle.std.proofs.Common.{◌≡◌, ℕ, true, false, Some, None, refl, ◌+◌, ◌⊎◌, inl, inr, if◌then◌else◌, Bool, List, [], ◌∷◌, ◌++◌, Option, arith, ap, sym, ◌∙◌, subst, ◌≢◌, zero, suc, ◌<◌, ◌≤◌, length, vec_capacity, get_or, length-set, get_or-set_same, get_or-set_other, replicate, ◌-◌, ◌==◌, ◌||◌, is_some, ◌&&◌, is_none, map}
pub use Rattle.std.proofs.Math.Decide.{ℕ_discrete}
pub use Rattle.std.proofs.Math.ListN.{set}
pub use Rattle.std.proofs.lemmas.Bool.{false≢true, true≢false}
pub use Rattle.lock_program.specs.Refusals.{number_of}
pub use Rattle.lock_program.specs.declared.end.End.{End}
pub use Rattle.lock_program.specs.declared.mutex.Step.{Step}
pub use Rattle.lock_program.specs.declared.mutex.LockCall.{LockCall}
pub use Rattle.lock_program.specs.declared.refusal.Refusal.{Refusal}
pub use Rattle.sync_program.specs.declared.permits.SemaphoreCall.{SemaphoreCall}
pub use Rattle.world_base.specs.Standings.{Standing, outside, inside, forgotten, is_outside, is_outside_stage, is_possible, inputs_of, call_in, is_stepped, may_end, refused}
pub use Rattle.world_base.specs.declared.moves.Answer.{Answer}
pub use Rattle.world_base.specs.declared.moves.Call.{Call}
pub use Rattle.world_base.specs.declared.moves.Got.{Got}
pub use Rattle.world_base.specs.declared.moves.Inputs.{Inputs}
pub use Rattle.world_base.specs.declared.moves.Move.{Move}
pub use Rattle.world_base.specs.declared.moves.What.{What}
pub use Rattle.world_base.specs.declared.moves.What.TheVariants.{Begin, Go}
pub use Rattle.world_base.specs.declared.standing.Kind.{Kind}
pub use Rattle.world_base.specs.declared.standing.Rest.{Rest}
pub use Rattle.world_base.specs.declared.standing.Stage.{Stage}
pub use Rattle.world_base.specs.declared.standing.Stage.TheVariants.{Outside, Inside, Forgotten}
pub use Rattle.world_base.specs.declared.standing.Within.{Within}
pub use Rattle.world_base.specs.table.Ends.{answer_of}
pub use Rattle.world_base.specs.table.Stages.{stage_at, stands_as, stage_after, call_at, polls_again}
pub use Rattle.world_base.specs.table.Tables.{Table, Keeps, Acted, new_table}
pub use Rattle.world_base.proofs.Equations.{both, some_eq, none_some}
pub use Rattle.world_base.proofs.of_table.Calls.{within}
pub use Rattle.world_mutex.specs.machine.Course.{Course, Takes, Tries, Releases, Cancels}
pub use Rattle.world_mutex.specs.machine.Mutex.{Mutex, IsMutex, course_at as lock_course, steps_left as lock_steps_left, left_after as lock_left_after}
pub use Rattle.world_mutex.proofs.of_machine.callers.Callers.{may_lock, may_try, may_poll, may_cancel, may_release, new_is_out, new_parties}
pub use Rattle.world_semaphore.specs.machine.Permits.{Permits, IsPermits, course_at as permit_course, steps_left as permit_steps_left, left_after as permit_left_after}
pub use Rattle.world_pool.specs.declared.program.places.Action.{Action}
pub use Rattle.world_pool.specs.declared.program.places.Aim.{Aim}
pub use Rattle.world_pool.specs.declared.program.places.Ending.{Ending}
pub use Rattle.world_pool.specs.declared.program.places.Found.{Found}
pub use Rattle.world_pool.specs.declared.program.places.Place.{Place}
pub use Rattle.world_pool.specs.declared.program.places.Place.TheVariants.{Acquire, WaitPermit, TakePermit, TryPermit, TryLock, EnterLock, WaitLock, TakeLock, Pop, Push, ReleaseLock, ReleasingLock, ReturnPermit, ReturningPermit, CancelPermit, CancellingPermit, CancelLock, CancellingLock, Lose, Abandon}
pub use Rattle.world_pool.specs.declared.program.places.Position.{Position}
pub use Rattle.world_pool.specs.declared.program.places.Position.TheVariants.{Out, Made, Acquiring, Locking, Leased, At}
pub use Rattle.world_pool.specs.declared.program.places.Return.{Return}
pub use Rattle.world_pool.specs.declared.program.places.Taker.{Taker}
pub use Rattle.world_pool.specs.program.Program.{Next, action_of, next_of, place_for, position_after, got_with, after_permit, after_lock, after_try_permit, after_try_lock, after_release, released, after_return, returned, after_cancel_permit, after_cancel, cancelled, with_lock, lock_refused, without_permit}
pub use Rattle.world_pool.specs.program.Effects.{OnPermits, OnLock, OnItems, CanLocks, CanItems}
pub use Rattle.world_pool.specs.machine.Roles.{InPermits, without, wants, polls, has, returns, InLock, outside as unlocked, waits, takes, holds, releases, cancels, fits_permits, fits_lock, seat_of, seat_at, Seat, in_permits, in_lock, is_leased, is_resting, is_taking_out, is_giving, is_to_give}
pub use Rattle.world_pool.specs.machine.Machine.{Pool, position_at, lease_at, numbered, new_pool, as_number, is_item, leases_item, in_list, leased, leases_any, how_many_leased, AreDifferent, how_many_taking_out, IsKept, IsAtRest, IsPool, knows, is_take, is_try, is_give, is_drop, is_poll, is_lose, is_begun, runs, goes_with, Stands, left_from, steps_left, left_after, answer_by, Acts, Moves}
pub use Rattle.world_base.specs.Frame.{is_poll_after_ready}
pub use Rattle.world_base.specs.Rosters.{is_on, how_many}
pub use Rattle.world_base.specs.Whole.{going_on, moves_of, answers_of}
pub use Rattle.world_base.specs.any_world.Steps.{StepsWell, left_by, beginning}
pub use Rattle.world_base.proofs.of_table.Calls.{call_seen, again_seen}
pub use Rattle.world_base.proofs.of_table.Past.{by_stage, by_stage_or_past, by_stage_or_past_at, inside_or_past}
pub use Rattle.world_base.proofs.of_table.Views.{outside_so, rest_seen, outside_at, all_idle, standings_at, length-standings}
pub use Rattle.world_base.proofs.of_table.Ways.{way, by_way}
pub use Rattle.world_pool.specs.State.{World, standing_of, lease_of, gives, seeks, available, limit, made, lost, HasPermit, HoldsLock, new_world, opening_of}
pub use Rattle.world_pool.specs.View.{view_of, verdict, verdict_of, verdict_in, decided_inside, decided_ending, decided_return}
pub use Rattle.world_pool.specs.Legal.{Legal, HasItsOwn, HasNothing, HasLease, IsPending, ChangesOneThing, EndsProperly, IsPossible, StandsAfter, Effect, Does, Pops, Pushes, Loses, MayPop, MayPush, call_of, ends}
pub use Rattle.world_pool.specs.Laws.{IsSound, IsAwake, is_at_rest}
pub use Rattle.world_pool.specs.AtOnce.{AnswersAtOnce, is_first_take, is_lease_drop}
pub use Rattle.world_pool.specs.Steps.{Steps, Stands as StandsWell, Did, IsPoolTable, TableSteps}
pub use Rattle.world_pool.specs.Runs.{HoldsWell, TellsItems, known_of, items_after, item_after, item_by, item_in, kept_by, Runs, RunsOn}
