-- What a party has and owes where it stands, so that sums over the parties count it.
use Rattle.std.specs.Prelude.{ℕ, ◌==◌, Bool, true, false, Option, Some, None, nat_le, unwrap_or}
pub use Rattle.world_base.specs.Rosters.{bit}
use Rattle.world_base.specs.declared.moves.Answer.{Answer}
use Rattle.world_base.specs.declared.moves.Answer.TheVariants.{Ready, Granted, Pending, GivenBack}
use Rattle.world_base.specs.declared.moves.Got.TheVariants.{Plain}
use Rattle.lock_program.specs.declared.refusal.Refusal.TheVariants.{Memory}
use Rattle.world_base.specs.Standings.{refused}
use Rattle.sync_program.specs.declared.permits.Place.{Place}
use Rattle.sync_program.specs.declared.permits.Place.TheVariants.{Take, Retake, Join, Ask, Remove, Load, HandOn, PassOn, RefuseFit, Try, Lower, GiveBack, Raise, GiveAdded, FitAdded, CancelRemove, CancelLoad, FitGivenBack, Abandon}
use Rattle.sync_program.specs.declared.permits.Position.{Position}
use Rattle.sync_program.specs.declared.permits.Position.TheVariants.{Out, Unlisted, Waiting, Holding, At}

-- What a party has of a semaphore: the permits of its guard, if it has one, which may be none; and how many permits are under way in its add.
pub record Share : Type 0 where
  pub held : Option ℕ
  pub under_way : ℕ

abbrev pub nothing_had : Share
nothing_had = record { held = None; under_way = 0 }

-- A guard of so many permits.
abbrev pub guard_of : ℕ → Share
guard_of k = record { held = Some k; under_way = 0 }

-- So many permits under way, and no guard.
abbrev pub under_way_of : ℕ → Share
under_way_of n = record { held = None; under_way = n }

-- How many permits a party's guard has.
abbrev pub permits_of : Share → ℕ
permits_of s = unwrap_or s.held 0

-- What a party still owes those who are listed: nothing; to look at the permits, with a notification that it took; or to tell the first for whom so many are enough.
pub data Debt : Type 0 where
  nothing_owed : Debt
  a_look : Debt
  a_fit : ℕ → Debt

-- Whether that is enough for one who wants so many.
abbrev pub pays : ℕ → Debt → Bool
pays s nothing_owed = false
pays s a_look = true
pays s (a_fit a) = nat_le s a

-- What a party has; whether it stands in the list; and what it owes there.
pub record Seat : Type 0 where
  pub share : Share
  pub listed : ℕ
  pub debt : Debt

abbrev pub seat : Share → ℕ → Debt → Seat
seat s listed debt = record { share = s; listed = listed; debt = debt }

-- a look of a party that was told, and what is to be told of, if something is
abbrev pub look_if : Bool → Debt
look_if true = a_look
look_if false = nothing_owed

abbrev pub fit_if : Option ℕ → Debt
fit_if None = nothing_owed
fit_if (Some a) = a_fit a

abbrev pub seat_of : Place → Seat
seat_of (Take k false told) = seat nothing_had 0 (look_if told)
seat_of (Take k true told) = seat nothing_had 1 (look_if told)
seat_of (Retake k) = seat nothing_had 1 nothing_owed
seat_of (Join k told) = seat nothing_had 0 (fit_if told)
seat_of (Ask k told) = seat nothing_had 1 (fit_if told)
seat_of (Remove k more) = seat (guard_of k) 1 (fit_if more)
seat_of (Load k) = seat (guard_of k) 0 a_look
seat_of (HandOn k a) = seat (guard_of k) 0 (a_fit a)
seat_of (PassOn k a) = seat nothing_had 1 (a_fit a)
seat_of (RefuseFit k a) = seat nothing_had 0 (a_fit a)
seat_of (Try k) = seat nothing_had 0 nothing_owed
seat_of (Lower k) = seat (guard_of k) 0 nothing_owed
seat_of (GiveBack k) = seat (guard_of k) 0 nothing_owed
seat_of (Raise n) = seat nothing_had 0 nothing_owed
seat_of (GiveAdded n) = seat (under_way_of n) 0 nothing_owed
seat_of (FitAdded a) = seat nothing_had 0 (a_fit a)
seat_of CancelRemove = seat nothing_had 1 nothing_owed
seat_of CancelLoad = seat nothing_had 0 a_look
seat_of (FitGivenBack a) = seat nothing_had 0 (a_fit a)
seat_of Abandon = seat nothing_had 0 nothing_owed

abbrev pub seated : Position → Seat
seated Out = seat nothing_had 0 nothing_owed
seated (Unlisted k) = seat nothing_had 0 nothing_owed
seated (Waiting k) = seat nothing_had 1 nothing_owed
seated (Holding k) = seat (guard_of k) 0 nothing_owed
seated (At place) = seat_of place

-- each of these by itself
abbrev pub share_of : Position → Share
share_of x = (seated x).share

abbrev pub permits_at : Position → ℕ
permits_at x = permits_of (share_of x)

abbrev pub under_way_at : Position → ℕ
under_way_at x = (share_of x).under_way

abbrev pub listed : Position → ℕ
listed x = (seated x).listed

abbrev pub debt_at : Position → Debt
debt_at x = (seated x).debt

-- whether a party owes what is enough for one who wants so many
abbrev pub owes : ℕ → Position → ℕ
owes s x = bit (pays s (debt_at x))

-- for how many permits the future, the guard or the call is of a party at a place; 0 where it has none of these
abbrev pub size_of : Place → ℕ
size_of (Take k listed told) = k
size_of (Retake k) = k
size_of (Join k told) = k
size_of (Ask k told) = k
size_of (Remove k more) = k
size_of (Load k) = k
size_of (HandOn k a) = k
size_of (PassOn k a) = k
size_of (RefuseFit k a) = k
size_of (Try k) = k
size_of (Lower k) = k
size_of (GiveBack k) = k
size_of _ = 0

abbrev pub size_at : Position → ℕ
size_at (Unlisted k) = k
size_at (Waiting k) = k
size_at (Holding k) = k
size_at (At place) = size_of place
size_at Out = 0

-- whether a party waits in the list for just so many permits, having looked at them since it joined
abbrev pub waits_for : ℕ → Place → ℕ
waits_for s (Retake k) = bit (k == s)
waits_for s (Ask k told) = bit (k == s)
waits_for s (PassOn k a) = bit (k == s)
waits_for s _ = 0

abbrev pub waits : ℕ → Position → ℕ
waits s (Waiting k) = bit (k == s)
waits s (At place) = waits_for s place
waits s _ = 0

-- whether a party has found too few permits, and is to join the list or has joined it
abbrev pub is_short_at : Place → Bool
is_short_at (Take k true told) = true
is_short_at (Retake k) = true
is_short_at (Join k told) = true
is_short_at (Ask k told) = true
is_short_at (Remove k more) = true
is_short_at (PassOn k a) = true
is_short_at _ = false

abbrev pub is_short : Position → Bool
is_short (Waiting k) = true
is_short (At place) = is_short_at place
is_short _ = false

-- what the call is decided on of a party at a place
abbrev pub verdict_of : Place → Option Answer
verdict_of (Remove k more) = Some (Ready Plain)
verdict_of (Load k) = Some (Ready Plain)
verdict_of (HandOn k a) = Some (Ready Plain)
verdict_of (PassOn k a) = Some Pending
verdict_of (RefuseFit k a) = Some (refused Memory)
verdict_of (Lower k) = Some GivenBack
verdict_of (GiveBack k) = Some GivenBack
verdict_of (GiveAdded n) = Some (Granted Plain)
verdict_of (FitAdded a) = Some (Granted Plain)
verdict_of CancelRemove = Some GivenBack
verdict_of CancelLoad = Some GivenBack
verdict_of (FitGivenBack a) = Some GivenBack
verdict_of Abandon = Some GivenBack
verdict_of _ = None

abbrev pub verdict : Position → Option Answer
verdict (At place) = verdict_of place
verdict x = None

-- outside every program
abbrev pub is_resting : Position → Bool
is_resting (At place) = false
is_resting x = true
