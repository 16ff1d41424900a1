-- Each step keeps what always holds of the numbers.
use Rattle.world_mutex.proofs.Prelude.{◌≡◌, ℕ, ◌+◌, ◌<◌, ◌≤◌, zero, suc, true, false, arith, Place, Out, Holding, Enter, Try, Clear, CancelUncount, CancelLeave, Join, Look, Ask, Retry, PassOn, Count, JoinStarved, LookAlone, PassOnListed, AskStarved, Seize, Uncount, Leave, RefuseUncount, RefuseLeave, RefuseNotifyMemory, RefuseNotifyStarved, ReleaseNotify, Found, Done, Free, Held, SomeStarved, AtLimit, NoMemory, Yes, No, action_of, next_of, place_after, holds, counted, listed, Tally, Counts}
use Rattle.world_base.proofs.of_queue.Debts.{still_owed}
use Rattle.world_mutex.specs.machine.Tally.{IsSound}
use Rattle.world_mutex.proofs.of_machine.laws.Steps.{OnTally, IsCounted, Moves}

abbrev pub after : Place → Found → Place
after p f = place_after p (next_of p f)

-- the word and the list follow the roles
pub record Follows (s t : Tally) (p q : Place) : Type 0 where
  pub held : t.held + holds p ≡ s.held + holds q
  pub starved : t.starved + counted p ≡ s.starved + counted q
  pub in_list : t.size + listed p ≡ s.size + listed q
  pub one : t.held ≤ 1
  pub limited : t.starved ≤ t.limit

-- a starved party that doesn't hold the lock waits or owes, so that something is owed
starved_owed : (starving owing waiting m : ℕ) → 0 < starving → starving ≤ owing + waiting → (0 < waiting → 0 < owing + m) → 0 < owing + m
starved_owed starving zero waiting m some cared owed = owed (omega arith)
starved_owed starving (suc owing) waiting m some cared owed = omega arith

module _ (s t : Tally) (a b : Counts) where
  pub follows : (p : Place) (f : Found) → OnTally (action_of p) f s t → IsSound s a → Moves p (after p f) a b → Follows s t p (after p f)
  follows Out Done e i m = record { held = omega arith; starved = omega arith; in_list = omega arith; one = omega arith; limited = omega arith }
  follows Out _ e i m = absurd e
  follows Holding Done e i m = record { held = omega arith; starved = omega arith; in_list = omega arith; one = omega arith; limited = omega arith }
  follows Holding _ e i m = absurd e
  follows Enter Free e i m = record { held = omega arith; starved = omega arith; in_list = omega arith; one = omega arith; limited = omega arith }
  follows Enter (Held true) e i m = record { held = omega arith; starved = omega arith; in_list = omega arith; one = omega arith; limited = omega arith }
  follows Enter (Held false) e i m = record { held = omega arith; starved = omega arith; in_list = omega arith; one = omega arith; limited = omega arith }
  follows Enter SomeStarved e i m = record { held = omega arith; starved = omega arith; in_list = omega arith; one = omega arith; limited = omega arith }
  follows Enter _ e i m = absurd e
  follows Try Free e i m = record { held = omega arith; starved = omega arith; in_list = omega arith; one = omega arith; limited = omega arith }
  follows Try (Held true) e i m = record { held = omega arith; starved = omega arith; in_list = omega arith; one = omega arith; limited = omega arith }
  follows Try (Held false) e i m = record { held = omega arith; starved = omega arith; in_list = omega arith; one = omega arith; limited = omega arith }
  follows Try SomeStarved e i m = record { held = omega arith; starved = omega arith; in_list = omega arith; one = omega arith; limited = omega arith }
  follows Try _ e i m = absurd e
  follows Clear Done e i m = record { held = omega arith; starved = omega arith; in_list = omega arith; one = omega arith; limited = omega arith }
  follows Clear _ e i m = absurd e
  follows CancelUncount Done e i m = record { held = omega arith; starved = omega arith; in_list = omega arith; one = omega arith; limited = omega arith }
  follows CancelUncount _ e i m = absurd e
  follows CancelLeave Done e i m = record { held = omega arith; starved = omega arith; in_list = omega arith; one = omega arith; limited = omega arith }
  follows CancelLeave _ e i m = absurd e
  follows (Join true) Done e i m = record { held = omega arith; starved = omega arith; in_list = omega arith; one = omega arith; limited = omega arith }
  follows (Join true) NoMemory e i m = record { held = omega arith; starved = omega arith; in_list = omega arith; one = omega arith; limited = omega arith }
  follows (Join true) _ e i m = absurd e
  follows (Join false) Done e i m = record { held = omega arith; starved = omega arith; in_list = omega arith; one = omega arith; limited = omega arith }
  follows (Join false) NoMemory e i m = record { held = omega arith; starved = omega arith; in_list = omega arith; one = omega arith; limited = omega arith }
  follows (Join false) _ e i m = absurd e
  follows (Look told) Free e i m = record { held = omega arith; starved = omega arith; in_list = omega arith; one = omega arith; limited = omega arith }
  follows (Look told) (Held true) e i m = record { held = omega arith; starved = omega arith; in_list = omega arith; one = omega arith; limited = omega arith }
  follows (Look told) (Held false) e i m = record { held = omega arith; starved = omega arith; in_list = omega arith; one = omega arith; limited = omega arith }
  follows (Look told) SomeStarved e i m = record { held = omega arith; starved = omega arith; in_list = omega arith; one = omega arith; limited = omega arith }
  follows (Look told) _ e i m = absurd e
  follows Ask Yes e i m = record { held = omega arith; starved = omega arith; in_list = omega arith; one = omega arith; limited = omega arith }
  follows Ask No e i m = record { held = omega arith; starved = omega arith; in_list = omega arith; one = omega arith; limited = omega arith }
  follows Ask _ e i m = absurd e
  follows Retry Free e i m = record { held = omega arith; starved = omega arith; in_list = omega arith; one = omega arith; limited = omega arith }
  follows Retry (Held true) e i m = record { held = omega arith; starved = omega arith; in_list = omega arith; one = omega arith; limited = omega arith }
  follows Retry (Held false) e i m = record { held = omega arith; starved = omega arith; in_list = omega arith; one = omega arith; limited = omega arith }
  follows Retry SomeStarved e i m = record { held = omega arith; starved = omega arith; in_list = omega arith; one = omega arith; limited = omega arith }
  follows Retry _ e i m = absurd e
  follows PassOn Done e i m = record { held = omega arith; starved = omega arith; in_list = omega arith; one = omega arith; limited = omega arith }
  follows PassOn _ e i m = absurd e
  follows (Count true told) Done e i m = record { held = omega arith; starved = omega arith; in_list = omega arith; one = omega arith; limited = omega arith }
  follows (Count true told) AtLimit e i m = record { held = omega arith; starved = omega arith; in_list = omega arith; one = omega arith; limited = omega arith }
  follows (Count true told) _ e i m = absurd e
  follows (Count false true) Done e i m = record { held = omega arith; starved = omega arith; in_list = omega arith; one = omega arith; limited = omega arith }
  follows (Count false true) AtLimit e i m = record { held = omega arith; starved = omega arith; in_list = omega arith; one = omega arith; limited = omega arith }
  follows (Count false true) _ e i m = absurd e
  follows (Count false false) Done e i m = record { held = omega arith; starved = omega arith; in_list = omega arith; one = omega arith; limited = omega arith }
  follows (Count false false) AtLimit e i m = record { held = omega arith; starved = omega arith; in_list = omega arith; one = omega arith; limited = omega arith }
  follows (Count false false) _ e i m = absurd e
  follows JoinStarved Done e i m = record { held = omega arith; starved = omega arith; in_list = omega arith; one = omega arith; limited = omega arith }
  follows JoinStarved NoMemory e i m = record { held = omega arith; starved = omega arith; in_list = omega arith; one = omega arith; limited = omega arith }
  follows JoinStarved _ e i m = absurd e
  follows LookAlone Free e i m = record { held = omega arith; starved = omega arith; in_list = omega arith; one = omega arith; limited = omega arith }
  follows LookAlone (Held starving) e i m = record { held = omega arith; starved = omega arith; in_list = omega arith; one = omega arith; limited = omega arith }
  follows LookAlone SomeStarved e i m = record { held = omega arith; starved = omega arith; in_list = omega arith; one = omega arith; limited = omega arith }
  follows LookAlone _ e i m = absurd e
  follows PassOnListed Done e i m = record { held = omega arith; starved = omega arith; in_list = omega arith; one = omega arith; limited = omega arith }
  follows PassOnListed _ e i m = absurd e
  follows AskStarved Yes e i m = record { held = omega arith; starved = omega arith; in_list = omega arith; one = omega arith; limited = omega arith }
  follows AskStarved No e i m = record { held = omega arith; starved = omega arith; in_list = omega arith; one = omega arith; limited = omega arith }
  follows AskStarved _ e i m = absurd e
  follows Seize Free e i m = record { held = omega arith; starved = omega arith; in_list = omega arith; one = omega arith; limited = omega arith }
  follows Seize (Held starving) e i m = record { held = omega arith; starved = omega arith; in_list = omega arith; one = omega arith; limited = omega arith }
  follows Seize _ e i m = absurd e
  follows (Uncount true) Done e i m = record { held = omega arith; starved = omega arith; in_list = omega arith; one = omega arith; limited = omega arith }
  follows (Uncount true) _ e i m = absurd e
  follows (Uncount false) Done e i m = record { held = omega arith; starved = omega arith; in_list = omega arith; one = omega arith; limited = omega arith }
  follows (Uncount false) _ e i m = absurd e
  follows Leave Done e i m = record { held = omega arith; starved = omega arith; in_list = omega arith; one = omega arith; limited = omega arith }
  follows Leave _ e i m = absurd e
  follows RefuseUncount Done e i m = record { held = omega arith; starved = omega arith; in_list = omega arith; one = omega arith; limited = omega arith }
  follows RefuseUncount _ e i m = absurd e
  follows (RefuseLeave true) Done e i m = record { held = omega arith; starved = omega arith; in_list = omega arith; one = omega arith; limited = omega arith }
  follows (RefuseLeave true) _ e i m = absurd e
  follows (RefuseLeave false) Done e i m = record { held = omega arith; starved = omega arith; in_list = omega arith; one = omega arith; limited = omega arith }
  follows (RefuseLeave false) _ e i m = absurd e
  follows RefuseNotifyMemory Done e i m = record { held = omega arith; starved = omega arith; in_list = omega arith; one = omega arith; limited = omega arith }
  follows RefuseNotifyStarved Done e i m = record { held = omega arith; starved = omega arith; in_list = omega arith; one = omega arith; limited = omega arith }
  follows RefuseNotifyMemory _ e i m = absurd e
  follows RefuseNotifyStarved _ e i m = absurd e
  follows ReleaseNotify Done e i m = record { held = omega arith; starved = omega arith; in_list = omega arith; one = omega arith; limited = omega arith }
  follows ReleaseNotify _ e i m = absurd e

  -- a free lock that a listed party waits for stays owed
  owed_after : (p : Place) (f : Found) → OnTally (action_of p) f s t → IsSound s a → IsCounted a → IsCounted b → Moves p (after p f) a b → b.listed ≡ t.size → t.held ≡ 0 → 0 < b.waiting → 0 < b.owing + t.marked
  owed_after Out Done e i c d m l h w = omega arith
  owed_after Out _ e i c d m l h w = absurd e
  owed_after Holding Done e i c d m l h w = omega arith
  owed_after Holding _ e i c d m l h w = absurd e
  owed_after Enter Free e i c d m l h w = omega arith
  owed_after Enter (Held true) e i c d m l h w = omega arith
  owed_after Enter (Held false) e i c d m l h w = omega arith
  owed_after Enter SomeStarved e i c d m l h w = omega arith
  owed_after Enter _ e i c d m l h w = absurd e
  owed_after Try Free e i c d m l h w = omega arith
  owed_after Try (Held true) e i c d m l h w = omega arith
  owed_after Try (Held false) e i c d m l h w = omega arith
  owed_after Try SomeStarved e i c d m l h w = omega arith
  owed_after Try _ e i c d m l h w = absurd e
  owed_after Clear Done e i c d m l h w = omega arith
  owed_after Clear _ e i c d m l h w = absurd e
  owed_after CancelUncount Done e i c d m l h w = omega arith
  owed_after CancelUncount _ e i c d m l h w = absurd e
  owed_after CancelLeave Done e i c d m l h w =
      let some : 0 < t.size = omega arith in
      let before : 0 < a.owing + s.marked = i.owed (omega arith) (omega arith) in
      let now : 0 < a.owing + t.marked = still_owed a.owing t.size s.marked t.marked e.1.1 some before in
      omega arith
  owed_after CancelLeave _ e i c d m l h w = absurd e
  owed_after (Join true) Done e i c d m l h w = omega arith
  owed_after (Join true) NoMemory e i c d m l h w = omega arith
  owed_after (Join true) _ e i c d m l h w = absurd e
  owed_after (Join false) Done e i c d m l h w = omega arith
  owed_after (Join false) NoMemory e i c d m l h w = omega arith
  owed_after (Join false) _ e i c d m l h w = absurd e
  owed_after (Look told) Free e i c d m l h w = omega arith
  owed_after (Look told) (Held true) e i c d m l h w = omega arith
  owed_after (Look told) (Held false) e i c d m l h w = omega arith
  owed_after (Look told) SomeStarved e i c d m l h w =
      let owed : 0 < a.owing + s.marked = starved_owed a.starving a.owing a.waiting s.marked (omega arith) (omega arith) (i.owed (omega arith)) in
      omega arith
  owed_after (Look told) _ e i c d m l h w = absurd e
  owed_after Ask Yes e i c d m l h w = omega arith
  owed_after Ask No e i c d m l h w = omega arith
  owed_after Ask _ e i c d m l h w = absurd e
  owed_after Retry Free e i c d m l h w = omega arith
  owed_after Retry (Held true) e i c d m l h w = omega arith
  owed_after Retry (Held false) e i c d m l h w = omega arith
  owed_after Retry SomeStarved e i c d m l h w = omega arith
  owed_after Retry _ e i c d m l h w = absurd e
  owed_after PassOn Done e i c d m l h w = omega arith
  owed_after PassOn _ e i c d m l h w = absurd e
  owed_after (Count true told) Done e i c d m l h w = omega arith
  owed_after (Count true told) AtLimit e i c d m l h w = omega arith
  owed_after (Count true told) _ e i c d m l h w = absurd e
  owed_after (Count false true) Done e i c d m l h w = omega arith
  owed_after (Count false true) AtLimit e i c d m l h w = omega arith
  owed_after (Count false true) _ e i c d m l h w = absurd e
  owed_after (Count false false) Done e i c d m l h w = omega arith
  owed_after (Count false false) AtLimit e i c d m l h w = omega arith
  owed_after (Count false false) _ e i c d m l h w = absurd e
  owed_after JoinStarved Done e i c d m l h w = omega arith
  owed_after JoinStarved NoMemory e i c d m l h w = omega arith
  owed_after JoinStarved _ e i c d m l h w = absurd e
  owed_after LookAlone Free e i c d m l h w = omega arith
  owed_after LookAlone (Held starving) e i c d m l h w = omega arith
  owed_after LookAlone SomeStarved e i c d m l h w = omega arith
  owed_after LookAlone _ e i c d m l h w = absurd e
  owed_after PassOnListed Done e i c d m l h w = omega arith
  owed_after PassOnListed _ e i c d m l h w = absurd e
  owed_after AskStarved Yes e i c d m l h w = omega arith
  owed_after AskStarved No e i c d m l h w = omega arith
  owed_after AskStarved _ e i c d m l h w = absurd e
  owed_after Seize Free e i c d m l h w = omega arith
  owed_after Seize (Held starving) e i c d m l h w = omega arith
  owed_after Seize _ e i c d m l h w = absurd e
  owed_after (Uncount true) Done e i c d m l h w = omega arith
  owed_after (Uncount true) _ e i c d m l h w = absurd e
  owed_after (Uncount false) Done e i c d m l h w = omega arith
  owed_after (Uncount false) _ e i c d m l h w = absurd e
  owed_after Leave Done e i c d m l h w = omega arith
  owed_after Leave _ e i c d m l h w = absurd e
  owed_after RefuseUncount Done e i c d m l h w = omega arith
  owed_after RefuseUncount _ e i c d m l h w = absurd e
  owed_after (RefuseLeave true) Done e i c d m l h w =
      let some : 0 < t.size = omega arith in
      let before : 0 < a.owing + s.marked = i.owed (omega arith) (omega arith) in
      let now : 0 < a.owing + t.marked = still_owed a.owing t.size s.marked t.marked e.1.1 some before in
      omega arith
  owed_after (RefuseLeave true) _ e i c d m l h w = absurd e
  owed_after (RefuseLeave false) Done e i c d m l h w =
      let some : 0 < t.size = omega arith in
      let before : 0 < a.owing + s.marked = i.owed (omega arith) (omega arith) in
      let now : 0 < a.owing + t.marked = still_owed a.owing t.size s.marked t.marked e.1.1 some before in
      omega arith
  owed_after (RefuseLeave false) _ e i c d m l h w = absurd e
  owed_after RefuseNotifyMemory Done e i c d m l h w = omega arith
  owed_after RefuseNotifyStarved Done e i c d m l h w = omega arith
  owed_after RefuseNotifyMemory _ e i c d m l h w = absurd e
  owed_after RefuseNotifyStarved _ e i c d m l h w = absurd e
  owed_after ReleaseNotify Done e i c d m l h w = omega arith
  owed_after ReleaseNotify _ e i c d m l h w = absurd e

  pub kept : (p : Place) (f : Found) → OnTally (action_of p) f s t → IsSound s a → IsCounted a → IsCounted b → Moves p (after p f) a b → IsSound t b
  kept p f e i c d m =
      let g : Follows s t p (after p f) = follows p f e i m in
      let l : b.listed ≡ t.size = omega arith in
      record { one_holder = g.one; held = omega arith; starved = omega arith; limited = g.limited; in_list = l; owed = owed_after p f e i c d m l }
