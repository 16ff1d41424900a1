-- Where each action leads, told by courses.
use Rattle.world_mutex.proofs.Prelude.{◌≡◌, ℕ, ◌<◌, Bool, true, false, Some, length, refl, sym, ap, ◌∙◌, get_or-set_same, none_some, false≢true, some_eq, Place, Out, Holding, Enter, CancelUncount, CancelLeave, Join, Look, Ask, Retry, PassOn, Count, JoinStarved, LookAlone, PassOnListed, AskStarved, Seize, Uncount, Leave, RefuseUncount, RefuseLeave, RefuseNotifyMemory, RefuseNotifyStarved, ReleaseNotify, Found, Done, Free, Held, AtLimit, Yes, LockCall, Next, GivenBack, Action, action_of, next_of, place_after, start_of, Takes, Cancels, GoesOn, HeedsClock, Lock, place_at, Acts}
use Rattle.world_mutex.specs.machine.Courses.{is_taking, is_releasing, is_cancelling, Begins}

abbrev polls : Place → Bool
polls Enter = true
polls p = is_taking p

takes : (p : Place) (f : Found) → polls p ≡ true → Takes (next_of p f) (place_after p (next_of p f))
takes Enter Free h = refl
takes Enter _ h = refl
takes (Join true) Done h = refl
takes (Join true) _ h = refl
takes (Join false) Done h = refl
takes (Join false) _ h = refl
takes (Look told) Free h = refl
takes (Look told) (Held b) h = refl
takes (Look told) _ h = refl
takes Ask Yes h = refl
takes Ask _ h = refl
takes Retry Free h = refl
takes Retry (Held true) h = refl
takes Retry (Held false) h = refl
takes Retry _ h = refl
takes PassOn _ h = refl
takes (Count true true) AtLimit h = refl
takes (Count true true) _ h = refl
takes (Count true false) AtLimit h = refl
takes (Count true false) _ h = refl
takes (Count false true) AtLimit h = refl
takes (Count false true) _ h = refl
takes (Count false false) AtLimit h = refl
takes (Count false false) _ h = refl
takes JoinStarved Done h = refl
takes JoinStarved _ h = refl
takes LookAlone Free h = refl
takes LookAlone (Held b) h = refl
takes LookAlone _ h = refl
takes PassOnListed _ h = refl
takes AskStarved Yes h = refl
takes AskStarved _ h = refl
takes Seize Free h = refl
takes Seize _ h = refl
takes (Uncount true) _ h = refl
takes (Uncount false) _ h = refl
takes Leave _ h = refl
takes RefuseUncount _ h = refl
takes (RefuseLeave true) _ h = refl
takes (RefuseLeave false) _ h = refl
takes RefuseNotifyMemory _ h = refl
takes RefuseNotifyStarved _ h = refl
takes _ f h = absurd (false≢true h)

polling : (p : Place) → is_taking p ≡ true → polls p ≡ true
polling Enter h = refl
polling _ h = h

releasing : (p : Place) (f : Found) → is_releasing p ≡ true → (next_of p f ≡ Next.End GivenBack) × (place_after p (next_of p f) ≡ Out)
releasing ReleaseNotify f h = (refl, refl)
releasing _ f h = absurd (false≢true h)

cancelling : (p : Place) (f : Found) → is_cancelling p ≡ true → Cancels (next_of p f) (place_after p (next_of p f))
cancelling CancelUncount f h = refl
cancelling CancelLeave f h = refl
cancelling _ f h = absurd (false≢true h)

pub goes : (p : Place) (f : Found) → GoesOn p (next_of p f) (place_after p (next_of p f))
goes p f = record { takes = λ h. takes p f (polling p h); releases = releasing p f; cancels = cancelling p f }

pub begins : (c : LockCall) (at from : Place) (f : Found) → start_of c at ≡ Some from → Begins c (next_of from f) (place_after from (next_of from f))
begins LockCall.Lock Out from f e = rw (← some_eq e) (takes Enter f refl)
begins LockCall.Lock _ from f e = absurd (none_some e)
begins LockCall.Poll Out from f e = rw (← some_eq e) (takes Enter f refl)
begins LockCall.Poll Ask from f e = rw (← some_eq e) (takes Ask f refl)
begins LockCall.Poll AskStarved from f e = rw (← some_eq e) (takes AskStarved f refl)
begins LockCall.Poll _ from f e = absurd (none_some e)
begins LockCall.Try Out from Free e = rw (← some_eq e) refl
begins LockCall.Try Out from _ e = rw (← some_eq e) refl
begins LockCall.Try _ from f e = absurd (none_some e)
begins LockCall.Release Holding from f e = rw (← some_eq e) refl
begins LockCall.Release _ from f e = absurd (none_some e)
begins LockCall.Cancel Out from f e = rw (← some_eq e) refl
begins LockCall.Cancel Ask from f e = rw (← some_eq e) refl
begins LockCall.Cancel AskStarved from f e = rw (← some_eq e) refl
begins LockCall.Cancel _ from f e = absurd (none_some e)

module _ (memory : Bool) (p : ℕ) (next : Next) (old new : Lock) (known : p < length old.places) where
  lands : (from : Place) → Acts memory p from next old new → place_at new.places p ≡ place_after from next
  lands from a = ap (λ ps. place_at ps p) a.places ∙ get_or-set_same old.places p (place_after from next) Out known

  pub goes_on : Acts memory p (place_at old.places p) next old new → GoesOn (place_at old.places p) next (place_at new.places p)
  goes_on a = rw (lands (place_at old.places p) a, a.next_is) (goes (place_at old.places p) a.found)

  pub begins_so : (c : LockCall) (from : Place) → start_of c (place_at old.places p) ≡ Some from → Acts memory p from next old new → Begins c next (place_at new.places p)
  begins_so c from e a = rw (lands from a, a.next_is) (begins c (place_at old.places p) from a.found e)

-- the clock is heeded where the lock is found held
pub heeds : (starving : Bool) (p : Place) (f : Found) → ((long : Bool) → action_of p ≡ Action.Take → f ≡ Held long → long ≡ starving) → HeedsClock starving p (next_of p f)
heeds starving Retry Free k = tt
heeds starving Retry (Held true) k = sym (k true refl refl)
heeds starving Retry (Held false) k = sym (k false refl refl)
heeds starving Retry _ k = tt
heeds starving _ f k = tt
