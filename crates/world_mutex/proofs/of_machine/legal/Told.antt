-- While somebody is starved, only a party that took a notification in this call takes the lock.
use Rattle.world_mutex.proofs.Prelude.{◌≡◌, ℕ, ◌<◌, Bool, true, false, refl, arith, Place, Out, Holding, Enter, Try, Clear, CancelUncount, CancelLeave, Join, Look, Ask, Retry, PassOn, Count, JoinStarved, LookAlone, PassOnListed, AskStarved, Seize, Uncount, Leave, RefuseUncount, RefuseLeave, RefuseNotifyMemory, RefuseNotifyStarved, ReleaseNotify, Found, Done, Free, Held, SomeStarved, AtLimit, action_of, holds, is_told, Lock, Finds, starved}
use Rattle.world_mutex.proofs.of_machine.laws.Kept.{after}

one_not : ◌≡◌ {A = ℕ} 0 1 → ⊥
one_not e = omega (arith, e)

had : ◌≡◌ {A = ℕ} 1 0 → ⊥
had e = omega (arith, e)

none_left : (n : ℕ) → 0 < n → n ≡ 0 → ⊥
none_left n some none = omega (arith, some, none)

pub takes_told : (memory : Bool) (l : Lock) (x : Place) (f : Found) → Finds memory (action_of x) f l → 0 < starved l → holds x ≡ 0 → holds (after x f) ≡ 1 → is_told x ≡ true
takes_told memory l Enter Free e s z h = absurd (none_left (starved l) s e.1)
takes_told memory l Enter _ e s z h = absurd (one_not h)
takes_told memory l Try Free e s z h = absurd (none_left (starved l) s e.1)
takes_told memory l Try _ e s z h = absurd (one_not h)
takes_told memory l (Look told) Free e s z h = absurd (none_left (starved l) s e.1)
takes_told memory l (Look told) (Held b) e s z h = absurd (one_not h)
takes_told memory l (Look told) SomeStarved e s z h = absurd (one_not h)
takes_told memory l (Look told) _ e s z h = absurd e
takes_told memory l Retry f e s z h = refl
takes_told memory l LookAlone f e s z h = refl
takes_told memory l Seize f e s z h = refl
takes_told memory l Ask f e s z h = refl
takes_told memory l AskStarved f e s z h = refl
takes_told memory l PassOn f e s z h = refl
takes_told memory l PassOnListed f e s z h = refl
takes_told memory l JoinStarved f e s z h = refl
takes_told memory l RefuseUncount f e s z h = refl
takes_told memory l RefuseNotifyMemory f e s z h = refl
takes_told memory l RefuseNotifyStarved f e s z h = refl
takes_told memory l (Join true) f e s z h = refl
takes_told memory l (Join false) Done e s z h = absurd (one_not h)
takes_told memory l (Join false) _ e s z h = absurd (one_not h)
takes_told memory l (Count listed true) f e s z h = refl
takes_told memory l (Count true false) AtLimit e s z h = absurd (one_not h)
takes_told memory l (Count true false) _ e s z h = absurd (one_not h)
takes_told memory l (Count false false) AtLimit e s z h = absurd (one_not h)
takes_told memory l (Count false false) _ e s z h = absurd (one_not h)
takes_told memory l (RefuseLeave true) f e s z h = refl
takes_told memory l (RefuseLeave false) f e s z h = absurd (one_not h)
takes_told memory l Out f e s z h = absurd (one_not h)
takes_told memory l CancelUncount f e s z h = absurd (one_not h)
takes_told memory l CancelLeave f e s z h = absurd (one_not h)
takes_told memory l ReleaseNotify f e s z h = absurd (one_not h)
takes_told memory l Holding f e s z h = absurd (had z)
takes_told memory l Clear f e s z h = absurd (had z)
takes_told memory l (Uncount listed) f e s z h = absurd (had z)
takes_told memory l Leave f e s z h = absurd (had z)
