-- Where a row of the table leaves its party: at the next place, or where one stands whose call has ended so.
use Rattle.world_mutex.proofs.Prelude.{◌≡◌, true, false, refl, Found, Done, Free, Held, AtLimit, Yes, Place, Out, Holding, Enter, Try, Clear, CancelUncount, CancelLeave, Join, Look, Ask, Retry, PassOn, Count, JoinStarved, LookAlone, PassOnListed, AskStarved, Seize, Uncount, Leave, RefuseUncount, RefuseLeave, RefuseNotifyMemory, RefuseNotifyStarved, ReleaseNotify, next_of, place_after, stands_by}
use Rattle.lock_program.specs.Mutex as mutex

pub stands_there : (p : Place) (f : Found) → stands_by (mutex.next_of p f) ≡ place_after p (next_of p f)
stands_there Out f = refl
stands_there Holding f = refl
stands_there Enter Free = refl
stands_there Enter _ = refl
stands_there Try Free = refl
stands_there Try _ = refl
stands_there (Join told) Done = refl
stands_there (Join true) _ = refl
stands_there (Join false) _ = refl
stands_there (Look told) Free = refl
stands_there (Look told) (Held s) = refl
stands_there (Look told) _ = refl
stands_there Ask Yes = refl
stands_there Ask _ = refl
stands_there Retry Free = refl
stands_there Retry (Held true) = refl
stands_there Retry (Held false) = refl
stands_there Retry _ = refl
stands_there PassOn f = refl
stands_there (Count true told) AtLimit = refl
stands_there (Count false true) AtLimit = refl
stands_there (Count false false) AtLimit = refl
stands_there (Count true told) _ = refl
stands_there (Count false told) _ = refl
stands_there JoinStarved Done = refl
stands_there JoinStarved _ = refl
stands_there LookAlone Free = refl
stands_there LookAlone (Held s) = refl
stands_there LookAlone _ = refl
stands_there PassOnListed f = refl
stands_there AskStarved Yes = refl
stands_there AskStarved _ = refl
stands_there Seize Free = refl
stands_there Seize _ = refl
stands_there (Uncount true) f = refl
stands_there (Uncount false) f = refl
stands_there Leave f = refl
stands_there RefuseUncount f = refl
stands_there (RefuseLeave true) f = refl
stands_there (RefuseLeave false) f = refl
stands_there RefuseNotifyMemory f = refl
stands_there RefuseNotifyStarved f = refl
stands_there ReleaseNotify f = refl
stands_there Clear f = refl
stands_there CancelUncount f = refl
stands_there CancelLeave f = refl
