-- A party that hasn't waited for too long isn't refused for the number of starved parties, where nobody is starved.
use Rattle.world_mutex.proofs.Prelude.{◌≡◌, ℕ, ◌==◌, Bool, true, false, Option, Some, refl, ap, ◌∙◌, true≢false, Answer, Refusal, End, LockCall, Found, Done, Free, Held, Yes, Next, Place, Out, Holding, Enter, Try, Clear, CancelUncount, CancelLeave, Join, Look, Ask, Retry, PassOn, Count, JoinStarved, LookAlone, PassOnListed, AskStarved, Seize, Uncount, Leave, RefuseUncount, RefuseLeave, RefuseNotifyMemory, RefuseNotifyStarved, ReleaseNotify, start_of, next_of, place_after, is_counting, decided_by as by_call, decision, answer_by}
use Rattle.lock_program.specs.Refusals.{number_of}
use Rattle.world_mutex.proofs.of_machine.legal.Legal.{begins_decided}

-- decided on such a refusal
abbrev pub is_too_many : Option End → Bool
is_too_many (Some (End.Refused Refusal.Starved)) = true
is_too_many _ = false

abbrev decided_by : Next → Option End
decided_by (Next.Do a q) = decision q
decided_by (Next.End e) = Some e

-- only where it is about to be counted does a party decide on one
decides_not : (x : Place) (f : Found) → is_counting x ≡ false → is_too_many (decision x) ≡ false → is_too_many (decided_by (next_of x f)) ≡ false
decides_not Out f c d = refl
decides_not Holding f c d = refl
decides_not Enter Free c d = refl
decides_not Enter _ c d = refl
decides_not Try Free c d = refl
decides_not Try _ c d = refl
decides_not (Join true) Done c d = refl
decides_not (Join true) _ c d = refl
decides_not (Join false) Done c d = refl
decides_not (Join false) _ c d = refl
decides_not (Look told) Free c d = refl
decides_not (Look told) (Held b) c d = refl
decides_not (Look told) _ c d = refl
decides_not Ask Yes c d = refl
decides_not Ask _ c d = refl
decides_not Retry Free c d = refl
decides_not Retry (Held true) c d = refl
decides_not Retry (Held false) c d = refl
decides_not Retry _ c d = refl
decides_not PassOn f c d = absurd (true≢false c)
decides_not (Count listed told) f c d = absurd (true≢false c)
decides_not JoinStarved Done c d = refl
decides_not JoinStarved _ c d = refl
decides_not LookAlone Free c d = refl
decides_not LookAlone (Held b) c d = refl
decides_not LookAlone _ c d = refl
decides_not PassOnListed f c d = refl
decides_not AskStarved Yes c d = refl
decides_not AskStarved _ c d = refl
decides_not Seize Free c d = refl
decides_not Seize _ c d = refl
decides_not (Uncount true) f c d = refl
decides_not (Uncount false) f c d = refl
decides_not Leave f c d = refl
decides_not RefuseUncount f c d = refl
decides_not (RefuseLeave told) f c d = absurd (true≢false d)
decides_not RefuseNotifyMemory f c d = refl
decides_not RefuseNotifyStarved f c d = absurd (true≢false d)
decides_not ReleaseNotify f c d = refl
decides_not Clear f c d = refl
decides_not CancelUncount f c d = refl
decides_not CancelLeave f c d = refl

-- an answer that is one
abbrev pub refuses_many : Answer → Bool
refuses_many (Answer.Refused n) = n == number_of Refusal.Starved
refuses_many _ = false

-- what such an action leaves
pub record Calm (a : Answer) (to : Place) : Type 0 where
  pub going : a ≡ Answer.Stepped → is_too_many (decision to) ≡ false
  pub answered : refuses_many a ≡ false

stays_calm : (trying : Bool) (v : ℕ) (from : Place) (n : Next) → is_too_many (decided_by n) ≡ false → Calm (answer_by trying v n) (place_after from n)
stays_calm trying v from (Next.Do a q) d = record { going = λ e. d; answered = refl }
stays_calm true v from (Next.End End.Got) d = record { going = λ e. absurd (cc (e)); answered = refl }
stays_calm false v from (Next.End End.Got) d = record { going = λ e. absurd (cc (e)); answered = refl }
stays_calm trying v from (Next.End End.Pending) d = record { going = λ e. absurd (cc (e)); answered = refl }
stays_calm trying v from (Next.End End.NotFree) d = record { going = λ e. absurd (cc (e)); answered = refl }
stays_calm trying v from (Next.End End.Granted) d = record { going = λ e. absurd (cc (e)); answered = refl }
stays_calm trying v from (Next.End End.Waiting) d = record { going = λ e. absurd (cc (e)); answered = refl }
stays_calm trying v from (Next.End End.GivenBack) d = record { going = λ e. absurd (cc (e)); answered = refl }
stays_calm trying v from (Next.End (End.Refused Refusal.Starved)) d = absurd (true≢false d)
stays_calm trying v from (Next.End (End.Refused _)) d = record { going = λ e. absurd (cc (e)); answered = refl }

pub calm : (trying : Bool) (v : ℕ) (from : Place) (n : Next) (f : Found) (a : Answer) (to : Place) → n ≡ next_of from f → a ≡ answer_by trying v n → to ≡ place_after from n → is_counting from ≡ false → is_too_many (decision from) ≡ false → Calm a to
calm trying v from n f a to next_is answered lands c d =
    let so : is_too_many (decided_by n) ≡ false = ap (λ x. is_too_many (decided_by x)) next_is ∙ decides_not from f c d in
    rw (answered, lands) (stays_calm trying v from n so)

calm_by : (c : LockCall) → is_too_many (by_call c) ≡ false
calm_by LockCall.Lock = refl
calm_by LockCall.Try = refl
calm_by LockCall.Poll = refl
calm_by LockCall.Release = refl
calm_by LockCall.Cancel = refl

-- so does no call begin
pub begins_calm : (c : LockCall) (x from : Place) → start_of c x ≡ Some from → is_too_many (decision from) ≡ false
begins_calm c x from e = ap is_too_many (begins_decided c x from e) ∙ calm_by c
