-- After each step what is known tells the rights.
use Rattle.world_mutex.proofs.Prelude.{◌≡◌, ◌≢◌, ℕ, ◌↔◌, true, false, Option, Some, None, is_some, refl, ap, sym, ◌∙◌, subst, ℕ_discrete, Answer, Call, Value, Inputs, Move, What, Begin, Go, Refusal, Kind, Rest, Stage, Outside, Inside, Within, within, Account, account_after, accounts_after, HasByAnswers, put_in, Standing, outside, inside, forgotten, is_outside, some_eq, none_some, same_test, other_test, StepsWell, stage_at, stands_as, call_at, polls_again, stage_after, Table, Acted, way, by_way, End, Found, LockCall, Next, Place, Out, Enter, Try, Ask, AskStarved, IsMutex, Takes, Tries, Cancels, GoesOn, next_of, Guarded, knows, Moves, MovesBy, is_within, is_try_kind, answer_by, place_of, goes_with, HasRight, IsSound, IsAwake, is_at_rest, HasItsOwn, Legal, accounts_of, right_by, TellsRights, HoldsWell, World, standing_of, IsMutexTable, TableSteps, verdict, view_of}
use Rattle.world_base.specs.Rights.{Right, hold}
use Rattle.world_base.specs.table.Rights.{account_by, sought_by}
use Rattle.world_base.proofs.of_table.Acting.{stands}
use Rattle.world_base.proofs.of_table.Rights.{tells_on, idle_account, again_account}
use Rattle.world_mutex.proofs.of_machine.legal.Courses.{begins, goes}
use Rattle.world_mutex.proofs.step.Acting as acting
use Rattle.world_mutex.proofs.table.Seen as seen
use Rattle.world_mutex.proofs.step.Stepping.{known_calls, carried}
use Rattle.world_mutex.proofs.table.Turns.{Turn, turn, Puts, puts}

abbrev account_at : Standing → Option Right → Account
account_at s r = account_by s (sought_by hold s) r

-- ---- an action keeps its party's account

-- what was decided before and is then, and who the holder is, doesn't matter outside and inside calls
abbrev Kept : Stage → What → Within → Next → Type 0
Kept s what w n = (v : ℕ) (d e : Option Answer) (r q : Option Right) → account_after (account_at (stands_as d s) r) what (answer_by (is_try_kind w.kind) v n) ≡ account_at (stands_as e (stage_after Rest.Holding w (answer_by (is_try_kind w.kind) v n))) q

abbrev first : Within
first = within Kind.FirstPoll Rest.Idle

abbrev later : Within
later = within Kind.LaterPoll Rest.Pending

first_begins : (i : Inputs) (n : Next) (y : Place) → Takes n y → Kept (Outside Rest.Idle) (Begin Call.Lock i) first n
first_begins i (Next.Do a q) y t v d e r o = refl
first_begins i (Next.End End.Got) y t v d e r o = refl
first_begins i (Next.End End.Pending) y t v d e r o = refl
first_begins i (Next.End (End.Refused Refusal.Memory)) y t v d e r o = refl
first_begins i (Next.End (End.Refused Refusal.Starved)) y t v d e r o = refl
first_begins i (Next.End _) y t v d e r o = absurd t

first_goes : (i : Inputs) (n : Next) (y : Place) → Takes n y → Kept (Inside first) (Go i) first n
first_goes i (Next.Do a q) y t v d e r o = refl
first_goes i (Next.End End.Got) y t v d e r o = refl
first_goes i (Next.End End.Pending) y t v d e r o = refl
first_goes i (Next.End (End.Refused Refusal.Memory)) y t v d e r o = refl
first_goes i (Next.End (End.Refused Refusal.Starved)) y t v d e r o = refl
first_goes i (Next.End _) y t v d e r o = absurd t

later_begins : (i : Inputs) (n : Next) (y : Place) → Takes n y → Kept (Outside Rest.Pending) (Begin Call.Poll i) later n
later_begins i (Next.Do a q) y t v d e r o = refl
later_begins i (Next.End End.Got) y t v d e r o = refl
later_begins i (Next.End End.Pending) y t v d e r o = refl
later_begins i (Next.End (End.Refused Refusal.Memory)) y t v d e r o = refl
later_begins i (Next.End (End.Refused Refusal.Starved)) y t v d e r o = refl
later_begins i (Next.End _) y t v d e r o = absurd t

later_goes : (i : Inputs) (n : Next) (y : Place) → Takes n y → Kept (Inside later) (Go i) later n
later_goes i (Next.Do a q) y t v d e r o = refl
later_goes i (Next.End End.Got) y t v d e r o = refl
later_goes i (Next.End End.Pending) y t v d e r o = refl
later_goes i (Next.End (End.Refused Refusal.Memory)) y t v d e r o = refl
later_goes i (Next.End (End.Refused Refusal.Starved)) y t v d e r o = refl
later_goes i (Next.End _) y t v d e r o = absurd t

tries : (i : Inputs) (n : Next) (y : Place) → Tries n y → Kept (Outside Rest.Idle) (Begin Call.TryLock i) (within Kind.Try Rest.Idle) n
tries i (Next.End End.Got) y t v d e r o = refl
tries i (Next.End End.NotFree) y t v d e r o = refl
tries i (Next.End _) y t v d e r o = absurd t
tries i (Next.Do a q) y t v d e r o = absurd t

cancels_on : (i : Inputs) (n : Next) (y : Place) → Cancels n y → Kept (Inside (within Kind.Drop Rest.Pending)) (Go i) (within Kind.Drop Rest.Pending) n
cancels_on i (Next.Do a q) y t v d e r o = refl
cancels_on i (Next.End End.GivenBack) y t v d e r o = refl
cancels_on i (Next.End _) y t v d e r o = absurd t

released : (i : Inputs) (n : Next) → n ≡ Next.End End.GivenBack → Kept (Inside (within Kind.Drop Rest.Holding)) (Go i) (within Kind.Drop Rest.Holding) n
released i n e = let P : Next → Type 0 = λ z. Kept (Inside (within Kind.Drop Rest.Holding)) (Go i) (within Kind.Drop Rest.Holding) z in subst P (sym e) (λ v d e r o. refl)

goes_by : (k : Kind) (r : Rest) (i : Inputs) (x : Place) (n : Next) (y : Place) → is_within k r x ≡ true → GoesOn x n y → Kept (Inside (within k r)) (Go i) (within k r) n
goes_by Kind.FirstPoll Rest.Idle i x n y h g = first_goes i n y (g.takes h)
goes_by Kind.LaterPoll Rest.Pending i x n y h g = later_goes i n y (g.takes h)
goes_by Kind.Drop Rest.Holding i x n y h g = released i n (g.releases h).0
goes_by Kind.Drop Rest.Pending i x n y h g = cancels_on i n y (g.cancels h)
goes_by _ _ i x n y h g = absurd (cc (h))

abbrev Accounted : Stage → What → Within → Place → Place → Type 0
Accounted s what w x from = (f : Found) → Kept s what w (next_of from f)

accounted : (s : Stage) (what : What) (w : Within) (x : Place) → goes_with s x ≡ true → call_at knows s what ≡ Some w → polls_again s what ≡ false → put_in what ≡ None → Turn Accounted s what w x
accounted = turn Accounted (record {
  lock = λ i f. first_begins i _ _ (begins LockCall.Lock Out Enter f refl);
  try = λ i f. tries i _ _ (begins LockCall.Try Out Try f refl);
  poll = λ i f. later_begins i _ _ (begins LockCall.Poll Out Enter f refl);
  poll_listed = λ i f. later_begins i _ _ (begins LockCall.Poll Ask Ask f refl);
  poll_starved = λ i f. later_begins i _ _ (begins LockCall.Poll AskStarved AskStarved f refl);
  abandon = λ i f v d e r q. refl;
  cancel = λ i f v d e r q. refl;
  cancel_starved = λ i f v d e r q. refl;
  release = λ i f v d e r q. refl;
  go = λ w x i h f. goes_by w.kind w.was i x _ _ h (goes x f);
})

-- ---- the right in the state

right_is : (h : Option ℕ) (q : ℕ) → h ≡ Some q → right_by h q ≡ Some hold
right_is None q e = absurd (none_some e)
right_is (Some j) q e = rw (same_test j q (some_eq e)) refl

right_none : (h : Option ℕ) (q : ℕ) → (h ≡ Some q → ⊥) → right_by h q ≡ None
right_none None q n = refl
right_none (Some j) q n = rw (other_test j q (λ e. n (ap Some e))) refl

right_means : (h : Option ℕ) (q : ℕ) → right_by h q ≡ Some hold → h ≡ Some q
right_means None q e = absurd (none_some e)
right_means (Some j) q e = elim (ℕ_discrete j q) as (λ _. Some j ≡ Some q) [ yes same ↦ ap Some same | no apart ↦ absurd (none_some (sym (right_none (Some j) q (λ e. apart (some_eq e))) ∙ e)) ]

right_same : (h g : Option ℕ) (q : ℕ) → (h ≡ Some q → g ≡ Some q) → (g ≡ Some q → h ≡ Some q) → right_by h q ≡ right_by g q
right_same None g q to back = sym (right_none g q (λ e. none_some (back e)))
right_same (Some j) g q to back = elim (ℕ_discrete j q) as (λ _. right_by (Some j) q ≡ right_by g q) [
  | yes same ↦ right_is (Some j) q (ap Some same) ∙ sym (right_is g q (to (ap Some same)))
  | no apart ↦ right_none (Some j) q (λ e. apart (some_eq e)) ∙ sym (right_none g q (λ e. apart (some_eq (back e))))
]

-- ---- a step keeps all accounts

-- the other parties keep theirs
others : (w : World) (m : Move) (a : Answer) (v : World) → Legal w m a v → (q : ℕ) → q ≢ m.party → accounts_of v q ≡ accounts_of w q
others w m a v legal q apart =
    ap (λ z. account_at z (right_by v.state.holder q)) (legal.one_change.others q apart)
    ∙ ap (account_at (standing_of w q)) (right_same v.state.holder w.state.holder q (legal.others_keep.lock q apart).0 (legal.others_keep.lock q apart).1)

module _ (t u : Table Guarded) (m : Move) (a : Answer) where
  abbrev p : ℕ
  p = m.party

  abbrev s : Stage
  s = stage_at t.stages p

  abbrev right : Table Guarded → Option Right
  right x = right_by (view_of x).state.holder p

  -- its party's account
  abbrev Own : Answer → Table Guarded → Type 0
  Own b x = account_after (accounts_of (view_of t) p) m.what b ≡ accounts_of (view_of x) p

  own_acting : (w : Within) (k : acting.Acting t u m a w) → Own a u
  own_acting w k =
      let turned = accounted s m.what w (place_of t.machine p) (k.old_fits.stands p k.inside) k.call k.first k.none in
      let P : Place → Type 0 = Accounted s m.what w (place_of t.machine p) in
      let N : Next → Type 0 = Kept s m.what w in
      let A : Answer → Type 0 = λ b. account_after (account_at (stands_as (verdict t.machine p) s) (right t)) m.what b ≡ account_at (stands_as (verdict u.machine p) (stage_after Rest.Holding w b)) (right u) in
      let so : Kept s m.what w k.carries.next = subst N (sym k.carries.carried.acts.next_is) (subst P (some_eq (sym turned.starts ∙ k.carries.starts)) turned.holds k.carries.carried.acts.found) in
      ap (λ z. account_after (account_at z (right t)) m.what a) (acting.stood t u m a w k)
      ∙ (subst A (sym k.carries.answer) (so t.machine.value (verdict t.machine p) (verdict u.machine p) (right t) (right u)) ∙ ap (λ z. account_at z (right u)) (sym (acting.stands t u m a w k)))

  -- a party that puts goes on having the lock
  own_put : (w : Within) (n : ℕ) (d : Acted known_calls Rest.Holding Moves w t m a u) → Puts s m.what w n → a ≡ Answer.Granted (Value n) → Own a u
  own_put w n d is granted =
      let V : Within → Answer → Type 0 = λ v b. standing_of (view_of u) p ≡ stands_as (verdict u.machine p) (stage_after Rest.Holding v b) in
      let then_so : V w a = stands verdict Rest.Holding t u p w a d.inside d.stages in
      let W : Within → Type 0 = λ v. V v a in
      let then_holding : standing_of (view_of u) p ≡ outside Rest.Holding = subst (V (within Kind.Put Rest.Holding)) granted (subst W is.is then_so) in
      let was_holding : standing_of (view_of t) p ≡ outside Rest.Holding = seen.stands_seen t p ∙ ap (stands_as (verdict t.machine p)) is.stage in
      let X : What → Answer → Type 0 = λ what b. account_after (account_at (outside Rest.Holding) (right t)) what b ≡ account_at (outside Rest.Holding) (right u) in
      let X' : What → Type 0 = λ what. X what (Answer.Granted (Value n)) in
      ap (λ z. account_after (account_at z (right t)) m.what a) was_holding ∙ (subst (X m.what) (sym granted) (subst X' (sym is.move) refl) ∙ ap (λ z. account_at z (right u)) (sym then_holding))

  module _ (tl : IsMutex t.machine.lock) (tf : IsMutexTable t) (ul : IsMutex u.machine.lock) (uf : IsMutexTable u) where
    own_acted : (w : Within) → call_at knows s m.what ≡ Some w → polls_again s m.what ≡ false → Acted known_calls Rest.Holding Moves w t m a u → (o : Option ℕ) → put_in m.what ≡ o → Own a u
    own_acted w e f d None none = own_acting w (carried t u m a tl tf ul uf w e f d none)
    own_acted w e f d (Some n) put = (let P : Option ℕ → Type 0 = λ o. MovesBy o t.machine p w m.what a u.machine in let k : P (Some n) = subst P put d.acts in own_put w n d (puts s m.what w n e put) k.0)

    pub own : TableSteps t m a u → Own a u
    own step = by_way known_calls Rest.Holding Moves t u m a Own
        (λ e. idle_account (accounts_of (view_of t) p) m.what)
        (λ w e f. again_account (accounts_of (view_of t) p) s m.what f)
        (λ w e f d. own_acted w e f d (put_in m.what) refl)
        (way known_calls Rest.Holding Moves t u m a step)

-- ---- what is known, and that all is well

own_right : (w : World) (p : ℕ) (s : Standing) → is_outside s ≡ true → HasItsOwn w p s → (w.state.holder ≡ Some p) ↔ HasByAnswers (account_at s (right_by w.state.holder p)) hold
own_right w p (outside Rest.Idle) o own = ((λ h. absurd (own.1 h)), (λ h. absurd (cc (h.0))))
own_right w p (outside Rest.Finished) o own = ((λ h. absurd (own.1 h)), (λ h. absurd (cc (h.0))))
own_right w p (outside Rest.Pending) o own = ((λ h. absurd (own.0 h)), (λ h. absurd (cc (h.0))))
own_right w p (outside Rest.Holding) o own = ((λ h. (refl, refl)), (λ h. own.1))
own_right w p (inside u d) o own = absurd (cc o)
own_right w p forgotten o own = ((λ h. (ap is_some (right_is w.state.holder p h), right_is w.state.holder p h)), (λ h. right_means w.state.holder p h.1))

right_told : (w : World) (p : ℕ) (r : Right) → Some hold ≡ Some r → w.state.holder ≡ Some p → HasRight w p r
right_told w p r e h = let P : Right → Type 0 = HasRight w p in subst P (some_eq e) h

only_hold : (h : Option ℕ) (p : ℕ) (r : Right) → right_by h p ≡ Some r → (Some hold ≡ Some r) × (h ≡ Some p)
only_hold None p r e = absurd (none_some e)
only_hold (Some j) p r e = elim (ℕ_discrete j p) as (λ _. (Some hold ≡ Some r) × (Some j ≡ Some p)) [
  | yes same ↦ (sym (right_is (Some j) p (ap Some same)) ∙ e, ap Some same)
  | no apart ↦ absurd (none_some (sym (right_none (Some j) p (λ i. apart (some_eq i))) ∙ e))
]

own_told : (w : World) (p : ℕ) (r : Right) (s : Standing) → HasItsOwn w p s → HasByAnswers (account_at s (right_by w.state.holder p)) r → HasRight w p r
own_told w p r (outside Rest.Idle) own h = absurd (cc (h.0))
own_told w p r (outside Rest.Finished) own h = absurd (cc (h.0))
own_told w p r (outside Rest.Pending) own h = absurd (cc (h.0))
own_told w p r (outside Rest.Holding) own h = right_told w p r h.1 own.1
own_told w p r (inside u d) own h = absurd (cc (h.0))
own_told w p r forgotten own h = let so = only_hold w.state.holder p r h.1 in right_told w p r so.0 so.1

pub holds_well : (known : ℕ → Account) (w : World) (m : Move) (a : Answer) (v : World) → TellsRights known w → account_after (accounts_of w m.party) m.what a ≡ accounts_of v m.party → Legal w m a v → IsSound v → (is_at_rest v ≡ true → IsAwake v)
    → StepsWell TellsRights HoldsWell (accounts_after known m a) v
holds_well known w m a v tells own legal sound awake =
    let rights : TellsRights (accounts_after known m a) v = tells_on accounts_of known w m a v tells own (others w m a v legal) in
    let told : (q : ℕ) (r : Right) → HasByAnswers (accounts_after known m a q) r → HasRight v q r = λ q r h. (let P : Account → Type 0 = λ z. HasByAnswers z r in own_told v q r (standing_of v q) (sound.each q) (subst P (rights q) h)) in
    record {
      tells = rights;
      well = record {
        rights = λ q out. (let P : Account → Type 0 = λ z. (v.state.holder ≡ Some q) ↔ HasByAnswers z hold in subst P (sym (rights q)) (own_right v q (standing_of v q) out (sound.each q)));
        told = told;
        exclusion = λ q j r o hq hj apart. sound.exclusion q j r o (told q r hq) (told j o hj) apart;
        sound = sound;
        awake = awake;
      };
    }
