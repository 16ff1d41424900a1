-- What is so where a move begins or goes on.
use Rattle.world_mutex.proofs.Prelude.{◌≡◌, ℕ, ◌<◌, ◌||◌, ◌⊎◌, inl, inr, true, false, Option, Some, None, is_some, refl, arith, ap, sym, subst, Answer, What, Kind, Rest, Stage, Outside, Inside, Within, is_drop, put_in, Standing, inside, is_decided, some_eq, not_one, stands_as, call_at, polls_again, End, LockCall, Place, Enter, Try, Clear, Ask, AskStarved, CancelLeave, ReleaseNotify, counted, decision, SameRoles, start_of, listed, knows, goes_with, is_within, is_try_kind, is_try, is_first_poll, is_later_poll, answer_on}
use Rattle.world_mutex.specs.machine.Courses.{is_releasing}
use Rattle.world_mutex.proofs.of_machine.laws.Starts.{start_same}
use Rattle.world_mutex.proofs.table.Turns.{Turn, turn}

-- the standing of a party at this stage and place
abbrev pub standing_at : ℕ → Stage → Place → Standing
standing_at v s x = stands_as (answer_on v (decision x)) s

-- a call begins here, or its party goes on
abbrev pub BeginsOrGoes : Stage → Within → Place → Place → Type 0
BeginsOrGoes s w x from = ((c : LockCall) × (start_of c x ≡ Some from)) ⊎ ((s ≡ Inside w) × (from ≡ x))

pub record Here (s : Stage) (what : What) (w : Within) (x from : Place) : Type 0 where
  pub begins : BeginsOrGoes s w x from
  pub decides : (v : ℕ) → is_decided (standing_at v s x) || is_drop what ≡ is_some (decision from)
  pub kept : (v : ℕ) (u : Within) (b : Answer) → standing_at v s x ≡ inside u (Some b) → (answer_on v (decision from) ≡ Some b) × (is_try_kind w.kind ≡ false)
  pub undecided : (v : ℕ) → is_decided (standing_at v s x) ≡ false → (e : End) → decision from ≡ Some e → e ≡ End.GivenBack
  pub first : (v n : ℕ) → is_first_poll (standing_at v s x) what n ≡ true → n ≡ listed x → (from ≡ Enter) × (is_try_kind w.kind ≡ false)
  pub tries : is_try what ≡ true → (from ≡ Try) × (is_try_kind w.kind ≡ true)
  pub polls : (v : ℕ) → is_later_poll (standing_at v s x) what ≡ true → 0 < listed x → ((from ≡ Ask) ⊎ (from ≡ AskStarved)) × (is_try_kind w.kind ≡ false)
  pub releases : is_drop what ≡ true → s ≡ Outside Rest.Holding → (from ≡ Clear) × (is_try_kind w.kind ≡ false)
  pub cancels : is_drop what ≡ true → s ≡ Outside Rest.Pending → 0 < listed x → counted x ≡ 0 → (from ≡ CancelLeave) × (is_try_kind w.kind ≡ false)
  pub tells : s ≡ Inside (record { kind = Kind.Drop; was = Rest.Holding }) → (from ≡ ReleaseNotify) × (is_try_kind w.kind ≡ false)

decides_so : (v : ℕ) (w : Within) (o : Option End) → is_decided (inside w (answer_on v o)) || false ≡ is_some o
decides_so v w None = refl
decides_so v w (Some e) = refl

undecided_so : (v : ℕ) (w : Within) (o : Option End) (e : End) → is_decided (inside w (answer_on v o)) ≡ false → o ≡ Some e → e ≡ End.GivenBack
undecided_so v w None e h is = absurd (cc)
undecided_so v w (Some f) e h is = absurd (cc)

never_tries : (k : Kind) (r : Rest) (x : Place) → is_within k r x ≡ true → is_try_kind k ≡ false
never_tries Kind.Try r x h = absurd (cc)
never_tries _ r x h = refl

-- inside the drop of a guard the lock is given back, and somebody is to be notified
told_at : (x : Place) → is_releasing x ≡ true → x ≡ ReleaseNotify
told_at ReleaseNotify h = refl
told_at _ h = absurd (cc)

tells_so : (w : Within) (x : Place) → Inside w ≡ Inside (record { kind = Kind.Drop; was = Rest.Holding }) → is_within w.kind w.was x ≡ true → (x ≡ ReleaseNotify) × (is_try_kind w.kind ≡ false)
tells_so w x e within =
    let same : w ≡ record { kind = Kind.Drop; was = Rest.Holding } = cc e in
    let W : Within → Type 0 = λ v. is_within v.kind v.was x ≡ true in
    (told_at x (subst W same within), ap (λ (v : Within). is_try_kind v.kind) same)

pub here : (s : Stage) (what : What) (w : Within) (x : Place) → goes_with s x ≡ true → call_at knows s what ≡ Some w → polls_again s what ≡ false → put_in what ≡ None → Turn Here s what w x
here = turn Here (record {
  lock = λ i. record { begins = inl (LockCall.Lock, refl); decides = λ v. refl; kept = λ v u b e. absurd (cc); undecided = λ v h e d. absurd (cc); first = λ v n h l. (refl, refl); tries = λ h. absurd (cc); polls = λ v h some. absurd (cc); releases = λ h e. absurd (cc); cancels = λ h e some n. absurd (cc); tells = λ e. absurd (cc) };
  try = λ i. record { begins = inl (LockCall.Try, refl); decides = λ v. refl; kept = λ v u b e. absurd (cc); undecided = λ v h e d. absurd (cc); first = λ v n h l. absurd (cc); tries = λ h. (refl, refl); polls = λ v h some. absurd (cc); releases = λ h e. absurd (cc); cancels = λ h e some n. absurd (cc); tells = λ e. absurd (cc) };
  poll = λ i. record { begins = inl (LockCall.Poll, refl); decides = λ v. refl; kept = λ v u b e. absurd (cc); undecided = λ v h e d. absurd (cc); first = λ v n h l. (refl, refl); tries = λ h. absurd (cc); polls = λ v h some. absurd (omega (arith, some)); releases = λ h e. absurd (cc); cancels = λ h e some n. absurd (cc); tells = λ e. absurd (cc) };
  poll_listed = λ i. record { begins = inl (LockCall.Poll, refl); decides = λ v. refl; kept = λ v u b e. absurd (cc); undecided = λ v h e d. absurd (cc); first = λ v n h l. absurd (not_one n h l); tries = λ h. absurd (cc); polls = λ v h some. (inl refl, refl); releases = λ h e. absurd (cc); cancels = λ h e some n. absurd (cc); tells = λ e. absurd (cc) };
  poll_starved = λ i. record { begins = inl (LockCall.Poll, refl); decides = λ v. refl; kept = λ v u b e. absurd (cc); undecided = λ v h e d. absurd (cc); first = λ v n h l. absurd (not_one n h l); tries = λ h. absurd (cc); polls = λ v h some. (inr refl, refl); releases = λ h e. absurd (cc); cancels = λ h e some n. absurd (cc); tells = λ e. absurd (cc) };
  abandon = λ i. record { begins = inl (LockCall.Cancel, refl); decides = λ v. refl; kept = λ v u b e. absurd (cc); undecided = λ v h e d. sym (some_eq d); first = λ v n h l. absurd (cc); tries = λ h. absurd (cc); polls = λ v h some. absurd (cc); releases = λ h e. absurd (cc); cancels = λ h e some n. absurd (omega (arith, some)); tells = λ e. absurd (cc) };
  cancel = λ i. record { begins = inl (LockCall.Cancel, refl); decides = λ v. refl; kept = λ v u b e. absurd (cc); undecided = λ v h e d. sym (some_eq d); first = λ v n h l. absurd (cc); tries = λ h. absurd (cc); polls = λ v h some. absurd (cc); releases = λ h e. absurd (cc); cancels = λ h e some n. (refl, refl); tells = λ e. absurd (cc) };
  cancel_starved = λ i. record { begins = inl (LockCall.Cancel, refl); decides = λ v. refl; kept = λ v u b e. absurd (cc); undecided = λ v h e d. sym (some_eq d); first = λ v n h l. absurd (cc); tries = λ h. absurd (cc); polls = λ v h some. absurd (cc); releases = λ h e. absurd (cc); cancels = λ h e some n. absurd (omega (arith, n)); tells = λ e. absurd (cc) };
  release = λ i. record { begins = inl (LockCall.Release, refl); decides = λ v. refl; kept = λ v u b e. absurd (cc); undecided = λ v h e d. sym (some_eq d); first = λ v n h l. absurd (cc); tries = λ h. absurd (cc); polls = λ v h some. absurd (cc); releases = λ h e. (refl, refl); cancels = λ h e some n. absurd (cc); tells = λ e. absurd (cc) };
  go = λ w x i within. record { begins = inr (refl, refl); decides = λ v. decides_so v w (decision x); kept = λ v u b e. (cc, never_tries w.kind w.was x within); undecided = λ v h e d. undecided_so v w (decision x) e h d; first = λ v n h l. absurd (cc); tries = λ h. absurd (cc); polls = λ v h some. absurd (cc); releases = λ h e. absurd (cc); cancels = λ h e some n. absurd (cc); tells = λ e. tells_so w x e within };
})

-- a party has as much where its call begins as where it stood
pub same_roles : (s : Stage) (w : Within) (x from : Place) → BeginsOrGoes s w x from → SameRoles from x
same_roles s w x from (inl b) = start_same b.0 x from b.1
same_roles s w x from (inr g) = rw g.1 (record { holding = refl; starving = refl; standing = refl; waiting = refl; owing = refl; counting = refl; telling = refl; releasing = refl })
