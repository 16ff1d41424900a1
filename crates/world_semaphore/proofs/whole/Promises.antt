-- What whole calls promise.
use Rattle.world_semaphore.proofs.Prelude.{◌≡◌, ◌≢◌, ℕ, ◌<◌, ◌≤◌, ◌⊎◌, inl, inr, true, List, length, Some, refl, arith, ap, sym, ◌∙◌, subst, le-leb, Entry, marked_count, is_marked_at, is_party, entries_of, Answer, Call, Plain, Inputs, Begin, Go, Kind, Rest, Within, Standing, outside, call_in, StandsAfter, going_on, moves_of, answers_of, beginning, marked_listed, chosen, Table, guard_of, listed, Semaphore, knows, position_at, World, share_at, available, standing_of, size_of, call_of, size_after, wanted_in, HasItsOwn, is_first_poll, is_poll, IsFreeAndWanted, Steps, Stands, Known, HoldsWell, learn, Runs, IsSolo, Takes, HandsOver, Promises}
use Rattle.world_base.proofs.of_any_world.Endings.{ends_on}
use Rattle.world_base.proofs.of_any_world.Runs.{Onward, along, at_first, first_of, last_of}
use Rattle.world_semaphore.proofs.table.Seen as seen
use Rattle.world_semaphore.proofs.whole.Handing.{HasHanded, none_marked}
use Rattle.world_semaphore.proofs.whole.Handing as handing
use Rattle.world_semaphore.proofs.whole.Passing.{MarksWanted}
use Rattle.world_semaphore.proofs.whole.Passing as passing

-- a first poll of a semaphore with as many permits as it is for is ready at its first step
first_ready : (known : Known) (w : World) (p : ℕ) (c : Call) (i : Inputs) (n : ℕ) (a : Answer) (v : World) → Runs known w (moves_of p c i n) (answers_of n a) v → a ≢ Answer.Stepped
    → is_first_poll (standing_of w p) (Begin c i) (entries_of p w.entries) ≡ true → wanted_in (Begin c i) (size_of w p) ≤ available w.state → a ≡ Answer.Ready Plain
first_ready known w p c i n a v runs ended first few = at_first Steps learn HoldsWell known w p c i n a v (Answer.Ready Plain) (λ e. cc (e))
    (λ b x s. s.at_once.ready first ∙ chosen _ (Answer.Ready Plain) Answer.Stepped (le-leb (wanted_in (Begin c i) (size_of w p)) (available w.state) few)) ended runs

-- ---- a poll that is to be ready

-- a poll is for as many permits as it was
go_keeps : (i : Inputs) (a : Answer) (s : ℕ) → size_after (Go i) a s ≡ s
go_keeps i Answer.NotPossible s = refl
go_keeps i _ s = refl

poll_keeps : (i : Inputs) (a : Answer) (s : ℕ) → size_after (Begin Call.Poll i) a s ≡ s
poll_keeps i Answer.NotPossible s = refl
poll_keeps i _ s = refl

module _ (p : ℕ) (i : Inputs) (k : ℕ) where
  abbrev IsOf : World → Type 0
  IsOf x = size_of x p ≡ k

  sized_on : (x : World) (b : Answer) (y : World) → IsOf x → Steps x (going_on p i) b y → Onward IsOf (λ c z. IsOf z) b y
  sized_on x b y g s =
      let so : IsOf y = s.legal.knows_sizes.own ∙ (go_keeps i b (size_of x p) ∙ g) in
      record { going = λ e. so; ended = λ e. so }

  size_kept : (known : Known) (w : World) (n : ℕ) (a : Answer) (v : World) → Runs known w (moves_of p Call.Poll i n) (answers_of n a) v → a ≢ Answer.Stepped → IsOf w → IsOf v
  size_kept known w n a v runs ended is = along Steps learn HoldsWell p i IsOf (λ c z. IsOf z) sized_on known n w (beginning p Call.Poll i) a v
      (λ b x s. (let so : IsOf x = s.legal.knows_sizes.own ∙ (poll_keeps i b (size_of w p) ∙ is) in record { going = λ e. so; ended = λ e. so })) ended runs

ready_has : (x : World) (p : ℕ) (u : Within) (a : Answer) → a ≡ Answer.Ready Plain → StandsAfter Rest.Holding u a (standing_of x p) → HasItsOwn x p (standing_of x p) → share_at x.state p ≡ guard_of (size_of x p)
ready_has x p u a is stands own =
    let A : Answer → Type 0 = λ b. StandsAfter Rest.Holding u b (standing_of x p) in
    let there : standing_of x p ≡ outside Rest.Holding = (subst A is stands).1 in
    let P : Standing → Type 0 = HasItsOwn x p in
    (subst P there own).1

later_takes : (known : Known) (w : World) (p : ℕ) (i : Inputs) (n : ℕ) (a : Answer) (v : World) → Runs known w (moves_of p Call.Poll i n) (answers_of n a) v → a ≢ Answer.Stepped → standing_of w p ≡ outside Rest.Pending → size_of w p ≤ available w.state → Takes p (size_of w p) a v
later_takes known w p i n a v runs ended pending few =
    let polls : is_poll (standing_of w p) (Begin Call.Poll i) ≡ true = ap (λ z. is_poll z (Begin Call.Poll i)) pending in
    let called : call_of w (beginning p Call.Poll i) ≡ Some (record { kind = Kind.LaterPoll; was = Rest.Pending }) = ap (λ z. call_in knows z (Begin Call.Poll i)) pending in
    let so = ends_on Steps learn HoldsWell standing_of (λ y q. knows) Rest.Holding (λ y m b z s. s.legal.possible) (λ y m b z s. s.legal.ends_properly) p i (Answer.Ready Plain) known w Call.Poll n a v
    (record { kind = Kind.LaterPoll; was = Rest.Pending }) called (λ e x s. s.at_once.taken polls (le-leb (size_of w p) (available w.state) few)) ended runs in
    let size : size_of v p ≡ size_of w p = size_kept p i (size_of w p) known w n a v runs ended refl in
    record {
      ready = so.answer;
      permits_had = ready_has v p so.within a so.answer so.stands ((last_of Steps learn HoldsWell known w p i n (Begin Call.Poll i) a v runs).legal.legal.leaves_clear.each p) ∙ ap guard_of size;
    }

-- ---- what the machine says, as callers see it

-- the World in which a call begins and the one in which it ends are seen as what stands behind them
stood_first : (known : Known) (w : World) (p : ℕ) (c : Call) (i : Inputs) (n : ℕ) (a : Answer) (v : World) → Runs known w (moves_of p c i n) (answers_of n a) v → Stands w
stood_first known w p c i n a v runs = let one = first_of Steps learn HoldsWell known w (beginning p c i) _ _ v runs in one.2.did.stood

stands_last : (known : Known) (w : World) (p : ℕ) (c : Call) (i : Inputs) (n : ℕ) (a : Answer) (v : World) → Runs known w (moves_of p c i n) (answers_of n a) v → Stands v
stands_last known w p c i n a v runs = let one = last_of Steps learn HoldsWell known w p i n (Begin c i) a v runs in one.legal.did.stands

marks_seen : (v : World) → Stands v → MarksWanted v.behind → IsFreeAndWanted v → 0 < marked_count v.entries
marks_seen v s marks free = let P : World → Type 0 = λ z. IsFreeAndWanted z → 0 < marked_count z.entries in subst P (sym s.seen) marks free

-- a list in which somebody is notified, and one entry at most is, has just one notified
pub one_marked : (p : ℕ) (l : List (Entry ℕ)) → is_marked_at (is_party p) l ≡ true → marked_count l ≤ 1 → marked_count l ≡ 1
one_marked p l marked few = by_count (marked_count l) refl few where
  by_count : (n : ℕ) → marked_count l ≡ n → n ≤ 1 → n ≡ 1
  by_count n is few = elim (n_is n few) as (λ _. n ≡ 1) [ inl none ↦ absurd (cc (marked, none_marked p l (is ∙ none))) | inr one ↦ one ] where
    n_is : (n : ℕ) → n ≤ 1 → (n ≡ 0) ⊎ (n ≡ 1)
    n_is n few = grind arith

hands_over : (known : Known) (w : World) (p : ℕ) (i : Inputs) (n : ℕ) (a : Answer) (v : World) → Runs known w (moves_of p Call.Poll i n) (answers_of n a) v → a ≢ Answer.Stepped → IsSolo w p i → available w.state < size_of w p → HandsOver w a v
hands_over known w p i n a v runs ended solo short =
    let first = stood_first known w p Call.Poll i n a v runs in
    let last = stands_last known w p Call.Poll i n a v runs in
    let t : Table Semaphore = w.behind in
    let es : w.entries ≡ t.machine.entries = ap (λ (z : World). z.entries) first.seen in
    let marked : is_marked_at (is_party p) t.machine.entries ≡ true = sym (ap (is_marked_at (is_party p)) es) ∙ solo.marked in
    let available_is : available w.state ≡ t.machine.words.available = ap (λ (z : World). available z.state) first.seen ∙ seen.available_seen t first.laws in
    let size_is = ap (λ (z : World). size_of z p) first.seen ∙ seen.size_seen t p in
    let there : 0 < listed (position_at t.machine.positions p) = omega (arith, marked_listed p t.machine.entries marked, first.laws.owners p) in
    let one : marked_count t.machine.entries ≡ 1 = one_marked p t.machine.entries marked first.laws.one_marked in
    let done = handing.hands_over known w p i n a v runs ended solo.pending solo.memory marked one there (omega (arith, short, available_is, size_is)) in
    let state : v.state ≡ w.state = ap (λ (z : World). z.state) last.seen ∙ (done.same ∙ sym (ap (λ (z : World). z.state) first.seen)) in
    record {
      pending = done.pending;
      state = state;
      as_long = ap (λ (z : World). length z.entries) last.seen ∙ (done.as_long ∙ sym (ap length es));
      enough = λ free q is. (
          let few = done.enough q (sym (ap (λ (z : World). is_marked_at (is_party q) z.entries) last.seen) ∙ is) in
          omega (arith, few, ap (λ (z : World). size_of z q) last.seen, available_is, ap available state)
          );
    }

pub keeps_promises : (known : Known) (w : World) (p : ℕ) (c : Call) (i : Inputs) (n : ℕ) (a : Answer) (v : World) → Runs known w (moves_of p c i n) (answers_of n a) v → a ≢ Answer.Stepped → Promises w p c i a v
keeps_promises known w p c i n a v runs ended = record {
  first = first_ready known w p c i n a v runs ended;
  later = λ e pending few. later_takes known w p i n a v (polled e) ended pending few;
  passes_on = λ which pending some. marks_seen v (stands_last known w p c i n a v runs) (passing.passes_on known w p c i n a v runs ended which pending (omega (arith, some, ap (λ (z : World). marked_count z.entries) stood.seen)));
  hands_on = λ e pending there refused. marks_seen v (stands_last known w p c i n a v runs)
      (passing.hands_on known w p i n a v (polled e) ended pending (omega (arith, there, ap (λ (z : World). entries_of p z.entries) stood.seen, stood.laws.owners p)) refused);
  hands_over = λ e solo short. hands_over known w p i n a v (polled e) ended solo short;
} where
  stood : Stands w
  stood = stood_first known w p c i n a v runs

  polled : c ≡ Call.Poll → Runs known w (moves_of p Call.Poll i n) (answers_of n a) v
  polled e = let P : Call → Type 0 = λ c. Runs known w (moves_of p c i n) (answers_of n a) v in subst P e runs
