-- What each place's action does that is no step in the inner lock, finding by finding.
use Rattle.world_barrier.proofs.Prelude.{◌≡◌, ℕ, ◌+◌, ◌≤◌, inl, inr, true, false, List, Some, None, refl, arith, ap, sym, ◌∙◌, subst, Entry, is_marked_at, mark_at, is_party, entries_of, Answer, Got, Move, Refusal, Within, nothing, changes, does, joins, asks, leaves, notifies, list_after, Table, is_holding, Mutex, holder_of, starved_of, holding_holds, holding_unlisted, Found, Place, Look, Join, Arrive, Complete, NotifyAll, Check, JoinAgain, Ask, CancelLeave, Abandon, Progress, Words, arrivals_at, everyone, Wait, uncounted, counted, Barrier, IsBarrier, ListName, Lock, Generation, Leads, generations_of, LockState, World, list_in, wait_of, told_in, arrives, HasToWait, IsAnswered, IsAsBefore, ◌||◌, Bool, Option, is_some, Effect, Course, lock_after, lock_list_after, arrivals_after, generation_list_after, gives_back, gives_up, is_refusal, answer_by, next_of, place_wait, verdict_of, Change, true≢false, false≢true, inputs_of, is_held_by, IsAllowed, ◌≢◌, refused}
use Rattle.lock_event.specs.declared.event.Mark.TheVariants.{Waiting as Waits_unmarked}
use Rattle.world_base.proofs.of_queue.Told.{waits_at}
use Rattle.world_mutex.proofs.of_machine.callers.Holders as sees
use Rattle.std.proofs.Math.Bool.{not, or-true}
use Rattle.world_base.specs.Steps.{ListFunction}
use Rattle.std.proofs.lemmas.Bool.{or_left}
use Rattle.world_barrier.proofs.step.Here.{may_begin_at}
use Rattle.world_barrier.proofs.step.Locks.{wait_by}
use Rattle.world_barrier.proofs.step.Turns as turns
use Rattle.world_barrier.proofs.step.Turns.{said}
use Rattle.world_barrier.proofs.Numbers as numbers

module _ (t u : Table Barrier) (m : Move) (w : Within) (laws : IsBarrier t.machine) where
  abbrev p : ℕ
  p = m.party

  abbrev words : Words
  words = t.machine.words

  abbrev mine : Progress
  mine = turns.mine t u m w

  abbrev num : ℕ
  num = turns.num t u m w

  abbrev k : ℕ
  k = turns.k t u m w

  abbrev Known : Place → Found → Type 0
  Known = turns.Known t u m w

  abbrev RowAt : Place → Found → Type 0
  RowAt = turns.RowAt t u m w

  abbrev c : Course
  c = turns.c t u m w

  abbrev d : Course
  d = turns.d t u m w

  abbrev old : World
  old = turns.old t u m w

  abbrev new : World
  new = turns.new t u m w

  -- ---- the party that has the inner lock

  module _ (held : is_holding (turns.c t u m w) ≡ true) where
    its_lock : old.lock.holder ≡ Some p
    its_lock = sees.holds_it t.machine.lock.courses p laws.lock.one_holder (holding_holds (turns.c t u m w) held)

    no_lock_entry : entries_of p t.machine.lock.entries ≡ 0
    no_lock_entry = laws.lock.owners p ∙ holding_unlisted (turns.c t u m w) held

    both_lists : entries_of p t.machine.entries ≡ 0 → (list : ListName) → entries_of p (list_in list old) ≡ 0
    both_lists none Lock = no_lock_entry
    both_lists none Generation = none

  -- ---- a step that leaves the inner lock alone

  module _ (same : u.machine.lock ≡ t.machine.lock) where
    same_lock : new.lock ≡ old.lock
    same_lock = ap (λ (l : Mutex). (let s : LockState = record { holder = holder_of l; starved = starved_of l } in s)) same

    same_lock_list : new.lock_list ≡ old.lock_list
    same_lock_list = ap (λ (l : Mutex). l.entries) same

    module _ (still : u.machine.words ≡ words) where
      same_arrivals : new.arrivals ≡ old.arrivals
      same_arrivals = ap (λ (v : Words). arrivals_at v.size v.progress) still

      never_more : new.arrivals ≡ k + 1 → ⊥
      never_more e = let s : new.arrivals ≡ k = same_arrivals in omega arith

      as_before : u.machine.entries ≡ t.machine.entries → (b : Wait) → wait_of old p ≡ b → wait_of new p ≡ b → IsAsBefore old m new
      as_before l b e f = record { arrivals = same_arrivals; lock = same_lock; lists = in_list; wait = f ∙ sym e } where
        in_list : (list : ListName) → list_in list new ≡ list_in list old
        in_list Lock = same_lock_list
        in_list Generation = l

  generation_is : generations_of words.size k ≡ words.progress.generation
  generation_is = numbers.its_generations words.size words.progress laws.sound.unfinished

  at_limit : words.most ≤ words.progress.generation → generations_of words.size k ≡ words.most
  at_limit h = let g = generation_is in let within = laws.sound.within in omega arith

  abbrev sized : Words → ℕ → Type 0
  sized v n = IsAnswered false v.size n (arrivals_at v.size v.progress)

  -- ---- the rows

  size_kept : (v : Words) → v.size ≡ words.size → u.machine.words ≡ v → new.size ≡ words.size
  size_kept v e is = ap (λ (v : Words). v.size) is ∙ e

  next_leads : Known Arrive Found.Done → new.arrivals ≡ k + 1 → Leads new.size new.arrivals → Leads words.size (k + 1)
  next_leads x e l =
      let size : new.size ≡ words.size = size_kept (turns.words_of Arrive words) refl x.words_then in
      let P : ℕ → Type 0 = Leads words.size in
      let Q : ℕ → Type 0 = λ n. Leads n new.arrivals in
      subst P e (subst Q size l)

  just_led : Known Complete Found.Done → turns.Judged t u m w false None (Some (Answer.Ready (Got.Leader true)))
  just_led x =
      let more : new.arrivals ≡ k + 1 = ap (λ (v : Words). arrivals_at v.size v.progress) x.words_then ∙ numbers.completed words.size words.progress laws.sound.unfinished x.sure.0 in
      let size : new.size ≡ words.size = size_kept (turns.words_of Complete words) refl x.words_then in
      let its_number : wait_of new p ≡ counted new.arrivals = x.after ∙ ap counted (numbers.completed words.size words.progress laws.sound.unfinished x.sure.0 ∙ sym more) in
      let P : ℕ → Type 0 = λ n. Leads new.size n in
      let Q : ℕ → Type 0 = λ n. Leads n (k + 1) in
      (record { number = more; counted = its_number }, subst P (sym more) (subst Q (sym size) (numbers.next_leads words.size words.progress laws.sound.unfinished x.sure.0)))

  not_asked : is_marked_at (is_party p) t.machine.entries ≡ false → list_after p asks t.machine.entries ≡ t.machine.entries
  not_asked e = rw e refl

  told_so : Known Ask Found.No → told_in Generation new p ≡ Some Waits_unmarked
  told_so x =
      let kept : new.list ≡ old.list = x.entries_then ∙ not_asked x.finds in
      let P : List (Entry ℕ) → Type 0 = λ es. mark_at (is_party p) es ≡ Some Waits_unmarked in
      subst P (sym kept) (waits_at p t.machine.entries x.owner x.finds)

  implied : (a b : Bool) → not a || b ≡ true → a ≡ true → b ≡ true
  implied true b h e = h
  implied false b h e = absurd (false≢true e)

  -- A step that leaves the inner lock and the count alone makes at most one call of the generation's list.
  abbrev on_list : Option ListFunction → Effect Change ListName
  on_list None = nothing
  on_list (Some g) = does Generation g

  lock_alone : (o : Option ListFunction) (s : LockState) → lock_after p (on_list o) s ≡ s
  lock_alone None s = refl
  lock_alone (Some g) s = refl

  lock_list_alone : (o : Option ListFunction) (l : List (Entry ℕ)) → lock_list_after p (on_list o) l ≡ l
  lock_list_alone None l = refl
  lock_list_alone (Some g) l = refl

  arrivals_alone : (o : Option ListFunction) (n : ℕ) → arrivals_after (on_list o) n ≡ n
  arrivals_alone None n = refl
  arrivals_alone (Some g) n = refl

  -- what differs from one such step to the next
  record Beside (o : Option ListFunction) (y : Place) (f : Found) : Type 0 where
    pub allowed : IsAllowed old m (on_list o)
    pub list : new.list ≡ generation_list_after p (on_list o) old.list
    pub wait : wait_of new p ≡ wait_by (on_list o) k (answer_by (next_of y f)) (place_wait y num)
    pub memory : (list : ListName) → on_list o ≡ does list joins → (inputs_of m.what).memory ≡ true
    pub judged : turns.Judged t u m w (may_begin_at y) (verdict_of y c) (said (next_of y f) d)

  -- A decided call only gives back, only a decided call gives up, and no call is refused before the lock is released.
  beside : (o : Option ListFunction) (y : Place) (f : Found) → u.machine.lock ≡ t.machine.lock → u.machine.words ≡ words → not (is_some (verdict_of y c)) || gives_back (on_list o) ≡ true → not (gives_up (on_list o)) || is_some (verdict_of y c) ≡ true → is_refusal (answer_by (next_of y f)) ≡ false → answer_by (next_of y f) ≢ refused Refusal.Finished → Beside o y f → RowAt y f
  beside o y f lock still back up unrefused over b = record {
    effect = on_list o;
    allowed = b.allowed;
    lock = same_lock lock ∙ sym (lock_alone o old.lock);
    arrivals = same_arrivals lock still ∙ sym (arrivals_alone o old.arrivals);
    lock_list = same_lock_list lock ∙ sym (lock_list_alone o old.lock_list);
    list = b.list;
    wait = b.wait;
    memory = b.memory;
    parting = implied (is_some (verdict_of y c)) (gives_back (on_list o)) back;
    giving_up = λ h. or_left (is_some (verdict_of y c)) (is_held_by old.lock.holder p) (implied (gives_up (on_list o)) (is_some (verdict_of y c)) up h);
    judged = b.judged;
    led = λ e leads. absurd (never_more lock still e);
    clear = λ h. absurd (true≢false (sym h ∙ unrefused));
    not_over = over;
  }

  -- A step that does nothing.
  idle : (y : Place) (f : Found) → u.machine.lock ≡ t.machine.lock → u.machine.words ≡ words → new.list ≡ old.list → wait_of new p ≡ wait_by nothing k (answer_by (next_of y f)) (place_wait y num) → is_refusal (answer_by (next_of y f)) ≡ false → answer_by (next_of y f) ≢ refused Refusal.Finished → turns.Judged t u m w (may_begin_at y) (verdict_of y c) (said (next_of y f) d) → RowAt y f
  idle y f lock still list wait unrefused over judged = beside None y f lock still (or-true (not (is_some (verdict_of y c)))) refl unrefused over (record {
    allowed = tt;
    list = list;
    wait = wait;
    memory = λ l e. absurd (cc);
    judged = judged;
  })

  pub look_waits : Known Look Found.MustWait → RowAt Look Found.MustWait
  look_waits x = idle Look Found.MustWait x.lock x.words_then x.entries_then x.after refl (λ e. cc) tt

  pub look_leads : Known Look Found.Leads → RowAt Look Found.Leads
  look_leads x = idle Look Found.Leads x.lock x.words_then x.entries_then x.after refl (λ e. cc) tt

  pub look_past : Known Look Found.Past → RowAt Look Found.Past
  look_past x = idle Look Found.Past x.lock x.words_then x.entries_then x.after refl (λ e. cc) (
    (
      Refusal.Generations,
      refl,
      record {
        uncounted = x.before refl;
        leads = numbers.next_leads words.size words.progress laws.sound.unfinished x.finds.0;
        limit = at_limit x.finds.1;
        unchanged = as_before x.lock x.words_then x.entries_then uncounted (x.before refl) x.after;
      },
    ),
    refl,
    λ e. absurd (omega (arith, e)),
  )

  pub join_done : Known Join Found.Done → RowAt Join Found.Done
  join_done x = beside (Some joins) Join Found.Done x.lock x.words_then refl refl refl (λ e. cc) (record {
    allowed = (its_lock x.link, (let P : Wait → Type 0 = HasToWait old in subst P (sym (x.before refl)) (numbers.next_follows words.size words.progress x.sure)));
    list = x.entries_then;
    wait = x.after;
    memory = λ list e. x.finds;
    judged = tt;
  })

  pub join_refused : Known Join Found.NoMemory → RowAt Join Found.NoMemory
  join_refused x = idle Join Found.NoMemory x.lock x.words_then x.entries_then x.after refl (λ e. cc) (
    (Refusal.Memory, refl, record { input = x.finds; needed = λ h. (let P : Wait → Type 0 = HasToWait old in subst P (sym (x.before refl)) (numbers.next_follows words.size words.progress x.sure)); unlisted = both_lists x.link x.owner; unchanged = as_before x.lock x.words_then x.entries_then (uncounted) (x.before refl) x.after }),
    refl,
    λ e. absurd (omega (arith, e)),
  )

  pub arrive : Known Arrive Found.Done → RowAt Arrive Found.Done
  arrive x = record {
    effect = changes arrives;
    allowed = record {
      holds = its_lock x.link;
      uncounted = x.before refl;
      joined = inr x.owner;
      within = (let s = numbers.same_generation words.size k (numbers.next_follows words.size words.progress x.sure) in let g = generation_is in let h = laws.sound.within in omega arith);
    };
    lock = same_lock x.lock;
    arrivals = ap (λ (v : Words). arrivals_at v.size v.progress) x.words_then ∙ numbers.arrived words.size words.progress x.sure;
    lock_list = same_lock_list x.lock;
    list = x.entries_then;
    wait = x.after ∙ ap counted (numbers.arrived words.size words.progress x.sure);
    memory = λ list e. absurd (cc);
    parting = λ h. absurd (cc);
    giving_up = λ h. absurd (cc);
    judged = tt;
    led = λ e leads. absurd (numbers.next_follows words.size words.progress x.sure (next_leads x e leads));
    clear = λ h. absurd (cc);
    not_over = λ e. cc;
  }

  pub complete : Known Complete Found.Done → RowAt Complete Found.Done
  complete x = record {
    effect = changes arrives;
    allowed = record {
      holds = its_lock x.link;
      uncounted = x.before refl;
      joined = inl (numbers.next_leads words.size words.progress laws.sound.unfinished x.sure.0);
      within = (let s = numbers.next_generation words.size k (numbers.next_leads words.size words.progress laws.sound.unfinished x.sure.0) in let g = generation_is in let h = x.sure.1 in omega arith);
    };
    lock = same_lock x.lock;
    arrivals = ap (λ (v : Words). arrivals_at v.size v.progress) x.words_then ∙ numbers.completed words.size words.progress laws.sound.unfinished x.sure.0;
    lock_list = same_lock_list x.lock;
    list = x.entries_then;
    wait = x.after ∙ ap counted (numbers.completed words.size words.progress laws.sound.unfinished x.sure.0);
    memory = λ list e. absurd (cc);
    parting = λ h. absurd (cc);
    giving_up = λ h. absurd (cc);
    judged = just_led x;
    led = λ e leads. (refl, refl);
    clear = λ h. absurd (cc);
    not_over = λ e. cc;
  }

  pub notify : Known NotifyAll Found.Done → RowAt NotifyAll Found.Done
  notify x = beside (Some (notifies everyone)) NotifyAll Found.Done x.lock x.words_then refl refl refl (λ e. cc) (record {
    allowed = (refl, its_lock x.link, (num, x.before refl, numbers.leads words.size mine x.outcome.0));
    list = x.entries_then;
    wait = x.after;
    memory = λ list e. absurd (cc);
    judged = refl;
  })

  pub check_finished : Known Check Found.Finished → RowAt Check Found.Finished
  check_finished x = idle Check Found.Finished x.lock x.words_then x.entries_then x.after refl (λ e. cc) (num, x.after, (let P : Words → Type 0 = λ v. sized v num in subst P (sym x.words_then) (numbers.follower_follows words.size mine (x.follower refl), numbers.is_finished_apart words.size mine words.progress (x.follower refl) (laws.past p) x.finds)))

  pub check_unfinished : Known Check Found.Unfinished → RowAt Check Found.Unfinished
  check_unfinished x = idle Check Found.Unfinished x.lock x.words_then x.entries_then x.after refl (λ e. cc) tt

  pub rejoin_done : Known JoinAgain Found.Done → RowAt JoinAgain Found.Done
  rejoin_done x = beside (Some joins) JoinAgain Found.Done x.lock x.words_then refl refl refl (λ e. cc) (record {
    allowed = (its_lock x.link, (let P : Wait → Type 0 = HasToWait old in subst P (sym (x.before refl)) (numbers.is_unfinished words.size mine words.progress (x.follower refl) laws.sound.unfinished x.sure)));
    list = x.entries_then;
    wait = x.after;
    memory = λ list e. x.finds;
    judged = tt;
  })

  pub rejoin_refused : Known JoinAgain Found.NoMemory → RowAt JoinAgain Found.NoMemory
  rejoin_refused x = idle JoinAgain Found.NoMemory x.lock x.words_then x.entries_then x.after refl (λ e. cc) (
    (Refusal.Memory, refl, record { input = x.finds; needed = λ h. (let P : Wait → Type 0 = HasToWait old in subst P (sym (x.before refl)) (numbers.is_unfinished words.size mine words.progress (x.follower refl) laws.sound.unfinished x.sure)); unlisted = both_lists x.link x.owner; unchanged = as_before x.lock x.words_then x.entries_then (counted num) (x.before refl) x.after }),
    refl,
    λ e. absurd (omega (arith, e)),
  )

  pub ask_yes : Known Ask Found.Yes → RowAt Ask Found.Yes
  ask_yes x = beside (Some asks) Ask Found.Yes x.lock x.words_then refl refl refl (λ e. cc) (record {
    allowed = (num, x.before refl);
    list = x.entries_then;
    wait = x.after;
    memory = λ list e. absurd (cc);
    judged = tt;
  })

  pub ask_no : Known Ask Found.No → RowAt Ask Found.No
  ask_no x = beside (Some asks) Ask Found.No x.lock x.words_then refl refl refl (λ e. cc) (record {
    allowed = (num, x.before refl);
    list = x.entries_then;
    wait = x.after;
    memory = λ list e. absurd (cc);
    judged = inr ((num, x.after), told_so x);
  })

  pub leave : Known CancelLeave Found.Done → RowAt CancelLeave Found.Done
  leave x = beside (Some leaves) CancelLeave Found.Done x.lock x.words_then refl refl refl (λ e. cc) (record {
    allowed = x.drops refl;
    list = x.entries_then;
    wait = x.after;
    memory = λ list e. absurd (cc);
    judged = refl;
  })

  pub abandon : Known Abandon Found.Done → RowAt Abandon Found.Done
  abandon x = idle Abandon Found.Done x.lock x.words_then x.entries_then x.after refl (λ e. cc) refl
