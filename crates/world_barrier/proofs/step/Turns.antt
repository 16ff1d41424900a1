-- What a step is to show at its place, and what is known of it.
use Rattle.world_barrier.proofs.Prelude.{◌≡◌, ◌≢◌, ℕ, ◌+◌, ◌||◌, ◌⊎◌, Bool, true, false, Option, Some, None, is_some, entries_of, Answer, Got, Inputs, Move, Refusal, Within, is_drop, is_refusal, number_of, inside, inputs_of, refused, Effect, does, joins, answer_of, Table, Course, course_at, Aim, Found, Next, Place, Made, At, Progress, Words, arrivals_at, IsFollower, action_of, next_of, position_after, got_left, Finds, words_after, arrival_after, entries_after, OnLock, fits_lock, in_lock, listed, follows, Sure, HasOutcome, Wait, wait_at, place_wait, verdict_of, Barrier, arrival_at, answer_by, ListName, Lock, Generation, Leads, World, standing_of, wait_of, is_held_by, told_in, view_of, Change, lock_after, arrivals_after, lock_list_after, generation_list_after, gives_back, gives_up, IsAllowed, IsCounted, IsCause, Carried, is_counting}
use Rattle.lock_event.specs.declared.event.Mark.TheVariants.{Waiting}
use Rattle.lock_program.specs.declared.end.Next.TheVariants as next
use Rattle.world_barrier.proofs.step.Here.{may_begin_at, changes_wait, only_drops}
use Rattle.world_barrier.proofs.step.Locks.{wait_by}

-- what a call is decided on after this
abbrev pub said : Next → Course → Option Answer
said (next.Do y) c = verdict_of y c
said (next.End e x) c = Some (answer_of (got_left x) e)

abbrev pub words_of : Place → Words → Words
words_of y v = words_after (action_of y) v

module _ (t u : Table Barrier) (m : Move) (w : Within) where
  abbrev pub p : ℕ
  p = m.party

  abbrev pub i : Inputs
  i = inputs_of m.what

  abbrev pub old : World
  old = view_of t

  abbrev pub new : World
  new = view_of u

  abbrev pub words : Words
  words = t.machine.words

  abbrev pub mine : Progress
  mine = arrival_at t.machine.arrivals p

  -- the number of the party's last arrival, and of the barrier's
  abbrev pub num : ℕ
  num = arrivals_at words.size mine

  abbrev pub k : ℕ
  k = arrivals_at words.size words.progress

  abbrev pub c : Course
  c = course_at t.machine.lock.courses p

  abbrev pub d : Course
  d = course_at u.machine.lock.courses p

  -- what is known of a step at this place that finds this
  pub record Known (y : Place) (f : Found) : Type 0 where
    pub finds : Finds i p (action_of y) f words mine t.machine.entries
    pub words_then : u.machine.words ≡ words_after (action_of y) words
    pub entries_then : u.machine.entries ≡ entries_after p (action_of y) f t.machine.entries
    pub lock : OnLock i p (action_of y) f t.machine.lock u.machine.lock
    pub link : fits_lock (in_lock (At y)) c ≡ true
    pub owner : entries_of p t.machine.entries ≡ listed (At y)
    pub sure : Sure (At y) mine words
    pub follower : follows (At y) ≡ true → IsFollower words.size mine
    pub outcome : HasOutcome (At y) mine words
    pub before : changes_wait y ≡ false → wait_of old p ≡ place_wait y num
    pub going : may_begin_at y ≡ false → standing_of old p ≡ inside w (verdict_of y c)
    pub drops : only_drops y ≡ true → is_drop m.what ≡ true
    pub after : wait_of new p ≡ wait_at (position_after (next_of y f)) (arrivals_at words.size (arrival_after (action_of y) words mine))

  -- why a call is decided on this, at a place where a call may begin or only goes on
  abbrev pub Reason : Bool → Answer → Type 0
  Reason starts Answer.Pending = (told_in Lock new p ≡ Some Waiting) ⊎ (IsCounted new p × (told_in Generation new p ≡ Some Waiting))
  Reason starts (Answer.Ready g) = Carried g old m new
  Reason starts (Answer.Refused n) = ((r : Refusal) × (n ≡ number_of r) × IsCause old m new r) × (starts ≡ false) × (n ≡ number_of Refusal.Starved → is_counting c ≡ true)
  Reason starts _ = ⊥

  -- what was decided is kept, and what is decided now has its reason
  abbrev pub Judged : Bool → Option Answer → Option Answer → Type 0
  Judged starts (Some b) o = o ≡ Some b
  Judged starts None None = Unit {0}
  Judged starts None (Some b) = Reason starts b

  -- A step does one effect that it may do, as its wait and its call's verdict were and are.
  pub record Row (b : Wait) (v : Option Answer) (n : Next) (starts : Bool) : Type 0 where
    pub effect : Effect Change ListName
    pub allowed : IsAllowed old m effect
    pub lock : new.lock ≡ lock_after p effect old.lock
    pub arrivals : new.arrivals ≡ arrivals_after effect old.arrivals
    pub lock_list : new.lock_list ≡ lock_list_after p effect old.lock_list
    pub list : new.list ≡ generation_list_after p effect old.list
    pub wait : wait_of new p ≡ wait_by effect k (answer_by n) b
    pub memory : (list : ListName) → effect ≡ does list joins → i.memory ≡ true
    pub parting : is_some v ≡ true → gives_back effect ≡ true
    pub giving_up : gives_up effect ≡ true → is_some v || is_held_by old.lock.holder p ≡ true
    pub judged : Judged starts v (said n d)
    pub led : new.arrivals ≡ k + 1 → Leads new.size new.arrivals → (v ≡ None) × (said n d ≡ Some (Answer.Ready (Got.Leader true)))
    pub clear : is_refusal (answer_by n) ≡ true → (for : Aim) × (position_after n ≡ Made for)
    pub not_over : answer_by n ≢ refused Refusal.Finished

  abbrev pub RowAt : Place → Found → Type 0
  RowAt y f = Row (place_wait y num) (verdict_of y c) (next_of y f) (may_begin_at y)
