-- What the first step of a call decides at once.
use Rattle.world_once_cell.proofs.Prelude.{◌≡◌, ℕ, ◌<◌, ◌≤◌, ◌&&◌, ◌==◌, if◌then◌else◌, Bool, true, false, List, length, Some, None, refl, arith, ap, sym, ◌∙◌, subst, Entry, is_marked_at, is_party, entries_of, is_unmarked, all_marked, else_marked, Answer, Call, Inputs, Made, Move, What, Begin, Rest, Stage, Outside, Inside, Forgotten, Within, Standing, outside, inside, inputs_of, is_stepped, decision, Effect, does, asks, is_drop, stage_at, stands_as, call_at, polls_again, Table, Action, Found, ListName, Active, Passive, Maker, Closure, Given, Place, Claim, ClaimListed, JoinActive, AskActive, LeaveToMake, Make, Fill, NotifyActive, NotifyPassive, Fail, LeaveFull, RefuseActive, Look, AskPassive, Try, TryFill, TryNotifyActive, TryNotifyPassive, CancelMake, CancelLeave, Position, ToMake, WaitingToMake, Making, At, Content, Empty, Full, action_of, next_of, no_task, waits_only, fills_with, failed, task_by, task_at, place_task, makes_at, in_active, in_passive_at, verdict, Change, effect_of, content_after, active_after, passive_after, Finds, FindsContent, FindsMade, FindsAsk, IsDone, everyone, OnceCell, knows, goes_with, is_begun, is_maker, position_at, answer_by, World, list_in, is_empty, standing_of, task_of, view_of, task_in, or_before, task_then, given, AnswersAtOnce, KeepsLists, TriesAtOnce, MakesAtOnce, WaitsAtOnce, PollsMaker, DropsMaker, AsksAtOnce, is_try, is_poll, would_make, is_first_making, waits_for, is_first_wait, first_answer, maker_answer, both, not_one}
use Rattle.lock_event.specs.declared.event.Mark.{Mark}
use Rattle.sync_program.specs.declared.once_cell.Action.TheVariants as act
use Rattle.sync_program.specs.declared.once_cell.Found.TheVariants as found
use Rattle.world_once_cell.proofs.of_machine.laws.Kept.{after}
use Rattle.world_once_cell.proofs.of_machine.stages.Turns.{Turn, turn}
use Rattle.world_once_cell.proofs.of_machine.laws.Contents as contents
use Rattle.world_once_cell.proofs.step.Rows.{said, content_then}
use Rattle.world_once_cell.proofs.step.Acting.{Acting}
use Rattle.world_once_cell.proofs.step.Acting as acting

-- ---- Where calls begin

-- the place at which each call begins that decides at once
pub record EntranceAt (s : Standing) (what : What) (x : Position) (from : Place) : Type 0 where
  pub tries : is_try what ≡ true → (v : ℕ) × (from ≡ Try v)
  pub making : (n : ℕ) (b : Bool) → is_first_making s what (task_at x) n b ≡ true → n ≡ in_active x → b ≡ makes_at x → (k : Maker) × (from ≡ Claim k false)
  pub waiting : (n : ℕ) → is_first_wait s what (task_at x) n ≡ true → n ≡ in_passive_at x → from ≡ Look false
  pub maker : is_poll what ≡ true → s ≡ outside Rest.Pending → makes_at x ≡ true → (k : Maker) × (from ≡ Make k)
  pub dropped : is_drop what ≡ true → makes_at x ≡ true → from ≡ CancelMake
  pub gone : is_drop what ≡ true → makes_at x ≡ false → (f : Found) → answer_by (next_of from f) ≡ Answer.GivenBack
  pub in_active : is_poll what ≡ true → s ≡ outside Rest.Pending → 0 < in_active x → (k : Maker) × (from ≡ AskActive k)
  pub in_passive : is_poll what ≡ true → s ≡ outside Rest.Pending → 0 < in_passive_at x → from ≡ AskPassive

abbrev pub Entrance : Stage → What → Within → Position → Place → Type 0
Entrance s what w x from = EntranceAt (stands_as (verdict x) s) what x from

not_first : (k : Maker) (n : ℕ) (b : Bool) → would_make (task_by k) && ((n == 0) && (if b then false else true)) ≡ true → n ≡ 1 → ⊥
not_first k n b h l = let two = both (would_make (task_by k)) ((n == 0) && (if b then false else true)) h in not_one n (both (n == 0) (if b then false else true) two.1).0 l

not_first_maker : (k : Maker) (n : ℕ) (b : Bool) → would_make (task_by k) && ((n == 0) && (if b then false else true)) ≡ true → b ≡ true → ⊥
not_first_maker k n b h d =
    let two = both (would_make (task_by k)) ((n == 0) && (if b then false else true)) h in
    let last : (if b then false else true) ≡ true = (both (n == 0) (if b then false else true) two.1).1 in
    let P : Bool → Type 0 = λ z. (if z then false else true) ≡ true in
    let never : false ≡ true = subst P d last in
    cc never

maker_waits : (k : Maker) (b : Bool) → waits_for (task_by k) && b ≡ true → ⊥
maker_waits Closure b h = cc h
maker_waits (Given v) b h = cc h

first_wait_init : (r : Rest) (i : Inputs) (n : ℕ) → is_first_wait (outside r) (Begin Call.Initialize i) no_task n ≡ true → ⊥
first_wait_init Rest.Idle i n h = cc h
first_wait_init Rest.Finished i n h = cc h
first_wait_init Rest.Pending i n h = cc h
first_wait_init Rest.Holding i n h = cc h

first_wait_set : (v : ℕ) (r : Rest) (i : Inputs) (n : ℕ) → is_first_wait (outside r) (Begin (Call.Set v) i) no_task n ≡ true → ⊥
first_wait_set v Rest.Idle i n h = cc h
first_wait_set v Rest.Finished i n h = cc h
first_wait_set v Rest.Pending i n h = cc h
first_wait_set v Rest.Holding i n h = cc h

first_wait_try : (v : ℕ) (r : Rest) (i : Inputs) (n : ℕ) → is_first_wait (outside r) (Begin (Call.TrySet v) i) no_task n ≡ true → ⊥
first_wait_try v Rest.Idle i n h = cc h
first_wait_try v Rest.Finished i n h = cc h
first_wait_try v Rest.Pending i n h = cc h
first_wait_try v Rest.Holding i n h = cc h

first_making_wait : (r : Rest) (i : Inputs) (n : ℕ) (b : Bool) → is_first_making (outside r) (Begin Call.Wait i) no_task n b ≡ true → ⊥
first_making_wait Rest.Idle i n b h = cc h
first_making_wait Rest.Finished i n b h = cc h
first_making_wait Rest.Pending i n b h = cc h
first_making_wait Rest.Holding i n b h = cc h

first_making_try : (v : ℕ) (r : Rest) (i : Inputs) (n : ℕ) (b : Bool) → is_first_making (outside r) (Begin (Call.TrySet v) i) no_task n b ≡ true → ⊥
first_making_try v Rest.Idle i n b h = cc h
first_making_try v Rest.Finished i n b h = cc h
first_making_try v Rest.Pending i n b h = cc h
first_making_try v Rest.Holding i n b h = cc h

pub entrance : (s : Stage) (what : What) (w : Within) (x : Position) → goes_with s x ≡ true → call_at knows s what ≡ Some w → polls_again s what ≡ false → Turn Entrance s what w x
entrance = turn Entrance (record {
  initialize = λ r i g h. record { tries = λ h. absurd (cc h); making = λ n b h l d. (Closure, refl); waiting = λ n h l. absurd (first_wait_init r i n h); maker = λ h e d. absurd (cc h); dropped = λ h d. absurd (cc h); gone = λ h d f. absurd (cc h); in_active = λ h e some. absurd (omega arith); in_passive = λ h e some. absurd (omega arith) };
  set = λ v r i g h. record { tries = λ h. absurd (cc h); making = λ n b h l d. (Given v, refl); waiting = λ n h l. absurd (first_wait_set v r i n h); maker = λ h e d. absurd (cc h); dropped = λ h d. absurd (cc h); gone = λ h d f. absurd (cc h); in_active = λ h e some. absurd (omega arith); in_passive = λ h e some. absurd (omega arith) };
  wait = λ r i g h. record { tries = λ h. absurd (cc h); making = λ n b h l d. absurd (first_making_wait r i n b h); waiting = λ n h l. refl; maker = λ h e d. absurd (cc h); dropped = λ h d. absurd (cc h); gone = λ h d f. absurd (cc h); in_active = λ h e some. absurd (omega arith); in_passive = λ h e some. absurd (omega arith) };
  try = λ v r i g h. record { tries = λ h. (v, refl); making = λ n b h l d. absurd (first_making_try v r i n b h); waiting = λ n h l. absurd (first_wait_try v r i n h); maker = λ h e d. absurd (cc h); dropped = λ h d. absurd (cc h); gone = λ h d f. absurd (cc h); in_active = λ h e some. absurd (omega arith); in_passive = λ h e some. absurd (omega arith) };
  poll = λ k i. record { tries = λ h. absurd (cc h); making = λ n b h l d. (k, refl); waiting = λ n h l. absurd (maker_waits k (n == 0) h); maker = λ h e d. absurd (cc d); dropped = λ h d. absurd (cc h); gone = λ h d f. absurd (cc h); in_active = λ h e some. absurd (omega arith); in_passive = λ h e some. absurd (omega arith) };
  poll_listed = λ k i. record { tries = λ h. absurd (cc h); making = λ n b h l d. absurd (not_first k n b h l); waiting = λ n h l. absurd (maker_waits k (n == 0) h); maker = λ h e d. absurd (cc d); dropped = λ h d. absurd (cc h); gone = λ h d f. absurd (cc h); in_active = λ h e some. (k, refl); in_passive = λ h e some. absurd (omega arith) };
  poll_maker = λ k i. record { tries = λ h. absurd (cc h); making = λ n b h l d. absurd (not_first_maker k n b h d); waiting = λ n h l. absurd (maker_waits k (n == 0) h); maker = λ h e d. (k, refl); dropped = λ h d. absurd (cc h); gone = λ h d f. absurd (cc h); in_active = λ h e some. absurd (omega arith); in_passive = λ h e some. absurd (omega arith) };
  poll_wait = λ i. record { tries = λ h. absurd (cc h); making = λ n b h l d. absurd (cc h); waiting = λ n h l. refl; maker = λ h e d. absurd (cc d); dropped = λ h d. absurd (cc h); gone = λ h d f. absurd (cc h); in_active = λ h e some. absurd (omega arith); in_passive = λ h e some. absurd (omega arith) };
  poll_waiting = λ i. record { tries = λ h. absurd (cc h); making = λ n b h l d. absurd (cc h); waiting = λ n h l. absurd (not_one n h l); maker = λ h e d. absurd (cc d); dropped = λ h d. absurd (cc h); gone = λ h d f. absurd (cc h); in_active = λ h e some. absurd (omega arith); in_passive = λ h e some. refl };
  cancel = λ k i. record { tries = λ h. absurd (cc h); making = λ n b h l d. absurd (cc h); waiting = λ n h l. absurd (cc h); maker = λ h e d. absurd (cc h); dropped = λ h d. absurd (cc d); gone = λ h d f. refl; in_active = λ h e some. absurd (cc h); in_passive = λ h e some. absurd (omega arith) };
  cancel_maker = λ k i. record { tries = λ h. absurd (cc h); making = λ n b h l d. absurd (cc h); waiting = λ n h l. absurd (cc h); maker = λ h e d. absurd (cc h); dropped = λ h d. refl; gone = λ h d f. absurd (cc d); in_active = λ h e some. absurd (omega arith); in_passive = λ h e some. absurd (omega arith) };
  cancel_wait = λ i. record { tries = λ h. absurd (cc h); making = λ n b h l d. absurd (cc h); waiting = λ n h l. absurd (cc h); maker = λ h e d. absurd (cc h); dropped = λ h d. absurd (cc d); gone = λ h d f. refl; in_active = λ h e some. absurd (omega arith); in_passive = λ h e some. absurd (cc h) };
  abandon = λ k i. record { tries = λ h. absurd (cc h); making = λ n b h l d. absurd (cc h); waiting = λ n h l. absurd (cc h); maker = λ h e d. absurd (cc h); dropped = λ h d. absurd (cc d); gone = λ h d f. refl; in_active = λ h e some. absurd (omega arith); in_passive = λ h e some. absurd (omega arith) };
  abandon_wait = λ i. record { tries = λ h. absurd (cc h); making = λ n b h l d. absurd (cc h); waiting = λ n h l. absurd (cc h); maker = λ h e d. absurd (cc h); dropped = λ h d. absurd (cc d); gone = λ h d f. refl; in_active = λ h e some. absurd (omega arith); in_passive = λ h e some. absurd (omega arith) };
  drop_finished = λ i. record { tries = λ h. absurd (cc h); making = λ n b h l d. absurd (cc h); waiting = λ n h l. absurd (cc h); maker = λ h e d. absurd (cc h); dropped = λ h d. absurd (cc d); gone = λ h d f. refl; in_active = λ h e some. absurd (omega arith); in_passive = λ h e some. absurd (omega arith) };
  go = λ w x i begun here. record { tries = λ h. absurd (cc h); making = λ n b h l d. absurd (cc h); waiting = λ n h l. absurd (cc h); maker = λ h e d. absurd (cc h); dropped = λ h d. absurd (cc h); gone = λ h d f. absurd (cc h); in_active = λ h e some. absurd (cc h); in_passive = λ h e some. absurd (cc h) };
})

-- ---- What is found there

found_empty : (f : Found) (c : Content) → FindsContent f c → is_empty c ≡ true → f ≡ found.Empty
found_empty found.Empty c e h = refl
found_empty found.BeingMade c e h = absurd (cc (ap is_empty e.1, h))
found_empty (found.Full v) c e h = absurd (cc (ap is_empty e, h))
found_empty _ c e h = absurd e

module _ (p : ℕ) (c : Content) where
  abbrev claimed : Found → Content
  claimed f = content_after p (effect_of act.Claim f) c

  claims : (f : Found) → FindsContent f c → is_maker c p ≡ false → is_maker (claimed f) p ≡ is_empty c
  claims found.Empty e un = contents.is_its_maker p ∙ sym (ap is_empty e)
  claims found.BeingMade e un = un ∙ sym (ap is_empty e.1)
  claims (found.Full v) e un = un ∙ sym (ap is_empty e)
  claims _ e un = absurd e

  try_answer : (v : ℕ) (f : Found) → FindsContent f c → answer_by (next_of (Try v) f) ≡ (if is_empty c then Answer.Stepped else Answer.None)
  try_answer v found.Empty e = rw e refl
  try_answer v found.BeingMade e = rw e.1 refl
  try_answer v (found.Full u) e = rw e refl
  try_answer v _ e = absurd e

  claim_answer : (k : Maker) (f : Found) → FindsContent f c → answer_by (next_of (Claim k false) f) ≡ first_answer (task_by k) c
  claim_answer k found.Empty e = rw e refl
  claim_answer k found.BeingMade e = rw e.1 refl
  claim_answer Closure (found.Full u) e = rw e refl
  claim_answer (Given v) (found.Full u) e = rw e refl
  claim_answer k _ e = absurd e

  look_answer : (f : Found) → FindsContent f c → answer_by (next_of (Look false) f) ≡ first_answer waits_only c
  look_answer found.Empty e = rw e refl
  look_answer found.BeingMade e = rw e.1 refl
  look_answer (found.Full u) e = rw e refl
  look_answer _ e = absurd e

  ask_answer : (k : Maker) (l : List (Entry ℕ)) (f : Found) → FindsAsk p f l → answer_by (next_of (AskActive k) f) ≡ (if is_marked_at (is_party p) l then Answer.Stepped else Answer.Pending)
  ask_answer k l found.Yes e = rw e refl
  ask_answer k l found.No e = rw e refl
  ask_answer k l _ e = absurd e

  ask_passive_answer : (l : List (Entry ℕ)) (f : Found) → FindsAsk p f l → answer_by (next_of AskPassive f) ≡ (if is_marked_at (is_party p) l then Answer.Stepped else Answer.Pending)
  ask_passive_answer l found.Yes e = rw e refl
  ask_passive_answer l found.No e = rw e refl
  ask_passive_answer l _ e = absurd e

  ask_effect : (list : ListName) (l : List (Entry ℕ)) (f : Found) → FindsAsk p f l → effect_of (act.Ask list) f ≡ does list asks
  ask_effect list l found.Yes e = refl
  ask_effect list l found.No e = refl
  ask_effect list l _ e = absurd e

-- a claim is of the cell alone
claimed_active : (p : ℕ) (f : Found) (l : List (Entry ℕ)) → active_after p (effect_of act.Claim f) l ≡ l
claimed_active p found.Empty l = refl
claimed_active p _ l = refl

claimed_passive : (p : ℕ) (f : Found) (l : List (Entry ℕ)) → passive_after p (effect_of act.Claim f) l ≡ l
claimed_passive p found.Empty l = refl
claimed_passive p _ l = refl

make_answer : (k : Maker) (m : Made) (f : Found) → FindsMade k m f → answer_by (next_of (Make k) f) ≡ maker_answer (task_by k) m
make_answer (Given v) m f e = ap (λ f. answer_by (next_of (Make (Given v)) f)) e
make_answer Closure Made.Pending f e = ap (λ f. answer_by (next_of (Make Closure) f)) e
make_answer Closure (Made.Value v) f e = ap (λ f. answer_by (next_of (Make Closure) f)) e
make_answer Closure Made.Fail f e = ap (λ f. answer_by (next_of (Make Closure) f)) e

make_task : (k : Maker) (m : Made) (f : Found) → FindsMade k m f → task_at (after (Make k) f) ≡ given (task_by k) m
make_task (Given v) m f e = ap (λ f. task_at (after (Make (Given v)) f)) e
make_task Closure Made.Pending f e = ap (λ f. task_at (after (Make Closure) f)) e
make_task Closure (Made.Value v) f e = ap (λ f. task_at (after (Make Closure) f)) e
make_task Closure Made.Fail f e = ap (λ f. task_at (after (Make Closure) f)) e

-- who makes, would make yet and stands in no list asks its maker
asks_at : (y : Place) → makes_at (At y) ≡ true → would_make (place_task y) ≡ true → in_active (At y) ≡ 0 → (k : Maker) × (y ≡ Make k)
asks_at (Make k) h would none = (k, refl)
asks_at (LeaveToMake k) h would none = absurd (omega (arith, none))
asks_at (Fill v) h would none = absurd (cc would)
asks_at Fail h would none = absurd (cc would)
asks_at (TryFill v) h would none = absurd (cc would)
asks_at CancelMake h would none = absurd (cc would)
asks_at (CancelLeave Active) h would none = absurd (cc h)
asks_at (CancelLeave Passive) h would none = absurd (cc h)
asks_at _ h would none = absurd (cc h)

-- who has a value to enter, or whose value entered, stands inside a call, and ends it by telling all that only wait
task_never : (k : Maker) (v : ℕ) → task_by k ≡ fills_with v → ⊥
task_never Closure v e = cc e
task_never (Given o) v e = cc e

teller_at : (x : Position) (v : ℕ) → task_at x ≡ fills_with v → (y : Place) × (x ≡ At y)
teller_at (At y) v e = (y, refl)
teller_at (ToMake k) v e = absurd (task_never k v e)
teller_at (WaitingToMake k) v e = absurd (task_never k v e)
teller_at (Making k) v e = absurd (task_never k v e)
teller_at _ v e = absurd (cc e)

ends_telling : (v : ℕ) (y : Place) (f : Found) → place_task y ≡ fills_with v → is_begun y ≡ true → is_stepped (answer_by (next_of y f)) ≡ false → action_of y ≡ act.NotifyAll Passive
ends_telling v (NotifyPassive u) f e b n = refl
ends_telling v (TryNotifyPassive u) f e b n = refl
ends_telling v (Fill u) f e b n = absurd (cc n)
ends_telling v (NotifyActive u) f e b n = absurd (cc n)
ends_telling v (TryFill u) f e b n = absurd (cc n)
ends_telling v (TryNotifyActive u) f e b n = absurd (cc n)
ends_telling v (Try u) f e b n = absurd (cc b)
ends_telling v (Claim k told) f e b n = absurd (task_never k v e)
ends_telling v (ClaimListed k) f e b n = absurd (task_never k v e)
ends_telling v (JoinActive k told) f e b n = absurd (task_never k v e)
ends_telling v (AskActive k) f e b n = absurd (task_never k v e)
ends_telling v (LeaveToMake k) f e b n = absurd (task_never k v e)
ends_telling v (Make k) f e b n = absurd (task_never k v e)
ends_telling v (LeaveFull k u) f e b n = absurd (task_never k v e)
ends_telling v (RefuseActive k) f e b n = absurd (task_never k v e)
ends_telling v _ f e b n = absurd (cc e)

told_everyone : (p q : ℕ) (f : Found) (l m : List (Entry ℕ)) → IsDone f → length l ≤ everyone → m ≡ passive_after p (effect_of (act.NotifyAll Passive) f) l → 0 < entries_of q m → is_marked_at (is_party q) m ≡ true
told_everyone p q found.Done l m h few e some = else_marked q m some (λ u. (let P : List (Entry ℕ) → Type 0 = λ z. is_unmarked q z ≡ true in all_marked q Mark.Additional everyone l refl few (subst P e u)))
told_everyone p q _ l m h few e some = absurd h

-- a party outside every call is at no place
outside_never : (r : Rest) (z : Place) → goes_with (Outside r) (At z) ≡ true → ⊥
outside_never Rest.Idle z g = cc g
outside_never Rest.Pending z g = cc g
outside_never Rest.Holding z g = cc g
outside_never Rest.Finished z g = cc g

-- who makes and has what its maker gave stands inside a call, where it fills the cell, or empties it
filler_at : (x : Position) (v : ℕ) → makes_at x ≡ true → task_at x ≡ fills_with v → (y : Place) × (x ≡ At y)
filler_at (At y) v h e = (y, refl)
filler_at (Making Closure) v h e = absurd (cc e)
filler_at (Making (Given o)) v h e = absurd (cc e)
filler_at _ v h e = absurd (cc h)

failure_at : (x : Position) → makes_at x ≡ true → task_at x ≡ failed → (y : Place) × (x ≡ At y)
failure_at (At y) h e = (y, refl)
failure_at (Making Closure) h e = absurd (cc e)
failure_at (Making (Given o)) h e = absurd (cc e)
failure_at _ h e = absurd (cc h)

inside_at : (s : Stage) (x : Position) (y : Place) → goes_with s x ≡ true → x ≡ At y → (u : Within) × (s ≡ Inside u)
inside_at (Inside u) x y g e = (u, refl)
inside_at (Outside r) (At z) y g e = absurd (outside_never r z g)
inside_at (Outside r) _ y g e = absurd (cc e)
inside_at Forgotten (At z) y g e = absurd (cc g)
inside_at Forgotten _ y g e = absurd (cc e)

fills_at : (v : ℕ) (y : Place) → makes_at (At y) ≡ true → place_task y ≡ fills_with v → action_of y ≡ act.Fill v
fills_at v (Fill u) h e = let same : u ≡ v = cc e in ap act.Fill same
fills_at v (TryFill u) h e = let same : u ≡ v = cc e in ap act.Fill same
fills_at v (Make Closure) h e = absurd (cc e)
fills_at v (Make (Given o)) h e = absurd (cc e)
fills_at v (LeaveToMake Closure) h e = absurd (cc e)
fills_at v (LeaveToMake (Given o)) h e = absurd (cc e)
fills_at v Fail h e = absurd (cc e)
fills_at v CancelMake h e = absurd (cc e)
fills_at v (CancelLeave Active) h e = absurd (cc h)
fills_at v (CancelLeave Passive) h e = absurd (cc h)
fills_at v _ h e = absurd (cc h)

empties_at : (y : Place) → makes_at (At y) ≡ true → place_task y ≡ failed → action_of y ≡ act.Empty
empties_at Fail h e = refl
empties_at (Fill u) h e = absurd (cc e)
empties_at (TryFill u) h e = absurd (cc e)
empties_at (Make Closure) h e = absurd (cc e)
empties_at (Make (Given o)) h e = absurd (cc e)
empties_at (LeaveToMake Closure) h e = absurd (cc e)
empties_at (LeaveToMake (Given o)) h e = absurd (cc e)
empties_at CancelMake h e = absurd (cc e)
empties_at (CancelLeave Active) h e = absurd (cc h)
empties_at (CancelLeave Passive) h e = absurd (cc h)
empties_at _ h e = absurd (cc h)

module _ (t u : Table OnceCell) (m : Move) (a : Answer) (w : Within) (k : Acting t u m a w) (door : Entrance (stage_at t.stages m.party) m.what w (position_at t.machine.positions m.party) k.from) where
  abbrev p : ℕ
  p = m.party

  abbrev old : World
  old = view_of t

  abbrev new : World
  new = view_of u

  abbrev c : Content
  c = t.machine.content

  abbrev x : Position
  x = position_at t.machine.positions p

  abbrev i : Inputs
  i = inputs_of m.what

  -- what is so of the place at which a call begins is so of where it began
  at : (y : Place) (P : Place → Type 0) → k.from ≡ y → P k.from → P y
  at y P e h = subst P e h

  finds_at : (y : Place) → k.from ≡ y → Finds i p (action_of y) k.found c t.machine.active t.machine.passive
  finds_at y e = at y (λ z. Finds i p (action_of z) k.found c t.machine.active t.machine.passive) e k.acts.finds

  answered : (y : Place) → k.from ≡ y → a ≡ answer_by (next_of y k.found)
  answered y e = k.answer ∙ ap (λ z. answer_by (next_of z k.found)) e

  content_at : (y : Place) → k.from ≡ y → new.cell ≡ content_then i p c y k.found
  content_at y e = k.acts.content ∙ ap (λ z. content_then i p c z k.found) e

  decided : (y : Place) → k.from ≡ y → decision a (standing_of new p) ≡ said (next_of y k.found)
  decided y e = acting.decides t u m a w k ∙ ap (λ z. said (next_of z k.found)) e

  task_at_place : (y : Place) → k.from ≡ y → task_then m.what (task_of old p) ≡ place_task y
  task_at_place y e = acting.task_now t u m a w k ∙ ap place_task e

  unmade : (y : Place) → k.from ≡ y → makes_at (At y) ≡ false → is_maker c p ≡ false
  unmade y e h = sym (acting.makes_seen t u m a w k) ∙ (ap (λ z. makes_at (At z)) e ∙ h)

  active_at : (y : Place) → k.from ≡ y → new.active ≡ active_after p (effect_of (action_of y) k.found) t.machine.active
  active_at y e = k.acts.active ∙ ap (λ z. active_after p (effect_of (action_of z) k.found) t.machine.active) e

  passive_at : (y : Place) → k.from ≡ y → new.passive ≡ passive_after p (effect_of (action_of y) k.found) t.machine.passive
  passive_at y e = k.acts.passive ∙ ap (λ z. passive_after p (effect_of (action_of z) k.found) t.machine.passive) e

  claim_keeps : (y : Place) → k.from ≡ y → action_of y ≡ act.Claim → KeepsLists old new
  claim_keeps y e claim = record {
    active = active_at y e ∙ (ap (λ b. active_after p (effect_of b k.found) t.machine.active) claim ∙ claimed_active p k.found t.machine.active);
    passive = passive_at y e ∙ (ap (λ b. passive_after p (effect_of b k.found) t.machine.passive) claim ∙ claimed_passive p k.found t.machine.passive);
  }

  tried : is_try m.what ≡ true → TriesAtOnce old m a new
  tried h = (
      let v = (door.tries h).0 in
      let e : k.from ≡ Try v = (door.tries h).1 in
      record {
        answered = answered (Try v) e ∙ try_answer p c v k.found (finds_at (Try v) e);
        begins = ap (λ z. is_maker z p) (content_at (Try v) e) ∙ claims p c k.found (finds_at (Try v) e) (unmade (Try v) e refl);
        lists = claim_keeps (Try v) e refl;
        granted = λ empty. decided (Try v) e ∙ ap (λ f. said (next_of (Try v) f)) (found_empty k.found c (finds_at (Try v) e) empty);
      }
      )

  making : is_first_making (stands_as (verdict x) (stage_at t.stages p)) m.what (task_at x) (entries_of p t.machine.active) (is_maker c p) ≡ true → MakesAtOnce old m a new
  making h = (
      let d = door.making (entries_of p t.machine.active) (is_maker c p) h (k.old_laws.active_owners p) (sym (k.old_laws.makers p)) in
      let y : Place = Claim d.0 false in
      record {
        answered = answered y d.1 ∙ (claim_answer p c d.0 k.found (finds_at y d.1) ∙ ap (λ z. first_answer z c) (sym (task_at_place y d.1)));
        begins = ap (λ z. is_maker z p) (content_at y d.1) ∙ claims p c k.found (finds_at y d.1) (unmade y d.1 refl);
        lists = claim_keeps y d.1 refl;
      }
      )

  waiting : is_first_wait (stands_as (verdict x) (stage_at t.stages p)) m.what (task_at x) (entries_of p t.machine.passive) ≡ true → WaitsAtOnce old a new
  waiting h = (
      let e = door.waiting (entries_of p t.machine.passive) h (k.old_laws.passive_owners p) in
      record {
        answered = answered (Look false) e ∙ look_answer p c k.found (finds_at (Look false) e);
        lists = record { active = active_at (Look false) e; passive = passive_at (Look false) e };
      }
      )

  polls_at : (y : Maker) → k.from ≡ Make y → task_of old p ≡ task_by y → PollsMaker old m a new
  polls_at y e task = record {
    answered = answered (Make y) e ∙ (make_answer y i.made k.found (finds_at (Make y) e) ∙ ap (λ z. maker_answer z i.made) (sym task));
    task = acting.task_new t u m a w k ∙ (ap (λ z. task_at (after z k.found)) e ∙ (make_task y i.made k.found (finds_at (Make y) e) ∙ ap (λ z. given z i.made) (sym task)));
    cell = content_at (Make y) e;
    lists = record { active = active_at (Make y) e; passive = passive_at (Make y) e };
  }

  asked : (v : Within) → standing_of old p ≡ inside v None → is_maker c p ≡ true → would_make (task_of old p) ≡ true → entries_of p t.machine.active ≡ 0 → PollsMaker old m a new
  asked v e made would none =
      let at : x ≡ At k.from = (acting.goes_inside t u m a w k v None e).0 in
      let task : task_of old p ≡ place_task k.from = acting.task_old t u m a w k ∙ ap task_at at in
      let y = asks_at k.from (acting.makes_seen t u m a w k ∙ made) (ap would_make (sym task) ∙ would) (sym (acting.own_active t u m a w k) ∙ none) in
      polls_at y.0 y.1 (task ∙ ap place_task y.1)

  polled_task : is_poll m.what ≡ true → task_in m.what ≡ None
  polled_task h = by_what m.what h where
    by_what : (what : What) → is_poll what ≡ true → task_in what ≡ None
    by_what (Begin Call.Poll j) h = refl
    by_what _ h = absurd (cc h)

  polled : is_poll m.what ≡ true → stands_as (verdict x) (stage_at t.stages p) ≡ outside Rest.Pending → is_maker c p ≡ true → PollsMaker old m a new
  polled h pending made = (
      let d = door.maker h pending (k.old_laws.makers p ∙ made) in
      let task : task_of old p ≡ task_by d.0 = sym (ap (λ z. or_before z (task_of old p)) (polled_task h)) ∙ task_at_place (Make d.0) d.1 in
      polls_at d.0 d.1 task
      )

  emptied : (f : Found) → Finds i p act.Empty f c t.machine.active t.machine.passive → content_after p (effect_of act.Empty f) c ≡ Empty
  emptied found.Done e = refl
  emptied _ e = absurd e

  stands_in : (y : Place) → x ≡ At y → x ≡ At k.from
  stands_in y e =
      let q = inside_at (stage_at t.stages p) x y (k.old_fits.stands p k.inside).goes e in
      (acting.goes_inside t u m a w k q.0 (verdict x) (acting.stood t u m a w k ∙ ap (stands_as (verdict x)) q.1)).0

  content_by : (b : Action) → action_of k.from ≡ b → (new.cell ≡ content_after p (effect_of b k.found) c) × Finds i p b k.found c t.machine.active t.machine.passive
  content_by b e = (k.acts.content ∙ ap (λ z. content_after p (effect_of z k.found) c) e, (let P : Action → Type 0 = λ z. Finds i p z k.found c t.machine.active t.machine.passive in subst P e k.acts.finds))

  fills_in : (v : ℕ) (f : Found) → IsDone f → content_after p (effect_of (act.Fill v) f) c ≡ Full v
  fills_in v found.Done e = refl
  fills_in v _ e = absurd e

  filled : (v : ℕ) → is_maker c p ≡ true → task_of old p ≡ fills_with v → new.cell ≡ Full v
  filled v made e =
      let task : task_at x ≡ fills_with v = sym (acting.task_old t u m a w k) ∙ e in
      let y = filler_at x v (k.old_laws.makers p ∙ made) task in
      let so = content_by (act.Fill v) (fills_at v k.from (acting.makes_seen t u m a w k ∙ made) (sym (ap task_at (stands_in y.0 y.1)) ∙ task)) in
      so.0 ∙ fills_in v k.found so.1

  told_all : (v : ℕ) → is_stepped a ≡ false → task_of old p ≡ fills_with v → (q : ℕ) → 0 < entries_of q new.passive → is_marked_at (is_party q) new.passive ≡ true
  told_all v ended e q =
      let task : task_at x ≡ fills_with v = sym (acting.task_old t u m a w k) ∙ e in
      let y = teller_at x v task in
      let z = inside_at (stage_at t.stages p) x y.0 (k.old_fits.stands p k.inside).goes y.1 in
      let here = acting.goes_inside t u m a w k z.0 (verdict x) (acting.stood t u m a w k ∙ ap (stands_as (verdict x)) z.1) in
      let tells = ends_telling v k.from k.found (sym (ap task_at here.0) ∙ task) here.1 (ap is_stepped (sym k.answer) ∙ ended) in
      let so = content_by (act.NotifyAll Passive) tells in
      told_everyone p q k.found t.machine.passive u.machine.passive so.1 k.old_laws.passive_few (k.acts.passive ∙ ap (λ b. passive_after p (effect_of b k.found) t.machine.passive) tells)

  fails : is_maker c p ≡ true → task_of old p ≡ failed → new.cell ≡ Empty
  fails made e =
      let task : task_at x ≡ failed = sym (acting.task_old t u m a w k) ∙ e in
      let y = failure_at x (k.old_laws.makers p ∙ made) task in
      let so = content_by act.Empty (empties_at k.from (acting.makes_seen t u m a w k ∙ made) (sym (ap task_at (stands_in y.0 y.1)) ∙ task)) in
      so.0 ∙ emptied k.found so.1

  dropped : is_drop m.what ≡ true → is_maker c p ≡ true → DropsMaker a new
  dropped h made = (
      let e = door.dropped h (k.old_laws.makers p ∙ made) in
      record { empty = content_at CancelMake e ∙ emptied k.found (finds_at CancelMake e); goes_on = answered CancelMake e }
      )

  listed : is_poll m.what ≡ true → stands_as (verdict x) (stage_at t.stages p) ≡ outside Rest.Pending → (list : ListName) → 0 < entries_of p (list_in list old) → AsksAtOnce old m a new list
  listed h pending Active some = (
      let d = door.in_active h pending (rw (k.old_laws.active_owners p) at some) in
      record {
        answered = answered (AskActive d.0) d.1 ∙ ask_answer p c d.0 t.machine.active k.found (finds_at (AskActive d.0) d.1);
        asked = active_at (AskActive d.0) d.1 ∙ ap (λ (b : Effect Change ListName). active_after p b t.machine.active) (ask_effect p c Active t.machine.active k.found (finds_at (AskActive d.0) d.1));
      }
      )
  listed h pending Passive some = (
      let e = door.in_passive h pending (rw (k.old_laws.passive_owners p) at some) in
      record {
        answered = answered AskPassive e ∙ ask_passive_answer p c t.machine.passive k.found (finds_at AskPassive e);
        asked = passive_at AskPassive e ∙ ap (λ (b : Effect Change ListName). passive_after p b t.machine.passive) (ask_effect p c Passive t.machine.passive k.found (finds_at AskPassive e));
      }
      )

  pub at_once : AnswersAtOnce old m a new
  at_once = record {
    tried = λ h possible. tried h;
    making = λ h. making (ap (λ z. is_first_making z m.what (task_at x) (entries_of p t.machine.active) (is_maker c p)) (sym (acting.stood t u m a w k)) ∙ (ap (λ z. is_first_making (standing_of old p) m.what z (entries_of p t.machine.active) (is_maker c p)) (sym (acting.task_old t u m a w k)) ∙ h));
    waiting = λ h. waiting (ap (λ z. is_first_wait z m.what (task_at x) (entries_of p t.machine.passive)) (sym (acting.stood t u m a w k)) ∙ (ap (λ z. is_first_wait (standing_of old p) m.what z (entries_of p t.machine.passive)) (sym (acting.task_old t u m a w k)) ∙ h));
    maker = λ h pending made. polled h (sym (acting.stood t u m a w k) ∙ pending) made;
    dropped = λ h possible made. dropped h made;
    gone = λ h possible unmade. k.answer ∙ door.gone h (k.old_laws.makers p ∙ unmade) k.found;
    asked = λ v e possible made would none. asked v e made would none;
    filled = λ v possible made e. filled v made e;
    failed = λ possible made e. fails made e;
    told_all = λ v possible ended e q some. told_all v ended e q some;
    listed = λ h pending list some. listed h (sym (acting.stood t u m a w k) ∙ pending) list some;
  }
