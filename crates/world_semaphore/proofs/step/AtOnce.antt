-- What the first step of a call decides at once.
use Rattle.world_semaphore.proofs.Prelude.{◌≡◌, ℕ, ◌+◌, ◌⊎◌, ◌||◌, inl, inr, Bool, true, false, Option, Some, is_some, nat_le, if◌then◌else◌, refl, arith, ap, sym, ◌∙◌, subst, false≢true, le-leb, lt-leb, fitted, entries_of, Answer, Plain, Move, What, Kind, Rest, Stage, Within, Refusal, Standing, outside, inside, inputs_of, decision, refused, is_drop, some_eq, not_one, outside_inside, stage_at, stands_as, call_at, polls_again, Table, Action, Found, Done, Left, Short, Available, PastLimit, Place, Take, Retake, PassOn, RefuseFit, Try, Lower, GiveBack, Raise, GiveAdded, FitAdded, CancelRemove, CancelLoad, FitGivenBack, Abandon, Position, available_in, action_of, next_of, Share, a_fit, seat_of, share_of, size_at, debt_at, listed, verdict, verdict_of, Effect, nothing, changes, does, fits, takes, gives_back, forgets, gives, entries_after, words_after, effect_of, Finds, FindsPermits, FindsSo, FindsRoom, Semaphore, knows, goes_with, runs, is_begun, is_adding, position_at, answer_by, World, share_at, has_permits, available, standing_of, size_of, debt_of, view_of, state_after, added_in, is_forget, wanted, wanted_in, AnswersAtOnce, AddsAtOnce, GivesInTurn, TellsInTurn, is_try, is_poll, is_first_poll}
use Rattle.world_semaphore.proofs.of_machine.laws.Kept.{after}
use Rattle.world_semaphore.proofs.table.Seen as seen
use Rattle.world_semaphore.proofs.step.Rows.{said}
use Rattle.world_semaphore.specs.AtOnce.{is_enough}
use Rattle.world_semaphore.proofs.of_machine.stages.Turns.{Turn, turn}
use Rattle.world_semaphore.proofs.step.Acting.{Acting}
use Rattle.world_semaphore.proofs.step.Acting as acting

-- ---- Where calls begin

-- the place at which each call begins that decides at once
pub record EntranceAt (s : Standing) (what : What) (x : Position) (from : Place) : Type 0 where
  pub tries : is_try what ≡ true → (k : ℕ) × (from ≡ Try k) × (wanted_in what (size_at x) ≡ k)
  pub polls : is_poll s what ≡ true → (k : ℕ) × ((from ≡ Take k false false) ⊎ (from ≡ Retake k)) × (wanted_in what (size_at x) ≡ k)
  pub first : (n : ℕ) → is_first_poll s what n ≡ true → n ≡ listed x → (k : ℕ) × (from ≡ Take k false false) × (wanted_in what (size_at x) ≡ k)
  pub adds : (n : ℕ) → added_in what ≡ Some n → from ≡ Raise n
  pub forgets : is_forget what ≡ true → (k : ℕ) × (from ≡ Lower k) × (size_at x ≡ k)
  pub drops : is_drop what ≡ true → s ≡ outside Rest.Holding → (k : ℕ) × (from ≡ GiveBack k) × (size_at x ≡ k)
  -- and those at which a drop and an add go on
  pub tells : (r : Rest) → s ≡ inside (record { kind = Kind.Drop; was = r }) (Some Answer.GivenBack) → (from ≡ CancelLoad) ⊎ ((a : ℕ) × (from ≡ FitGivenBack a))
  pub gives : s ≡ inside (record { kind = Kind.Add; was = Rest.Idle }) (Some (Answer.Granted Plain)) → (n : ℕ) × ((from ≡ GiveAdded n) ⊎ (from ≡ FitAdded n))
  -- and where a poll goes on that is to be refused for memory, or to wait on
  pub refuses : (v : Within) → s ≡ inside v (Some (refused Refusal.Memory)) → (k : ℕ) × (a : ℕ) × (from ≡ RefuseFit k a)
  pub waits : (v : Within) → s ≡ inside v (Some Answer.Pending) → (k : ℕ) × (a : ℕ) × (from ≡ PassOn k a)

abbrev pub Entrance : Stage → What → Within → Position → Place → Type 0
Entrance s what w x from = EntranceAt (stands_as (verdict x) s) what x from

dropping_at : (r : Rest) (x : Place) → is_begun x ≡ true → runs Kind.Drop r x ≡ true → (x ≡ CancelLoad) ⊎ ((a : ℕ) × (x ≡ FitGivenBack a))
dropping_at Rest.Holding (FitGivenBack a) b h = inr (a, refl)
dropping_at Rest.Holding (GiveBack k) b h = absurd (cc b)
dropping_at Rest.Holding _ b h = absurd (cc h)
dropping_at Rest.Pending (FitGivenBack a) b h = inr (a, refl)
dropping_at Rest.Pending CancelLoad b h = inl refl
dropping_at Rest.Pending CancelRemove b h = absurd (cc b)
dropping_at Rest.Pending Abandon b h = absurd (cc b)
dropping_at Rest.Pending _ b h = absurd (cc h)
dropping_at Rest.Idle x b h = absurd (cc h)
dropping_at Rest.Finished x b h = absurd (cc h)

adding_at : (x : Place) → is_begun x ≡ true → is_adding x ≡ true → (n : ℕ) × ((x ≡ GiveAdded n) ⊎ (x ≡ FitAdded n))
adding_at (GiveAdded n) b h = (n, inl refl)
adding_at (FitAdded n) b h = (n, inr refl)
adding_at (Raise n) b h = absurd (cc b)
adding_at _ b h = absurd (cc h)

-- inside the same call
same_call : (w v : Within) (d e : Option Answer) → inside w d ≡ inside v e → w ≡ v
same_call w v d e h = cc h

same_decision : (w v : Within) (d e : Option Answer) → inside w d ≡ inside v e → d ≡ e
same_decision w v d e h = cc h

refuses_at : (x : Place) → verdict_of x ≡ Some (refused Refusal.Memory) → (k : ℕ) × (a : ℕ) × (x ≡ RefuseFit k a)
refuses_at (RefuseFit k a) e = (k, a, refl)
refuses_at _ e = absurd (cc e)

waits_at : (x : Place) → verdict_of x ≡ Some Answer.Pending → (k : ℕ) × (a : ℕ) × (x ≡ PassOn k a)
waits_at (PassOn k a) e = (k, a, refl)
waits_at _ e = absurd (cc e)

tells_at : (w : Within) (x : Place) (r : Rest) → inside w (verdict_of x) ≡ inside (record { kind = Kind.Drop; was = r }) (Some Answer.GivenBack) → is_begun x ≡ true → runs w.kind w.was x ≡ true → (x ≡ CancelLoad) ⊎ ((a : ℕ) × (x ≡ FitGivenBack a))
tells_at w x r e begun here = let R : Within → Type 0 = λ v. runs v.kind v.was x ≡ true in dropping_at r x begun (subst R (same_call _ _ _ _ e) here)

gives_at : (w : Within) (x : Place) → inside w (verdict_of x) ≡ inside (record { kind = Kind.Add; was = Rest.Idle }) (Some (Answer.Granted Plain)) → is_begun x ≡ true → runs w.kind w.was x ≡ true → (n : ℕ) × ((x ≡ GiveAdded n) ⊎ (x ≡ FitAdded n))
gives_at w x e begun here = let R : Within → Type 0 = λ v. runs v.kind v.was x ≡ true in adding_at x begun (subst R (same_call _ _ _ _ e) here)

pub entrance : (s : Stage) (what : What) (w : Within) (x : Position) → goes_with s x ≡ true → call_at knows s what ≡ Some w → polls_again s what ≡ false → Turn Entrance s what w x
entrance = turn Entrance (record {
  acquire = λ k i. record { tries = λ h. absurd (cc); polls = λ h. (k, inl refl, refl); first = λ n h l. (k, refl, refl); adds = λ n e. absurd (cc); forgets = λ h. absurd (cc); drops = λ h e. absurd (cc); tells = λ r e. absurd (outside_inside e); refuses = λ v e. absurd (outside_inside e); waits = λ v e. absurd (outside_inside e); gives = λ e. absurd (outside_inside e) };
  try = λ k i. record { tries = λ h. (k, refl, refl); polls = λ h. absurd (cc); first = λ n h l. absurd (cc); adds = λ n e. absurd (cc); forgets = λ h. absurd (cc); drops = λ h e. absurd (cc); tells = λ r e. absurd (outside_inside e); refuses = λ v e. absurd (outside_inside e); waits = λ v e. absurd (outside_inside e); gives = λ e. absurd (outside_inside e) };
  add = λ k i. record { tries = λ h. absurd (cc); polls = λ h. absurd (cc); first = λ n h l. absurd (cc); adds = λ n e. ap Raise (some_eq e); forgets = λ h. absurd (cc); drops = λ h e. absurd (cc); tells = λ r e. absurd (outside_inside e); refuses = λ v e. absurd (outside_inside e); waits = λ v e. absurd (outside_inside e); gives = λ e. absurd (outside_inside e) };
  poll = λ k i. record { tries = λ h. absurd (cc); polls = λ h. (k, inl refl, refl); first = λ n h l. (k, refl, refl); adds = λ n e. absurd (cc); forgets = λ h. absurd (cc); drops = λ h e. absurd (cc); tells = λ r e. absurd (outside_inside e); refuses = λ v e. absurd (outside_inside e); waits = λ v e. absurd (outside_inside e); gives = λ e. absurd (outside_inside e) };
  poll_listed = λ k i. record { tries = λ h. absurd (cc); polls = λ h. (k, inr refl, refl); first = λ n h l. absurd (not_one n h l); adds = λ n e. absurd (cc); forgets = λ h. absurd (cc); drops = λ h e. absurd (cc); tells = λ r e. absurd (outside_inside e); refuses = λ v e. absurd (outside_inside e); waits = λ v e. absurd (outside_inside e); gives = λ e. absurd (outside_inside e) };
  abandon = λ k i. record { tries = λ h. absurd (cc); polls = λ h. absurd (cc); first = λ n h l. absurd (cc); adds = λ n e. absurd (cc); forgets = λ h. absurd (cc); drops = λ h e. absurd (cc); tells = λ r e. absurd (outside_inside e); refuses = λ v e. absurd (outside_inside e); waits = λ v e. absurd (outside_inside e); gives = λ e. absurd (outside_inside e) };
  cancel = λ k i. record { tries = λ h. absurd (cc); polls = λ h. absurd (cc); first = λ n h l. absurd (cc); adds = λ n e. absurd (cc); forgets = λ h. absurd (cc); drops = λ h e. absurd (cc); tells = λ r e. absurd (outside_inside e); refuses = λ v e. absurd (outside_inside e); waits = λ v e. absurd (outside_inside e); gives = λ e. absurd (outside_inside e) };
  give_back = λ k i. record { tries = λ h. absurd (cc); polls = λ h. absurd (cc); first = λ n h l. absurd (cc); adds = λ n e. absurd (cc); forgets = λ h. absurd (cc); drops = λ h e. (k, refl, refl); tells = λ r e. absurd (outside_inside e); refuses = λ v e. absurd (outside_inside e); waits = λ v e. absurd (outside_inside e); gives = λ e. absurd (outside_inside e) };
  forget = λ k i. record { tries = λ h. absurd (cc); polls = λ h. absurd (cc); first = λ n h l. absurd (cc); adds = λ n e. absurd (cc); forgets = λ h. (k, refl, refl); drops = λ h e. absurd (cc); tells = λ r e. absurd (outside_inside e); refuses = λ v e. absurd (outside_inside e); waits = λ v e. absurd (outside_inside e); gives = λ e. absurd (outside_inside e) };
  go = λ w x i begun here. record { tries = λ h. absurd (cc); polls = λ h. absurd (cc); first = λ n h l. absurd (cc); adds = λ n e. absurd (cc); forgets = λ h. absurd (cc); drops = λ h e. absurd (cc); tells = λ r e. tells_at w x r e begun here; gives = λ e. gives_at w x e begun here; refuses = λ v e. refuses_at x (same_decision _ _ _ _ e); waits = λ v e. waits_at x (same_decision _ _ _ _ e) };
})

-- ---- What is found there

abbrev is_taken : Found → Bool
is_taken (Left a) = true
is_taken _ = false

-- a look at the permits says whether as many are available
found_enough : (k : ℕ) (f : Found) (n : ℕ) → FindsPermits k f n → nat_le k n ≡ is_taken f
found_enough k (Left a) n e = le-leb k n (omega arith)
found_enough k (Short a) n e = lt-leb k n (let few = e.1 in let is = e.0 in omega arith)
found_enough k _ n e = absurd e

module _ (t u : Table Semaphore) (m : Move) (a : Answer) (w : Within) (k : Acting t u m a w) (door : Entrance (stage_at t.stages m.party) m.what w (position_at t.machine.positions m.party) k.from) where
  abbrev p : ℕ
  p = m.party

  abbrev old : World
  old = view_of t

  abbrev new : World
  new = view_of u

  abbrev memory : Bool
  memory = (inputs_of m.what).memory

  -- what is so of the place at which a call begins is so of where it began
  module _ (y : Place) (P : Place → Type 0) where
    at : k.from ≡ y → P k.from → P y
    at e h = subst P e h

  abbrev Found_there : Place → Type 0
  Found_there y = Finds memory p (action_of y) k.found t.machine.words t.machine.entries

  wanted_is : (n : ℕ) → wanted_in m.what (size_at (position_at t.machine.positions p)) ≡ n → wanted old m ≡ n
  wanted_is n e = ap (wanted_in m.what) (seen.size_seen t p) ∙ e

  -- as many are available as the call is for
  enough_is : (n : ℕ) → wanted_in m.what (size_at (position_at t.machine.positions p)) ≡ n → is_enough old m ≡ nat_le n t.machine.words.available
  enough_is n e = ap (λ c. nat_le c (available old.state)) (wanted_is n e) ∙ ap (nat_le n) (seen.available_seen t k.old_laws)

  permit_new : has_permits new.state p ≡ is_some (share_of (after k.from k.found)).held
  permit_new = ap (λ (z : Share). is_some z.held) (acting.share_new t u m a w k)

  answered : (y : Place) → k.from ≡ y → a ≡ answer_by (next_of y k.found)
  answered y e = k.answer ∙ ap (λ z. answer_by (next_of z k.found)) e

  shared : (y : Place) → k.from ≡ y → has_permits new.state p ≡ is_some (share_of (after y k.found)).held
  shared y e = permit_new ∙ ap (λ z. is_some (share_of (after z k.found)).held) e

  decided : (y : Place) → k.from ≡ y → decision a (standing_of new p) ≡ said (next_of y k.found)
  decided y e = acting.decides t u m a w k ∙ ap (λ z. said (next_of z k.found)) e

  owed_there : (y : Place) → k.from ≡ y → debt_of new p ≡ debt_at (after y k.found)
  owed_there y e = acting.debt_new t u m a w k ∙ ap (λ z. debt_at (after z k.found)) e

  -- a look at the permits, at this place
  enough_at : (y : Place) (n : ℕ) → k.from ≡ y → wanted_in m.what (size_at (position_at t.machine.positions p)) ≡ n → (Found_there y → FindsPermits n k.found t.machine.words.available) → is_enough old m ≡ is_taken k.found
  enough_at y n e wants look = enough_is n wants ∙ found_enough n k.found t.machine.words.available (look (at y Found_there e k.acts.finds))

  try_answer : (n : ℕ) (f : Found) → answer_by (next_of (Try n) f) ≡ (if is_taken f then Answer.Granted Plain else Answer.None)
  try_answer n (Left c) = refl
  try_answer n _ = refl

  try_share : (n : ℕ) (f : Found) → is_some (share_of (after (Try n) f)).held ≡ is_taken f
  try_share n (Left c) = refl
  try_share n _ = refl

  take_answer : (n : ℕ) (f : Found) → answer_by (next_of (Take n false false) f) ≡ (if is_taken f then Answer.Ready Plain else Answer.Stepped)
  take_answer n (Left c) = refl
  take_answer n _ = refl

  take_share : (n : ℕ) (f : Found) → is_some (share_of (after (Take n false false) f)).held ≡ is_taken f
  take_share n (Left c) = refl
  take_share n _ = refl

  take_said : (n : ℕ) (f : Found) → is_taken f ≡ true → said (next_of (Take n false false) f) ≡ Some (Answer.Ready Plain)
  take_said n (Left c) h = refl
  take_said n _ h = absurd (cc)

  retake_share : (n : ℕ) (f : Found) → is_some (share_of (after (Retake n) f)).held ≡ is_taken f
  retake_share n (Left c) = refl
  retake_share n _ = refl

  retake_said : (n : ℕ) (f : Found) → is_taken f ≡ true → said (next_of (Retake n) f) ≡ Some (Answer.Ready Plain)
  retake_said n (Left c) h = refl
  retake_said n _ h = absurd (cc)

  chosen : {A : Type 0} (b c : Bool) (x y : A) → b ≡ c → (if c then x else y) ≡ (if b then x else y)
  chosen b c x y e = ap (λ z. if z then x else y) (sym e)

  tried : is_try m.what ≡ true → (a ≡ (if is_enough old m then Answer.Granted Plain else Answer.None)) × (has_permits new.state p ≡ is_enough old m)
  tried h =
      let d = door.tries h in
      let n = d.0 in
      let enough = enough_at (Try n) n d.1 d.2 (λ y. y) in
      (answered (Try n) d.1 ∙ (try_answer n k.found ∙ chosen (is_enough old m) (is_taken k.found) (Answer.Granted Plain) Answer.None enough), shared (Try n) d.1 ∙ (try_share n k.found ∙ sym enough))

  abbrev Polled : Type 0
  Polled = (has_permits new.state p ≡ is_enough old m) × (is_enough old m ≡ true → decision a (standing_of new p) ≡ Some (Answer.Ready Plain))

  polled : is_poll (stands_as (verdict (position_at t.machine.positions p)) (stage_at t.stages p)) m.what ≡ true → Polled
  polled h =
      let d = door.polls h in
      let n = d.0 in
      elim d.1 as (λ _. Polled) [
        | inl e ↦ (let enough = enough_at (Take n false false) n e d.2 (λ y. y) in (shared (Take n false false) e ∙ (take_share n k.found ∙ sym enough), λ is. decided (Take n false false) e ∙ take_said n k.found (sym enough ∙ is)))
        | inr e ↦ (let enough = enough_at (Retake n) n e d.2 (λ y. y) in (shared (Retake n) e ∙ (retake_share n k.found ∙ sym enough), λ is. decided (Retake n) e ∙ retake_said n k.found (sym enough ∙ is)))
      ]

  added : (n : ℕ) → added_in m.what ≡ Some n → AddsAtOnce n old m a new
  added n e = by_found k.found (at (Raise n) Found_there from k.acts.finds) refl where
    from : k.from ≡ Raise n
    from = door.adds n e

    by_found : (f : Found) → FindsRoom n f t.machine.words → k.found ≡ f → AddsAtOnce n old m a new
    by_found Done room is = record {
      fits = λ h. (acting.state_is t u m a w k ∙ ap (λ (d : Effect). state_after p d old.state) (ap (λ y. effect_of (action_of y) k.found) from ∙ ap (effect_of (Action.Raise n)) is), decided (Raise n) from ∙ ap (λ f. said (next_of (Raise n) f)) is);
      past = λ h. absurd (omega (arith, h, room));
    }
    by_found PastLimit room is = record {
      fits = λ h. absurd (omega (arith, h, room));
      past = λ h. (answered (Raise n) from ∙ ap (λ f. answer_by (next_of (Raise n) f)) is, ap view_of (acting.unchanged t u m a w k n from is));
    }
    by_found _ room is = absurd room

  done_there : (y : Place) → k.from ≡ y → effect_of (action_of k.from) k.found ≡ effect_of (action_of y) k.found
  done_there y e = ap (λ z. effect_of (action_of z) k.found) e

  -- what the action of this place does to the state and to the list
  state_there : (y : Place) → k.from ≡ y → (d : Effect) → effect_of (action_of y) k.found ≡ d → new.state ≡ state_after p d old.state
  state_there y e d is = acting.state_is t u m a w k ∙ ap (λ (c : Effect). state_after p c old.state) (done_there y e ∙ is)

  list_there : (y : Place) → k.from ≡ y → (d : Effect) → effect_of (action_of y) k.found ≡ d → new.entries ≡ entries_after (size_of old) p d old.entries
  list_there y e d is = acting.entries_seen t u m a w k ∙ ap (λ (c : Effect). entries_after (size_of old) p c old.entries) (done_there y e ∙ is)

  lowered : (n : ℕ) (f : Found) → Finds memory p (Action.Lower n) f t.machine.words t.machine.entries → effect_of (Action.Lower n) f ≡ changes (forgets n)
  lowered n Done e = refl
  lowered n _ e = absurd e

  size_is : (n : ℕ) → size_at (position_at t.machine.positions p) ≡ n → size_of old p ≡ n
  size_is n e = seen.size_seen t p ∙ e

  forgotten_so : is_forget m.what ≡ true → (a ≡ Answer.GivenBack) × (new.state ≡ state_after p (changes (forgets (size_of old p))) old.state)
  forgotten_so h =
      let d = door.forgets h in
      let n = d.0 in
      (answered (Lower n) d.1, state_there (Lower n) d.1 (changes (forgets n)) (lowered n k.found (at (Lower n) Found_there d.1 k.acts.finds)) ∙ ap (λ c. state_after p (changes (forgets c)) old.state) (sym (size_is n d.2)))

  -- what is found available, of which the party is to tell then
  record Gave (y : Place) (d : Effect) (available : ℕ) : Type 0 where
    pub is : effect_of (action_of y) k.found ≡ d
    pub found : available_in k.found ≡ available

  gave_back : (n : ℕ) → Finds memory p (Action.GiveBack n) k.found t.machine.words t.machine.entries → Gave (GiveBack n) (changes (gives_back n)) (t.machine.words.available + n)
  gave_back n finds = by_found k.found refl finds where
    by_found : (f : Found) → k.found ≡ f → FindsSo (t.machine.words.available + n) f → Gave (GiveBack n) (changes (gives_back n)) (t.machine.words.available + n)
    by_found (Available c) is e = record { is = ap (effect_of (Action.GiveBack n)) is; found = ap available_in is ∙ e }
    by_found _ is e = absurd e

  gave : (n : ℕ) → Finds memory p (Action.Give n) k.found t.machine.words t.machine.entries → Gave (GiveAdded n) (changes (gives n)) (t.machine.words.available + n)
  gave n finds = by_found k.found refl finds where
    by_found : (f : Found) → k.found ≡ f → FindsSo (t.machine.words.available + n) f → Gave (GiveAdded n) (changes (gives n)) (t.machine.words.available + n)
    by_found (Available c) is e = record { is = ap (effect_of (Action.Give n)) is; found = ap available_in is ∙ e }
    by_found _ is e = absurd e

  loaded : Finds memory p Action.Load k.found t.machine.words t.machine.entries → Gave CancelLoad nothing t.machine.words.available
  loaded finds = by_found k.found refl finds where
    by_found : (f : Found) → k.found ≡ f → FindsSo t.machine.words.available f → Gave CancelLoad nothing t.machine.words.available
    by_found (Available c) is e = record { is = ap (effect_of Action.Load) is; found = ap available_in is ∙ e }
    by_found _ is e = absurd e

  -- so many are available then
  available_there : (y : Place) → k.from ≡ y → (d : Effect) → effect_of (action_of y) k.found ≡ d → available new.state ≡ (words_after d t.machine.words).available
  available_there y e d is = acting.available_new t u m a w k ∙ ap (λ (c : Effect). (words_after c t.machine.words).available) (done_there y e ∙ is)

  returned : is_drop m.what ≡ true → standing_of old p ≡ outside Rest.Holding → (a ≡ Answer.Stepped) × (new.state ≡ state_after p (changes (gives_back (size_of old p))) old.state) × (debt_of new p ≡ a_fit (available new.state))
  returned h stands =
      let d = door.drops h (sym (acting.stood t u m a w k) ∙ stands) in
      let n = d.0 in
      let g = gave_back n (at (GiveBack n) Found_there d.1 k.acts.finds) in (
        answered (GiveBack n) d.1,
        state_there (GiveBack n) d.1 (changes (gives_back n)) g.is ∙ ap (λ c. state_after p (changes (gives_back c)) old.state) (sym (size_is n d.2)),
        owed_there (GiveBack n) d.1 ∙ ap a_fit (g.found ∙ sym (available_there (GiveBack n) d.1 (changes (gives_back n)) g.is)),
      )

  abbrev Looked : Type 0
  Looked = (new.state ≡ (if is_enough old m then state_after p (changes (takes (wanted old m))) old.state else old.state)) × (new.entries ≡ old.entries)

  looked : (y : Place) (n : ℕ) → k.from ≡ y → action_of y ≡ Action.Take n → wanted old m ≡ n → (f : Found) → k.found ≡ f → FindsPermits n f t.machine.words.available → is_enough old m ≡ is_taken f → Looked
  looked y n e act_is wants (Left c) is found enough =
      let effect : effect_of (action_of y) k.found ≡ changes (takes n) = ap (λ b. effect_of b k.found) act_is ∙ ap (effect_of (Action.Take n)) is in
      (rw enough (state_there y e (changes (takes n)) effect ∙ ap (λ j. state_after p (changes (takes j)) old.state) (sym wants)), list_there y e (changes (takes n)) effect)
  looked y n e act_is wants (Short c) is found enough =
      let effect : effect_of (action_of y) k.found ≡ nothing = ap (λ b. effect_of b k.found) act_is ∙ ap (effect_of (Action.Take n)) is in
      (rw enough (state_there y e nothing effect), list_there y e nothing effect)
  looked y n e act_is wants _ is found enough = absurd found

  looks_at : (y : Place) (n : ℕ) → k.from ≡ y → action_of y ≡ Action.Take n → wanted_in m.what (size_at (position_at t.machine.positions p)) ≡ n → Looked
  looks_at y n e act_is wants =
      let F : Action → Type 0 = λ b. Finds memory p b k.found t.machine.words t.machine.entries in
      let found : FindsPermits n k.found t.machine.words.available = subst F act_is (at y Found_there e k.acts.finds) in
      looked y n e act_is (wanted_is n wants) k.found refl found (enough_is n wants ∙ found_enough n k.found t.machine.words.available found)

  looks : (b c : Bool) → is_try m.what ≡ b → is_poll (stands_as (verdict (position_at t.machine.positions p)) (stage_at t.stages p)) m.what ≡ c → b || c ≡ true → Looked
  looks true c tries polls h = let d = door.tries tries in looks_at (Try d.0) d.0 d.1 refl d.2
  looks false true tries polls h = let d = door.polls polls in elim d.1 as (λ _. Looked) [ inl e ↦ looks_at (Take d.0 false false) d.0 e refl d.2 | inr e ↦ looks_at (Retake d.0) d.0 e refl d.2 ]
  looks false false tries polls h = absurd (false≢true h)

  told_there : (y : Place) (c : ℕ) → k.from ≡ y → action_of y ≡ Action.Fit c → new.entries ≡ fitted (size_of old) c old.entries
  told_there y c e act_is =
      let F : Action → Type 0 = λ b. Finds memory p b k.found t.machine.words t.machine.entries in
      list_there y e (does (fits c)) (ap (λ b. effect_of b k.found) act_is ∙ told_done c k.found (subst F act_is (at y Found_there e k.acts.finds))) where
        told_done : (c : ℕ) (f : Found) → Finds memory p (Action.Fit c) f t.machine.words t.machine.entries → effect_of (Action.Fit c) f ≡ does (fits c)
        told_done c Done e = refl
        told_done c _ e = absurd e

  owed_at : (y : Place) → k.from ≡ y → debt_of old p ≡ (seat_of y).debt
  owed_at y e = acting.debt_old t u m a w k ∙ ap (λ z. (seat_of z).debt) e

  -- a place at which the party tells of c permits
  tells_of : (y : Place) (c : ℕ) (b : Answer) → k.from ≡ y → action_of y ≡ Action.Fit c → (seat_of y).debt ≡ a_fit c → answer_by (next_of y k.found) ≡ b → TellsInTurn b old m a new
  tells_of y c b e act_is debt ends = record {
    owes = inr (c, owed_at y e ∙ debt);
    looks = λ h. absurd (cc (sym h ∙ (owed_at y e ∙ debt)));
    tells = λ n h. (answered y e ∙ ends, told_there y c e act_is ∙ ap (λ j. fitted (size_of old) j old.entries) (same_fit c n (sym (owed_at y e ∙ debt) ∙ h)));
  } where
    same_fit : (c n : ℕ) → a_fit c ≡ a_fit n → c ≡ n
    same_fit c n h = cc h

  tells_so : (k.from ≡ CancelLoad) ⊎ ((c : ℕ) × (k.from ≡ FitGivenBack c)) → TellsInTurn Answer.GivenBack old m a new
  tells_so (inl e) =
      let g = loaded (at CancelLoad Found_there e k.acts.finds) in
      record {
        owes = inl (owed_at CancelLoad e);
        looks = λ h. (
          answered CancelLoad e,
          state_there CancelLoad e nothing g.is,
          list_there CancelLoad e nothing g.is,
          owed_there CancelLoad e ∙ ap a_fit (g.found ∙ sym (seen.available_seen t k.old_laws)),
        );
        tells = λ n h. absurd (cc (sym h ∙ owed_at CancelLoad e));
      }
  tells_so (inr e) = tells_of (FitGivenBack e.0) e.0 Answer.GivenBack e.1 refl refl refl

  gives_so : (n : ℕ) → (k.from ≡ GiveAdded n) ⊎ (k.from ≡ FitAdded n) → GivesInTurn old m a new
  gives_so n (inl e) =
      let g = gave n (at (GiveAdded n) Found_there e k.acts.finds) in
      let way : (share_at old.state p).under_way ≡ n = ap (λ (z : Share). z.under_way) (acting.share_old t u m a w k) ∙ ap (λ z. (seat_of z).share.under_way) e in
      record {
        given = λ h. (
          answered (GiveAdded n) e,
          state_there (GiveAdded n) e (changes (gives n)) g.is ∙ ap (λ j. state_after p (changes (gives j)) old.state) (sym way),
          owed_there (GiveAdded n) e ∙ ap a_fit (g.found ∙ sym (available_there (GiveAdded n) e (changes (gives n)) g.is)),
        );
        told = λ c h. absurd (cc (sym h ∙ owed_at (GiveAdded n) e));
      }
  gives_so n (inr e) =
      let tells = tells_of (FitAdded n) n (Answer.Granted Plain) e refl refl refl in
      record {
        given = λ h. absurd (cc (sym h ∙ owed_at (FitAdded n) e));
        told = tells.tells;
      }

  seen_poll : is_poll (standing_of old p) m.what ≡ true → is_poll (stands_as (verdict (position_at t.machine.positions p)) (stage_at t.stages p)) m.what ≡ true
  seen_poll h = ap (λ z. is_poll z m.what) (sym (acting.stood t u m a w k)) ∙ h

  pub at_once : AnswersAtOnce old m a new
  at_once = record {
    tried = λ h possible. tried h;
    polled = λ h. (polled (seen_poll h)).0;
    taken = λ h. (polled (seen_poll h)).1;
    ready = λ h.
        let d = door.first (entries_of p old.entries) (ap (λ z. is_first_poll z m.what (entries_of p old.entries)) (sym (acting.stood t u m a w k)) ∙ h) (k.old_laws.owners p) in
        let n = d.0 in
        let enough = enough_at (Take n false false) n d.1 d.2 (λ y. y) in
        answered (Take n false false) d.1 ∙ (take_answer n k.found ∙ chosen (is_enough old m) (is_taken k.found) (Answer.Ready Plain) Answer.Stepped enough);
    looks = λ which possible. looks (is_try m.what) (is_poll (stands_as (verdict (position_at t.machine.positions p)) (stage_at t.stages p)) m.what) refl refl (sym (ap (λ z. is_try m.what || is_poll z m.what) (acting.stood t u m a w k)) ∙ which);
    added = λ n e possible. added n e;
    forgotten = λ h possible. forgotten_so h;
    returned = returned;
    tells = λ r stands possible. tells_so (door.tells r (sym (acting.stood t u m a w k) ∙ stands));
    gives = λ stands possible. (let at = door.gives (sym (acting.stood t u m a w k) ∙ stands) in gives_so at.0 at.1);
    refuses = λ v stands possible. (let e = door.refuses v (sym (acting.stood t u m a w k) ∙ stands) in tells_of (RefuseFit e.0 e.1) e.1 (refused Refusal.Memory) e.2 refl refl refl);
    waits = λ v stands possible. (let e = door.waits v (sym (acting.stood t u m a w k) ∙ stands) in tells_of (PassOn e.0 e.1) e.1 Answer.Pending e.2 refl refl refl);
  }
