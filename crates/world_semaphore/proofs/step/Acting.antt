-- An action of a party is a legal step, as callers see it.
use Rattle.world_semaphore.proofs.Prelude.{◌≡◌, ◌≢◌, ℕ, ◌<◌, ◌||◌, ◌⊎◌, inl, inr, Bool, true, false, List, map, length, Option, Some, None, is_some, refl, arith, ap, sym, ◌∙◌, subst, get_or-set_same, get_or-set_other, set, map-set, Entry, mark_at, is_party, entries_of, Answer, Call, Plain, Move, What, Begin, Refusal, Kind, Rest, Stage, Outside, Inside, Forgotten, Within, inputs_of, call_in, is_possible, is_stepped, is_decided, may_end, decision, refused, IsUndecided, is_giving_back, is_poll_after_ready, is_refusal, some_eq, none_some, finished_number, stage_at, stands_as, call_at, polls_again, stage_after, Table, set_same, call_seen, again_seen, stands_seen, decided_after, decision_seen, later_ends, Action, Found, Available, Done, Left, PastLimit, Yes, No, Next, Place, Take, Retake, Join, Ask, Remove, Load, HandOn, PassOn, RefuseFit, Try, Lower, GiveBack, Raise, GiveAdded, FitAdded, CancelRemove, CancelLoad, FitGivenBack, Abandon, Position, Out, Words, place_for, action_of, next_of, position_after, Seat, Share, guard_of, seat_of, share_of, size_at, debt_at, listed, verdict, verdict_of, Effect, nothing, changes, does, joins, asks, removes, fits, takes, gives_back, forgets, raises, gives, share_after, effect_of, Finds, words_after, entries_after, Semaphore, IsSemaphore, Acts, knows, runs, position_at, sizes_of, answer_by, is_polling, State, World, share_at, available, standing_of, size_of, debt_of, view_of, call_of, DecidesOn, state_after, gives_something_back, added_in, wanted, wanted_in, IsAllowed, ChangesOneThing, KnowsSizes, KnowsDebts, Carries, Waits, IsCause, IsRefusedForCause, size_after, LeavesClear, EndsProperly, Legal, IsSemaphoreTable}
use Rattle.std.proofs.Math.Seq.{map-set_same}
use Rattle.lock_event.specs.declared.event.Mark.TheVariants.{Waiting}
use Rattle.world_base.proofs.of_queue.Told.{waits_at}
use Rattle.lock_program.specs.Refusals.{number_of}
use Rattle.world_base.proofs.of_table.Acting as acting
use Rattle.lock_program.specs.declared.end.Next.TheVariants as next
use Rattle.lock_program.specs.declared.end.End.{End}
use Rattle.world_semaphore.proofs.of_machine.laws.Kept.{after}
use Rattle.world_semaphore.proofs.table.Seen as seen
use Rattle.world_semaphore.proofs.step.Rows.{said, SharesSo, AllowedAt, is_join, is_ask, Refuses, Reason, Judged, Room, Row, row}
use Rattle.world_semaphore.proofs.step.Debts.{OwedBy, owed, owes_so}
use Rattle.world_semaphore.proofs.step.Sizes.{Sized, sized}
use Rattle.world_semaphore.proofs.of_machine.stages.Taking.{taken}
use Rattle.world_semaphore.proofs.of_machine.laws.Entries.{fitted-agree}
use Rattle.world_semaphore.proofs.step.Here.{Here}
use Rattle.world_semaphore.proofs.step.Owns as legals
use Rattle.world_semaphore.proofs.step.Owns.{each_has, ends_well, none_owed}

-- ---- Answers

-- what a call is decided on after this
said_so : (x : Place) (n : Next) → decided_after (answer_by n) (verdict (position_after n)) ≡ said n
said_so x (next.Do y) = refl
said_so x (next.End End.Got y) = refl
said_so x (next.End End.Granted y) = refl
said_so x (next.End End.Pending y) = refl
said_so x (next.End End.NotFree y) = refl
said_so x (next.End End.Waiting y) = refl
said_so x (next.End End.GivenBack y) = refl
said_so x (next.End (End.Refused r) y) = refl

possible_by : (n : Next) → is_possible (answer_by n) ≡ true
possible_by (next.Do y) = refl
possible_by (next.End End.Got y) = refl
possible_by (next.End End.Granted y) = refl
possible_by (next.End End.Pending y) = refl
possible_by (next.End End.NotFree y) = refl
possible_by (next.End End.Waiting y) = refl
possible_by (next.End End.GivenBack y) = refl
possible_by (next.End (End.Refused r) y) = refl

-- what is answered, and doesn't go on, was decided
said_then : (n : Next) (b : Answer) → is_stepped b ≡ false → answer_by n ≡ b → said n ≡ Some b
said_then (next.Do y) b h e = let never : is_stepped Answer.Stepped ≡ false = ap is_stepped e ∙ h in absurd (cc)
said_then (next.End f y) b h e = ap Some e

abbrev EndsBy : Kind → Next → Type 0
EndsBy k n = is_stepped (answer_by n) ≡ false → may_end k (answer_by n) ≡ true

polls_end : (x : Place) (f : Found) → is_polling x ≡ true → EndsBy Kind.FirstPoll (next_of x f)
polls_end (Take k true told) (Left a) h e = absurd (cc)
polls_end (Take k false true) (Left a) h e = taken (EndsBy Kind.FirstPoll) k a (λ g. absurd (cc g)) (λ none g. refl) e
polls_end (Take k false false) (Left a) h e = refl
polls_end (Take k true told) _ h e = absurd (cc)
polls_end (Take k false told) _ h e = absurd (cc)
polls_end (Retake k) (Left a) h e = absurd (cc)
polls_end (Retake k) _ h e = absurd (cc)
polls_end (Join k told) Done h e = absurd (cc)
polls_end (Join k (Some a)) _ h e = absurd (cc)
polls_end (Join k None) _ h e = refl
polls_end (Ask k told) Yes h e = absurd (cc)
polls_end (Ask k (Some a)) _ h e = absurd (cc)
polls_end (Ask k None) _ h e = refl
polls_end (Remove k more) Yes h e = absurd (cc)
polls_end (Remove k (Some a)) _ h e = absurd (cc)
polls_end (Remove k None) _ h e = refl
polls_end (Load k) _ h e = absurd (cc)
polls_end (HandOn k a) _ h e = refl
polls_end (PassOn k a) _ h e = refl
polls_end (RefuseFit k a) _ h e = refl
polls_end _ f h e = absurd (cc h)

ends_by : (k : Kind) (r : Rest) (x : Place) (f : Found) → runs k r x ≡ true → EndsBy k (next_of x f)
ends_by Kind.FirstPoll Rest.Idle x f h e = polls_end x f h e
ends_by Kind.LaterPoll Rest.Pending x f h e = later_ends (answer_by (next_of x f)) (polls_end x f h e)
ends_by Kind.Try Rest.Idle (Try k) (Left a) h e = refl
ends_by Kind.Try Rest.Idle (Try k) _ h e = refl
ends_by Kind.Try Rest.Idle _ f h e = absurd (cc h)
ends_by Kind.Add Rest.Idle (Raise n) Done h e = absurd (cc)
ends_by Kind.Add Rest.Idle (Raise n) _ h e = refl
ends_by Kind.Add Rest.Idle (GiveAdded n) f h e = absurd (cc)
ends_by Kind.Add Rest.Idle (FitAdded a) f h e = refl
ends_by Kind.Add Rest.Idle _ f h e = absurd (cc h)
ends_by Kind.Drop Rest.Pending CancelRemove Yes h e = absurd (cc)
ends_by Kind.Drop Rest.Pending CancelRemove _ h e = refl
ends_by Kind.Drop Rest.Pending CancelLoad f h e = absurd (cc)
ends_by Kind.Drop Rest.Pending (FitGivenBack a) f h e = refl
ends_by Kind.Drop Rest.Pending Abandon f h e = refl
ends_by Kind.Drop Rest.Pending _ f h e = absurd (cc h)
ends_by Kind.Drop Rest.Holding (GiveBack k) f h e = absurd (cc)
ends_by Kind.Drop Rest.Holding (FitGivenBack a) f h e = refl
ends_by Kind.Drop Rest.Holding _ f h e = absurd (cc h)
ends_by Kind.Forget Rest.Holding (Lower k) f h e = refl
ends_by Kind.Forget Rest.Holding _ f h e = absurd (cc h)
ends_by _ _ x f h e = absurd (cc h)

-- ---- What was decided, and what is decided now

module _ (memory : Bool) (w : Words) (x : Place) (f : Found) (n : Next) where
  parted : (v o : Option Answer) → Judged memory w x f n v o → is_some v ≡ true → gives_something_back (effect_of (action_of x) f) ≡ true
  parted (Some b) o j h = j.1
  parted None o j h = absurd (cc)

  kept_on : (v o : Option Answer) (b : Answer) → Judged memory w x f n v o → v ≡ Some b → o ≡ Some b
  kept_on (Some c) o b j e = j.0 ∙ e
  kept_on None o b j e = absurd (none_some e)

  reasoned : (v o : Option Answer) (b : Answer) → Judged memory w x f n v o → ((c : Answer) → v ≡ Some c → c ≡ Answer.GivenBack) → o ≡ Some b → (b ≡ Answer.GivenBack) ⊎ Reason memory w x f n b
  reasoned (Some c) o b j late e = inl (some_eq (sym e ∙ j.0) ∙ late c refl)
  reasoned None None b j late e = absurd (none_some e)
  reasoned None (Some c) b j late e = let P : Answer → Type 0 = Reason memory w x f n in inr (subst P (some_eq e) j)

  overs : (r : Refusal) → 6 ≡ number_of r → Refuses memory w x f r → ⊥
  overs Refusal.Memory e y = omega arith
  overs Refusal.Permits e y = omega arith
  overs Refusal.Finished e y = y
  overs Refusal.Starved e y = y
  overs Refusal.Readers e y = y
  overs Refusal.Generations e y = y

  not_over : (v o : Option Answer) → Judged memory w x f n v o → (v ≡ Some (refused Refusal.Finished) → ⊥) → o ≡ Some (refused Refusal.Finished) → ⊥
  not_over (Some c) o j late e = late (sym j.0 ∙ e)
  not_over None None j late e = none_some e
  not_over None (Some c) j late e = let P : Answer → Type 0 = Reason memory w x f n in let why = subst P (some_eq e) j in overs why.0 why.1 why.2

never_over : (x : Place) → verdict_of x ≡ Some (refused Refusal.Finished) → ⊥
never_over (RefuseFit k a) e = let six : Path ℕ 1 6 = finished_number 1 (some_eq e) in absurd (omega (arith, six))
never_over _ e = cc

pub join_unlisted : (x : Place) → is_join x ≡ true → (seat_of x).listed ≡ 0
join_unlisted (Join k told) h = refl
join_unlisted _ h = absurd (cc)

pub room_found : (memory : Bool) (d : Effect) → Room memory d → d ≡ does joins → memory ≡ true
room_found memory d h e = let P : Effect → Type 0 = Room memory in subst P e h

-- who is answered Pending stands in the list
pended_listed : (x : Place) (f : Found) → answer_by (next_of x f) ≡ Answer.Pending → listed (after x f) ≡ 1
pended_listed (Ask k (Some a)) Yes e = absurd (cc e)
pended_listed (Ask k None) Yes e = absurd (cc e)
pended_listed (Ask k (Some a)) _ e = absurd (cc e)
pended_listed (Ask k None) _ e = refl
pended_listed (PassOn k a) f e = refl
pended_listed (Take k true told) (Left a) e = absurd (cc e)
pended_listed (Take k true told) _ e = absurd (cc e)
pended_listed (Take k false true) (Left a) e = taken (λ n. answer_by n ≡ Answer.Pending → listed (position_after n) ≡ 1) k a (λ g. absurd (cc g)) (λ none g. absurd (cc g)) e
pended_listed (Take k false false) (Left a) e = absurd (cc e)
pended_listed (Take k false told) _ e = absurd (cc e)
pended_listed (Retake k) (Left a) e = absurd (cc e)
pended_listed (Retake k) _ e = absurd (cc e)
pended_listed (Join k told) Done e = absurd (cc e)
pended_listed (Join k (Some a)) _ e = absurd (cc e)
pended_listed (Join k None) _ e = absurd (cc e)
pended_listed (Remove k more) Yes e = absurd (cc e)
pended_listed (Remove k (Some a)) _ e = absurd (cc e)
pended_listed (Remove k None) _ e = absurd (cc e)
pended_listed (Try k) (Left a) e = absurd (cc e)
pended_listed (Try k) _ e = absurd (cc e)
pended_listed (Raise n) Done e = absurd (cc e)
pended_listed (Raise n) _ e = absurd (cc e)
pended_listed CancelRemove Yes e = absurd (cc e)
pended_listed CancelRemove _ e = absurd (cc e)
pended_listed _ f e = absurd (cc e)

add_stage : (s : Stage) (what : What) (w : Within) (n : ℕ) → added_in what ≡ Some n → call_at knows s what ≡ Some w → s ≡ Outside w.was
add_stage (Outside Rest.Idle) (Begin (Call.AddPermits k) i) w n a e = ap (λ (v : Within). Outside v.was) (some_eq e)
add_stage (Outside Rest.Finished) (Begin (Call.AddPermits k) i) w n a e = ap (λ (v : Within). Outside v.was) (some_eq e)
add_stage (Outside Rest.Pending) (Begin (Call.AddPermits k) i) w n a e = absurd (none_some e)
add_stage (Outside Rest.Holding) (Begin (Call.AddPermits k) i) w n a e = absurd (none_some e)
add_stage (Inside v) (Begin (Call.AddPermits k) i) w n a e = absurd (none_some e)
add_stage Forgotten (Begin (Call.AddPermits k) i) w n a e = absurd (none_some e)
add_stage s _ w n a e = absurd (cc a)

-- only a fit has an entry notified
pub fits_action : (b : Action) (f : Found) (c : ℕ) → effect_of b f ≡ does (fits c) → b ≡ Action.Fit c
fits_action (Action.Fit n) Done c e = cc e
fits_action (Action.Fit n) _ c e = absurd (cc e)
fits_action (Action.Take n) (Left d) c e = absurd (cc e)
fits_action (Action.Take n) _ c e = absurd (cc e)
fits_action (Action.GiveBack n) (Available d) c e = absurd (cc e)
fits_action (Action.GiveBack n) _ c e = absurd (cc e)
fits_action (Action.Give n) (Available d) c e = absurd (cc e)
fits_action (Action.Give n) _ c e = absurd (cc e)
fits_action (Action.Raise n) Done c e = absurd (cc e)
fits_action (Action.Raise n) _ c e = absurd (cc e)
fits_action (Action.Lower n) Done c e = absurd (cc e)
fits_action (Action.Lower n) _ c e = absurd (cc e)
fits_action (Action.Join n) Done c e = absurd (cc e)
fits_action (Action.Join n) _ c e = absurd (cc e)
fits_action Action.Ask Yes c e = absurd (cc e)
fits_action Action.Ask No c e = absurd (cc e)
fits_action Action.Ask _ c e = absurd (cc e)
fits_action Action.Remove Yes c e = absurd (cc e)
fits_action Action.Remove No c e = absurd (cc e)
fits_action Action.Remove _ c e = absurd (cc e)
fits_action Action.Load f c e = absurd (cc e)
fits_action Action.Nothing f c e = absurd (cc e)

same_state : (l k : ℕ) (s r : List Share) → l ≡ k → s ≡ r → Path State (record { limit = l; shares = s }) (record { limit = k; shares = r })
same_state l k s r e d = cc

same_machine : (v w : Words) (xs ys : List Position) (es fs : List (Entry ℕ)) → v ≡ w → xs ≡ ys → es ≡ fs → Path Semaphore (record { words = v; positions = xs; entries = es }) (record { words = w; positions = ys; entries = fs })
same_machine v w xs ys es fs e d g = cc

same_table : (x y : Semaphore) (ss rs : List Stage) (n k : ℕ) → x ≡ y → ss ≡ rs → n ≡ k → Path (Table Semaphore) (record { machine = x; stages = ss; opening = n }) (record { machine = y; stages = rs; opening = k })
same_table x y ss rs n k e d g = cc

-- the answer on which the call is decided that a party is in
abbrev verdict_in : Semaphore → ℕ → Option Answer
verdict_in s q = verdict (position_at s.positions q)

module _ (t u : Table Semaphore) (m : Move) (a : Answer) (w : Within) where
  abbrev p : ℕ
  p = m.party

  abbrev xs : List Position
  xs = t.machine.positions

  abbrev x : Position
  x = position_at xs p

  abbrev s : Stage
  s = stage_at t.stages p

  abbrev old : World
  old = view_of t

  abbrev new : World
  new = view_of u

  abbrev memory : Bool
  memory = (inputs_of m.what).memory

  -- a move that the machine carries out
  pub record Acting : Type 0 where
    pub inside : p < length t.stages
    pub old_laws : IsSemaphore t.machine
    pub old_fits : IsSemaphoreTable t
    pub new_laws : IsSemaphore u.machine
    pub new_fits : IsSemaphoreTable u
    pub call : call_at knows s m.what ≡ Some w
    pub first : polls_again s m.what ≡ false
    pub from : Place
    pub found : Found
    pub here : Here s m.what w x from
    pub starts : place_for m.what x ≡ Some from
    pub runs : runs w.kind w.was from ≡ true
    pub acts : Acts memory p from found t.machine u.machine
    pub answer : a ≡ answer_by (next_of from found)
    pub stages : u.stages ≡ set t.stages p (stage_after Rest.Holding w a)
    pub opening : u.opening ≡ t.opening

  module _ (k : Acting) where
    abbrev from : Place
    from = k.from

    abbrev found : Found
    found = k.found

    abbrev to : Position
    to = after from found

    abbrev effect : Effect
    effect = effect_of (action_of from) found

    r : Row memory t.machine.words from found
    r = row memory p t.machine.words t.machine.entries from found k.acts.finds

    there : p < length xs
    there = omega (arith, k.inside, k.old_fits.as_many)

    pub lands : position_at u.machine.positions p ≡ to
    lands = ap (λ ps. position_at ps p) k.acts.positions ∙ get_or-set_same xs p to Out there

    pub stays : (q : ℕ) → q ≢ p → position_at u.machine.positions q ≡ position_at xs q
    stays q apart = ap (λ ps. position_at ps q) k.acts.positions ∙ get_or-set_other xs p q to Out apart

    pub stood : standing_of old p ≡ stands_as (verdict x) s
    stood = seen.stands_seen t p

    pub stands : standing_of new p ≡ stands_as (verdict to) (stage_after Rest.Holding w a)
    stands = acting.stands verdict_in Rest.Holding t u p w a k.inside k.stages ∙ ap (λ y. stands_as (verdict y) (stage_after Rest.Holding w a)) lands

    pub others_stand : (q : ℕ) → q ≢ p → standing_of new q ≡ standing_of old q
    others_stand q apart = acting.others_stand verdict_in Rest.Holding t u p w a k.inside k.stages q apart (ap verdict (stays q apart))

    pub decides : decision a (standing_of new p) ≡ said (next_of from found)
    decides = ap (decision a) stands ∙ (decision_seen Rest.Holding w a (verdict to) ∙ (ap (λ b. decided_after b (verdict to)) k.answer ∙ said_so from (next_of from found)))

    pub share_old : share_at old.state p ≡ (seat_of from).share
    share_old = seen.share_seen t p ∙ ap (λ (z : Seat). z.share) (sym k.here.same)

    pub share_new : share_at new.state p ≡ share_of to
    share_new = seen.share_seen u p ∙ ap share_of lands

    state_so : (d : Effect) → SharesSo d (seat_of from).share (share_of to) → u.machine.words ≡ words_after d t.machine.words → new.state ≡ state_after p d old.state
    state_so (changes c) h e = same_state _ _ _ _ (ap (λ (v : Words). v.limit) e) (ap (map share_of) k.acts.positions ∙ (map-set share_of xs p to ∙ ap (set (map share_of xs) p) (h ∙ ap (share_after c) (sym share_old))))
    state_so nothing h e = same_state _ _ _ _ (ap (λ (v : Words). v.limit) e) (ap (map share_of) k.acts.positions ∙ map-set_same share_of xs p to Out (h ∙ ap (λ (z : Seat). z.share) k.here.same))
    state_so (does f) h e = same_state _ _ _ _ (ap (λ (v : Words). v.limit) e) (ap (map share_of) k.acts.positions ∙ map-set_same share_of xs p to Out (h ∙ ap (λ (z : Seat). z.share) k.here.same))

    pub state_is : new.state ≡ state_after p effect old.state
    state_is = state_so effect r.shares k.acts.words

    most_so : (d : Effect) → u.machine.words ≡ words_after d t.machine.words → u.machine.words.most ≡ t.machine.words.most
    most_so (changes c) e = ap (λ (v : Words). v.most) e
    most_so nothing e = ap (λ (v : Words). v.most) e
    most_so (does f) e = ap (λ (v : Words). v.most) e

    pub debt_old : debt_of old p ≡ (seat_of from).debt
    debt_old = seen.debt_seen t p ∙ ap (λ (z : Seat). z.debt) (sym k.here.same)

    pub debt_new : debt_of new p ≡ debt_at to
    debt_new = seen.debt_seen u p ∙ ap debt_at lands

    pub wants : (n : ℕ) → action_of from ≡ Action.Take n → wanted old m ≡ n
    wants n e = ap (wanted_in m.what) (seen.size_seen t p) ∙ k.here.wants n e

    allowed_so : (d : Effect) → d ≡ effect → AllowedAt d from t.machine.words → IsAllowed old m d
    allowed_so nothing is h = tt
    allowed_so (changes (takes n)) is h = (wants n h.0, omega (arith, seen.available_seen t k.old_laws, h.1), share_old ∙ h.2)
    allowed_so (changes (gives_back n)) is h = (share_old ∙ ap (λ y. (seat_of y).share) h, k.here.drop n h)
    allowed_so (changes (forgets n)) is h = (share_old ∙ ap (λ y. (seat_of y).share) h, k.here.forget n h)
    allowed_so (changes (raises n)) is h = (k.here.raise n h.0, h.1, share_old ∙ ap (λ y. (seat_of y).share) h.0)
    allowed_so (changes (gives n)) is h = share_old ∙ ap (λ y. (seat_of y).share) h
    allowed_so (does joins) is h = tt
    allowed_so (does asks) is h = tt
    allowed_so (does removes) is h = tt
    allowed_so (does (fits c)) is h = (debt_old ∙ h.0, ap is_decided stood ∙ k.here.fits c (fits_action (action_of from) found c (sym is)))

    decided_there : is_decided (standing_of old p) || is_giving_back m.what ≡ is_some (verdict_of from)
    decided_there = ap (λ z. is_decided z || is_giving_back m.what) stood ∙ k.here.decides

    pub entries_seen : u.machine.entries ≡ entries_after (size_of old) p effect t.machine.entries
    entries_seen = k.acts.entries ∙ same_sizes effect where
      same_sizes : (d : Effect) → entries_after (sizes_of xs) p d t.machine.entries ≡ entries_after (size_of old) p d t.machine.entries
      same_sizes nothing = refl
      same_sizes (changes c) = refl
      same_sizes (does joins) = refl
      same_sizes (does asks) = refl
      same_sizes (does removes) = refl
      same_sizes (does (fits c)) = fitted-agree (sizes_of xs) (size_of old) c t.machine.entries (λ q some. sym (seen.size_seen t q))

    one_change : ChangesOneThing old m new
    one_change = record {
      effect = effect;
      allowed = allowed_so effect refl r.allowed;
      state = state_is;
      entries = entries_seen;
      most = most_so effect k.acts.words;
      opening_permits = k.opening;
      others = others_stand;
      parties = acting.as_many verdict_in Rest.Holding t u p w a k.inside k.stages;
      found_memory = λ e. room_found memory effect r.room e;
      parting = λ h. parted memory t.machine.words from found (next_of from found) (verdict_of from) (said (next_of from found)) r.judged (sym decided_there ∙ h);
      giving_up = λ h. decided_there ∙ r.held_on h;
    }

    pub own_entries : entries_of p t.machine.entries ≡ (seat_of from).listed
    own_entries = k.old_laws.owners p ∙ ap (λ (z : Seat). z.listed) (sym k.here.same)

    pub owes : OwedBy p t.machine.words t.machine.entries (size_of old) from found to
    owes = owed memory p t.machine.words t.machine.entries (size_of old) from found k.acts.finds own_entries

    pub available_new : available new.state ≡ (words_after effect t.machine.words).available
    available_new = seen.available_seen u k.new_laws ∙ ap (λ (v : Words). v.available) k.acts.words

    size_rows : Sized s m.what w x from
    size_rows =
        let turned = sized s m.what w x (k.old_fits.stands p k.inside) k.call k.first in
        let P : Place → Type 0 = Sized s m.what w x in
        subst P (some_eq (sym turned.starts ∙ k.starts)) turned.holds

    pub knows_sizes : KnowsSizes old m a new
    knows_sizes = record {
      own = seen.size_seen u p ∙ (ap size_at lands ∙ (size_rows found ∙ (ap (size_after m.what (answer_by (next_of from found))) (sym (seen.size_seen t p)) ∙ ap (λ b. size_after m.what b (size_of old p)) (sym k.answer))));
      others = λ q apart. seen.size_seen u q ∙ (ap size_at (stays q apart) ∙ sym (seen.size_seen t q));
    }

    knows_debts : KnowsDebts old m new
    knows_debts = record {
      own = owes_so p (seat_of from).debt (debt_at to) t.machine.entries (entries_after (size_of old) p effect t.machine.entries) (words_after effect t.machine.words).available (size_of old) (sym debt_old) (sym debt_new) (sym entries_seen) (sym available_new) owes;
      others = λ q apart. seen.debt_seen u q ∙ (ap debt_at (stays q apart) ∙ sym (seen.debt_seen t q));
    }

    -- what is decided now, and was not before, has its reason, or is given back
    reason : (b : Answer) → DecidesOn old m a new b → (b ≡ Answer.GivenBack) ⊎ Reason memory t.machine.words from found (next_of from found) b
    reason b d = reasoned memory t.machine.words from found (next_of from found) (verdict_of from) (said (next_of from found)) b r.judged (k.here.undecided (sym (ap is_decided stood) ∙ d.0)) (sym decides ∙ d.1)

    carries : Carries old m a new
    carries = record {
      ready = λ got d. elim (reason (Answer.Ready got) d) as (λ _. (got ≡ Plain) × (share_at new.state p ≡ guard_of (wanted old m))) [ inl e ↦ absurd (cc) | inr y ↦ (y.0, share_new ∙ (y.1.2 ∙ ap guard_of (sym (wants y.1.0 y.1.1)))) ];
      granted = λ got d. elim (reason (Answer.Granted got) d) as (λ _. got ≡ Plain) [ inl e ↦ absurd (cc) | inr y ↦ y ];
    }

    pended_so : (y : Place) (f : Found) (es : List (Entry ℕ)) → is_ask y ≡ true → f ≡ No → Finds memory p (action_of y) f t.machine.words t.machine.entries → es ≡ entries_after (size_of old) p (effect_of (action_of y) f) t.machine.entries → entries_of p t.machine.entries ≡ (seat_of y).listed → mark_at (is_party p) es ≡ Some Waiting
    pended_so (Ask n told) f es is_so ef finds is own =
        let P : Found → Type 0 = λ f. Finds memory p (action_of (Ask n told)) f t.machine.words t.machine.entries → es ≡ entries_after (size_of old) p (effect_of (action_of (Ask n told)) f) t.machine.entries → mark_at (is_party p) es ≡ Some Waiting in
        let base : P No = λ marked same. (let kept : es ≡ t.machine.entries = same ∙ rw marked refl in rw kept (waits_at p t.machine.entries own marked)) in
        subst P (sym ef) base finds is
    pended_so _ f es is_so ef finds is own = absurd (cc is_so)

    waits : Waits old m a new
    waits = record {
      waiting = λ d. elim (reason Answer.Pending d) as (λ _. mark_at (is_party p) u.machine.entries ≡ Some Waiting) [ inl e ↦ absurd (cc e) | inr y ↦ pended_so from found u.machine.entries y.0 y.1 k.acts.finds entries_seen own_entries ];
      listed = λ e. k.new_laws.owners p ∙ (ap listed lands ∙ pended_listed from found (sym k.answer ∙ e));
      before = λ v e. (legals.well u k.new_laws k.new_fits).pends p v e;
    }

    pub unchanged : (n : ℕ) → from ≡ Raise n → found ≡ PastLimit → u ≡ t
    unchanged n ef ep =
        let P : Place → Found → Type 0 = λ y f. (u.machine.words ≡ words_after (effect_of (action_of y) f) t.machine.words) × (u.machine.entries ≡ entries_after (sizes_of xs) p (effect_of (action_of y) f) t.machine.entries) × (u.machine.positions ≡ set xs p (after y f)) × (a ≡ answer_by (next_of y f)) in
        let all : P from found = (k.acts.words, k.acts.entries, k.acts.positions, k.answer) in
        let Q : Place → Type 0 = λ y. P y found in
        let so : P (Raise n) PastLimit = subst (P (Raise n)) ep (subst Q ef all) in
        let out : x ≡ Out = (k.here.adds n (k.here.raise n ef)).1 in
        let stage : s ≡ Outside w.was = add_stage s m.what w n (k.here.raise n ef) k.call in
        let positions : u.machine.positions ≡ xs = so.2 ∙ set_same xs p Out Out out there in
        let stages : u.stages ≡ t.stages = k.stages ∙ (ap (λ b. set t.stages p (stage_after Rest.Holding w b)) so.3 ∙ set_same t.stages p Forgotten (Outside w.was) stage k.inside) in
        same_table _ _ _ _ _ _ (same_machine _ _ _ _ _ _ so.0 positions so.1) stages k.opening

    cause : (c : Refusal) → Refuses memory t.machine.words from found c → IsCause old m new c
    cause Refusal.Memory y = (y.0, own_entries ∙ join_unlisted from y.1, entries_seen ∙ ap (λ (d : Effect). entries_after (size_of old) p d t.machine.entries) y.2, state_is ∙ ap (λ (d : Effect). state_after p d old.state) y.2)
    cause Refusal.Permits y = (y.0, k.here.raise y.0 y.1, y.2, ap view_of (unchanged y.0 y.1 y.3))
    cause Refusal.Finished y = absurd y
    cause _ y = absurd y

    was_inside : (c : Refusal) → 1 ≡ number_of c → Refuses memory t.machine.words from found c → IsUndecided (standing_of old p)
    was_inside Refusal.Memory e y = let j = k.here.joins y.1 in (j.0, stood ∙ j.1)
    was_inside Refusal.Permits e y = absurd (omega arith)
    was_inside _ e y = absurd y

    refused_for_cause : IsRefusedForCause old m a new
    refused_for_cause = record {
      cause = λ n d. elim (reason (Answer.Refused n) d) as (λ _. (c : Refusal) × (n ≡ number_of c) × IsCause old m new c) [ inl e ↦ absurd (cc) | inr y ↦ (y.0, y.1, cause y.0 y.2) ];
      memory = λ d. elim (reason (refused Refusal.Memory) d) as (λ _. IsUndecided (standing_of old p)) [ inl e ↦ absurd (cc) | inr y ↦ was_inside y.0 y.1 y.2 ];
      after_ready = (
        (λ e. absurd (not_over memory t.machine.words from found (next_of from found) (verdict_of from) (said (next_of from found)) r.judged (never_over from) (said_then (next_of from found) (refused Refusal.Finished) refl (sym k.answer ∙ e)))),
        (λ e. let never : polls_again s m.what ≡ true = sym (again_seen (verdict x) s m.what) ∙ (ap (λ z. is_poll_after_ready z m.what) (sym stood) ∙ e) in absurd (cc (k.first, never))),
      );
    }

    leaves_clear : LeavesClear m a new
    leaves_clear = record {
      each = each_has u k.new_laws k.new_fits;
      decided = ends_well u k.new_laws k.new_fits;
      paid = none_owed u k.new_laws k.new_fits;
      refused = λ h. k.new_laws.owners p ∙ (ap listed lands ∙ r.clear (ap is_refusal (sym k.answer) ∙ h));
    }

    called : call_of old m ≡ Some w
    called = ap (λ z. call_in knows z m.what) stood ∙ (call_seen knows (verdict x) s m.what ∙ k.call)

    pub is_possible_now : is_possible a ≡ true
    is_possible_now = ap is_possible k.answer ∙ possible_by (next_of from found)

    may_end_so : is_stepped a ≡ false → may_end w.kind a ≡ true
    may_end_so h = ap (may_end w.kind) k.answer ∙ ends_by w.kind w.was from found k.runs (sym (ap is_stepped k.answer) ∙ h)

    ends_properly : EndsProperly old m a new
    ends_properly = acting.ends_so standing_of (λ y q. knows) Rest.Holding old m a new w called is_possible_now (rw stands (stands_seen Rest.Holding w a (verdict to) is_possible_now may_end_so))
        (λ v b e. decides ∙ kept_on memory t.machine.words from found (next_of from found) (verdict_of from) (said (next_of from found)) b r.judged (k.here.kept v b (sym stood ∙ e)))

    pub legal : Legal old m a new
    legal = record {
      possible = acting.possible_so standing_of (λ y q. knows) Rest.Holding old m a new w called is_possible_now;
      one_change = one_change;
      knows_sizes = knows_sizes;
      knows_debts = λ possible. knows_debts;
      carries = carries;
      waits = waits;
      refused_for_cause = refused_for_cause;
      leaves_clear = leaves_clear;
      ends_properly = ends_properly;
    }
