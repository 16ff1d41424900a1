-- A move that does nothing is a legal step: one that its party may not make, and a poll of a future that has been ready. And so is a put.
use Rattle.world_rwlock.proofs.Prelude.{◌≡◌, ◌≢◌, ℕ, zero, suc, ◌<◌, ◌||◌, inl, inr, true, false, List, [], ◌∷◌, length, Option, Some, None, refl, arith, ap, sym, ◌∙◌, subst, get_or, set, false≢true, true≢false, Answer, Call, Value, Inputs, Move, What, Begin, Refusal, Kind, Rest, Stage, Outside, Inside, Forgotten, Within, within, sought_after, is_drop, is_poll_after_ready, is_refusal, put_in, Right, write, Standing, outside, inside, call_in, is_possible, refused, StandsAfter, is_decided, nothing, changes, some_eq, none_some, some_none, outside_inside, is_granted, granted_eq, stage_at, polls_again, Table, length-standings, TurnCourse, turn_at, Place, reads, has_turn, place_at, IsRwLock, puts, knows, knows_of, call_of, IsCause, HasItsOwn, HasSought, HasJust, Legal, Guarded, with_value, sought_at, goes_with, World, standing_of, sought_by, IsRwLockTable, verdict_of, verdict, standing_at, view_of}
use Rattle.world_base.specs.declared.moves.Got.{Got}
use Rattle.world_base.specs.Standings.{decision}
use Rattle.world_base.proofs.of_table.Idle as frame
use Rattle.world_base.proofs.of_table.Idle.{Idle, same_decides}
use Rattle.world_rwlock.specs.machine.Roles as roles
use Rattle.world_rwlock.proofs.step.Owns as owns
use Rattle.world_rwlock.proofs.table.Views as view
use Rattle.world_rwlock.proofs.step.Decided.{decided}

-- what holds of a table before and after a move
pub record Laws (t : Table Guarded) : Type 0 where
  pub lock : IsRwLock t.machine.lock
  pub fits : IsRwLockTable t

-- the party's standing
pub stood : (t : Table Guarded) (p : ℕ) → Laws t → standing_of (view_of t) p ≡ standing_at t.machine.value (stage_at t.stages p) (place_at t.machine.lock.places p) (turn_at t.machine.lock.turn.courses p)
stood t p k = owns.stood t.machine.lock t.stages t.opening t.machine.value k.lock k.fits p

each : (t : Table Guarded) → Laws t → (p : ℕ) → HasItsOwn (view_of t) p (standing_of (view_of t) p)
each t k p = owns.each t.machine.lock t.stages t.opening t.machine.value k.lock k.fits p

not_pending : (t : Table Guarded) (p : ℕ) → Laws t → (u : Within) → standing_of (view_of t) p ≢ inside u (Some Answer.Pending)
not_pending t p k u e = owns.not_pending t.machine.lock t.stages t.opening t.machine.value k.lock k.fits p u e

pub sought_is : (t : Table Guarded) (p : ℕ) → sought_by (view_of t) p ≡ sought_at (place_at t.machine.lock.places p)
sought_is t p = view.seeks_at t.machine.lock.places p

-- what is written back changes nothing
pub set_back : (os : List (Option Right)) (p : ℕ) → os ≡ set os p (get_or os p None)
set_back [] p = refl
set_back (o ∷ os) zero = refl
set_back (o ∷ os) (suc p) = ap (λ l. o ∷ l) (set_back os p)

-- ---- moves that change nothing

-- ---- moves that do nothing

-- what such a move is answered: nothing that carries a value, or that leaves a future as when it was made
record Quiet (what : What) (a : Answer) : Type 0 where
  pub ready : (got : Got) → Answer.Ready got ≡ a → ⊥
  pub granted : (got : Got) → Answer.Granted got ≡ a → ⊥
  pub waiting : a ≡ Answer.Waiting → ⊥
  pub pending : Answer.Pending ≡ a → ⊥
  pub refusal : is_refusal a ≡ false
  pub sought : (o : Option Right) → sought_after o what a ≡ o
  pub put : (v : ℕ) → put_in what ≡ Some v → is_possible a ≡ true → ⊥

idle_legal : (t : Table Guarded) (m : Move) (a : Answer) → Laws t → Quiet m.what a → Idle standing_of knows_of Rest.Holding IsCause (view_of t) m refl a → Legal (view_of t) m a (view_of t)
idle_legal t m a k q i =
    let w = view_of t in
    let s : Standing = standing_of w m.party in
    record {
      possible = i.possible;
      one_change = record { effect = nothing; state = refl; allowed = tt; lists = λ list. refl; starved_limit = refl; readers_limit = refl; opening_value = refl; sought = set_back w.sought m.party ∙ ap (set w.sought m.party) (sym (q.sought (sought_by w m.party))); others = λ p apart. refl; parties = refl; found_memory = λ list e. absurd (cc); refused_idly = λ y. refl; starved_idly = λ y. refl; parting = λ h. refl; giving_up = λ g. absurd (cc) };
      carries = record { ready = λ got d. absurd (q.ready got (same_decides s a (Answer.Ready got) d)); granted = λ got d. absurd (q.granted got (same_decides s a (Answer.Granted got) d)) };
      waits = record { waiting = λ e. absurd (q.pending (sym e)); not_before = not_pending t m.party k };
      refused_for_cause = i.refused_for_cause;
      leaves_clear = record { each = each t k; decided = decided t.machine.lock t.stages t.opening t.machine.value k.lock k.fits; refused = λ h. absurd (false≢true (sym q.refusal ∙ h)); gives_up_turn = λ h e. absurd (false≢true (sym q.refusal ∙ h)); keeps_turn = λ h e. absurd (false≢true (sym q.refusal ∙ h)) };
      value_kept = record { put = λ v e h. absurd (q.put v e h); kept = λ h. refl };
      ends_properly = i.ends_properly;
      keeps_upgrades = record { begins = λ e. absurd (q.waiting e); pending = λ e h. refl; undecided = λ u h. refl; others = λ p apart. refl };
    }

pub impossible : (t : Table Guarded) (m : Move) → Laws t → call_of (view_of t) m ≡ None → Legal (view_of t) m Answer.NotPossible (view_of t)
impossible t m k none =
    idle_legal t m Answer.NotPossible k (record { ready = λ got e. cc; granted = λ got e. cc; waiting = λ e. cc; pending = λ e. cc; refusal = refl; sought = λ o. refl; put = λ v e h. cc })
    (frame.impossible standing_of knows_of Rest.Holding IsCause (view_of t) m refl none)

-- ---- a poll after ready

-- only a guard polls again
pub again_is : (s : Stage) (what : What) (x : Place) → polls_again s what ≡ true → goes_with s x ≡ true → (i : Inputs) × (s ≡ Outside Rest.Holding) × (what ≡ Begin Call.Poll i)
again_is (Outside Rest.Holding) (Begin Call.Poll i) x h g = (i, refl, refl)
again_is (Outside Rest.Finished) (Begin Call.Poll i) x h g = absurd (false≢true g)
again_is _ _ x h g = absurd (false≢true h)

pub polled_again : (t : Table Guarded) (p : ℕ) (i : Inputs) → Laws t → stage_at t.stages p ≡ Outside Rest.Holding → Legal (view_of t) (record { party = p; what = Begin Call.Poll i }) (refused Refusal.Finished) (view_of t)
polled_again t p i k at =
    let is : standing_of (view_of t) p ≡ outside Rest.Holding = stood t p k ∙ ap (λ s. standing_at t.machine.value s (place_at t.machine.lock.places p) (turn_at t.machine.lock.turn.courses p)) at in
    let m : Move = record { party = p; what = Begin Call.Poll i } in
    idle_legal t m (refused Refusal.Finished) k (record { ready = λ got e. cc; granted = λ got e. cc; waiting = λ e. cc; pending = λ e. cc; refusal = refl; sought = λ o. refl; put = λ v e h. absurd (none_some e) })
    (frame.over standing_of knows_of Rest.Holding IsCause (view_of t) m refl (rw is refl) refl)

-- ---- a value is put

writes_only : (w : World) (p : ℕ) → HasSought w p → sought_by w p ≡ Some write → HasJust w p write
writes_only w p h e = subst (λ (r : Right). HasJust w p r) (some_eq (sym h.1 ∙ e)) h.2

-- what a party without a right is decided on doesn't carry the value
verdict_same : (v w : ℕ) (x : Place) (t : TurnCourse) → reads x ≡ 0 → has_turn x ≡ 0 → verdict v x t ≡ verdict w x t
verdict_same v w Place.LeaveNoWriter t r h = absurd (omega arith)
verdict_same v w Place.LeaveNoReaders t r h = absurd (omega arith)
verdict_same v w (Place.Unmark true) t r h = refl
verdict_same v w (Place.Unmark false) t r h = refl
verdict_same v w (Place.UnmarkNotify true) t r h = refl
verdict_same v w (Place.UnmarkNotify false) t r h = refl
verdict_same v w _ t r h = refl

unvalued : (v u : ℕ) (s : Stage) (x : Place) (t : TurnCourse) → verdict u x t ≡ verdict v x t → standing_at u s x t ≡ standing_at v s x t
unvalued v u (Outside r) x t h = refl
unvalued v u (Inside w) x t h = ap (inside w) h
unvalued v u Forgotten x t h = refl

module _ (t : Table Guarded) (n : ℕ) (p : ℕ) (i : Inputs) where
  abbrev pub the_move : Move
  the_move = record { party = p; what = Begin (Call.Put n) i }

  abbrev pub left : Table Guarded
  left = record { machine = with_value t.machine n; stages = t.stages; opening = t.opening }

  pub putting : Laws t → p < length t.stages → stage_at t.stages p ≡ Outside Rest.Holding → place_at t.machine.lock.places p ≡ Place.Writing → Legal (view_of t) the_move (Answer.Granted (Value n)) (view_of left)
  putting k known at writing =
      let k2 : Laws left = record { lock = k.lock; fits = record { as_many = k.fits.as_many; stands = k.fits.stands } } in
      let is : standing_of (view_of t) p ≡ outside Rest.Holding = stood t p k ∙ ap (λ s. standing_at t.machine.value s (place_at t.machine.lock.places p) (turn_at t.machine.lock.turn.courses p)) at in
      let now : standing_of (view_of left) p ≡ outside Rest.Holding = stood left p k2 ∙ ap (λ s. standing_at n s (place_at t.machine.lock.places p) (turn_at t.machine.lock.turn.courses p)) at in
      let own : HasItsOwn (view_of t) p (outside Rest.Holding) = rw is at (each t k p) in
      let own_now : HasItsOwn (view_of left) p (outside Rest.Holding) = rw now at (each left k2 p) in
      let wants : sought_by (view_of t) p ≡ Some write = sought_is t p ∙ ap sought_at writing in
      let just : HasJust (view_of t) p write = writes_only (view_of t) p own.1 wants in
      let called : call_in (knows (sought_by (view_of t) p)) (standing_of (view_of t) p) (Begin (Call.Put n) i) ≡ Some (within Kind.Put Rest.Holding) = rw (is, wants) refl in
      let not_over : is_poll_after_ready (standing_of (view_of t) p) (Begin (Call.Put n) i) ≡ false = rw is refl in
      let apart_from : (q : ℕ) → q ≢ p → verdict n (place_at t.machine.lock.places q) (turn_at t.machine.lock.turn.courses q) ≡ verdict t.machine.value (place_at t.machine.lock.places q) (turn_at t.machine.lock.turn.courses q) =
      λ q apart. verdict_same n t.machine.value (place_at t.machine.lock.places q) (turn_at t.machine.lock.turn.courses q)
      (k.lock.writes_apart p q (ap roles.writes writing))
      (let two = k.lock.turns_apart p q (λ e. apart (sym e)) in omega (arith, two, ap has_turn writing)) in
      let only : (b : Answer) → decision (Answer.Granted (Value n)) (standing_of (view_of left) p) ≡ Some b → Answer.Granted (Value n) ≡ b = λ b d. some_eq (sym (ap (decision (Answer.Granted (Value n))) now) ∙ d) in
      let unlike : (b : Answer) → decision (Answer.Granted (Value n)) (standing_of (view_of left) p) ≡ Some b → is_granted b ≡ false → ⊥ = λ b d h. true≢false (ap is_granted (only b d) ∙ h) in
      record {
        possible = record { exactly = ((λ e. absurd (true≢false (ap is_possible e))), (λ e. absurd (some_none (sym called ∙ e)))); unchanged = λ e. absurd (true≢false (ap is_possible e)) };
        one_change = record {
          effect = changes (puts n);
          state = refl;
          allowed = just.1;
          lists = λ list. refl;
          starved_limit = refl;
          readers_limit = refl;
          opening_value = refl;
          sought = set_back (view_of t).sought p;
          others = λ q apart. stood left q k2 ∙ (unvalued t.machine.value n (stage_at t.stages q) (place_at t.machine.lock.places q) (turn_at t.machine.lock.turn.courses q) (apart_from q apart) ∙ sym (stood t q k));
          parties = length-standings (verdict_of (with_value t.machine n)) t.stages ∙ sym (length-standings (verdict_of t.machine) t.stages);
          found_memory = λ list e. absurd (cc);
          refused_idly = λ d. absurd (unlike (refused Refusal.Memory) d.1 refl);
          starved_idly = λ d. absurd (unlike (refused Refusal.Starved) d.1 refl);
          giving_up = λ g. absurd (cc);
          parting = λ h. let no : is_decided (outside Rest.Holding) || is_drop (Begin (Call.Put n) i) ≡ true = rw is at h in absurd (false≢true no);
        };
        carries = record {
          ready = λ got d. absurd (unlike (Answer.Ready got) d.1 refl);
          granted = λ got d. (granted_eq n got (only (Answer.Granted got) d.1), own_now.1);
        };
        waits = record { waiting = λ e. absurd (cc); not_before = not_pending left p k2 };
        refused_for_cause = record {
          cause = λ c d. absurd (unlike (Answer.Refused c) d.1 refl);
          memory = λ d. absurd (unlike (refused Refusal.Memory) d.1 refl);
          after_ready = ((λ e. absurd (true≢false (ap is_granted e))), (λ e. absurd (false≢true (sym not_over ∙ e))));
        };
        leaves_clear = record { each = each left k2; decided = decided left.machine.lock left.stages left.opening left.machine.value k2.lock k2.fits; refused = λ h. absurd (false≢true h); gives_up_turn = λ h e. absurd (false≢true h); keeps_turn = λ h e. absurd (false≢true h) };
        value_kept = record {
          put = λ v e h. let same : n ≡ v = some_eq e in (ap (λ x. Answer.Granted (Value x)) same, same);
          kept = λ h. elim h as (λ _. n ≡ t.machine.value) [ inl e ↦ absurd (some_none e) | inr e ↦ absurd (true≢false (ap is_possible e)) ];
        };
        ends_properly = record {
          stands = λ u e. let P : Within → Type 0 = λ u. StandsAfter Rest.Holding u (Answer.Granted (Value n)) (standing_of (view_of left) p) in
              subst P (some_eq (sym called ∙ e)) (refl, now);
          as_decided = λ u b e h. absurd (outside_inside (sym is ∙ e));
        };
        keeps_upgrades = record { begins = λ e. absurd (true≢false (ap is_granted e)); pending = λ e h. refl; undecided = λ w h. refl; others = λ q apart. refl };
      }
