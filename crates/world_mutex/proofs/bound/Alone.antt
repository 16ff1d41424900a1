-- A whole poll of a pending party is one that the machine carries out alone.
use Rattle.world_mutex.proofs.Prelude.{◌≡◌, ◌≢◌, ℕ, zero, suc, ◌<◌, Bool, true, false, [], ◌∷◌, ◌++◌, length, replicate, Option, Some, None, refl, sym, ap, ◌∙◌, subst, get_or-set_same, set-set, set, Answer, Call, Inputs, Move, What, Begin, Go, Kind, Rest, Stage, Outside, Inside, Forgotten, Within, within, Account, accounts_after, put_in, inputs_of, going_on, moves_of, answers_of, some_eq, is_some_and, beginning, stage_at, call_at, polls_again, stage_after, Table, Acted, acted, Action, End, LockCall, Next, Place, Acts, start_of, GoesOnAlone, last, step, PollsAlone, at_once, begun, BeginsPoll, Guarded, knows, place_of, answer_by, Carries, Moves, MovesBy, Runs, World, Steps, TableSteps}
use Rattle.world_mutex.proofs.step.Stepping.{known_calls}

-- a later poll
abbrev pub later : Within
later = within Kind.LaterPoll Rest.Pending

-- a poll goes on exactly if it is answered Stepped
pub goes : (v : ℕ) (n : Next) → answer_by false v n ≡ Answer.Stepped → (a : Action) × (to : Place) × (n ≡ Next.Do a to)
goes v (Next.Do a to) h = (a, to, refl)
goes v (Next.End End.Got) h = absurd (cc)
goes v (Next.End End.Pending) h = absurd (cc)
goes v (Next.End End.NotFree) h = absurd (cc)
goes v (Next.End End.Granted) h = absurd (cc)
goes v (Next.End End.Waiting) h = absurd (cc)
goes v (Next.End End.GivenBack) h = absurd (cc)
goes v (Next.End (End.Refused r)) h = absurd (cc)

pub ends : (v : ℕ) (n : Next) → answer_by false v n ≢ Answer.Stepped → (e : End) × (n ≡ Next.End e)
ends v (Next.Do a to) h = absurd (h refl)
ends v (Next.End e) h = (e, refl)

-- how a poll left the table that ended so
pub record Ended (t : Table Guarded) (p : ℕ) (a : Answer) (u : Table Guarded) (e : End) : Type 0 where
  pub answer : a ≡ answer_by false t.machine.value (Next.End e)
  pub stages : u.stages ≡ set t.stages p (stage_after Rest.Holding later a)
  pub value : u.machine.value ≡ t.machine.value

module _ (p : ℕ) (i : Inputs) where
  -- one action of the poll
  pub record Does (what : What) (t : Table Guarded) (a : Answer) (u : Table Guarded) : Type 0 where
    pub inside : p < length t.stages
    pub carries : Carries t.machine p later what a u.machine
    pub stages : u.stages ≡ set t.stages p (stage_after Rest.Holding later a)

  pub does : (s : Stage) (what : What) (t : Table Guarded) (a : Answer) (u : Table Guarded) → stage_at t.stages p ≡ s → call_at knows s what ≡ Some later → polls_again s what ≡ false → put_in what ≡ None → TableSteps t (record { party = p; what = what }) a u → Does what t a u
  does s what t a u at e f none did =
      let m : Move = record { party = p; what = what } in
      let d : Acted known_calls Rest.Holding Moves later t m a u = acted known_calls Rest.Holding Moves t u m a later (ap (λ z. call_at knows z what) at ∙ e) (ap (λ z. polls_again z what) at ∙ f) did in
      let P : Option ℕ → Type 0 = λ o. MovesBy o t.machine p later what a u.machine in
      record { inside = d.inside; carries = subst P none d.acts; stages = d.stages }

  pub still_inside : (what : What) (t mid : Table Guarded) → Does what t Answer.Stepped mid → stage_at mid.stages p ≡ Inside later
  still_inside what t mid d = ap (λ ss. stage_at ss p) d.stages ∙ get_or-set_same t.stages p (Inside later) Forgotten d.inside

  pub going : (w v : World) (a : Answer) → stage_at w.behind.stages p ≡ Inside later → Steps w (going_on p i) a v → Does (Go i) w.behind a v.behind
  going w v a inside s = does (Inside later) (Go i) w.behind a v.behind inside refl refl refl s.did.step

  pub beginning_so : (w v : World) (a : Answer) → stage_at w.behind.stages p ≡ Outside Rest.Pending → Steps w (beginning p Call.Poll i) a v → Does (Begin Call.Poll i) w.behind a v.behind
  beginning_so w v a pending s = does (Outside Rest.Pending) (Begin Call.Poll i) w.behind a v.behind pending refl refl refl s.did.step

  module _ (memory : i.memory ≡ true) where
    abbrev Found : What → Type 0
    Found what = (inputs_of what).memory ≡ true

    abbrev ActsSo : Place → Next → Table Guarded → Table Guarded → Type 0
    ActsSo from n t u = Acts true p from n t.machine.lock u.machine.lock

    acts_so : (what : What) (t u : Table Guarded) (a : Answer) → Found what → (d : Does what t a u) (n : Next) → d.carries.next ≡ n → ActsSo d.carries.from n t u
    acts_so what t u a found d n is =
        let M : Bool → Type 0 = λ b. Acts b p d.carries.from n t.machine.lock u.machine.lock in
        let N : Next → Type 0 = λ x. Acts (inputs_of what).memory p d.carries.from x t.machine.lock u.machine.lock in
        subst M found (subst N is d.carries.carried.acts)

    -- the step that ends a poll
    ends_so : (what : What) (t u : Table Guarded) (a : Answer) → Found what → a ≢ Answer.Stepped → (d : Does what t a u) → (e : End) × ActsSo d.carries.from (Next.End e) t u × Ended t p a u e
    ends_so what t u a found not_stepped d =
        let n = ends t.machine.value d.carries.next (λ h. not_stepped (d.carries.answer ∙ h)) in
        (n.0, acts_so what t u a found d (Next.End n.0) n.1, record { answer = d.carries.answer ∙ ap (answer_by false t.machine.value) n.1; stages = d.stages; value = d.carries.carried.value })

    -- one that goes on
    goes_so : (what : What) (t u : Table Guarded) → Found what → (d : Does what t Answer.Stepped u) → (b : Action) × (to : Place) × ActsSo d.carries.from (Next.Do b to) t u
    goes_so what t u found d = let n = goes t.machine.value d.carries.next (sym d.carries.answer) in (n.0, n.1, acts_so what t u Answer.Stepped found d (Next.Do n.0 n.1) n.2)

    -- what ended from a table that a step left ended from the one before
    ended_before : (what : What) (t mid u : Table Guarded) (a : Answer) (e : End) → Does what t Answer.Stepped mid → Ended mid p a u e → Ended t p a u e
    ended_before what t mid u a e d k = record {
      answer = k.answer ∙ ap (λ n. answer_by false n (Next.End e)) d.carries.carried.value;
      stages = k.stages ∙ (ap (λ ss. set ss p (stage_after Rest.Holding later a)) d.stages ∙ set-set t.stages p (Inside later) (stage_after Rest.Holding later a));
      value = k.value ∙ d.carries.carried.value;
    }

    goes_from : (t u : Table Guarded) (a : Answer) (n : Next) (d : Does (Go i) t a u) → ActsSo d.carries.from n t u → ActsSo (place_of t.machine p) n t u
    goes_from t u a n d acts = let P : Place → Type 0 = λ y. ActsSo y n t u in subst P (sym (some_eq d.carries.starts)) acts

    -- a poll that has begun goes on alone
    goes_on : (known : ℕ → Account) (k : ℕ) (w v : World) (a : Answer) → a ≢ Answer.Stepped → stage_at w.behind.stages p ≡ Inside later
        → Runs known w (going_on p i ∷ replicate k (going_on p i)) (replicate k Answer.Stepped ++ a ∷ []) v → (e : End) × GoesOnAlone true p e v.behind.machine.lock w.behind.machine.lock × Ended w.behind p a v.behind e
    goes_on known zero w v a not_stepped inside runs =
        let mid : World = runs.0 in
        let d = going w mid a inside runs.1 in
        let so = ends_so (Go i) w.behind mid.behind a memory not_stepped d in
        let P : World → Type 0 = λ x. (e : End) × GoesOnAlone true p e x.behind.machine.lock w.behind.machine.lock × Ended w.behind p a x.behind e in
        subst P (sym runs.3) (so.0, last w.behind.machine.lock (goes_from w.behind mid.behind a (Next.End so.0) d so.1), so.2)
    goes_on known (suc k) w v a not_stepped inside runs =
        let mid : World = runs.0 in
        let d = going w mid Answer.Stepped inside runs.1 in
        let on = goes_so (Go i) w.behind mid.behind memory d in
        let more = goes_on (accounts_after known (going_on p i) Answer.Stepped) k mid v a not_stepped (still_inside (Go i) w.behind mid.behind d) runs.3 in
        (more.0, step w.behind.machine.lock mid.behind.machine.lock on.0 on.1 (goes_from w.behind mid.behind Answer.Stepped (Next.Do on.0 on.1) d on.2) more.1, ended_before (Go i) w.behind mid.behind v.behind a more.0 d more.2)

    begins_from : (t u : Table Guarded) (a : Answer) (n : Next) (d : Does (Begin Call.Poll i) t a u) → ActsSo d.carries.from n t u → BeginsPoll true p n t.machine.lock u.machine.lock
    begins_from t u a n d acts = is_some_and (λ from. ActsSo from n t u) (start_of LockCall.Poll (place_of t.machine p)) d.carries.from d.carries.starts acts

    pub polls_alone : (known : ℕ → Account) (k : ℕ) (w v : World) (a : Answer) → a ≢ Answer.Stepped → stage_at w.behind.stages p ≡ Outside Rest.Pending
        → Runs known w (moves_of p Call.Poll i k) (answers_of k a) v → (e : End) × PollsAlone true p e v.behind.machine.lock w.behind.machine.lock × Ended w.behind p a v.behind e
    polls_alone known zero w v a not_stepped pending runs =
        let mid : World = runs.0 in
        let d = beginning_so w mid a pending runs.1 in
        let so = ends_so (Begin Call.Poll i) w.behind mid.behind a memory not_stepped d in
        let P : World → Type 0 = λ x. (e : End) × PollsAlone true p e x.behind.machine.lock w.behind.machine.lock × Ended w.behind p a x.behind e in
        subst P (sym runs.3) (so.0, at_once w.behind.machine.lock (begins_from w.behind mid.behind a (Next.End so.0) d so.1), so.2)
    polls_alone known (suc k) w v a not_stepped pending runs =
        let mid : World = runs.0 in
        let d = beginning_so w mid Answer.Stepped pending runs.1 in
        let on = goes_so (Begin Call.Poll i) w.behind mid.behind memory d in
        let more = goes_on (accounts_after known (beginning p Call.Poll i) Answer.Stepped) k mid v a not_stepped (still_inside (Begin Call.Poll i) w.behind mid.behind d) runs.3 in
        (more.0, begun w.behind.machine.lock mid.behind.machine.lock on.0 on.1 (begins_from w.behind mid.behind Answer.Stepped (Next.Do on.0 on.1) d on.2) more.1, ended_before (Begin Call.Poll i) w.behind mid.behind v.behind a more.0 d more.2)
