-- A whole poll of a pending party is one that the machine carries out alone.
use Rattle.world_rwlock.proofs.Prelude.{◌≡◌, ◌≢◌, ℕ, zero, suc, ◌<◌, Bool, true, [], ◌∷◌, ◌++◌, length, replicate, refl, sym, ap, ◌∙◌, subst, arith, get_or-set_same, length-set, set-set, set, End, Action, Place, Next, Answer, Call, Inputs, Move, What, Begin, Go, Kind, Rest, Stage, Outside, Inside, Forgotten, Within, within, Account, accounts_after, inputs_of, going_on, moves_of, answers_of, some_eq, is_some_and, stage_at, stage_after, call_at, polls_again, Table, start_of, place_at, Acts, GoesOnAlone, last, step, PollsAlone, at_once, begun, BeginsPoll, knows_at, Guarded, answer_by, Course, upgrades, course_of, is_on_course, World, Stands, Moved, Runs}
use Rattle.world_rwlock.proofs.step.Acting.{Acting, acting, fit}
use Rattle.world_rwlock.proofs.step.Idle.{Laws}
use Rattle.world_rwlock.proofs.table.Kept.{walks}
use Rattle.world_rwlock.proofs.step.Paths.{Keeps}
use Rattle.world_rwlock.proofs.table.Stages.{stage_then}

-- a later poll
abbrev later : Within
later = within Kind.LaterPoll Rest.Pending

-- a poll goes on exactly if it is answered Stepped
goes : (v : ℕ) (n : Next) → answer_by v n ≡ Answer.Stepped → (a : Action) × (to : Place) × (n ≡ Next.Do a to)
goes v (Next.Do a to) h = (a, to, refl)
goes v (Next.Wait to) h = absurd (cc)
goes v (Next.End End.Got to) h = absurd (cc)
goes v (Next.End End.Granted to) h = absurd (cc)
goes v (Next.End End.Pending to) h = absurd (cc)
goes v (Next.End End.NotFree to) h = absurd (cc)
goes v (Next.End End.Waiting to) h = absurd (cc)
goes v (Next.End End.GivenBack to) h = absurd (cc)
goes v (Next.End (End.Refused r) to) h = absurd (cc)

not_upgrading : (c : Course) → is_on_course Kind.LaterPoll Rest.Pending c ≡ true → c ≡ upgrades → ⊥
not_upgrading c on e = let never : is_on_course Kind.LaterPoll Rest.Pending upgrades ≡ true = sym (ap (is_on_course Kind.LaterPoll Rest.Pending) e) ∙ on in cc

ends : (v : ℕ) (c : Course) (n : Next) → is_on_course Kind.LaterPoll Rest.Pending c ≡ true → Keeps c n → answer_by v n ≢ Answer.Stepped → (e : End) × (to : Place) × (n ≡ Next.End e to)
ends v c (Next.Do a to) on k h = absurd (h refl)
ends v c (Next.Wait to) on k h = absurd (not_upgrading c on k.0)
ends v c (Next.End e to) on k h = (e, to, refl)

-- how a poll left the World that ended so
pub record Ended (w : World) (p : ℕ) (a : Answer) (v : World) (e : End) : Type 0 where
  pub to : Place
  pub answer : a ≡ answer_by w.behind.machine.value (Next.End e to)
  pub stages : v.behind.stages ≡ set w.behind.stages p (stage_then later w.behind.machine.value (Next.End e to))
  pub value : v.behind.machine.value ≡ w.behind.machine.value
  pub stands : Stands v

-- a step that goes on
record Onward (memory starving : Bool) (t : Table Guarded) (p : ℕ) (from : Place) (u : Table Guarded) : Type 0 where
  pub action : Action
  pub to : Place
  pub acts : Acts memory starving p from (Next.Do action to) t.machine.lock u.machine.lock
  pub stages : u.stages ≡ set t.stages p (Inside later)
  pub value : u.machine.value ≡ t.machine.value

pub laws : (w : World) → Stands w → Laws w.behind
laws w s = record { lock = s.laws; fits = s.fits }

module _ (p : ℕ) (i : Inputs) where
  -- one step of the poll, with the inputs that it began with
  on_inputs : (what : What) (from : Place) (n k : Next) (t u : Table Guarded) → inputs_of what ≡ i → n ≡ k → Acts (inputs_of what).memory (inputs_of what).starving p from n t.machine.lock u.machine.lock → Acts i.memory i.starving p from k t.machine.lock u.machine.lock
  on_inputs what from n k t u are is h =
      let A : Inputs → Type 0 = λ j. Acts j.memory j.starving p from k t.machine.lock u.machine.lock in
      let N : Next → Type 0 = λ x. Acts (inputs_of what).memory (inputs_of what).starving p from x t.machine.lock u.machine.lock in
      subst A are (subst N is h)

  -- the step that ends a poll
  ends_so : (w v : World) (what : What) (a : Answer) → inputs_of what ≡ i → a ≢ Answer.Stepped → Moved w (record { party = p; what = what }) a v → (c : Acting w.behind v.behind (record { party = p; what = what }) a later)
      → (e : End) × (to : Place) × Acts i.memory i.starving p c.from (Next.End e to) w.behind.machine.lock v.behind.machine.lock × Ended w p a v e
  ends_so w v what a are not_stepped did c =
      let t = w.behind in
      let u = v.behind in
      let walk = walks (inputs_of what).memory (inputs_of what).starving p c.from c.next t.machine.lock u.machine.lock later c.acts (fit t u (record { party = p; what = what }) a later c) c.moves.course in
      let n = ends t.machine.value (course_of c.from) c.next c.moves.course walk.keeps (λ h. not_stepped (c.answer ∙ h)) in
      let said : a ≡ answer_by t.machine.value (Next.End n.0 n.1) = c.answer ∙ ap (answer_by t.machine.value) n.2 in (
        n.0,
        n.1,
        on_inputs what c.from c.next (Next.End n.0 n.1) t u are n.2 c.acts,
        record { to = n.1; answer = said; stages = c.stages ∙ ap (λ b. set t.stages p (stage_after Rest.Holding later b)) said; value = c.value; stands = did.did.stands },
      )

  goes_so : (t u : Table Guarded) (what : What) → inputs_of what ≡ i → (c : Acting t u (record { party = p; what = what }) Answer.Stepped later) → Onward i.memory i.starving t p c.from u
  goes_so t u what are c =
      let n = goes t.machine.value c.next (sym c.answer) in
      record { action = n.0; to = n.1; acts = on_inputs what c.from c.next (Next.Do n.0 n.1) t u are n.2 c.acts; stages = c.stages; value = c.value }

  -- what ended from a World that a step left ended from the one before
  ended_before : (w mid v : World) (a : Answer) (e : End) (s : Stage) → mid.behind.stages ≡ set w.behind.stages p s → mid.behind.machine.value ≡ w.behind.machine.value → Ended mid p a v e → Ended w p a v e
  ended_before w mid v a e s stages value k = record {
    to = k.to;
    answer = k.answer ∙ ap (λ n. answer_by n (Next.End e k.to)) value;
    stages = k.stages ∙ (ap (λ n. set mid.behind.stages p (stage_then later n (Next.End e k.to))) value
        ∙ (ap (λ ss. set ss p (stage_then later w.behind.machine.value (Next.End e k.to))) stages ∙ set-set w.behind.stages p s (stage_then later w.behind.machine.value (Next.End e k.to))));
    value = k.value ∙ value;
    stands = k.stands;
  }

  still_inside : (t mid : Table Guarded) → p < length t.stages → mid.stages ≡ set t.stages p (Inside later) → (p < length mid.stages) × (stage_at mid.stages p ≡ Inside later)
  still_inside t mid known is =
      (omega (arith, ap length is, length-set t.stages p (Inside later)), ap (λ ss. stage_at ss p) is ∙ get_or-set_same t.stages p (Inside later) Forgotten known)

  going : (w v : World) (a : Answer) → stage_at w.behind.stages p ≡ Inside later → Moved w (going_on p i) a v → Acting w.behind v.behind (going_on p i) a later
  going w v a inside did =
      let x = place_at w.behind.machine.lock.places p in
      acting w.behind v.behind (going_on p i) a (laws w did.did.stood) (laws v did.did.stands) later (ap (λ s. call_at (knows_at x) s (Go i)) inside) (ap (λ s. polls_again s (Go i)) inside) refl did.did.step

  -- a poll that has begun goes on alone
  goes_on : (known : ℕ → Account) (k : ℕ) (w v : World) (a : Answer) → a ≢ Answer.Stepped → p < length w.behind.stages → stage_at w.behind.stages p ≡ Inside later
      → Runs known w (going_on p i ∷ replicate k (going_on p i)) (replicate k Answer.Stepped ++ a ∷ []) v → (e : End) × GoesOnAlone i.memory p e v.behind.machine.lock w.behind.machine.lock × Ended w p a v e
  goes_on known zero w v a not_stepped here inside runs =
      let t = w.behind in
      let mid : World = runs.0 in
      let c = going w mid a inside runs.1 in
      let so = ends_so w mid (Go i) a refl not_stepped runs.1 c in
      let F : Place → Type 0 = λ x. Acts i.memory i.starving p x (Next.End so.0 so.1) t.machine.lock mid.behind.machine.lock in
      let P : World → Type 0 = λ x. (e : End) × GoesOnAlone i.memory p e x.behind.machine.lock t.machine.lock × Ended w p a x e in
      subst P (sym runs.3) (so.0, last t.machine.lock i.starving so.1 (subst F (sym (some_eq c.starts)) so.2), so.3)
  goes_on known (suc k) w v a not_stepped here inside runs =
      let t = w.behind in
      let mid : World = runs.0 in
      let c = going w mid Answer.Stepped inside runs.1 in
      let on = goes_so t mid.behind (Go i) refl c in
      let there = still_inside t mid.behind here on.stages in
      let more = goes_on (accounts_after known (going_on p i) Answer.Stepped) k mid v a not_stepped there.0 there.1 runs.3 in
      let F : Place → Type 0 = λ x. Acts i.memory i.starving p x (Next.Do on.action on.to) t.machine.lock mid.behind.machine.lock in
      (more.0, step t.machine.lock mid.behind.machine.lock i.starving on.action on.to (subst F (sym (some_eq c.starts)) on.acts) more.1, ended_before w mid v a more.0 (Inside later) on.stages on.value more.2)

  abbrev first_move : Move
  first_move = record { party = p; what = Begin Call.Poll i }

  beginning : (w v : World) (a : Answer) → stage_at w.behind.stages p ≡ Outside Rest.Pending → Moved w first_move a v → Acting w.behind v.behind first_move a later
  beginning w v a pending did =
      let x = place_at w.behind.machine.lock.places p in
      acting w.behind v.behind first_move a (laws w did.did.stood) (laws v did.did.stands) later (ap (λ s. call_at (knows_at x) s (Begin Call.Poll i)) pending) (ap (λ s. polls_again s (Begin Call.Poll i)) pending) refl did.did.step

  pub polls_alone : (known : ℕ → Account) (k : ℕ) (w v : World) (a : Answer) → a ≢ Answer.Stepped → p < length w.behind.stages → stage_at w.behind.stages p ≡ Outside Rest.Pending
      → Runs known w (moves_of p Call.Poll i k) (answers_of k a) v → (e : End) × PollsAlone i.memory p e v.behind.machine.lock w.behind.machine.lock × Ended w p a v e
  polls_alone known zero w v a not_stepped here pending runs =
      let t = w.behind in
      let mid : World = runs.0 in
      let c = beginning w mid a pending runs.1 in
      let so = ends_so w mid (Begin Call.Poll i) a refl not_stepped runs.1 c in
      let begins : BeginsPoll i.memory i.starving p (Next.End so.0 so.1) t.machine.lock mid.behind.machine.lock = is_some_and (λ from. Acts i.memory i.starving p from (Next.End so.0 so.1) t.machine.lock mid.behind.machine.lock) (start_of Call.Poll (place_at t.machine.lock.places p)) c.from c.starts so.2 in
      let P : World → Type 0 = λ x. (e : End) × PollsAlone i.memory p e x.behind.machine.lock t.machine.lock × Ended w p a x e in
      subst P (sym runs.3) (so.0, at_once t.machine.lock i.starving so.1 begins, so.3)
  polls_alone known (suc k) w v a not_stepped here pending runs =
      let t = w.behind in
      let mid : World = runs.0 in
      let c = beginning w mid Answer.Stepped pending runs.1 in
      let on = goes_so t mid.behind (Begin Call.Poll i) refl c in
      let begins : BeginsPoll i.memory i.starving p (Next.Do on.action on.to) t.machine.lock mid.behind.machine.lock = is_some_and (λ from. Acts i.memory i.starving p from (Next.Do on.action on.to) t.machine.lock mid.behind.machine.lock) (start_of Call.Poll (place_at t.machine.lock.places p)) c.from c.starts on.acts in
      let there = still_inside t mid.behind here on.stages in
      let more = goes_on (accounts_after known first_move Answer.Stepped) k mid v a not_stepped there.0 there.1 runs.3 in
      (more.0, begun t.machine.lock mid.behind.machine.lock i.starving on.action on.to begins more.1, ended_before w mid v a more.0 (Inside later) on.stages on.value more.2)
