-- Whoever wakes another in a poll, and isn't starved, is counted as starved by its next step, or is to be refused as one too many of those.
use Rattle.world_mutex.proofs.Prelude.{◌≡◌, ◌≢◌, ℕ, zero, suc, ◌+◌, ◌<◌, ◌≤◌, ◌⊎◌, inl, inr, Bool, true, false, List, length, Option, Some, None, refl, sym, ap, ◌∙◌, subst, arith, get_or-set_same, some_eq, none_some, Entry, marked_count, is_marked_at, is_party, without, joined, Answer, Value, Inputs, Move, What, Begin, Go, Rest, Stage, Outside, Inside, Forgotten, Within, within, Standing, inside, is_starved, is_possible, decided_on, refused, call_in, going_on, stage_at, stands_as, polls_again, End, Place, PassOn, Count, JoinStarved, RefuseNotifyStarved, Found, Done, AtLimit, Next, Action, action_of, next_of, place_after, decision, Acts, Finds, OnParties, counted, is_counted, Lock, place_at, Guarded, Moves, knows, answer_by, answer_on, way, by_way, World, standing_of, Stands, Steps, verdict}
use Rattle.world_base.specs.Ending.{GoesOnFor}
use Rattle.world_base.specs.Standings.{StandsAfter}
use Rattle.world_base.proofs.Equations.{inside_begins}
use Rattle.world_base.proofs.of_table.Views.{inside_as}
use Rattle.std.proofs.Math.Decide.{ℕ_discrete}
use Rattle.lock_event.proofs.Marks.{marked_count-joined}
use Rattle.lock_event.proofs.Counts.{marked_count-without_marked}
use Rattle.lock_program.specs.declared.refusal.Refusal.TheVariants.{Starved}
use Rattle.world_mutex.specs.Waking.{Wakes, CountsWhoWakes}
use Rattle.world_mutex.specs.Legal.{call_of}
use Rattle.world_mutex.proofs.bound.Ending.{same_at}
use Rattle.world_mutex.proofs.of_machine.laws.Seen as sees
use Rattle.world_mutex.proofs.step.Stepping.{known_calls}
use Rattle.world_mutex.proofs.table.Seen.{stands_seen}

-- ---- a step that goes on with a call

never_again : (s : Stage) (i : Inputs) → polls_again s (Go i) ≡ true → ⊥
never_again (Outside Rest.Holding) i h = cc h
never_again (Outside Rest.Finished) i h = cc h
never_again (Outside Rest.Idle) i h = cc h
never_again (Outside Rest.Pending) i h = cc h
never_again (Inside w) i h = cc h
never_again Forgotten i h = cc h

-- the party acts where it stands
record Goes (p : ℕ) (g : Guarded) (a : Answer) (l : Lock) : Type 0 where
  pub memory : Bool
  pub trying : Bool
  pub from : Place
  pub next : Next
  pub known : p < length g.lock.places
  pub here : place_at g.lock.places p ≡ from
  pub acts : Acts memory p from next g.lock l
  pub answer : a ≡ answer_by trying g.value next

goes : (w v : World) (p : ℕ) (i : Inputs) (a : Answer) → Steps w (going_on p i) a v → a ≢ Answer.NotPossible → Goes p w.behind.machine a v.behind.machine.lock
goes w v p i a s possible = by_way known_calls Rest.Holding Moves w.behind v.behind (going_on p i) a (λ b x. b ≢ Answer.NotPossible → Goes p w.behind.machine b x.machine.lock)
    (λ e not. absurd (not refl))
    (λ u e f not. absurd (never_again (stage_at w.behind.stages p) i f))
    (λ u e f k not. record { memory = i.memory; trying = _; from = k.acts.from; next = k.acts.next; known = omega (arith, k.inside, s.did.stood.fits.as_many); here = some_eq k.acts.starts; acts = k.acts.carried.acts; answer = k.acts.answer })
    (way known_calls Rest.Holding Moves w.behind v.behind (going_on p i) a s.did.step) possible

-- where it stands then
lands : (p : ℕ) (g : Guarded) (a : Answer) (l : Lock) (k : Goes p g a l) → place_at l.places p ≡ place_after k.from k.next
lands p g a l k = ap (λ ps. place_at ps p) k.acts.places ∙ get_or-set_same g.lock.places p (place_after k.from k.next) Place.Out k.known

seen_inside : (w : World) (p : ℕ) (u : Within) (d : Option Answer) → Stands w → standing_of w p ≡ inside u d → answer_on w.behind.machine.value (decision (place_at w.behind.machine.lock.places p)) ≡ d
seen_inside w p u d s is = (inside_as _ (stage_at w.behind.stages p) u d (sym (ap (λ x. standing_of x p) s.seen ∙ stands_seen w.behind p) ∙ is)).1

undecided_place : (v : ℕ) (o : Option End) → answer_on v o ≡ None → o ≡ None
undecided_place v None h = refl
undecided_place v (Some e) h = absurd (none_some (sym h))

pub starved_seen : (w : World) (p : ℕ) → Stands w → is_starved w.state p ≡ is_counted (place_at w.behind.machine.lock.places p)
starved_seen w p s = ap (λ x. is_starved x.state p) s.seen ∙ sees.starved_at w.behind.machine.lock.places p

-- a party inside a call goes on with it where that is possible, and no other move of its own is
only_goes : (w : World) (p : ℕ) (what : What) (a : Answer) (v : World) (u : Within) (d : Option Answer) → Steps w (record { party = p; what = what }) a v → standing_of w p ≡ inside u d → ((i : Inputs) × (what ≡ Go i) × (a ≢ Answer.NotPossible)) ⊎ (v ≡ w)
only_goes w p (Begin c i) a v u d s is = inr (s.legal.possible.unchanged (s.legal.possible.exactly.1 (inside_begins knows u d (standing_of w p) c i is)))
only_goes w p (Go i) a v u d s is = inl (i, refl, λ no. none_some (sym (s.legal.possible.exactly.0 no) ∙ ap (λ z. call_in knows z (Go i)) is))

-- ---- who wakes another

-- by what an action does to the list an undecided party that isn't starved wakes another where it gives way alone
wakes_from : (p : ℕ) (x : Place) (f : Found) (l m : List (Entry ℕ)) → OnParties p (action_of x) f l m → decision x ≡ None → is_counted x ≡ false → marked_count l < marked_count m → x ≡ PassOn
wakes_from p Place.PassOn f l m o d h more = refl
wakes_from p (Place.Join told) Done l m o d h more = absurd (omega (arith, more, ap marked_count o, marked_count-joined l p))
wakes_from p (Place.Join told) _ l m o d h more = absurd (omega (arith, more, ap marked_count o))
wakes_from p Place.Ask Found.Yes l m o d h more = absurd (omega (arith, more, ap marked_count o.1, marked_count-without_marked (is_party p) l o.0))
wakes_from p Place.Ask _ l m o d h more = absurd (omega (arith, more, ap marked_count o.1))
wakes_from p Place.Holding f l m o d h more = absurd (omega (arith, more, ap marked_count o))
wakes_from p Place.Enter f l m o d h more = absurd (omega (arith, more, ap marked_count o))
wakes_from p Place.Try f l m o d h more = absurd (omega (arith, more, ap marked_count o))
wakes_from p (Place.Look told) f l m o d h more = absurd (omega (arith, more, ap marked_count o))
wakes_from p Place.Retry f l m o d h more = absurd (omega (arith, more, ap marked_count o))
wakes_from p (Place.Count listed told) f l m o d h more = absurd (omega (arith, more, ap marked_count o))
wakes_from p Place.JoinStarved f l m o d h more = absurd (cc h)
wakes_from p Place.LookAlone f l m o d h more = absurd (cc h)
wakes_from p Place.PassOnListed f l m o d h more = absurd (cc h)
wakes_from p Place.AskStarved f l m o d h more = absurd (cc h)
wakes_from p Place.Seize f l m o d h more = absurd (cc h)
wakes_from p _ f l m o d h more = absurd (cc d)

-- and then it is about to be counted, inside its call
record IsAboutTo (w : World) (p : ℕ) : Type 0 where
  pub place : place_at w.behind.machine.lock.places p ≡ Place.Count false true
  pub inside_a : Within
  pub decided : Option Answer
  pub stands : standing_of w p ≡ inside inside_a decided

stays_in : (u : Within) (a : Answer) (t : Standing) → a ≡ Answer.Stepped → StandsAfter Rest.Holding u a t → (d : Option Answer) × (t ≡ inside u d)
stays_in u a t e s = let A : Answer → Type 0 = λ b. StandsAfter Rest.Holding u b t in subst A e s

wakes_then : (w : World) (p : ℕ) (what : What) (a : Answer) (v : World) → Wakes w (record { party = p; what = what }) a v → IsAboutTo v p
wakes_then w p what a v k = elim (only_goes w p what a v k.undecided.0 None k.step k.undecided.1) as (λ _. IsAboutTo v p) [
  | inr same ↦ absurd (omega (arith, k.wakes, ap (λ (x : World). marked_count x.entries) same))
  | inl go ↦ (
      let i : Inputs = go.0 in
      let S : What → Type 0 = λ y. Steps w (record { party = p; what = y }) a v in
      let s : Steps w (going_on p i) a v = subst S go.1 k.step in
      let g = goes w v p i a s go.2 in
      let undecided : decision g.from ≡ None = ap decision (sym g.here) ∙ undecided_place w.behind.machine.value (decision (place_at w.behind.machine.lock.places p)) (seen_inside w p k.undecided.0 None s.did.stood k.undecided.1) in
      let plain : is_counted g.from ≡ false = ap is_counted (sym g.here) ∙ (sym (starved_seen w p s.did.stood) ∙ k.unstarved) in
      let more : marked_count w.behind.machine.lock.entries < marked_count v.behind.machine.lock.entries = omega (arith, k.wakes, ap (λ (x : World). marked_count x.entries) s.did.stood.seen, ap (λ (x : World). marked_count x.entries) s.did.stands.seen) in
      let passes : g.from ≡ PassOn = wakes_from p g.from g.acts.found w.behind.machine.lock.entries v.behind.machine.lock.entries g.acts.list undecided plain more in
      let next : g.next ≡ Next.Do Action.Count (Place.Count false true) = g.acts.next_is ∙ ap (λ x. next_of x g.acts.found) passes in
      let stepped : a ≡ Answer.Stepped = g.answer ∙ ap (answer_by g.trying w.behind.machine.value) next in
      let called : call_of w (going_on p i) ≡ Some k.undecided.0 = ap (λ z. call_in knows z (Go i)) k.undecided.1 in
      let still = stays_in k.undecided.0 a (standing_of v p) stepped (s.legal.ends_properly.stands k.undecided.0 called) in
      record { place = lands p w.behind.machine a v.behind.machine.lock g ∙ ap (place_after g.from) next; inside_a = k.undecided.0; decided = still.0; stands = still.1 })
]

-- ---- others step

waits_on : (p steps n : ℕ) (v u : World) → n ≡ 0 → IsAboutTo v p → GoesOnFor Steps standing_of p steps n v u → IsAboutTo u p
waits_on p zero n v u none k h = subst (λ x. IsAboutTo x p) (sym h.1) k
waits_on p (suc steps) n v u none k h =
    let m : Move = h.0 in
    let mid : World = h.2 in
    let s = h.3 in
    elim h.6 as (λ _. IsAboutTo u p) [
      | inr own ↦ absurd (omega (arith, own.2, none))
      | inl other ↦ (
          let on : IsAboutTo mid p = elim (ℕ_discrete m.party p) as (λ _. IsAboutTo mid p) [
            | yes is ↦ subst (λ x. IsAboutTo x p) (sym (s.legal.possible.unchanged (other.0 is))) k
            | no is ↦ record { place = same_at v m h.1 mid s p (λ e. is (sym e)) ∙ k.place; inside_a = k.inside_a; decided = k.decided; stands = s.legal.one_change.others p (λ e. is (sym e)) ∙ k.stands }
          ] in
          waits_on p steps h.4 mid u (omega (arith, other.1, none)) on h.5)
    ]

-- ---- its next step

-- what it finds there
counts_from : (memory : Bool) (l : Lock) (f : Found) → Finds memory Action.Count f l → (next_of (Place.Count false true) f ≡ Next.Do Action.Join JoinStarved) ⊎ (next_of (Place.Count false true) f ≡ Next.Do Action.Notify RefuseNotifyStarved)
counts_from memory l Done e = inl refl
counts_from memory l AtLimit e = inr refl
counts_from memory l _ e = absurd e

pub counts_who_wakes : (w : World) → CountsWhoWakes w
counts_who_wakes w m a v k steps u others i b x s =
    let p : ℕ = m.party in
    let about : IsAboutTo u p = waits_on p steps 0 v u refl (wakes_then w p m.what a v k) others in
    let possible : b ≢ Answer.NotPossible = λ no. none_some (sym (s.legal.possible.exactly.0 no) ∙ ap (λ z. call_in knows z (Go i)) about.stands) in
    let g = goes u x p i b s possible in
    let at : g.from ≡ Place.Count false true = sym g.here ∙ about.place in
    let finds : Finds g.memory Action.Count g.acts.found u.behind.machine.lock = subst (λ y. Finds g.memory (action_of y) g.acts.found u.behind.machine.lock) at g.acts.finds in
    let said : g.next ≡ next_of (Place.Count false true) g.acts.found = g.acts.next_is ∙ ap (λ y. next_of y g.acts.found) at in
    elim (counts_from g.memory u.behind.machine.lock g.acts.found finds) as (λ _. (is_starved x.state p ≡ true) ⊎ (decided_on b (standing_of x p) ≡ Some (refused Starved))) [
      | inl done ↦ inl (starved_seen x p s.did.stands ∙ ap is_counted (lands p u.behind.machine b x.behind.machine.lock g ∙ ap (place_after g.from) (said ∙ done)))
      | inr full ↦ inr (
          let to : place_at x.behind.machine.lock.places p ≡ RefuseNotifyStarved = lands p u.behind.machine b x.behind.machine.lock g ∙ ap (place_after g.from) (said ∙ full) in
          let stepped : b ≡ Answer.Stepped = g.answer ∙ ap (answer_by g.trying u.behind.machine.value) (said ∙ full) in
          let called : call_of u (going_on p i) ≡ Some about.inside_a = ap (λ z. call_in knows z (Go i)) about.stands in
          let still = stays_in about.inside_a b (standing_of x p) stepped (s.legal.ends_properly.stands about.inside_a called) in
          let decided : Some (refused Starved) ≡ still.0 = sym (ap (λ y. answer_on x.behind.machine.value (decision y)) to) ∙ seen_inside x p about.inside_a still.0 s.did.stands still.1 in
          ap (λ y. decided_on y (standing_of x p)) stepped ∙ (ap (decided_on Answer.Stepped) still.1 ∙ sym decided))
    ]
